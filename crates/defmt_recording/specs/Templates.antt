-- Lines of statements by their templates, for private clauses.
use Rattle.std.specs.Prelude.{◌≡◌, ℕ, List, drop, take, Option, Some, None, slice_index_or, if◌then◌else◌}
use Rattle.defmt_forms.specs.Template.{IsSized, color_by, json_by, plain_by}
use Rattle.defmt_forms.specs.declared.template.Template.{Template}
use Rattle.defmt_intern.specs.Table.{Map}
use Rattle.defmt_places.specs.Places.{Map as PlaceMap}
use Rattle.defmt_plan.specs.declared.message.Parts.{Parts}
use Rattle.defmt_recording.specs.Output.{ended}
use Rattle.defmt_recording.specs.Styled.{statement_text}
use Rattle.defmt_words.specs.declared.style.Form.{Form}
use Rattle.defmt_words.specs.declared.style.Form.TheVariants.{Plain, Color, Json}
use Rattle.defmt_words.specs.declared.style.Style.{Style}

-- the stamp's text at the front of a line's
abbrev pub stamp_of : Template → Parts → List ℕ → List ℕ
stamp_of t parts text = take (if t.stamped then parts.stamp else 0) text

-- a line by its template, its parts and its text, a row a form
abbrev pub filled : Form → Template → Parts → List ℕ → List ℕ
filled Plain t parts text = plain_by t text
filled Color t parts text = color_by t (stamp_of t parts text) (drop parts.front text)
filled Json t parts text = json_by t parts.bytes (stamp_of t parts text) (drop parts.front text)

-- a template by which the lines of an index are printed
pub record IsTemplate (style : Style) (table : Map) (places : PlaceMap) (index : ℕ) (t : Template) : Type 0 where
  pub sized : IsSized t
  pub fills : (parts : Parts) (text : List ℕ) → filled style.form t parts text ≡ ended (statement_text style table places index parts text)

-- each template is that of its index
abbrev pub AreTemplates : Style → Map → PlaceMap → List (Option Template) → Type 0
AreTemplates style table places templates =
    (index : ℕ) (t : Template) → slice_index_or templates index None ≡ Some t → IsTemplate style table places index t

-- each index has the same template
abbrev pub SameSlots : List (Option Template) → List (Option Template) → Type 0
SameSlots old new = (index : ℕ) → slice_index_or new index None ≡ slice_index_or old index None

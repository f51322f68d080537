-- What the plans of the strings of Format values say.
use Rattle.std.specs.Prelude.{◌≡◌, true, List, [], ◌∷◌, Some}
use Rattle.std.specs.Global.{Vec}
use Rattle.defmt_grammar.specs.declared.piece.Piece.{Piece}
use Rattle.defmt_intern.specs.Body.{body_of}
use Rattle.defmt_intern.specs.Table.{Map}
use Rattle.defmt_intern.specs.declared.entry.Entry.{Entry}
use Rattle.defmt_intern.specs.declared.parsed.Parsed.{Parsed}
use Rattle.defmt_intern.specs.declared.parsed.Parsed.TheVariants as parsed
use Rattle.defmt_values.specs.Entries.{look, is_format}
use Rattle.defmt_plan.specs.Steps.{AreSteps}
use Rattle.defmt_plan.specs.declared.forms.Body.{Body}
use Rattle.defmt_plan.specs.declared.forms.Body.TheVariants as bodies
use Rattle.defmt_plan.specs.declared.forms.Form.{Form}
use Rattle.defmt_plan.specs.declared.forms.Forms.{Forms}
use Rattle.defmt_plan.specs.declared.steps.Step.{Step}

-- the steps of each variant
abbrev pub AreVariants : List (List Piece) → List (Vec Step) → Type 0
AreVariants [] [] = Unit {0}
AreVariants [] (steps ∷ more) = ⊥
AreVariants (pieces ∷ others) [] = ⊥
AreVariants (pieces ∷ others) (steps ∷ more) =
    AreSteps pieces pieces steps.items × AreVariants others more

-- the steps of what a string stands for
abbrev pub IsBody : Parsed → Body → Type 0
IsBody (parsed.One pieces) (bodies.One steps) = AreSteps pieces pieces steps.items
IsBody (parsed.Variants forms) (bodies.Variants all) = AreVariants forms all.items
IsBody what body = ⊥

-- Format values may have the string, and its plan is this
pub record IsFormIn (t : Map) (form : Form) : Type 0 where
  pub entry : Entry
  pub there : look t form.index ≡ Some entry
  pub tag : is_format entry.tag ≡ true
  pub body : IsBody (body_of t.language entry) form.body

abbrev pub AreFormsIn : Map → List Form → Type 0
AreFormsIn t [] = Unit {0}
AreFormsIn t (form ∷ forms) = IsFormIn t form × AreFormsIn t forms

-- the plans are those of some table
pub record ArePlanned (forms : Forms) : Type 0 where
  pub table : Map
  pub are : AreFormsIn table forms.items.items

-- the same, and this is one of that table
pub record IsPlannedWith (forms : Forms) (form : Form) : Type 0 where
  pub table : Map
  pub are : AreFormsIn table forms.items.items
  pub is : IsFormIn table form

-- the plan's string stands for this
pub record StandsFor (t : Map) (form : Form) (what : Parsed) : Type 0 where
  pub is : IsFormIn t form
  pub body : body_of t.language is.entry ≡ what

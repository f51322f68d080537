-- Lines by what those of one statement have in common, for private clauses.
use Rattle.std.specs.Prelude.{◌≡◌, ◌≤◌, ◌+◌, ℕ, Bool, IfSome, List, [], ◌∷◌, ◌++◌, length, codes, Option, Some, None, option_map, if◌then◌else◌}
use Rattle.std.specs.Fmt.{decimal}
use Rattle.defmt_forms.specs.Json.{line_object, optional_member}
use Rattle.defmt_forms.specs.Names.{level_name, place_part}
use Rattle.defmt_forms.specs.Placed.{Holds}
use Rattle.defmt_forms.specs.Terminal.{color_line, tame}
use Rattle.defmt_forms.specs.declared.pieces.Blocks.{Blocks}
use Rattle.defmt_forms.specs.declared.template.Template.{Template}
use Rattle.defmt_hooks.specs.declared.level.Level.{Level}
use Rattle.json.specs.Print.{escape}

-- each piece of a template stands in its block
pub record AreBlocks (head between before behind : List ℕ) (blocks : Blocks) : Type 0 where
  pub head_is : Holds blocks.head head
  pub between_is : Holds blocks.between between
  pub before_is : Holds blocks.before before
  pub behind_is : Holds blocks.behind behind

-- a template knows its size, which is small, and its pieces stand in its blocks, where it has some
pub record IsSized (t : Template) : Type 0 where
  pub sum : t.size ≡ length t.head.items + (length t.between.items + (length t.before.items + length t.behind.items))
  pub small : t.size ≤ 32768
  pub blocks : IfSome t.blocks (AreBlocks t.head.items t.between.items t.before.items t.behind.items)

-- it has these pieces
pub record IsMade (t : Template) (stamped : Bool) (head between before behind : List ℕ) : Type 0 where
  pub stamped_is : t.stamped ≡ stamped
  pub head_is : t.head.items ≡ head
  pub between_is : t.between.items ≡ between
  pub before_is : t.before.items ≡ before
  pub behind_is : t.behind.items ≡ behind

-- ---- a line by a template

-- a plain line by its text
abbrev pub plain_by : Template → List ℕ → List ℕ
plain_by t text = text ++ t.behind.items

-- a line with colors by its stamp's text and its own
abbrev pub color_by : Template → List ℕ → List ℕ → List ℕ
color_by t stamp own = tame stamp ++ (t.before.items ++ (tame own ++ t.behind.items))

-- an object by the bytes of its piece and these
abbrev pub json_by : Template → ℕ → List ℕ → List ℕ → List ℕ
json_by t bytes stamp own =
    t.head.items ++ (decimal bytes ++ (t.between.items ++ (escape stamp ++ (t.before.items ++ (escape own ++ t.behind.items)))))

-- ---- the pieces of an object

abbrev pub object_head : ℕ → List ℕ
object_head index = (codes "{\"event\":\"line\",\"index\":" ++ decimal index) ++ codes ",\"bytes\":"

abbrev pub object_before : Bool → Option Level → List ℕ → List ℕ
object_before stamped level owner =
    (((if stamped then codes "\"" else []) ++ optional_member (codes "level") (option_map level_name level))
    ++ (codes ",\"package\":\"" ++ (escape owner ++ codes "\""))) ++ codes ",\"data\":\""

abbrev pub object_behind : Option (List ℕ) → List ℕ
object_behind place = (codes "\"" ++ optional_member (codes "place") place) ++ codes "}\n"

-- ---- whose template it is

-- the stamp's text of a line with a stamp
abbrev pub stamp_if : Bool → List ℕ → List ℕ
stamp_if stamped stamp = if stamped then stamp else []

abbrev pub some_if : Bool → List ℕ → Option (List ℕ)
some_if stamped stamp = if stamped then Some stamp else None

abbrev pub IsPlain : Template → Option (List ℕ) → Type 0
IsPlain t place = (text : List ℕ) → plain_by t text ≡ (text ++ place_part place) ++ 10 ∷ []

abbrev pub IsColor : Template → Bool → Option Level → Option (List ℕ) → Type 0
IsColor t stamped level place = (stamp own : List ℕ)
    → color_by t (stamp_if stamped stamp) own ≡ color_line (some_if stamped stamp) level own place ++ 10 ∷ []

abbrev pub IsJson : Template → ℕ → Bool → Option Level → List ℕ → Option (List ℕ) → Type 0
IsJson t index stamped level owner place = (bytes : ℕ) (stamp own : List ℕ)
    → json_by t bytes (stamp_if stamped stamp) own ≡ line_object index bytes (some_if stamped stamp) level owner own place ++ 10 ∷ []

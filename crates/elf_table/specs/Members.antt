-- What is read of an object whose members are strings, a token at a time (RFC 8259, "Objects"). Only private clauses cite it.
use Rattle.std.specs.Prelude.{◌≡◌, ◌≤◌, ℕ, List, length, codes, bytes_eq, Option, Some, option_and_then, if◌then◌else◌}
use Rattle.std.specs.Option.{option_copied}
use Rattle.json.specs.Token.{Token}
use Rattle.json.specs.Json as json
use Rattle.serde_json.specs.Data.{Data, object, Members, no_members}
use Rattle.serde_json.specs.Read.{of_json, of_members, max_depth}
use Rattle.defmt_intern.specs.Name.{text_at}
use Rattle.elf_table.specs.declared.members.Texts.{Texts}

-- what stands at a name once a member was read: of equal keys the last counts
abbrev pub later : List ℕ → List ℕ → List ℕ → Option (List ℕ) → Option (List ℕ)
later name key text before = if bytes_eq key name then Some text else before

-- what these members have at the four keys of a name
pub record AreTexts (owner tag text disambiguator : Option (List ℕ)) (members : Members)
    : Type 0 where
  pub owner_is : owner ≡ text_at (codes "package") members
  pub tag_is : tag ≡ text_at (codes "tag") members
  pub text_is : text ≡ text_at (codes "data") members
  pub disambiguator_is : disambiguator ≡ text_at (codes "disambiguator") members

abbrev pub Have : Texts → Members → Type 0
Have texts members = AreTexts (option_copied texts.«package») (option_copied texts.tag)
    (option_copied texts.text) (option_copied texts.disambiguator) members

-- the tokens are members with a closing brace, which with those before them are these, and the rest
abbrev pub Reads : Members → List Token → Members → List Token → Type 0
Reads before tokens members rest = (turns : ℕ) → length tokens ≤ turns → (more : json.Members)
    × (json.members (json.value 126) turns tokens ≡ Some (more, rest))
    × (of_members more before ≡ Some members)

-- the tokens are an object's members with these texts, its closing brace, and the rest
abbrev pub HasTexts : List Token → List Token → Texts → Type 0
HasTexts tokens rest texts =
    (members : Members) × Have texts members × Reads no_members tokens members rest

-- the value that the tokens are
abbrev pub data_of : List Token → Option Data
data_of tokens = option_and_then of_json
    (option_and_then (λ p. json.if_last p.0 p.1) (json.value max_depth tokens))

-- the tokens are one object with these texts
abbrev pub IsObjectOf : List Token → Texts → Type 0
IsObjectOf tokens texts =
    (members : Members) × Have texts members × (data_of tokens ≡ Some (object members))

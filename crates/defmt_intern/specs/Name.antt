-- What a symbol's name says (defmt book, "Interning": names are JSON objects; JSON is RFC 8259).
use Rattle.std.specs.Prelude.{◌≡◌, ℕ, List, [], ◌∷◌, codes, bytes_eq, Option, Some, None, option_and_then, Result, Ok, Err, if◌then◌else◌}
use Rattle.std.specs.Str.{IsUtf8}
use Rattle.serde_json.specs.Data.{Data, string, object, Members, member, no_members}
use Rattle.serde_json.specs.Read.{read}
use Rattle.serde_json.specs.Find.{get_member, as_str}
use Rattle.serde_json.specs.View.{view}
use Rattle.serde_json.specs.declared.value.Value.{Value}
use Rattle.defmt_intern.specs.declared.entry.Tag.{Tag}
use Rattle.defmt_intern.specs.declared.entry.Tag.TheVariants as tags
use Rattle.defmt_intern.specs.declared.entry.Entry.{Entry}
use Rattle.defmt_intern.specs.declared.name.NameFault.{NameFault}
use Rattle.defmt_intern.specs.declared.name.NameFault.TheVariants as faults
use Rattle.defmt_intern.specs.declared.name.NameKey.{NameKey}
use Rattle.defmt_intern.specs.declared.name.NameKey.TheVariants as keys

-- ---- tags

abbrev pub tag_name : Tag → List ℕ
tag_name tags.Trace = codes "defmt_trace"
tag_name tags.Debug = codes "defmt_debug"
tag_name tags.Info = codes "defmt_info"
tag_name tags.Warn = codes "defmt_warn"
tag_name tags.Error = codes "defmt_error"
tag_name tags.Println = codes "defmt_println"
tag_name tags.Prim = codes "defmt_prim"
tag_name tags.Derived = codes "defmt_derived"
tag_name tags.Write = codes "defmt_write"
tag_name tags.Interned = codes "defmt_str"
tag_name tags.Timestamp = codes "defmt_timestamp"
tag_name (tags.Other name) = name

-- the eleven tags that have a name of their own
abbrev pub known : List Tag
known =
    tags.Trace ∷ tags.Debug ∷ tags.Info ∷ tags.Warn ∷ tags.Error ∷ tags.Println ∷ tags.Prim
    ∷ tags.Derived ∷ tags.Write ∷ tags.Interned ∷ tags.Timestamp ∷ []

-- the first of these tags that has the name, or else Other
abbrev pub tag_among : List ℕ → List Tag → Tag
tag_among name [] = tags.Other name
tag_among name (tag ∷ more) = if bytes_eq name (tag_name tag) then tag else tag_among name more

unfoldable pub tag_of : List ℕ → Tag
tag_of name = tag_among name known

-- an Other doesn't spell one of the eleven
abbrev pub IsSpelled : Tag → Type 0
IsSpelled tag = tag_of (tag_name tag) ≡ tag

-- ---- names

-- the bytes are one JSON object with these members
abbrev pub IsObject : List ℕ → Members → Type 0
IsObject bytes members = IsUtf8 bytes × (read bytes ≡ Some (object members))

-- the text at a key
abbrev pub text_at : List ℕ → Members → Option (List ℕ)
text_at key members = option_and_then as_str (get_member key members)

-- the bytes name the entry
pub record Names (bytes : List ℕ) (entry : Entry) : Type 0 where
  pub members : Members
  pub is_object : IsObject bytes members
  pub package_is : text_at (codes "package") members ≡ Some entry.package
  pub tag_is : text_at (codes "tag") members ≡ Some (tag_name entry.tag)
  pub text_is : text_at (codes "data") members ≡ Some entry.text
  pub disambiguator_is : text_at (codes "disambiguator") members ≡ Some entry.disambiguator
  pub spelled : IsSpelled entry.tag

abbrev pub IsNoObject : List ℕ → Type 0
IsNoObject bytes = (members : Members) → IsObject bytes members → ⊥

abbrev pub HasText : List ℕ → Members → Type 0
HasText key members = (text : List ℕ) × (text_at key members ≡ Some text)

-- the first of the four keys that is missing or isn't a string
abbrev pub LacksFirst : Members → NameKey → Type 0
LacksFirst members keys.Package = text_at (codes "package") members ≡ None
LacksFirst members keys.Tag =
    HasText (codes "package") members × (text_at (codes "tag") members ≡ None)
LacksFirst members keys.Data = HasText (codes "package") members × HasText (codes "tag") members
    × (text_at (codes "data") members ≡ None)
LacksFirst members keys.Disambiguator = HasText (codes "package") members
    × HasText (codes "tag") members × HasText (codes "data") members
    × (text_at (codes "disambiguator") members ≡ None)

abbrev pub LacksKey : List ℕ → NameKey → Type 0
LacksKey bytes key = (members : Members) × IsObject bytes members × LacksFirst members key

-- ---- answers

-- the entry that is named, the cause why there is none, or want of memory
abbrev pub ReadsName : List ℕ → Result Entry NameFault → Type 0
ReadsName bytes (Ok entry) = Names bytes entry
ReadsName bytes (Err faults.Json) = IsNoObject bytes
ReadsName bytes (Err (faults.Key key)) = LacksKey bytes key
ReadsName bytes (Err faults.Memory) = Unit {0}

-- the bytes are one JSON object, which is this value
abbrev pub HoldsObject : List ℕ → Data → Type 0
HoldsObject bytes value = (members : Members) × IsObject bytes members × (value ≡ object members)

-- the object, why there is none, or want of memory
abbrev pub ReadsObject : List ℕ → Result Value NameFault → Type 0
ReadsObject bytes (Ok value) = HoldsObject bytes (view value)
ReadsObject bytes (Err faults.Json) = IsNoObject bytes
ReadsObject bytes (Err (faults.Key key)) = ⊥
ReadsObject bytes (Err faults.Memory) = Unit {0}

abbrev pub GivesOnly : Result Entry NameFault → Entry → Type 0
GivesOnly (Ok one) entry = one ≡ entry
GivesOnly (Err faults.Json) entry = ⊥
GivesOnly (Err (faults.Key key)) entry = ⊥
GivesOnly (Err faults.Memory) entry = Unit {0}

abbrev pub GivesJson : Result Entry NameFault → Type 0
GivesJson (Ok one) = ⊥
GivesJson (Err faults.Json) = Unit {0}
GivesJson (Err (faults.Key key)) = ⊥
GivesJson (Err faults.Memory) = Unit {0}

abbrev pub GivesKey : Result Entry NameFault → NameKey → Type 0
GivesKey (Ok one) key = ⊥
GivesKey (Err faults.Json) key = ⊥
GivesKey (Err (faults.Key k)) key = k ≡ key
GivesKey (Err faults.Memory) key = Unit {0}

-- ---- writing

-- the object with these four strings
abbrev pub object_with : List ℕ → List ℕ → List ℕ → List ℕ → Data
object_with package' tag text disambiguator = object
    (member (codes "data") (string text)
    (member (codes "disambiguator") (string disambiguator)
    (member (codes "package") (string package')
    (member (codes "tag") (string tag) no_members))))

abbrev pub written : Entry → Data
written entry = object_with entry.package (tag_name entry.tag) entry.text entry.disambiguator

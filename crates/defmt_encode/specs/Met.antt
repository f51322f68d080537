-- Why bytes are no message: what stands in front, and the field that is refused behind it, with its
-- cause.
use Rattle.std.specs.Prelude.{◌≡◌, ◌≢◌, ◌⊎◌, ◌<◌, ◌≤◌, ◌+◌, ◌*◌, ℕ, zero, suc, Bool, true, false, List, ◌∷◌, ◌++◌, length, Option, Some, None}
use Rattle.std.specs.List.{AllByRecursion}
use Rattle.std.specs.Str.{is_utf8}
use lib.Utf8.{scalar}
use Rattle.defmt_grammar.specs.Sizes.{float_bytes}
use Rattle.defmt_grammar.specs.declared.kind.Kind.TheVariants as kinds
use Rattle.defmt_grammar.specs.declared.piece.Piece.{Piece}
use Rattle.defmt_grammar.specs.declared.slot.Slot.{Slot}
use Rattle.defmt_grammar.specs.declared.slot.Slot.TheVariants as slots
use Rattle.defmt_intern.specs.Body.{body_of}
use Rattle.defmt_intern.specs.Catalog.{Catalog}
use Rattle.defmt_intern.specs.Table.{Map}
use Rattle.defmt_intern.specs.declared.table.Profile.{Profile}
use Rattle.defmt_intern.specs.declared.table.Profile.TheVariants as profiles
use Rattle.defmt_intern.specs.declared.entry.Entry.{Entry}
use Rattle.defmt_intern.specs.declared.entry.Tag.{Tag}
use Rattle.defmt_intern.specs.declared.parsed.Parsed.{Parsed}
use Rattle.defmt_intern.specs.declared.parsed.Parsed.TheVariants.{One, Variants}
use Rattle.defmt_values.specs.Entries.{look, is_format, is_interned, is_logged, variant_at, Place, places_of}
use Rattle.defmt_values.specs.Fits.{IsForm, HasPieces}
use Rattle.defmt_values.specs.Plain.{Vals, Elems, Nodes, elems_len}
use Rattle.defmt_encode.specs.Carry.{size_bytes, text_end, variant_byte}
use Rattle.defmt_encode.specs.Cause.{cause_number}
use Rattle.defmt_encode.specs.Fields.{IsNumber, IsChunk, FoundVals, FoundElems, FoundNodes, FoundStamp, FoundPlace, IsOwn}
use Rattle.defmt_encode.specs.Read.{tag_cause, is_padding}
use Rattle.defmt_intern.specs.Stamp.{stamp_of}
use Rattle.defmt_encode.specs.declared.cause.Cause.{Cause}
use Rattle.defmt_encode.specs.declared.cause.Cause.TheVariants as causes

-- ---- fields

-- the bytes end within a field of so many
abbrev pub IsCut : ℕ → List ℕ → Cause → Type 0
IsCut width bytes c = (length bytes < width) × (c ≡ causes.Short)

abbrev pub MetBool : List ℕ → Cause → Type 0
MetBool bytes c = IsCut 1 bytes c
    ⊎ ((n : ℕ) × (rest : List ℕ) × IsNumber 1 n bytes rest × (1 < n) × (c ≡ causes.BadBool))

abbrev pub MetChar : List ℕ → Cause → Type 0
MetChar bytes c = IsCut 4 bytes c
    ⊎ ((n : ℕ) × (rest : List ℕ) × IsNumber 4 n bytes rest × (scalar n ≡ false)
    × (c ≡ causes.BadChar))

-- bytes behind their number
abbrev pub MetBytes : List ℕ → Cause → Type 0
MetBytes bytes c = IsCut 4 bytes c
    ⊎ ((n : ℕ) × (rest : List ℕ) × IsNumber 4 n bytes rest × IsCut n rest c)

abbrev pub MetStr : List ℕ → Cause → Type 0
MetStr bytes c = MetBytes bytes c
    ⊎ ((n : ℕ) × (rest : List ℕ) × (text : List ℕ) × (after : List ℕ) × IsNumber 4 n bytes rest
    × IsChunk n text rest after × (is_utf8 text ≡ false) × (c ≡ causes.BadText))

-- no end of a text is among bytes
abbrev pub HasNoEnd : List ℕ → Type 0
HasNoEnd bytes = AllByRecursion (λ b. b ≢ text_end) bytes

-- a text of Debug or Display: no end stands behind it, or what stands in front of the first one isn't UTF-8
abbrev pub MetShown : List ℕ → Cause → Type 0
MetShown bytes c = (HasNoEnd bytes × (c ≡ causes.Short))
    ⊎ ((text : List ℕ) × (rest : List ℕ) × HasNoEnd text × (bytes ≡ text ++ text_end ∷ rest)
    × (is_utf8 text ≡ false) × (c ≡ causes.BadText))

-- no entry has the index, or one whose tag doesn't suit
abbrev pub IsUnsuited : Map → (Tag → Bool) → ℕ → Cause → Type 0
IsUnsuited t suits index c = ((look t index ≡ None) × (c ≡ causes.NoEntry))
    ⊎ ((e : Entry) × (look t index ≡ Some e) × (suits e.tag ≡ false) × (c ≡ tag_cause e.tag))

abbrev pub MetIstr : Map → List ℕ → Cause → Type 0
MetIstr t bytes c = IsCut 2 bytes c
    ⊎ ((i : ℕ) × (rest : List ℕ) × IsNumber 2 i bytes rest × IsUnsuited t is_interned i c)

-- ---- entries

-- a text that has pieces, or variants
abbrev pub HasForm : Parsed → Type 0
HasForm (One ps) = Unit {0}
HasForm (Variants forms) = Unit {0}
HasForm body = ⊥

-- a text that has neither: it was refused
abbrev pub HasNoForm : Parsed → Type 0
HasNoForm (One ps) = ⊥
HasNoForm (Variants forms) = ⊥
HasNoForm body = Unit {0}

-- a text without pieces of its own
abbrev pub IsNotOne : Parsed → Type 0
IsNotOne (One ps) = ⊥
IsNotOne body = Unit {0}

-- the entry of a Format value is refused
abbrev pub MetForm : Map → ℕ → Cause → Type 0
MetForm t index c = IsUnsuited t is_format index c
    ⊎ ((e : Entry) × (look t index ≡ Some e) × (is_format e.tag ≡ true)
    × HasNoForm (body_of t.language e)
    × (c ≡ causes.Unsupported))

-- the entry of a frame is refused
abbrev pub MetOwn : Map → ℕ → Cause → Type 0
MetOwn t index c = IsUnsuited t is_logged index c
    ⊎ ((e : Entry) × (look t index ≡ Some e) × (is_logged e.tag ≡ true)
    × IsNotOne (body_of t.language e)
    × (c ≡ causes.Unsupported))

-- a variant's number is cut off, or no variant has it
abbrev pub MetVariant : Parsed → List ℕ → Cause → Type 0
MetVariant (Variants forms) bytes c = IsCut 1 bytes c
    ⊎ ((v : ℕ) × (rest : List ℕ) × IsNumber 1 v bytes rest × (variant_at forms v ≡ None)
    × (c ≡ causes.BadVariant))
MetVariant form bytes c = ⊥

-- ---- values

-- what is refused of one value of a slot: its weight, the sum in front of it, the bytes, and the cause
abbrev pub OneMet : Type 1
OneMet = Slot → ℕ → ℕ → List ℕ → Cause → Type 0

-- what is refused one level below, where there is such a level
pub data Level : Type 1 where
  no_level : Level
  level : OneMet → Level

-- fitting values stand in front, and the value of the next place is refused
pub record MetEach (t : Map) (left : ℕ) (one : OneMet) (places : List Place) (w s : ℕ)
    (bytes : List ℕ) (c : Cause) : Type 0 where
  pub front : List Place
  pub place : Place
  pub others : List Place
  pub places_is : places ≡ front ++ place ∷ others
  pub values : Vals
  pub sum : ℕ
  pub rest : List ℕ
  pub found : FoundVals t left front w s sum values bytes rest
  pub met : one place.slot (place.uses * w) sum rest c

-- an element, or a Format value behind its index: its weight is too much, its variant is refused, or
-- one of its arguments
abbrev pub MetElem : Map → ℕ → OneMet → Parsed → ℕ → ℕ → List ℕ → Cause → Type 0
MetElem t left one form w s bytes c = ((8192 < s + w) × (c ≡ causes.Many))
    ⊎ ((s + w ≤ 8192) × MetVariant form bytes c)
    ⊎ ((variant : Option ℕ) × (ps : List Piece) × (rest : List ℕ) × (s + w ≤ 8192)
    × HasPieces form variant ps × (bytes ≡ variant_byte variant ++ rest)
    × MetEach t left one (places_of ps) w (s + w) rest c)

-- fitting elements stand in front, and the next one is refused
pub record MetElems (t : Map) (left : ℕ) (one : OneMet) (index : ℕ) (form : Parsed) (count w s : ℕ)
    (bytes : List ℕ) (c : Cause) : Type 0 where
  pub elems : Elems
  pub few : elems_len elems < count
  pub sum : ℕ
  pub rest : List ℕ
  pub found : FoundElems t left index form w s sum elems bytes rest
  pub met : MetElem t left one form w sum rest c

-- behind the index of a Format value: its entry is refused, or what stands behind it
abbrev pub MetIndexed : Map → ℕ → OneMet → ℕ → ℕ → ℕ → List ℕ → Cause → Type 0
MetIndexed t left one index w s bytes c = MetForm t index c
    ⊎ ((form : Parsed) × IsForm t index form × HasForm form × MetElem t left one form w s bytes c)

abbrev pub MetNode : Map → ℕ → OneMet → ℕ → ℕ → List ℕ → Cause → Type 0
MetNode t left one w s bytes c = IsCut 2 bytes c
    ⊎ ((i : ℕ) × (rest : List ℕ) × IsNumber 2 i bytes rest × MetIndexed t left one i w s rest c)

abbrev pub MetList : Map → ℕ → OneMet → ℕ → ℕ → ℕ → List ℕ → Cause → Type 0
MetList t left one count w s bytes c = IsCut 2 bytes c
    ⊎ ((i : ℕ) × (rest : List ℕ) × IsNumber 2 i bytes rest × MetForm t i c)
    ⊎ ((i : ℕ) × (rest : List ℕ) × (form : Parsed) × IsNumber 2 i bytes rest × IsForm t i form
    × HasForm form × MetElems t left one i form count w s rest c)

-- a list of so many elements; where no level may be opened it has to be empty
abbrev pub MetSome : Map → ℕ → Level → ℕ → ℕ → ℕ → List ℕ → Cause → Type 0
MetSome t left one zero w s bytes c = ⊥
MetSome t left no_level (suc n) w s bytes c = c ≡ causes.Deep
MetSome t left (level one) (suc n) w s bytes c = MetList t left one (suc n) w s bytes c

-- behind the index of a sequence's element; where no level may be opened there is none
abbrev pub MetMember : Map → ℕ → Level → ℕ → ℕ → ℕ → List ℕ → Cause → Type 0
MetMember t left no_level index w s bytes c = c ≡ causes.Deep
MetMember t left (level one) index w s bytes c = MetIndexed t left one index w s bytes c

-- the next element of a sequence: its index is cut off, or isn't 0 and what stands behind it is refused
abbrev pub MetNext : Map → ℕ → Level → ℕ → ℕ → List ℕ → Cause → Type 0
MetNext t left one w s bytes c = IsCut 2 bytes c
    ⊎ ((i : ℕ) × (rest : List ℕ) × IsNumber 2 i bytes rest × (0 < i)
    × MetMember t left one i w s rest c)

-- how many levels may be opened at a place, by what is below it
abbrev pub levels : Level → ℕ → ℕ
levels no_level left = 0
levels (level one) left = suc left

-- fitting elements of a sequence stand in front, and the next one is refused
pub record MetNodes (t : Map) (left : ℕ) (one : Level) (w s : ℕ) (bytes : List ℕ) (c : Cause)
    : Type 0 where
  pub nodes : Nodes
  pub sum : ℕ
  pub rest : List ℕ
  pub found : FoundNodes t (levels one left) w s sum nodes bytes rest
  pub met : MetNext t left one w sum rest c

-- a value of a slot, with what is refused one level below, where there is such a level; no slot of a
-- text has the kind of a bit field
abbrev pub MetSlot : Map → ℕ → Level → OneMet
MetSlot t left one (slots.One (kinds.Uint size)) w s bytes c = IsCut (size_bytes size) bytes c
MetSlot t left one (slots.One (kinds.Int size)) w s bytes c = IsCut (size_bytes size) bytes c
MetSlot t left one (slots.One kinds.Bool) w s bytes c = MetBool bytes c
MetSlot t left one (slots.One kinds.Char) w s bytes c = MetChar bytes c
MetSlot t left one (slots.One kinds.Str) w s bytes c = MetStr bytes c
MetSlot t left one (slots.One kinds.Istr) w s bytes c = MetIstr t bytes c
MetSlot t left one (slots.One kinds.Bytes) w s bytes c = MetBytes bytes c
MetSlot t left one (slots.One (kinds.ByteArray n)) w s bytes c = IsCut n bytes c
MetSlot t left no_level (slots.One kinds.Format) w s bytes c = c ≡ causes.Deep
MetSlot t left (level one) (slots.One kinds.Format) w s bytes c = MetNode t left one w s bytes c
MetSlot t left one (slots.One kinds.FormatSlice) w s bytes c = IsCut 4 bytes c
    ⊎ ((n : ℕ) × (rest : List ℕ) × IsNumber 4 n bytes rest × MetSome t left one n w s rest c)
MetSlot t left one (slots.One (kinds.FormatArray n)) w s bytes c = MetSome t left one n w s bytes c
MetSlot t left one (slots.One (kinds.Bits lo hi)) w s bytes c = c ≡ causes.Short
MetSlot t left one (slots.One (kinds.Float size)) w s bytes c = IsCut (float_bytes size) bytes c
MetSlot t left one (slots.One kinds.Debug) w s bytes c = MetShown bytes c
MetSlot t left one (slots.One kinds.Display) w s bytes c = MetShown bytes c
MetSlot t left one (slots.One kinds.Sequence) w s bytes c = MetNodes t left one w s bytes c
MetSlot t left one (slots.Bits first width) w s bytes c = IsCut width bytes c

-- the same, where so many levels may still be opened
unfoldable pub met_at : Map → ℕ → OneMet
met_at t zero = MetSlot t zero no_level
met_at t (suc left) = MetSlot t left (level (met_at t left))

-- ---- messages

-- the stamp's text was refused, or one of its arguments
abbrev pub MetStamp : Map → Option ℕ → List ℕ → Cause → Type 0
MetStamp t None bytes c = ⊥
MetStamp t (Some index) bytes c =
    ((e : Entry) × (look t index ≡ Some e) × IsNotOne (body_of t.language e)
    × (c ≡ causes.Unsupported))
    ⊎ ((e : Entry) × (ps : List Piece) × (look t index ≡ Some e) × (body_of t.language e ≡ One ps)
    × MetEach t 16 (met_at t 16) (places_of ps) 1 0 bytes c)

-- behind a frame's place: the stamp, an argument, or what follows the last one
abbrev pub MetBehind : Map → List Piece → List ℕ → Cause → Type 0
MetBehind t ps bytes c = MetStamp t (stamp_of t) bytes c
    ⊎ ((stamp : Vals) × (rest : List ℕ) × FoundStamp t stamp bytes rest
    × MetEach t 16 (met_at t 16) (places_of ps) 1 0 rest c)
    ⊎ ((stamp : Vals) × (mid : List ℕ) × (vs : Vals) × (sum : ℕ) × (rest : List ℕ)
    × FoundStamp t stamp bytes mid × FoundVals t 16 (places_of ps) 1 0 sum vs mid rest
    × (is_padding rest ≡ false) × (c ≡ causes.Trailing))

-- the place is cut off, where there is one
abbrev pub MetPlace : Profile → List ℕ → Cause → Type 0
MetPlace profiles.One bytes c = ⊥
MetPlace profiles.Two bytes c = IsCut 2 bytes c

-- behind a frame's index and its entry: the place, or what stands behind it
abbrev pub MetPlaced : Catalog → List Piece → List ℕ → Cause → Type 0
MetPlaced t ps bytes c = MetPlace t.profile bytes c
    ⊎ ((place : Option ℕ) × (rest : List ℕ) × FoundPlace t.profile place bytes rest
    × MetBehind t.entries ps rest c)

-- a message is refused with this cause
abbrev pub Meets : Catalog → List ℕ → Cause → Type 0
Meets t bytes c = IsCut 2 bytes c
    ⊎ ((i : ℕ) × (rest : List ℕ) × IsNumber 2 i bytes rest × MetOwn t.entries i c)
    ⊎ ((i : ℕ) × (rest : List ℕ) × (ps : List Piece) × IsNumber 2 i bytes rest
    × IsOwn t.entries i ps × MetPlaced t ps rest c)

-- the same, by the event's number
abbrev pub IsMet : Catalog → List ℕ → ℕ → Type 0
IsMet t bytes number = (c : Cause) × (number ≡ cause_number c) × Meets t bytes c

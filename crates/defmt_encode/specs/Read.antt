-- The parts of a message read from bytes, or the first cause for which there are none.
use Rattle.std.specs.Prelude.{◌+◌, ◌*◌, ◌^◌, ◌==◌, ◌&&◌, ℕ, zero, suc, Bool, true, false, nat_le, List, [], ◌∷◌, length, Option, Some, None, Ok, Err, if◌then◌else◌}
use Rattle.defmt_grammar.specs.Sizes.{float_bytes}
use Rattle.defmt_grammar.specs.declared.kind.FloatSize.{FloatSize}
use Rattle.defmt_grammar.specs.declared.kind.IntSize.{IntSize}
use Rattle.defmt_grammar.specs.declared.kind.Kind.TheVariants as kinds
use Rattle.defmt_grammar.specs.declared.piece.Piece.{Piece}
use Rattle.defmt_grammar.specs.declared.slot.Slot.{Slot}
use Rattle.defmt_grammar.specs.declared.slot.Slot.TheVariants as slots
use Rattle.defmt_intern.specs.Body.{body_of}
use Rattle.defmt_intern.specs.Catalog.{Catalog}
use Rattle.defmt_intern.specs.Table.{Map}
use Rattle.defmt_intern.specs.declared.table.Profile.{Profile}
use Rattle.defmt_intern.specs.declared.table.Profile.TheVariants as profiles
use Rattle.defmt_grammar.specs.declared.language.Language.{Language}
use Rattle.defmt_intern.specs.declared.entry.Entry.{Entry}
use Rattle.defmt_intern.specs.declared.entry.Tag.{Tag}
use Rattle.defmt_intern.specs.declared.entry.Tag.TheVariants as tags
use Rattle.defmt_intern.specs.declared.parsed.Parsed.{Parsed}
use Rattle.defmt_intern.specs.declared.parsed.Parsed.TheVariants.{One, Variants}
use Rattle.defmt_values.specs.Entries.{look, is_format, is_interned, is_logged, variant_at, Place, places_of}
use Rattle.defmt_values.specs.Plain.{Val, uint, int, flag, char, str, istr, bytes as byte_list, bits, format, seq, float, sequence, Vals, no_vals, val, Elems, no_elems, elem, Nodes, no_nodes, node}
use Rattle.defmt_encode.specs.Carry.{size_bytes}
pub use Rattle.defmt_encode.specs.Front.{Read, ◌⇒◌, number_at, signed_at, chunk_at, flag_of, char_of, text_of, bytes_at, text_at, ended_at, shown_text_at}
use Rattle.defmt_intern.specs.Stamp.{stamp_of}
use Rattle.defmt_encode.specs.declared.cause.Cause.{Cause}
use Rattle.defmt_encode.specs.declared.cause.Cause.TheVariants as causes

-- ---- entries

-- what an entry gives whose tag doesn't suit
abbrev pub tag_cause : Tag → Cause
tag_cause (tags.Other name) = causes.Unsupported
tag_cause tag = causes.Tag

abbrev pub suited : Bool → Tag → Read (Unit {0})
suited true tag = Ok tt
suited false tag = Err (tag_cause tag)

abbrev pub interned_of : Option Entry → Read (Unit {0})
interned_of None = Err causes.NoEntry
interned_of (Some e) = suited (is_interned e.tag) e.tag

-- the text of a Format value was refused, or has variants or none
abbrev pub form_in : Parsed → Read Parsed
form_in (One ps) = Ok (One ps)
form_in (Variants forms) = Ok (Variants forms)
form_in body = Err causes.Unsupported

abbrev pub form_of : Language → Option Entry → Read Parsed
form_of l None = Err causes.NoEntry
form_of l (Some e) = suited (is_format e.tag) e.tag ⇒ λ _. form_in (body_of l e)

abbrev pub there : Option (List Piece) → Read (List Piece)
there None = Err causes.BadVariant
there (Some ps) = Ok ps

-- the variant, where the form has some, its pieces, and what follows
abbrev pub variant_of : Parsed → List ℕ → Read (Option ℕ × List Piece × List ℕ)
variant_of (One ps) bytes = Ok (None, ps, bytes)
variant_of (Variants forms) bytes =
    number_at 1 bytes ⇒ λ v. there (variant_at forms v.0) ⇒ λ ps. Ok (Some v.0, ps, v.1)
variant_of form bytes = Err causes.BadVariant

-- the sum with one more weight
abbrev pub add : ℕ → ℕ → Read ℕ
add weight sum = if nat_le (sum + weight) 8192 then Ok (sum + weight) else Err causes.Many

-- ---- values without values inside, behind which the sum is as before

-- a value, the sum of the weights up to it, and what follows
abbrev pub ReadVal : Type 0
ReadVal = Read (Val × ℕ × List ℕ)

abbrev pub uint_at : IntSize → ℕ → List ℕ → ReadVal
uint_at size sum bytes = number_at (size_bytes size) bytes ⇒ λ r. Ok (uint r.0, sum, r.1)

abbrev pub int_at : IntSize → ℕ → List ℕ → ReadVal
int_at size sum bytes = signed_at (size_bytes size) bytes ⇒ λ r. Ok (int r.0, sum, r.1)

abbrev pub flag_at : ℕ → List ℕ → ReadVal
flag_at sum bytes = number_at 1 bytes ⇒ λ r. flag_of r.0 ⇒ λ b. Ok (flag b, sum, r.1)

abbrev pub char_at : ℕ → List ℕ → ReadVal
char_at sum bytes = number_at 4 bytes ⇒ λ r. char_of r.0 ⇒ λ c. Ok (char c, sum, r.1)

abbrev pub str_at : ℕ → List ℕ → ReadVal
str_at sum bytes = text_at bytes ⇒ λ s. Ok (str s.0, sum, s.1)

abbrev pub istr_at : Map → ℕ → List ℕ → ReadVal
istr_at t sum bytes =
    number_at 2 bytes ⇒ λ i. interned_of (look t i.0) ⇒ λ _. Ok (istr i.0, sum, i.1)

abbrev pub float_at : FloatSize → ℕ → List ℕ → ReadVal
float_at size sum bytes = number_at (float_bytes size) bytes ⇒ λ r. Ok (float r.0, sum, r.1)

abbrev pub shown_at : ℕ → List ℕ → ReadVal
shown_at sum bytes = shown_text_at bytes ⇒ λ s. Ok (str s.0, sum, s.1)

abbrev pub slice_at : ℕ → List ℕ → ReadVal
slice_at sum b = bytes_at b ⇒ λ s. Ok (byte_list s.0, sum, s.1)

abbrev pub array_at : ℕ → ℕ → List ℕ → ReadVal
array_at count sum b = chunk_at count b ⇒ λ s. Ok (byte_list s.0, sum, s.1)

abbrev pub window_at : ℕ → ℕ → ℕ → List ℕ → ReadVal
window_at first width sum bytes =
    number_at width bytes ⇒ λ r. Ok (bits (r.0 * 256 ^ first), sum, r.1)

-- ---- values

-- a reader of one value of a slot: its weight, the sum in front of it, and the bytes
abbrev pub OneAt : Type 0
OneAt = Slot → ℕ → ℕ → List ℕ → ReadVal

-- the values of places, in a text that has this weight
unfoldable pub each_at : OneAt → List Place → ℕ → ℕ → List ℕ → Read (Vals × ℕ × List ℕ)
each_at one [] weight sum bytes = Ok (no_vals, sum, bytes)
each_at one (p ∷ ps) weight sum bytes =
    one p.slot (p.uses * weight) sum bytes ⇒ λ h.
    each_at one ps weight h.1 h.2 ⇒ λ r.
    Ok (val h.0 r.0, r.1, r.2)

-- an element: its variant and its arguments
abbrev pub elem_at : OneAt → Parsed → ℕ → ℕ → List ℕ → Read ((Option ℕ × Vals) × ℕ × List ℕ)
elem_at one form weight sum bytes =
    add weight sum ⇒ λ s.
    variant_of form bytes ⇒ λ v.
    each_at one (places_of v.1) weight s v.2 ⇒ λ a.
    Ok ((v.0, a.0), a.1, a.2)

unfoldable pub elems_at : OneAt → Parsed → ℕ → ℕ → ℕ → List ℕ → Read (Elems × ℕ × List ℕ)
elems_at one form zero weight sum bytes = Ok (no_elems, sum, bytes)
elems_at one form (suc n) weight sum bytes =
    elem_at one form weight sum bytes ⇒ λ e.
    elems_at one form n weight e.1 e.2 ⇒ λ r.
    Ok (elem e.0.0 e.0.1 r.0, r.1, r.2)

-- behind its index a Format value has its variant and its arguments, read with the reader of what is one level below
abbrev pub indexed_at : Map → OneAt → ℕ → ℕ → ℕ → List ℕ → Read ((Option ℕ × Vals) × ℕ × List ℕ)
indexed_at t one index weight sum bytes =
    form_of t.language (look t index) ⇒ λ form. elem_at one form weight sum bytes

abbrev pub node_at : Map → OneAt → ℕ → ℕ → List ℕ → ReadVal
node_at t one weight sum bytes =
    number_at 2 bytes ⇒ λ i.
    indexed_at t one i.0 weight sum i.1 ⇒ λ e.
    Ok (format i.0 e.0.0 e.0.1, e.1, e.2)

-- a list that has elements
abbrev pub list_at : Map → OneAt → ℕ → ℕ → ℕ → List ℕ → ReadVal
list_at t one count weight sum bytes =
    number_at 2 bytes ⇒ λ i.
    form_of t.language (look t i.0) ⇒ λ form.
    elems_at one form count weight sum i.1 ⇒ λ r.
    Ok (seq (Some i.0) r.0, r.1, r.2)

abbrev pub some_at : Map → Option OneAt → ℕ → ℕ → ℕ → List ℕ → ReadVal
some_at t one zero weight sum bytes = Ok (seq None no_elems, sum, bytes)
some_at t None (suc n) weight sum bytes = Err causes.Deep
some_at t (Some one) (suc n) weight sum bytes = list_at t one (suc n) weight sum bytes

-- an element of a sequence behind its index
abbrev pub member_at : Map → Option OneAt → ℕ → ℕ → ℕ → List ℕ
    → Read ((Option ℕ × Vals) × ℕ × List ℕ)
member_at t None index weight sum bytes = Err causes.Deep
member_at t (Some one) index weight sum bytes = indexed_at t one index weight sum bytes

-- the elements of a sequence, of which there are fewer than so many, and the index 0 behind them
unfoldable pub nodes_at : Map → Option OneAt → ℕ → ℕ → ℕ → List ℕ → Read (Nodes × ℕ × List ℕ)
nodes_at t below zero weight sum bytes = Err causes.Short
nodes_at t below (suc n) weight sum bytes = number_at 2 bytes ⇒ λ i.
    if i.0 == 0 then Ok (no_nodes, sum, i.1) else
    (member_at t below i.0 weight sum i.1 ⇒ λ e.
    nodes_at t below n weight e.1 e.2 ⇒ λ r.
    Ok (node i.0 e.0.0 e.0.1 r.0, r.1, r.2))

-- there are fewer elements than bytes
abbrev pub sequence_at : Map → Option OneAt → ℕ → ℕ → List ℕ → ReadVal
sequence_at t below weight sum bytes =
    nodes_at t below (length bytes) weight sum bytes ⇒ λ r. Ok (sequence r.0, r.1, r.2)

-- a value of a slot, with the reader of what is one level below, where there is such a level
abbrev pub slot_at : Map → Option OneAt → OneAt
slot_at t below (slots.One (kinds.Uint size)) weight sum bytes = uint_at size sum bytes
slot_at t below (slots.One (kinds.Int size)) weight sum bytes = int_at size sum bytes
slot_at t below (slots.One kinds.Bool) weight sum bytes = flag_at sum bytes
slot_at t below (slots.One kinds.Char) weight sum bytes = char_at sum bytes
slot_at t below (slots.One kinds.Str) weight sum bytes = str_at sum bytes
slot_at t below (slots.One kinds.Istr) weight sum bytes = istr_at t sum bytes
slot_at t below (slots.One kinds.Bytes) weight sum bytes = slice_at sum bytes
slot_at t below (slots.One (kinds.ByteArray count)) weight sum bytes = array_at count sum bytes
slot_at t None (slots.One kinds.Format) weight sum bytes = Err causes.Deep
slot_at t (Some one) (slots.One kinds.Format) weight sum bytes = node_at t one weight sum bytes
slot_at t below (slots.One kinds.FormatSlice) weight sum bytes =
    number_at 4 bytes ⇒ λ c. some_at t below c.0 weight sum c.1
slot_at t below (slots.One (kinds.FormatArray count)) weight sum bytes =
    some_at t below count weight sum bytes
slot_at t below (slots.One (kinds.Bits lo hi)) weight sum bytes = Err causes.Short
slot_at t below (slots.One (kinds.Float size)) weight sum bytes = float_at size sum bytes
slot_at t below (slots.One kinds.Debug) weight sum bytes = shown_at sum bytes
slot_at t below (slots.One kinds.Display) weight sum bytes = shown_at sum bytes
slot_at t below (slots.One kinds.Sequence) weight sum bytes = sequence_at t below weight sum bytes
slot_at t below (slots.Bits first width) weight sum bytes = window_at first width sum bytes

-- the same, where so many levels may still be opened
unfoldable pub value_at : Map → ℕ → OneAt
value_at t zero = slot_at t None
value_at t (suc left) = slot_at t (Some (value_at t left))

-- the reader of what is one level below
abbrev pub below : Map → ℕ → Option OneAt
below t zero = None
below t (suc left) = Some (value_at t left)

-- ---- messages

abbrev pub one_in : Parsed → Read (List Piece)
one_in (One ps) = Ok ps
one_in body = Err causes.Unsupported

-- the values of a text whose only argument is an unsigned number
abbrev pub only_at : IntSize → List ℕ → Read (Vals × ℕ × List ℕ)
only_at size bytes = number_at (size_bytes size) bytes ⇒ λ r. Ok (val (uint r.0) no_vals, 0, r.1)

abbrev pub logged_of : Language → Option Entry → Read (List Piece)
logged_of l None = Err causes.NoEntry
logged_of l (Some e) = suited (is_logged e.tag) e.tag ⇒ λ _. one_in (body_of l e)

abbrev pub stamp_form : Language → Option Entry → Read (List Piece)
stamp_form l None = Err causes.Unsupported
stamp_form l (Some e) = one_in (body_of l e)

-- the stamp's arguments, which have a sum of weights of their own
abbrev pub stamp_at : Map → Option ℕ → List ℕ → Read (Vals × List ℕ)
stamp_at t None bytes = Ok (no_vals, bytes)
stamp_at t (Some index) bytes =
    stamp_form t.language (look t index) ⇒ λ ps.
    each_at (value_at t 16) (places_of ps) 1 0 bytes ⇒ λ r.
    Ok (r.0, r.2)

abbrev pub all_zero : List ℕ → Bool
all_zero [] = true
all_zero (b ∷ bytes) = (b == 0) && all_zero bytes

-- at most six zeros
abbrev pub is_padding : List ℕ → Bool
is_padding bytes = nat_le (length bytes) 6 && all_zero bytes

abbrev pub padded : List ℕ → Read (Unit {0})
padded bytes = if is_padding bytes then Ok tt else Err causes.Trailing

-- the place of a profile, where it has one
abbrev pub place_at : Profile → List ℕ → Read (Option ℕ × List ℕ)
place_at profiles.One bytes = Ok (None, bytes)
place_at profiles.Two bytes = number_at 2 bytes ⇒ λ r. Ok (Some r.0, r.1)

-- the place, the stamp, the index and the arguments of a message, or the first cause for which there are none
abbrev pub message_at : Catalog → List ℕ → Read (Option ℕ × Vals × ℕ × Vals)
message_at t bytes =
    number_at 2 bytes ⇒ λ i.
    logged_of t.entries.language (look t.entries i.0) ⇒ λ ps.
    place_at t.profile i.1 ⇒ λ q.
    stamp_at t.entries (stamp_of t.entries) q.1 ⇒ λ s.
    each_at (value_at t.entries 16) (places_of ps) 1 0 s.1 ⇒ λ r.
    padded r.2 ⇒ λ _.
    Ok (q.0, s.0, i.0, r.0)

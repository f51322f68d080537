-- The tests of one value, of an entry and of a variant, each with its cause; and all tests of values from left to right,
-- with the sum of the weights taken along. `Faults` says which cause is the first without these sums.
use Rattle.std.specs.Prelude.{◌+◌, ◌-◌, ◌*◌, ◌%◌, ◌^◌, ◌==◌, ◌&&◌, ℕ, ℤ, Bool, true, false, nat_lt, nat_le, List, [], ◌∷◌, length, Option, Some, None, Result, Ok, Err, if◌then◌else◌}
use Rattle.defmt_grammar.specs.Sizes.{size_bits, float_bits, is_signed}
use Rattle.defmt_grammar.specs.declared.kind.Kind.TheVariants as kinds
use Rattle.defmt_grammar.specs.declared.language.Language.{Language}
use Rattle.defmt_grammar.specs.declared.piece.Piece.{Piece}
use Rattle.defmt_grammar.specs.declared.slot.Slot.{Slot}
use Rattle.defmt_grammar.specs.declared.slot.Slot.TheVariants as slots
use Rattle.defmt_intern.specs.Body.{body_of}
use Rattle.defmt_intern.specs.Table.{Map}
use Rattle.defmt_intern.specs.declared.entry.Entry.{Entry}
use Rattle.defmt_intern.specs.declared.parsed.Parsed.{Parsed}
use Rattle.defmt_intern.specs.declared.parsed.Parsed.TheVariants.{Unsupported, Raw, One, Variants}
use Rattle.defmt_values.specs.Entries.{look, is_format, is_interned, variant_at, Place, places_of}
use Rattle.defmt_values.specs.Plain.{Val, uint, int, flag, char, str, istr, bytes, bits, format, seq, float, sequence, Vals, no_vals, val, Elems, no_elems, elem, Nodes, no_nodes, node, elems_len, elems_empty}

-- The causes are 2 Count, 3 Kind, 4 Range, 5 NoEntry, 6 Deep, 7 Many and 8 Unsupported.

infixl 10 ◌>>=◌
abbrev pub ◌>>=◌ : {A B : Type 0} → Result A ℕ → (A → Result B ℕ) → Result B ℕ
(Ok x) >>= f = f x
(Err e) >>= f = Err e

abbrev pub test : Bool → ℕ → Result (Unit {0}) ℕ
test true e = Ok tt
test false e = Err e

-- ---- values without values inside, each by its slot

abbrev pub uint_cause : Slot → ℕ → Result (Unit {0}) ℕ
uint_cause (slots.One (kinds.Uint size)) n = test (nat_lt n (2 ^ size_bits size)) 4
uint_cause slot n = Err 3

abbrev pub int_cause : Slot → ℤ → Result (Unit {0}) ℕ
int_cause (slots.One (kinds.Int size)) n = test (is_signed (size_bits size) n) 4
int_cause slot n = Err 3

abbrev pub flag_cause : Slot → Result (Unit {0}) ℕ
flag_cause (slots.One kinds.Bool) = Ok tt
flag_cause slot = Err 3

abbrev pub char_cause : Slot → Result (Unit {0}) ℕ
char_cause (slots.One kinds.Char) = Ok tt
char_cause slot = Err 3

abbrev pub str_cause : Slot → Result (Unit {0}) ℕ
str_cause (slots.One kinds.Str) = Ok tt
str_cause (slots.One kinds.Debug) = Ok tt
str_cause (slots.One kinds.Display) = Ok tt
str_cause slot = Err 3

abbrev pub interned_of : Option Entry → Bool
interned_of None = false
interned_of (Some e) = is_interned e.tag

abbrev pub istr_cause : Map → Slot → ℕ → Result (Unit {0}) ℕ
istr_cause t (slots.One kinds.Istr) index = test (interned_of (look t index)) 5
istr_cause t slot index = Err 3

-- a byte array has as many bytes as its kind says
abbrev pub bytes_cause : Slot → ℕ → Result (Unit {0}) ℕ
bytes_cause (slots.One kinds.Bytes) count = Ok tt
bytes_cause (slots.One (kinds.ByteArray n)) count = test (count == n) 4
bytes_cause slot count = Err 3

-- a number of bit fields has no bit outside the bytes of its window
abbrev pub bits_cause : Slot → ℕ → Result (Unit {0}) ℕ
bits_cause (slots.Bits first width) n =
    test (nat_lt n (256 ^ (first + width)) && (n % 256 ^ first == 0)) 4
bits_cause slot n = Err 3

-- the bits of a float are of its size
abbrev pub float_cause : Slot → ℕ → Result (Unit {0}) ℕ
float_cause (slots.One (kinds.Float size)) n = test (nat_lt n (2 ^ float_bits size)) 4
float_cause slot n = Err 3

abbrev pub node_cause : Slot → Result (Unit {0}) ℕ
node_cause (slots.One kinds.Format) = Ok tt
node_cause slot = Err 3

abbrev pub list_cause : Slot → Result (Unit {0}) ℕ
list_cause (slots.One kinds.FormatSlice) = Ok tt
list_cause (slots.One (kinds.FormatArray n)) = Ok tt
list_cause slot = Err 3

abbrev pub count_cause : Slot → ℕ → Result (Unit {0}) ℕ
count_cause (slots.One (kinds.FormatArray n)) count = test (count == n) 4
count_cause slot count = Ok tt

abbrev pub sequence_cause : Slot → Result (Unit {0}) ℕ
sequence_cause (slots.One kinds.Sequence) = Ok tt
sequence_cause slot = Err 3

-- ---- the entries of Format values

-- no entry of this index suits, or its text was refused, or what it stands for
abbrev pub form_in : Bool → Parsed → Result Parsed ℕ
form_in false parsed = Err 5
form_in true Unsupported = Err 8
form_in true parsed = Ok parsed

abbrev pub form_of : Language → Option Entry → Result Parsed ℕ
form_of language None = Err 5
form_of language (Some e) = form_in (is_format e.tag) (body_of language e)

abbrev pub form_at : Map → ℕ → Result Parsed ℕ
form_at t index = form_of t.language (look t index)

-- the index 0 ends a sequence, so no element has it
abbrev pub element_form : Map → ℕ → Result Parsed ℕ
element_form t index = if index == 0 then Err 5 else form_at t index

abbrev pub there : Option (List Piece) → Result (List Piece) ℕ
there None = Err 4
there (Some ps) = Ok ps

-- the pieces of a form, or of one of its variants
abbrev pub pick : Parsed → Option ℕ → Result (List Piece) ℕ
pick (One ps) None = Ok ps
pick (Variants forms) (Some v) = there (variant_at forms v)
pick parsed variant = Err 4

-- where no pieces fit there are no places
abbrev pub places_in : Result (List Piece) ℕ → List Place
places_in (Ok ps) = places_of ps
places_in (Err e) = []

abbrev pub node_places : Map → ℕ → Option ℕ → List Place
node_places t index variant = places_in (form_at t index >>= λ form. pick form variant)

abbrev pub index_or : Option ℕ → ℕ
index_or None = 0
index_or (Some index) = index

-- ---- the sum of the weights

-- one more weight: the sum is at most 8,192
abbrev pub add : ℕ → ℕ → Result ℕ ℕ
add weight sum = if nat_le (sum + weight) 8192 then Ok (sum + weight) else Err 7

-- ---- lists of Format values

abbrev pub list_form : Map → Option ℕ → Result Parsed ℕ
list_form t None = Err 5
list_form t (Some index) = form_at t index

-- a list without elements has no index
abbrev pub no_index : Option ℕ → Result (Unit {0}) ℕ
no_index None = Ok tt
no_index (Some index) = Err 5

-- ---- values

-- after the last value no place is left
abbrev pub end_of : List Place → ℕ → Result ℕ ℕ
end_of [] sum = Ok sum
end_of (p ∷ ps) sum = Err 2

-- A Format value, or an element of a sequence, with what its index stands for: a level is left for it, its entry suits, its
-- own weight is added, it has pieces, and then comes what stands inside.
abbrev pub scan_node : {A : Type 0} → ℕ → Result Parsed ℕ → ℕ → ℕ → Option ℕ
    → (List Piece → ℕ → Result A ℕ) → Result A ℕ
scan_node left found weight sum variant inside =
    test (nat_lt 0 left) 6 >>= λ _.
    found >>= λ form.
    add weight sum >>= λ s.
    pick form variant >>= λ ps.
    inside ps s

unfoldable mutual
  -- One value of a slot: left levels of Format values may stand round those inside it, weight is
  -- its own, and sum is that of the weights in front of it.
  pub scan_val : Map → ℕ → Slot → ℕ → ℕ → Val → Result ℕ ℕ
  scan_val t left slot weight sum (uint n) = uint_cause slot n >>= λ _. Ok sum
  scan_val t left slot weight sum (int n) = int_cause slot n >>= λ _. Ok sum
  scan_val t left slot weight sum (flag b) = flag_cause slot >>= λ _. Ok sum
  scan_val t left slot weight sum (char c) = char_cause slot >>= λ _. Ok sum
  scan_val t left slot weight sum (str s) = str_cause slot >>= λ _. Ok sum
  scan_val t left slot weight sum (istr index) = istr_cause t slot index >>= λ _. Ok sum
  scan_val t left slot weight sum (bytes s) = bytes_cause slot (length s) >>= λ _. Ok sum
  scan_val t left slot weight sum (bits n) = bits_cause slot n >>= λ _. Ok sum
  scan_val t left slot weight sum (format index variant vs) =
      node_cause slot >>= λ _.
      scan_node left (form_at t index) weight sum variant
      (λ ps s. scan_vals t (left - 1) (places_of ps) weight s vs)
  scan_val t left slot weight sum (seq index es) =
      list_cause slot >>= λ _.
      (if elems_empty es then (no_index index >>= λ _. count_cause slot 0 >>= λ _. Ok sum) else
      (test (nat_lt 0 left) 6 >>= λ _.
      list_form t index >>= λ form.
      scan_elems t (left - 1) form weight sum es >>= λ s.
      count_cause slot (elems_len es) >>= λ _.
      Ok s))
  scan_val t left slot weight sum (float n) = float_cause slot n >>= λ _. Ok sum
  scan_val t left slot weight sum (sequence ns) =
      sequence_cause slot >>= λ _. scan_nodes t left weight sum ns

  -- the values of places, in a text that has this weight
  pub scan_vals : Map → ℕ → List Place → ℕ → ℕ → Vals → Result ℕ ℕ
  scan_vals t left places weight sum no_vals = end_of places sum
  scan_vals t left [] weight sum (val v vs) = Err 2
  scan_vals t left (p ∷ ps) weight sum (val v vs) =
      scan_val t left p.slot (p.uses * weight) sum v >>= λ r. scan_vals t left ps weight r vs

  pub scan_elems : Map → ℕ → Parsed → ℕ → ℕ → Elems → Result ℕ ℕ
  scan_elems t left form weight sum no_elems = Ok sum
  scan_elems t left form weight sum (elem variant vs es) =
      add weight sum >>= λ s.
      pick form variant >>= λ ps.
      scan_vals t left (places_of ps) weight s vs >>= λ r.
      scan_elems t left form weight r es

  -- the elements of a sequence stand where the sequence does, each with the weight of its position
  pub scan_nodes : Map → ℕ → ℕ → ℕ → Nodes → Result ℕ ℕ
  scan_nodes t left weight sum no_nodes = Ok sum
  scan_nodes t left weight sum (node index variant vs ns) =
      scan_node left (element_form t index) weight sum variant
      (λ ps s. scan_vals t (left - 1) (places_of ps) weight s vs) >>= λ r.
      scan_nodes t left weight r ns

-- ---- statements

-- the pieces of a statement's own entry, whatever its tag
abbrev pub own_in : Parsed → Result (List Piece) ℕ
own_in Unsupported = Err 8
own_in Raw = Err 5
own_in (One ps) = Ok ps
own_in (Variants forms) = Err 4

abbrev pub own_form : Language → Option Entry → Result (List Piece) ℕ
own_form language None = Err 5
own_form language (Some e) = own_in (body_of language e)

-- the sum of the weights of a statement's values, or their first cause
abbrev pub scan_own : Map → ℕ → Vals → Result ℕ ℕ
scan_own t index vs =
    own_form t.language (look t index) >>= λ ps. scan_vals t 16 (places_of ps) 1 0 vs

-- the first cause for which a statement doesn't fit
abbrev pub own_cause : Map → ℕ → Vals → Result (Unit {0}) ℕ
own_cause t index vs = scan_own t index vs >>= λ sum. Ok tt

-- ---- for private clauses

-- the first test of a value without values inside; it says nothing of others
abbrev pub leaf_cause : Map → Slot → Val → Result (Unit {0}) ℕ
leaf_cause t slot (uint n) = uint_cause slot n
leaf_cause t slot (int n) = int_cause slot n
leaf_cause t slot (flag b) = flag_cause slot
leaf_cause t slot (char c) = char_cause slot
leaf_cause t slot (str s) = str_cause slot
leaf_cause t slot (istr index) = istr_cause t slot index
leaf_cause t slot (bytes s) = bytes_cause slot (length s)
leaf_cause t slot (bits n) = bits_cause slot n
leaf_cause t slot (format index variant vs) = Ok tt
leaf_cause t slot (seq index es) = Ok tt
leaf_cause t slot (float n) = float_cause slot n
leaf_cause t slot (sequence ns) = Ok tt

-- the pieces of a Format value, or of an element of a sequence, with what its index stands for, and the sum with its own
-- weight; or the first cause in front of its values
abbrev pub opened : ℕ → Result Parsed ℕ → ℕ → ℕ → Option ℕ → Result (List Piece × ℕ) ℕ
opened left found weight sum variant = scan_node left found weight sum variant (λ ps s. Ok (ps, s))

-- a Format value, or an element of a sequence, with its values
abbrev pub scan_one : Map → ℕ → Result Parsed ℕ → ℕ → ℕ → Option ℕ → Vals → Result ℕ ℕ
scan_one t left found weight sum variant vs = scan_node left found weight sum variant
    (λ ps s. scan_vals t (left - 1) (places_of ps) weight s vs)

-- the form of a list's elements where it has some, or the first cause in front of them
abbrev pub started : Map → ℕ → Slot → Option ℕ → Bool → Result (Option Parsed) ℕ
started t left slot index true =
    list_cause slot >>= λ _. no_index index >>= λ _. count_cause slot 0 >>= λ _. Ok None
started t left slot index false =
    list_cause slot >>= λ _.
    test (nat_lt 0 left) 6 >>= λ _.
    list_form t index >>= λ form.
    Ok (Some form)

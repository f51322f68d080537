-- How many bytes values have at most.
use Rattle.std.proofs.Common.{◌≡◌, ◌≤◌, ◌<◌, ◌+◌, ℕ, ℤ, Bool, true, false, nat_lt, List, [], ◌∷◌, ◌++◌, length, map, Option, Some, None, Result, Ok, Err, sym, ap, arith, length-append}
use Rattle.std.proofs.lemmas.Bool.{lt-ltb, le-ltb}
use Rattle.std.specs.Int.{w128, cast_unsigned}
use Rattle.byteorder.specs.Endian.{little_bytes}
use Rattle.defmt_grammar.specs.Sizes.{float_bytes}
use Rattle.defmt_grammar.specs.declared.kind.FloatSize.{FloatSize}
use Rattle.defmt_grammar.specs.declared.kind.FloatSize.TheVariants as floats
use Rattle.defmt_grammar.specs.declared.kind.Kind.TheVariants as kinds
use Rattle.defmt_grammar.specs.declared.slot.Slot.{Slot}
use Rattle.defmt_grammar.specs.declared.slot.Slot.TheVariants as slots
use Rattle.defmt_intern.specs.Table.{Map}
use Rattle.defmt_values.specs.Plain.{Val, uint, int, flag, char, str, istr, bytes, format, seq, float, sequence, Vals, no_vals, val, Elems, no_elems, elem, Nodes, no_nodes, node, elems_len, vals_size, elems_size, nodes_size}
use Rattle.defmt_values.specs.Scan.{index_or}
use Rattle.defmt_values.specs.View.{plain, vals_of, elems_of, nodes_of}
use Rattle.defmt_values.specs.declared.value.Item.{Item}
use Rattle.defmt_values.specs.declared.value.Node.{Node}
use Rattle.defmt_values.specs.declared.value.Value.{Value}
use Rattle.defmt_encode.specs.Carry.{uint_width, int_width, float_width, text_end, text_bytes, length_bytes, variant_byte, count_bytes, index_bytes, node_slots, bytes_val, bytes_vals, bytes_elems, bytes_nodes, stamp_slots, stamp_args, own_slots, message_head, message_of}
use Rattle.defmt_encode.specs.Out.{HasAtMost, HaveAtMost, EachHasAtMost, EachNodeHasAtMost, Puts, Writes}
use Rattle.defmt_encode.specs.Placed.{place_bytes}
use Rattle.defmt_intern.specs.Stamp.{stamp_of}
use Rattle.defmt_encode.specs.declared.put.Long.{Long}
use Rattle.defmt_encode.proofs.Finds.{size_few}
use Rattle.defmt_encode.proofs.Numbers.{length_little}
use Rattle.defmt_encode.proofs.Placing.{place_few}

uint_small : (slot : Slot) → uint_width slot ≤ 16
uint_small (slots.One (kinds.Uint size)) = size_few size
uint_small (slots.One (kinds.Int size)) = omega arith
uint_small (slots.One kinds.Bool) = omega arith
uint_small (slots.One kinds.Char) = omega arith
uint_small (slots.One kinds.Str) = omega arith
uint_small (slots.One kinds.Istr) = omega arith
uint_small (slots.One kinds.Bytes) = omega arith
uint_small (slots.One (kinds.ByteArray count)) = omega arith
uint_small (slots.One kinds.Format) = omega arith
uint_small (slots.One kinds.FormatSlice) = omega arith
uint_small (slots.One (kinds.FormatArray count)) = omega arith
uint_small (slots.One (kinds.Bits lo hi)) = omega arith
uint_small (slots.One (kinds.Float size)) = omega arith
uint_small (slots.One kinds.Debug) = omega arith
uint_small (slots.One kinds.Display) = omega arith
uint_small (slots.One kinds.Sequence) = omega arith
uint_small (slots.Bits first width) = omega arith

int_small : (slot : Slot) → int_width slot ≤ 16
int_small (slots.One (kinds.Uint size)) = omega arith
int_small (slots.One (kinds.Int size)) = size_few size
int_small (slots.One kinds.Bool) = omega arith
int_small (slots.One kinds.Char) = omega arith
int_small (slots.One kinds.Str) = omega arith
int_small (slots.One kinds.Istr) = omega arith
int_small (slots.One kinds.Bytes) = omega arith
int_small (slots.One (kinds.ByteArray count)) = omega arith
int_small (slots.One kinds.Format) = omega arith
int_small (slots.One kinds.FormatSlice) = omega arith
int_small (slots.One (kinds.FormatArray count)) = omega arith
int_small (slots.One (kinds.Bits lo hi)) = omega arith
int_small (slots.One (kinds.Float size)) = omega arith
int_small (slots.One kinds.Debug) = omega arith
int_small (slots.One kinds.Display) = omega arith
int_small (slots.One kinds.Sequence) = omega arith
int_small (slots.Bits first width) = omega arith

length_small : (slot : Slot) (n : ℕ) → length (length_bytes slot n) ≤ 4
length_small (slots.One (kinds.Uint size)) n = omega arith
length_small (slots.One (kinds.Int size)) n = omega arith
length_small (slots.One kinds.Bool) n = omega arith
length_small (slots.One kinds.Char) n = omega arith
length_small (slots.One kinds.Str) n = omega arith
length_small (slots.One kinds.Istr) n = omega arith
length_small (slots.One kinds.Bytes) n = omega (arith, length_little 4 n)
length_small (slots.One (kinds.ByteArray count)) n = omega arith
length_small (slots.One kinds.Format) n = omega arith
length_small (slots.One kinds.FormatSlice) n = omega arith
length_small (slots.One (kinds.FormatArray count)) n = omega arith
length_small (slots.One (kinds.Bits lo hi)) n = omega arith
length_small (slots.One (kinds.Float size)) n = omega arith
length_small (slots.One kinds.Debug) n = omega arith
length_small (slots.One kinds.Display) n = omega arith
length_small (slots.One kinds.Sequence) n = omega arith
length_small (slots.Bits first width) n = omega arith

float_few : (size : FloatSize) → float_bytes size ≤ 8
float_few floats.W32 = omega arith
float_few floats.W64 = omega arith

-- a float has eight bytes at most
float_small : (slot : Slot) → float_width slot ≤ 8
float_small (slots.One (kinds.Uint size)) = omega arith
float_small (slots.One (kinds.Int size)) = omega arith
float_small (slots.One kinds.Bool) = omega arith
float_small (slots.One kinds.Char) = omega arith
float_small (slots.One kinds.Str) = omega arith
float_small (slots.One kinds.Istr) = omega arith
float_small (slots.One kinds.Bytes) = omega arith
float_small (slots.One (kinds.ByteArray count)) = omega arith
float_small (slots.One kinds.Format) = omega arith
float_small (slots.One kinds.FormatSlice) = omega arith
float_small (slots.One (kinds.FormatArray count)) = omega arith
float_small (slots.One (kinds.Bits lo hi)) = omega arith
float_small (slots.One (kinds.Float size)) = float_few size
float_small (slots.One kinds.Debug) = omega arith
float_small (slots.One kinds.Display) = omega arith
float_small (slots.One kinds.Sequence) = omega arith
float_small (slots.Bits first width) = omega arith

counted_small : (s : List ℕ) → length (little_bytes 4 (length s) ++ s) ≤ length s + 4
counted_small s = omega (arith, length-append (little_bytes 4 (length s)) s, length_little 4 (length s))

text_small : (slot : Slot) (s : List ℕ) → length (text_bytes slot s) ≤ length s + 4
text_small (slots.One (kinds.Uint size)) s = counted_small s
text_small (slots.One (kinds.Int size)) s = counted_small s
text_small (slots.One kinds.Bool) s = counted_small s
text_small (slots.One kinds.Char) s = counted_small s
text_small (slots.One kinds.Str) s = counted_small s
text_small (slots.One kinds.Istr) s = counted_small s
text_small (slots.One kinds.Bytes) s = counted_small s
text_small (slots.One (kinds.ByteArray count)) s = counted_small s
text_small (slots.One kinds.Format) s = counted_small s
text_small (slots.One kinds.FormatSlice) s = counted_small s
text_small (slots.One (kinds.FormatArray count)) s = counted_small s
text_small (slots.One (kinds.Bits lo hi)) s = counted_small s
text_small (slots.One (kinds.Float size)) s = counted_small s
text_small (slots.One kinds.Debug) s = omega (arith, length-append s (text_end ∷ []))
text_small (slots.One kinds.Display) s = omega (arith, length-append s (text_end ∷ []))
text_small (slots.One kinds.Sequence) s = counted_small s
text_small (slots.Bits first width) s = counted_small s

pub uint_most : (n : ℕ) → HasAtMost (uint n) 16
unfolding bytes_val
uint_most n t slot = omega (arith, length_little (uint_width slot) n, uint_small slot)

pub int_most : (n : ℤ) → HasAtMost (int n) 16
unfolding bytes_val
int_most n t slot = omega (arith, length_little (int_width slot) (cast_unsigned w128 n), int_small slot)

pub flag_most : (b : Bool) → HasAtMost (flag b) 1
unfolding bytes_val
flag_most b t slot = omega arith

pub char_most : (c : ℕ) → HasAtMost (char c) 4
unfolding bytes_val
char_most c t slot = omega (arith, length_little 4 c)

pub istr_most : (index : ℕ) → HasAtMost (istr index) 2
unfolding bytes_val
istr_most index t slot = omega (arith, length_little 2 index)

pub str_most : (s : List ℕ) (n : ℕ) → length s + 4 ≤ n → HasAtMost (str s) n
unfolding bytes_val
str_most s n h t slot = omega (arith, text_small slot s, h)

pub float_most : (n : ℕ) → HasAtMost (float n) 8
unfolding bytes_val
float_most n t slot = omega (arith, length_little (float_width slot) n, float_small slot)

pub bytes_most : (s : List ℕ) (n : ℕ) → length s + 4 ≤ n → HasAtMost (bytes s) n
unfolding bytes_val
bytes_most s n h t slot = omega (arith, length-append (length_bytes slot (length s)) s, length_small slot (length s), h)

count_few : (slot : Slot) (n : ℕ) → length (count_bytes slot n) ≤ 4
count_few (slots.One (kinds.Uint size)) n = omega arith
count_few (slots.One (kinds.Int size)) n = omega arith
count_few (slots.One kinds.Bool) n = omega arith
count_few (slots.One kinds.Char) n = omega arith
count_few (slots.One kinds.Str) n = omega arith
count_few (slots.One kinds.Istr) n = omega arith
count_few (slots.One kinds.Bytes) n = omega arith
count_few (slots.One (kinds.ByteArray count)) n = omega arith
count_few (slots.One kinds.Format) n = omega arith
count_few (slots.One kinds.FormatSlice) n = omega (arith, length_little 4 n)
count_few (slots.One (kinds.FormatArray count)) n = omega arith
count_few (slots.One (kinds.Bits lo hi)) n = omega arith
count_few (slots.One (kinds.Float size)) n = omega arith
count_few (slots.One kinds.Debug) n = omega arith
count_few (slots.One kinds.Display) n = omega arith
count_few (slots.One kinds.Sequence) n = omega arith
count_few (slots.Bits first width) n = omega arith

variant_few : (variant : Option ℕ) → length (variant_byte variant) ≤ 1
variant_few None = omega arith
variant_few (Some v) = omega arith

index_few : (index : Option ℕ) → length (index_bytes index) ≤ 2
index_few None = omega arith
index_few (Some n) = omega (arith, length_little 2 n)

pub format_most : (index : ℕ) (variant : Option ℕ) (vs : Vals) (m n : ℕ) → m + 3 ≤ n → HaveAtMost vs m → HasAtMost (format index variant vs) n
unfolding bytes_val
format_most index variant vs m n h have t slot =
    let head = length-append (little_bytes 2 index) (variant_byte variant) in
    let whole = length-append (little_bytes 2 index ++ variant_byte variant) (bytes_vals t (node_slots t index variant) vs) in
    omega (arith, whole, head, length_little 2 index, variant_few variant, have t (node_slots t index variant), h)

pub seq_most : (index : Option ℕ) (es : Elems) (m n : ℕ) → m + 6 ≤ n → EachHasAtMost es m → HasAtMost (seq index es) n
unfolding bytes_val
seq_most index es m n h have t slot =
    let head = length-append (count_bytes slot (elems_len es)) (index_bytes index) in
    let whole = length-append (count_bytes slot (elems_len es) ++ index_bytes index) (bytes_elems t (index_or index) es) in
    omega (arith, whole, head, count_few slot (elems_len es), index_few index, have t (index_or index), h)

pub sequence_most : (ns : Nodes) (m n : ℕ) → m + 2 ≤ n → EachNodeHasAtMost ns m → HasAtMost (sequence ns) n
unfolding bytes_val
sequence_most ns m n h have t slot = omega (arith, length-append (bytes_nodes t ns) (little_bytes 2 0), length_little 2 0, have t, h)

-- what a loop knows of all values where it has come to some of them
abbrev pub Above : Vals → Vals → ℕ → Type 0
Above all rest most = (n : ℕ) → HaveAtMost rest n → HaveAtMost all (most + n)

pub none_most : (t : Map) (ss : List Slot) → length (bytes_vals t ss no_vals) ≤ 0
unfolding bytes_vals
none_most t ss = omega arith

two_most : (v : Val) (vs : Vals) (m n : ℕ) → HasAtMost v m → HaveAtMost vs n → HaveAtMost (val v vs) (m + n)
unfolding bytes_vals
two_most v vs m n one others t [] = omega arith
two_most v vs m n one others t (s ∷ ss) = omega (arith, length-append (bytes_val t s v) (bytes_vals t ss vs), one t s, others t ss)

module _ (all : Vals) (values more : List Value) (v : Value) (most m : ℕ) where
  pub above_more : values ≡ v ∷ more → HasAtMost (plain v) m → Above all (vals_of (map plain values)) most → Above all (vals_of (map plain more)) (most + m)
  above_more p one above n others t ss =
      let here : HaveAtMost (vals_of (map plain values)) (m + n) = rw p (two_most (plain v) (vals_of (map plain more)) m n one others) in
      omega (arith, above (m + n) here t ss)

pub above_all : (all : Vals) (values : List Value) (most : ℕ) → values ≡ [] → Above all (vals_of (map plain values)) most → HaveAtMost all most
above_all all values most p above t ss =
    let none : HaveAtMost (vals_of (map plain values)) 0 = rw p none_most in
    omega (arith, above 0 none t ss)

-- the same of the elements of a list
abbrev pub AboveEach : Elems → Elems → ℕ → Type 0
AboveEach all rest most = (n : ℕ) → EachHasAtMost rest n → EachHasAtMost all (most + n)

no_elems_most : (t : Map) (index : ℕ) → length (bytes_elems t index no_elems) ≤ 0
unfolding bytes_elems
no_elems_most t index = omega arith

elem_most : (variant : Option ℕ) (vs : Vals) (es : Elems) (m n : ℕ) → HaveAtMost vs m → EachHasAtMost es n → EachHasAtMost (elem variant vs es) (m + 1 + n)
unfolding bytes_elems
elem_most variant vs es m n one others t index =
    let here : List ℕ = bytes_vals t (node_slots t index variant) vs in
    omega (arith, length-append (variant_byte variant ++ here) (bytes_elems t index es), length-append (variant_byte variant) here, variant_few variant, one t (node_slots t index variant), others t index)

pub vals_smaller : (values more : List Value) (v : Value) → values ≡ v ∷ more → (n : ℕ) → vals_size (vals_of (map plain values)) ≤ n → vals_size (vals_of (map plain more)) ≤ n
vals_smaller values more v p n h = let e = ap (λ (xs : List Value). vals_size (vals_of (map plain xs))) p in omega (arith, e)

pub elems_smaller : (items more : List Item) (item : Item) → items ≡ item ∷ more → (n : ℕ) → elems_size (elems_of items) ≤ n → elems_size (elems_of more) ≤ n
elems_smaller items more item p n h = let e = ap (λ (xs : List Item). elems_size (elems_of xs)) p in omega (arith, e)

pub each_more : (all : Elems) (items more : List Item) (item : Item) (most m : ℕ) → items ≡ item ∷ more → HaveAtMost item.args m → AboveEach all (elems_of items) most → AboveEach all (elems_of more) (most + m + 1)
each_more all items more item most m p one above n others t index =
    let here : EachHasAtMost (elems_of items) (m + 1 + n) = rw p (elem_most item.variant item.args (elems_of more) m n one others) in
    omega (arith, above (m + 1 + n) here t index)

pub each_all : (all : Elems) (items : List Item) (most : ℕ) → items ≡ [] → AboveEach all (elems_of items) most → EachHasAtMost all most
each_all all items most p above t index =
    let none : EachHasAtMost (elems_of items) 0 = rw p no_elems_most in
    omega (arith, above 0 none t index)

-- the same of the elements of a sequence
abbrev pub AboveNodes : Nodes → Nodes → ℕ → Type 0
AboveNodes all rest most = (n : ℕ) → EachNodeHasAtMost rest n → EachNodeHasAtMost all (most + n)

no_nodes_most : (t : Map) → length (bytes_nodes t no_nodes) ≤ 0
unfolding bytes_nodes
no_nodes_most t = omega arith

node_most : (index : ℕ) (variant : Option ℕ) (vs : Vals) (ns : Nodes) (m n : ℕ) → HaveAtMost vs m → EachNodeHasAtMost ns n → EachNodeHasAtMost (node index variant vs ns) (m + 3 + n)
unfolding bytes_nodes
node_most index variant vs ns m n one others t =
    let here : List ℕ = bytes_vals t (node_slots t index variant) vs in
    let head : List ℕ = little_bytes 2 index ++ variant_byte variant in
    omega (arith, length-append (head ++ here) (bytes_nodes t ns), length-append head here, length-append (little_bytes 2 index) (variant_byte variant), length_little 2 index, variant_few variant, one t (node_slots t index variant), others t)

pub nodes_smaller : (nodes more : List Node) (x : Node) → nodes ≡ x ∷ more → (n : ℕ) → nodes_size (nodes_of nodes) ≤ n → nodes_size (nodes_of more) ≤ n
nodes_smaller nodes more x p n h = let e = ap (λ (xs : List Node). nodes_size (nodes_of xs)) p in omega (arith, e)

pub each_node_more : (all : Nodes) (nodes more : List Node) (x : Node) (most m : ℕ) → nodes ≡ x ∷ more → HaveAtMost x.args m → AboveNodes all (nodes_of nodes) most → AboveNodes all (nodes_of more) (most + m + 3)
each_node_more all nodes more x most m p one above n others t =
    let here : EachNodeHasAtMost (nodes_of nodes) (m + 3 + n) = rw p (node_most x.index x.variant x.args (nodes_of more) m n one others) in
    omega (arith, above (m + 3 + n) here t)

pub each_node_all : (all : Nodes) (nodes : List Node) (most : ℕ) → nodes ≡ [] → AboveNodes all (nodes_of nodes) most → EachNodeHasAtMost all most
each_node_all all nodes most p above t =
    let none : EachNodeHasAtMost (nodes_of nodes) 0 = rw p no_nodes_most in
    omega (arith, above 0 none t)

stamp_most : (t : Map) (ss : List Slot) (stamp : Option ℕ) → length (bytes_vals t ss (stamp_args stamp)) ≤ 16
stamp_most t ss None = omega (arith, none_most t ss)
stamp_most t ss (Some n) = omega (arith, two_most (uint n) no_vals 16 0 (uint_most n) none_most t ss)

pub message_short : (t : Map) (place stamp : Option ℕ) (index : ℕ) (vs : Vals) (most : ℕ) → most ≤ 1980 → HaveAtMost vs most → length (message_of t place (stamp_args stamp) index vs) ≤ 2000
message_short t place stamp index vs most few have =
    let p : List ℕ = place_bytes place in
    let s : List ℕ = bytes_vals t (stamp_slots t (stamp_of t)) (stamp_args stamp) in
    let a : List ℕ = bytes_vals t (own_slots t index) vs in
    let whole = length-append (message_head index place s) a in
    let head = length-append (little_bytes 2 index) (p ++ s) in
    omega (arith, whole, head, length-append p s, length_little 2 index, place_few place, stamp_most t (stamp_slots t (stamp_of t)) stamp, have t (own_slots t index), few)

pub written : (old new message : List ℕ) (r : Result ℕ Long) → length message ≤ 2000 → Puts old new 0 r message → Writes old new r message
written old new message (Ok n) short w = record { message_is = w.front; length_is = omega (arith, w.end_is); short = w.fits; behind = w.behind }
written old new message (Err e) short far = absurd (omega (arith, short, far.long))

pub not_long : (message : List ℕ) → length message ≤ 2000 → false ≡ nat_lt 2000 (length message)
not_long message short = sym (le-ltb 2000 (length message) short)

pub is_long : (message : List ℕ) → 2000 < length message → true ≡ nat_lt 2000 (length message)
is_long message long = sym (lt-ltb 2000 (length message) long)

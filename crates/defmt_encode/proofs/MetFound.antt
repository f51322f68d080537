-- A cause that is answered is met.
use Rattle.std.proofs.Common.{◌≡◌, ◌<◌, ◌≤◌, inl, inr, ◌^◌, ◌+◌, ◌-◌, ◌*◌, ◌==◌, ℕ, zero, suc, Bool, true, false, List, [], ◌∷◌, ◌++◌, length, length-append, append_assoc, Option, Some, None, Ok, refl, sym, ap, ◌∙◌, subst, arith}
use Rattle.std.proofs.lemmas.Bool.{eqb-false}
use Rattle.std.specs.Str.{is_utf8}
use lib.Utf8.{scalar}
use Rattle.byteorder.specs.Endian.{little_bytes, twos_complement}
use Rattle.defmt_grammar.specs.Sizes.{float_bytes}
use Rattle.defmt_grammar.specs.declared.kind.FloatSize.{FloatSize}
use Rattle.defmt_grammar.specs.declared.kind.IntSize.{IntSize}
use Rattle.defmt_grammar.specs.declared.kind.Kind.TheVariants as kinds
use Rattle.defmt_grammar.specs.declared.piece.Piece.{Piece}
use Rattle.defmt_grammar.specs.declared.slot.Slot.{Slot}
use Rattle.defmt_grammar.specs.declared.slot.Slot.TheVariants as slots
use Rattle.defmt_intern.specs.Catalog.{Catalog}
use Rattle.defmt_intern.specs.Table.{Map}
use Rattle.defmt_intern.specs.declared.entry.Entry.{Entry}
use Rattle.defmt_intern.specs.declared.parsed.Parsed.{Parsed}
use Rattle.defmt_intern.specs.declared.parsed.Parsed.TheVariants.{Unsupported, Raw, One, Variants}
use Rattle.defmt_values.specs.Entries.{look, variant_at, Place, places_of}
use Rattle.defmt_values.specs.Fits.{IsForm}
use Rattle.defmt_values.specs.Plain.{uint, int, flag, char, str, istr, bytes, bits, format, seq, float, sequence, Vals, no_vals, val, no_elems, elem, no_nodes, node, elems_len}
use Rattle.defmt_encode.specs.Carry.{size_bytes, text_end, variant_byte, node_slots, stamp_slots, bytes_val, bytes_vals}
use Rattle.defmt_encode.specs.Fields.{IsNumber}
use Rattle.defmt_encode.specs.Met.{IsCut, HasForm, MetBool, MetChar, MetBytes, MetStr, MetShown, MetIstr, MetVariant, OneMet, Level, no_level, level, levels, MetEach, MetElem, MetElems, MetIndexed, MetNode, MetList, MetSome, MetMember, MetNodes, MetSlot, met_at, MetStamp, MetBehind, MetPlaced, Meets}
use Rattle.defmt_encode.specs.Placed.{place_bytes}
use Rattle.defmt_encode.specs.Read.{◌⇒◌, OneAt, number_at, signed_at, chunk_at, flag_of, char_of, text_of, bytes_at, text_at, interned_of, uint_at, int_at, flag_at, char_at, str_at, float_at, ended_at, shown_text_at, shown_at, istr_at, slice_at, array_at, window_at, there, variant_of, add, form_of, each_at, elem_at, elems_at, indexed_at, node_at, list_at, some_at, member_at, nodes_at, sequence_at, slot_at, value_at, logged_of, stamp_form, stamp_at, place_at, is_padding, padded, message_at}
use Rattle.defmt_intern.specs.Stamp.{stamp_of}
use Rattle.defmt_encode.specs.declared.cause.Cause.{Cause}
use Rattle.defmt_encode.specs.declared.cause.Cause.TheVariants as causes
use Rattle.defmt_encode.proofs.Chains.{refused, same_cause, bound, broken, not_chosen, add_found, add_broken, before_last}
use Rattle.defmt_encode.proofs.Ends.{ended_found, ended_broken}
use Rattle.defmt_encode.proofs.Entries.{interned_broken, form_found, form_broken, own_found, own_broken, stamp_found, stamp_broken}
use Rattle.defmt_encode.proofs.Finds.{Val3}
use Rattle.defmt_encode.proofs.FindsAll.{IsReader, Picked, Args3, Elem3, Elems3, variant_found, vals_more, vals_none, each_rest, each_found, elem_args, elem_variant, elem_found, elems_none, elems_more, elems_rest, IsBelow, member_found, Nodes3, nodes_none, nodes_more, nodes_tail, nodes_behind, nodes_rest, indexed_elem, node_rest, list_elems, list_form, value_found}
use Rattle.defmt_encode.proofs.Hears.{Message4, rest_end, rest_args, rest_stamp, rest_place, rest_own, stamp_rest, found_stamp}
use Rattle.defmt_encode.proofs.Numbers.{AreBytes, bytes_rest, number_found, chunk_found, number_cut, chunk_cut, length_little}
use Rattle.defmt_encode.proofs.Placing.{place_found, place_broken}
use Rattle.defmt_encode.proofs.Stamps.{stamp_entry}

-- whatever this reader refuses is met
abbrev pub IsRefuser : OneAt → OneMet → Type 0
IsRefuser one met = (slot : Slot) (w s : ℕ) (from : List ℕ) (c : Cause) → AreBytes from → one slot w s from ≡ refused Val3 c → met slot w s from c

-- ---- values without values inside

flag_wrong : (n : ℕ) (c : Cause) → flag_of n ≡ refused Bool c → (1 < n) × (c ≡ causes.BadBool)
flag_wrong zero c h = absurd (cc)
flag_wrong (suc zero) c h = absurd (cc)
flag_wrong (suc (suc n)) c h = (omega arith, sym (same_cause {A = Bool} causes.BadBool c h))

module _ (s : ℕ) (from : List ℕ) (c : Cause) (are : AreBytes from) where
  uint_broken : (size : IntSize) → uint_at size s from ≡ refused Val3 c → IsCut (size_bytes size) from c
  uint_broken size h = number_cut (size_bytes size) from c (before_last (number_at (size_bytes size) from) (λ r. (uint r.0, s, r.1)) c h)

  int_broken : (size : IntSize) → int_at size s from ≡ refused Val3 c → IsCut (size_bytes size) from c
  int_broken size h =
      let k : ℕ = size_bytes size in
      let a = before_last (signed_at k from) (λ r. (int r.0, s, r.1)) c h in
      number_cut k from c (before_last (number_at k from) (λ r. (twos_complement k r.0, r.1)) c a)

  flag_broken : flag_at s from ≡ refused Val3 c → MetBool from c
  flag_broken h = elim (broken (number_at 1 from) (λ r. flag_of r.0 ⇒ λ b. Ok (flag b, s, r.1)) c h) [
    | inl k ↦ inl (number_cut 1 from c k)
    | inr k ↦
        let p = flag_wrong k.0.0 c (before_last (flag_of k.0.0) (λ b. (flag b, s, k.0.1)) c k.2) in
        inr (k.0.0, k.0.1, number_found 1 from k.0 are k.1, p.0, p.1)
  ]

  char_broken : char_at s from ≡ refused Val3 c → MetChar from c
  char_broken h = elim (broken (number_at 4 from) (λ r. char_of r.0 ⇒ λ x. Ok (char x, s, r.1)) c h) [
    | inl k ↦ inl (number_cut 4 from c k)
    | inr k ↦
        let p = not_chosen (scalar k.0.0) k.0.0 causes.BadChar c (before_last (char_of k.0.0) (λ x. (char x, s, k.0.1)) c k.2) in
        inr (k.0.0, k.0.1, number_found 4 from k.0 are k.1, p.0, sym p.1)
  ]

  counted_broken : bytes_at from ≡ refused (List ℕ × List ℕ) c → MetBytes from c
  counted_broken h = elim (broken (number_at 4 from) (λ n. chunk_at n.0 n.1) c h) [
    | inl k ↦ inl (number_cut 4 from c k)
    | inr k ↦ inr (k.0.0, k.0.1, number_found 4 from k.0 are k.1, chunk_cut k.0.0 k.0.1 c k.2)
  ]

  text_broken : text_at from ≡ refused (List ℕ × List ℕ) c → MetStr from c
  text_broken h = elim (broken (bytes_at from) (λ r. text_of r.0 ⇒ λ text. Ok (text, r.1)) c h) [
    | inl k ↦ inl (counted_broken k)
    | inr k ↦
        let b = bound (number_at 4 from) (λ n. chunk_at n.0 n.1) k.0 k.1 in
        let p = not_chosen (is_utf8 k.0.0) k.0.0 causes.BadText c (before_last (text_of k.0.0) (λ text. (text, k.0.1)) c k.2) in
        inr (b.0.0, b.0.1, k.0.0, k.0.1, number_found 4 from b.0 are b.1, chunk_found b.0.0 b.0.1 k.0 b.2, p.0, sym p.1)
  ]

  str_broken : str_at s from ≡ refused Val3 c → MetStr from c
  str_broken h = text_broken (before_last (text_at from) (λ r. (str r.0, s, r.1)) c h)

  shown_broken : shown_at s from ≡ refused Val3 c → MetShown from c
  shown_broken h = elim (broken (ended_at from) (λ r. text_of r.0 ⇒ λ text. Ok (text, r.1)) c (before_last (shown_text_at from) (λ r. (str r.0, s, r.1)) c h)) [
    | inl k ↦ inl (ended_broken from c k)
    | inr k ↦
        let e = ended_found from k.0 k.1 in
        let p = not_chosen (is_utf8 k.0.0) k.0.0 causes.BadText c (before_last (text_of k.0.0) (λ text. (text, k.0.1)) c k.2) in
        inr (k.0.0, k.0.1, e.none, e.carries ∙ append_assoc k.0.0 (text_end ∷ []) k.0.1, p.0, sym p.1)
  ]

  float_broken : (size : FloatSize) → float_at size s from ≡ refused Val3 c → IsCut (float_bytes size) from c
  float_broken size h = number_cut (float_bytes size) from c (before_last (number_at (float_bytes size) from) (λ r. (float r.0, s, r.1)) c h)

  istr_broken : (t : Map) → istr_at t s from ≡ refused Val3 c → MetIstr t from c
  istr_broken t h = elim (broken (number_at 2 from) (λ i. interned_of (look t i.0) ⇒ λ _. Ok (istr i.0, s, i.1)) c h) [
    | inl k ↦ inl (number_cut 2 from c k)
    | inr k ↦ inr (k.0.0, k.0.1, number_found 2 from k.0 are k.1, interned_broken t k.0.0 c (before_last (interned_of (look t k.0.0)) (λ _. (istr k.0.0, s, k.0.1)) c k.2))
  ]

  slice_broken : slice_at s from ≡ refused Val3 c → MetBytes from c
  slice_broken h = counted_broken (before_last (bytes_at from) (λ r. (bytes r.0, s, r.1)) c h)

  array_broken : (count : ℕ) → array_at count s from ≡ refused Val3 c → IsCut count from c
  array_broken count h = chunk_cut count from c (before_last (chunk_at count from) (λ r. (bytes r.0, s, r.1)) c h)

  window_broken : (first width : ℕ) → window_at first width s from ≡ refused Val3 c → IsCut width from c
  window_broken first width h = number_cut width from c (before_last (number_at width from) (λ r. (bits (r.0 * 256 ^ first), s, r.1)) c h)

-- ---- variants

not_there : (o : Option (List Piece)) (c : Cause) → there o ≡ refused (List Piece) c → (o ≡ None) × (c ≡ causes.BadVariant)
not_there None c h = (refl, sym (same_cause {A = List Piece} causes.BadVariant c h))
not_there (Some ps) c h = absurd (cc)

variant_broken : (form : Parsed) (from : List ℕ) (c : Cause) → HasForm form → AreBytes from → variant_of form from ≡ refused Picked c → MetVariant form from c
variant_broken Unsupported from c f h e = absurd f
variant_broken Raw from c f h e = absurd f
variant_broken (One ps) from c f h e = absurd (cc)
variant_broken (Variants forms) from c f h e = elim (broken (number_at 1 from) (λ v. there (variant_at forms v.0) ⇒ λ ps. Ok (Some v.0, ps, v.1)) c e) [
  | inl k ↦ inl (number_cut 1 from c k)
  | inr k ↦
      let p = not_there (variant_at forms k.0.0) c (before_last (there (variant_at forms k.0.0)) (λ ps. (Some k.0.0, ps, k.0.1)) c k.2) in
      inr (k.0.0, k.0.1, number_found 1 from k.0 h k.1, p.0, p.1)
]

-- ---- arguments and elements

module _ (t : Map) (left : ℕ) (one : OneAt) (met : OneMet) (is : IsReader t left one) (refuses : IsRefuser one met) where
  each_broken : (places : List Place) (w s : ℕ) (from : List ℕ) (c : Cause) → AreBytes from → each_at one places w s from ≡ refused Args3 c → MetEach t left met places w s from c
  unfolding each_at
  each_broken [] w s from c h e = absurd (cc)
  each_broken (x ∷ xs) w s from c h e = elim (broken (one x.slot (x.uses * w) s from) (each_rest one xs w) c e) [
    | inl k ↦ record {
      front = [];
      place = x;
      others = xs;
      places_is = refl;
      values = no_vals;
      sum = s;
      rest = from;
      found = vals_none t left w s from;
      met = refuses x.slot (x.uses * w) s from c h k;
    }
    | inr k ↦
        let a : Val3 = k.0 in
        let first = is x.slot (x.uses * w) s from a h k.1 in
        let m = each_broken xs w a.1 a.2 c (bytes_rest from (bytes_val t x.slot a.0) a.2 h first.carries) (before_last (each_at one xs w a.1 a.2) (λ r. (val a.0 r.0, r.1, r.2)) c k.2) in
        record {
          front = x ∷ m.front;
          place = m.place;
          others = m.others;
          places_is = ap (λ (ps : List Place). x ∷ ps) m.places_is;
          values = val a.0 m.values;
          sum = m.sum;
          rest = m.rest;
          found = vals_more t left w s x m.front from a (m.values, m.sum, m.rest) first m.found;
          met = m.met;
        }
  ]

  elem_broken : (form : Parsed) (w s : ℕ) (from : List ℕ) (c : Cause) → HasForm form → AreBytes from → elem_at one form w s from ≡ refused Elem3 c → MetElem t left met form w s from c
  elem_broken form w s from c f h e = elim (broken (add w s) (elem_variant one form w from) c e) [
    | inl k ↦ let p = add_broken w s c k in inl (p.0, sym p.1)
    | inr k ↦
        let p = add_found w s k.0 k.1 in
        elim (broken (variant_of form from) (elem_args one w k.0) c k.2) [
          | inl l ↦ inr (inl (p.0, variant_broken form from c f h l))
          | inr l ↦
              let v : Picked = l.0 in
              let i = variant_found form from v h l.1 in
              let m = each_broken (places_of v.1) w k.0 v.2 c (bytes_rest from (variant_byte v.0) v.2 h i.carries) (before_last (each_at one (places_of v.1) w k.0 v.2) (λ a. ((v.0, a.0), a.1, a.2)) c l.2) in
              inr (inr (v.0, v.1, v.2, p.0, i.has, i.carries, subst (λ (u : ℕ). MetEach t left met (places_of v.1) w u v.2 c) (sym p.1) m))
        ]
  ]

  elems_broken : (index : ℕ) (form : Parsed) (n w s : ℕ) (from : List ℕ) (c : Cause) → IsForm t index form → HasForm form → AreBytes from → elems_at one form n w s from ≡ refused Elems3 c → MetElems t left met index form n w s from c
  unfolding elems_at
  elems_broken index form zero w s from c i f h e = absurd (cc)
  elems_broken index form (suc n) w s from c i f h e = elim (broken (elem_at one form w s from) (elems_rest one form n w) c e) [
    | inl k ↦ record { elems = no_elems; few = omega arith; sum = s; rest = from; found = elems_none t left index form w s from; met = elem_broken form w s from c f h k }
    | inr k ↦
        let a : Elem3 = k.0 in
        let first = elem_found t left index form one is i w s from a h k.1 in
        let front : List ℕ = variant_byte a.0.0 ++ bytes_vals t (node_slots t index a.0.0) a.0.1 in
        let m = elems_broken index form n w a.1 a.2 c i f (bytes_rest from front a.2 h first.carries) (before_last (elems_at one form n w a.1 a.2) (λ r. (elem a.0.0 a.0.1 r.0, r.1, r.2)) c k.2) in
        let few : elems_len m.elems + 1 < suc n = let l = m.few in omega (arith, l) in
        record { elems = elem a.0.0 a.0.1 m.elems; few = few; sum = m.sum; rest = m.rest; found = elems_more t left index form w s from a (m.elems, m.sum, m.rest) first m.found; met = m.met }
  ]

  indexed_broken : (index w s : ℕ) (from : List ℕ) (c : Cause) → AreBytes from → indexed_at t one index w s from ≡ refused Elem3 c → MetIndexed t left met index w s from c
  indexed_broken index w s from c h e = elim (broken (form_of t.language (look t index)) (indexed_elem one w s from) c e) [
    | inl l ↦ inl (form_broken t index c l)
    | inr l ↦ let f = form_found t index l.0 l.1 in inr (l.0, f.0, f.1, elem_broken l.0 w s from c f.1 h l.2)
  ]

  node_broken : (w s : ℕ) (from : List ℕ) (c : Cause) → AreBytes from → node_at t one w s from ≡ refused Val3 c → MetNode t left met w s from c
  node_broken w s from c h e = elim (broken (number_at 2 from) (node_rest t one w s) c e) [
    | inl k ↦ inl (number_cut 2 from c k)
    | inr k ↦
        let n = number_found 2 from k.0 h k.1 in
        inr (k.0.0, k.0.1, n, indexed_broken k.0.0 w s k.0.1 c (bytes_rest from (little_bytes 2 k.0.0) k.0.1 h n.carries) (before_last (indexed_at t one k.0.0 w s k.0.1) (λ e. (format k.0.0 e.0.0 e.0.1, e.1, e.2)) c k.2))
  ]

  list_broken : (count w s : ℕ) (from : List ℕ) (c : Cause) → AreBytes from → list_at t one count w s from ≡ refused Val3 c → MetList t left met count w s from c
  list_broken count w s from c h e = elim (broken (number_at 2 from) (list_form t one count w s) c e) [
    | inl k ↦ inl (number_cut 2 from c k)
    | inr k ↦
        let i : ℕ = k.0.0 in
        let n = number_found 2 from k.0 h k.1 in
        elim (broken (form_of t.language (look t i)) (list_elems one count w s k.0) c k.2) [
          | inl l ↦ inr (inl (i, k.0.1, n, form_broken t i c l))
          | inr l ↦
              let f = form_found t i l.0 l.1 in
              inr (inr (i, k.0.1, l.0, n, f.0, f.1, elems_broken i l.0 count w s k.0.1 c f.0 f.1 (bytes_rest from (little_bytes 2 i) k.0.1 h n.carries) (before_last (elems_at one l.0 count w s k.0.1) (λ r. (seq (Some i) r.0, r.1, r.2)) c l.2)))
        ]
  ]

-- the reader and what is refused one level below belong together
abbrev IsLevel : Map → ℕ → Option OneAt → Level → Type 0
IsLevel t left None no_level = Unit {0}
IsLevel t left (Some one) (level met) = IsReader t left one × IsRefuser one met
IsLevel t left one l = ⊥

some_broken : (t : Map) (left count : ℕ) (one : Option OneAt) (l : Level) → IsLevel t left one l → (w s : ℕ) (from : List ℕ) (c : Cause) → AreBytes from → some_at t one count w s from ≡ refused Val3 c → MetSome t left l count w s from c
some_broken t left zero one l b w s from c h e = absurd (cc)
some_broken t left (suc n) None no_level b w s from c h e = sym (same_cause {A = Val3} causes.Deep c e)
some_broken t left (suc n) None (level met) b w s from c h e = absurd b
some_broken t left (suc n) (Some one) no_level b w s from c h e = absurd b
some_broken t left (suc n) (Some one) (level met) b w s from c h e = list_broken t left one met b.0 b.1 (suc n) w s from c h e

below_level : (t : Map) (left : ℕ) (one : Option OneAt) (l : Level) → IsLevel t left one l → IsBelow t (levels l left) one
below_level t left None no_level b = tt
below_level t left None (level met) b = absurd b
below_level t left (Some one) no_level b = absurd b
below_level t left (Some one) (level met) b =
    let k : left ≡ suc left - 1 = omega arith in
    (omega arith, subst (λ (n : ℕ). IsReader t n one) k b.0)

member_broken : (t : Map) (left : ℕ) (one : Option OneAt) (l : Level) → IsLevel t left one l → (index w s : ℕ) (from : List ℕ) (c : Cause) → AreBytes from → member_at t one index w s from ≡ refused Elem3 c → MetMember t left l index w s from c
member_broken t left None no_level b index w s from c h e = sym (same_cause {A = Elem3} causes.Deep c e)
member_broken t left None (level met) b index w s from c h e = absurd b
member_broken t left (Some one) no_level b index w s from c h e = absurd b
member_broken t left (Some one) (level met) b index w s from c h e = indexed_broken t left one met b.0 b.1 index w s from c h e

module _ (t : Map) (left : ℕ) (one : Option OneAt) (l : Level) (b : IsLevel t left one l) where
  behind_broken_by : (n w s : ℕ) (from : List ℕ) (i : ℕ × List ℕ) (c : Cause) (d : Bool) → (i.0 == 0) ≡ d → AreBytes from → length from ≤ suc n → IsNumber 2 i.0 from i.1
      → ((s : ℕ) (from : List ℕ) (c : Cause) → AreBytes from → length from ≤ n → nodes_at t one n w s from ≡ refused Nodes3 c → MetNodes t left l w s from c)
      → nodes_behind t one n w s i d ≡ refused Nodes3 c → MetNodes t left l w s from c
  behind_broken_by n w s from i c true z h few k ih e = absurd (cc)
  behind_broken_by n w s from i c false z h few k ih e =
      let some : 0 < i.0 = let ne = eqb-false i.0 0 z in omega (arith, ne) in
      let h1 = bytes_rest from (little_bytes 2 i.0) i.1 h k.carries in
      elim (broken (member_at t one i.0 w s i.1) (nodes_tail t one n w i.0) c e) [
        | inl p ↦ record {
          nodes = no_nodes;
          sum = s;
          rest = from;
          found = nodes_none t (levels l left) w s from;
          met = inr (i.0, i.1, k, some, member_broken t left one l b i.0 w s i.1 c h1 p);
        }
        | inr p ↦
            let a : Elem3 = p.0 in
            let first = member_found t (levels l left) one (below_level t left one l b) i.0 w s i.1 a h1 p.1 in
            let front : List ℕ = variant_byte a.0.0 ++ bytes_vals t (node_slots t i.0 a.0.0) a.0.1 in
            let shorter : length a.2 ≤ n = omega (arith, few, ap (λ (x : List ℕ). length x) k.carries, length-append (little_bytes 2 i.0) i.1, length_little 2 i.0, ap (λ (x : List ℕ). length x) first.elem.carries, length-append front a.2) in
            let m = ih a.1 a.2 c (bytes_rest i.1 front a.2 h1 first.elem.carries) shorter (before_last (nodes_at t one n w a.1 a.2) (λ r. (node i.0 a.0.0 a.0.1 r.0, r.1, r.2)) c p.2) in
            record {
              nodes = node i.0 a.0.0 a.0.1 m.nodes;
              sum = m.sum;
              rest = m.rest;
              found = nodes_more t (levels l left) i.0 w s from i.1 a (m.nodes, m.sum, m.rest) k some first m.found;
              met = m.met;
            }
      ]

  nodes_broken : (n w s : ℕ) (from : List ℕ) (c : Cause) → AreBytes from → length from ≤ n → nodes_at t one n w s from ≡ refused Nodes3 c → MetNodes t left l w s from c
  unfolding nodes_at
  nodes_broken zero w s from c h few e = record {
    nodes = no_nodes;
    sum = s;
    rest = from;
    found = nodes_none t (levels l left) w s from;
    met = inl (omega (arith, few), sym (same_cause {A = Nodes3} causes.Short c e));
  }
  nodes_broken (suc n) w s from c h few e = elim (broken (number_at 2 from) (nodes_rest t one n w s) c e) [
    | inl k ↦ record { nodes = no_nodes; sum = s; rest = from; found = nodes_none t (levels l left) w s from; met = inl (number_cut 2 from c k) }
    | inr k ↦ behind_broken_by n w s from k.0 c (k.0.0 == 0) refl h few (number_found 2 from k.0 h k.1) (λ s from c. nodes_broken n w s from c) k.2
  ]

  sequence_broken : (w s : ℕ) (from : List ℕ) (c : Cause) → AreBytes from → sequence_at t one w s from ≡ refused Val3 c → MetNodes t left l w s from c
  sequence_broken w s from c h e = nodes_broken (length from) w s from c h (omega arith) (before_last (nodes_at t one (length from) w s from) (λ r. (sequence r.0, r.1, r.2)) c e)

slot_broken : (t : Map) (left : ℕ) (one : Option OneAt) (l : Level) → IsLevel t left one l → (slot : Slot) (w s : ℕ) (from : List ℕ) (c : Cause) → AreBytes from → slot_at t one slot w s from ≡ refused Val3 c → MetSlot t left l slot w s from c
slot_broken t left one l b (slots.One (kinds.Uint size)) w s from c h e = uint_broken s from c h size e
slot_broken t left one l b (slots.One (kinds.Int size)) w s from c h e = int_broken s from c h size e
slot_broken t left one l b (slots.One kinds.Bool) w s from c h e = flag_broken s from c h e
slot_broken t left one l b (slots.One kinds.Char) w s from c h e = char_broken s from c h e
slot_broken t left one l b (slots.One kinds.Str) w s from c h e = str_broken s from c h e
slot_broken t left one l b (slots.One kinds.Istr) w s from c h e = istr_broken s from c h t e
slot_broken t left one l b (slots.One kinds.Bytes) w s from c h e = slice_broken s from c h e
slot_broken t left one l b (slots.One (kinds.ByteArray count)) w s from c h e = array_broken s from c h count e
slot_broken t left None no_level b (slots.One kinds.Format) w s from c h e = sym (same_cause {A = Val3} causes.Deep c e)
slot_broken t left None (level met) b (slots.One kinds.Format) w s from c h e = absurd b
slot_broken t left (Some one) no_level b (slots.One kinds.Format) w s from c h e = absurd b
slot_broken t left (Some one) (level met) b (slots.One kinds.Format) w s from c h e = node_broken t left one met b.0 b.1 w s from c h e
slot_broken t left one l b (slots.One kinds.FormatSlice) w s from c h e = elim (broken (number_at 4 from) (λ n. some_at t one n.0 w s n.1) c e) [
  | inl k ↦ inl (number_cut 4 from c k)
  | inr k ↦
      let n = number_found 4 from k.0 h k.1 in
      inr (k.0.0, k.0.1, n, some_broken t left k.0.0 one l b w s k.0.1 c (bytes_rest from (little_bytes 4 k.0.0) k.0.1 h n.carries) k.2)
]
slot_broken t left one l b (slots.One (kinds.FormatArray count)) w s from c h e = some_broken t left count one l b w s from c h e
slot_broken t left one l b (slots.One (kinds.Bits lo hi)) w s from c h e = sym (same_cause {A = Val3} causes.Short c e)
slot_broken t left one l b (slots.One (kinds.Float size)) w s from c h e = float_broken s from c h size e
slot_broken t left one l b (slots.One kinds.Debug) w s from c h e = shown_broken s from c h e
slot_broken t left one l b (slots.One kinds.Display) w s from c h e = shown_broken s from c h e
slot_broken t left one l b (slots.One kinds.Sequence) w s from c h e = sequence_broken t left one l b w s from c h e
slot_broken t left one l b (slots.Bits first width) w s from c h e = window_broken s from c h first width e

pub value_broken : (t : Map) (left : ℕ) → IsRefuser (value_at t left) (met_at t left)
unfolding value_at met_at
value_broken t zero = λ slot w s from c h e. slot_broken t zero None no_level tt slot w s from c h e
value_broken t (suc left) = λ slot w s from c h e. slot_broken t left (Some (value_at t left)) (level (met_at t left)) (value_found t left, value_broken t left) slot w s from c h e

-- ---- messages

-- the arguments of a text of its own
own_broken_args : (t : Map) (places : List Place) (from : List ℕ) (c : Cause) → AreBytes from → each_at (value_at t 16) places 1 0 from ≡ refused Args3 c → MetEach t 16 (met_at t 16) places 1 0 from c
own_broken_args t places from c h e = each_broken t 16 (value_at t 16) (met_at t 16) (value_found t 16) (value_broken t 16) places 1 0 from c h e

stamp_broken_by : (t : Map) (o : Option ℕ) (from : List ℕ) (c : Cause) → stamp_of t ≡ o → AreBytes from → stamp_at t o from ≡ refused (Vals × List ℕ) c → MetStamp t o from c
stamp_broken_by t None from c s h e = absurd (cc)
stamp_broken_by t (Some index) from c s h e =
    let entry = stamp_entry t index s in
    let e' : (stamp_form t.language (Some entry.0) ⇒ stamp_rest t from) ≡ refused (Vals × List ℕ) c = ap (λ (o : Option Entry). stamp_form t.language o ⇒ stamp_rest t from) (sym entry.1) ∙ e in
    elim (broken (stamp_form t.language (Some entry.0)) (stamp_rest t from) c e') [
      | inl k ↦ let p = stamp_broken t.language entry.0 c k in inl (entry.0, entry.1, p.0, p.1)
      | inr k ↦ inr (entry.0, k.0, entry.1, stamp_found t.language entry.0 k.0 k.1, own_broken_args t (places_of k.0) from c h (before_last (each_at (value_at t 16) (places_of k.0) 1 0 from) (λ r. (r.0, r.2)) c k.2))
    ]

behind_broken : (t : Map) (i : ℕ) (ps : List Piece) (place : Option ℕ) (from : List ℕ) (c : Cause) → AreBytes from → (stamp_at t (stamp_of t) from ⇒ rest_args t i ps place) ≡ refused Message4 c → MetBehind t ps from c
behind_broken t i ps place from c h e = elim (broken (stamp_at t (stamp_of t) from) (rest_args t i ps place) c e) [
  | inl k ↦ inl (stamp_broken_by t (stamp_of t) from c refl h k)
  | inr k ↦
      let s = found_stamp t from k.0 h k.1 in
      let g = bytes_rest from (bytes_vals t (stamp_slots t (stamp_of t)) k.0.0) k.0.1 h s.carries in
      elim (broken (each_at (value_at t 16) (places_of ps) 1 0 k.0.1) (rest_end i place k.0.0) c k.2) [
        | inl l ↦ inr (inl (k.0.0, k.0.1, s, own_broken_args t (places_of ps) k.0.1 c g l))
        | inr l ↦
            let f = each_found t 16 (value_at t 16) (value_found t 16) (places_of ps) 1 0 k.0.1 l.0 g l.1 in
            let p = not_chosen (is_padding l.0.2) tt causes.Trailing c (before_last (padded l.0.2) (λ _. (place, k.0.0, i, l.0.0)) c l.2) in
            inr (inr (k.0.0, k.0.1, l.0.0, l.0.1, l.0.2, s, f, p.0, sym p.1))
      ]
]

placed_broken : (t : Catalog) (i : ℕ) (ps : List Piece) (from : List ℕ) (c : Cause) → AreBytes from → (place_at t.profile from ⇒ rest_stamp t.entries i ps) ≡ refused Message4 c → MetPlaced t ps from c
placed_broken t i ps from c h e = elim (broken (place_at t.profile from) (rest_stamp t.entries i ps) c e) [
  | inl k ↦ inl (place_broken t.profile from c k)
  | inr k ↦
      let q = place_found t.profile from k.0 h k.1 in
      inr (k.0.0, k.0.1, q, behind_broken t.entries i ps k.0.0 k.0.1 c (bytes_rest from (place_bytes k.0.0) k.0.1 h q.carries) k.2)
]

pub met_found : (t : Catalog) (from : List ℕ) (c : Cause) → AreBytes from → message_at t from ≡ refused Message4 c → Meets t from c
met_found t from c h e = elim (broken (number_at 2 from) (rest_own t) c e) [
  | inl k ↦ inl (number_cut 2 from c k)
  | inr k ↦
      let i : ℕ = k.0.0 in
      let n = number_found 2 from k.0 h k.1 in
      elim (broken (logged_of t.entries.language (look t.entries i)) (rest_place t k.0) c k.2) [
        | inl l ↦ inr (inl (i, k.0.1, n, own_broken t.entries i c l))
        | inr l ↦ inr (inr (i, k.0.1, l.0, n, own_found t.entries i l.0 l.1, placed_broken t i l.0 k.0.1 c (bytes_rest from (little_bytes 2 i) k.0.1 h n.carries) l.2))
      ]
]

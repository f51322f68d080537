-- What is read is carried by the bytes: arguments, elements, Format values and lists of them.
use Rattle.std.proofs.Common.{◌≡◌, ◌<◌, ◌⊎◌, inl, inr, ◌+◌, ◌-◌, ◌*◌, ◌%◌, ◌==◌, ℕ, zero, suc, Bool, true, false, List, [], ◌∷◌, ◌++◌, length, Option, Some, None, Ok, if◌then◌else◌, refl, sym, ap, ◌∙◌, subst, arith, append_assoc}
use Rattle.std.proofs.lemmas.Bool.{eqb-true, eqb-false}
use Rattle.byteorder.specs.Endian.{little_bytes}
use Rattle.defmt_grammar.specs.declared.kind.Kind.TheVariants as kinds
use Rattle.defmt_grammar.specs.declared.piece.Piece.{Piece}
use Rattle.defmt_grammar.specs.declared.slot.Slot.{Slot}
use Rattle.defmt_grammar.specs.declared.slot.Slot.TheVariants as slots
use Rattle.defmt_intern.specs.Table.{Map}
use Rattle.defmt_intern.specs.declared.parsed.Parsed.{Parsed}
use Rattle.defmt_intern.specs.declared.parsed.Parsed.TheVariants.{Unsupported, Raw, One, Variants}
use Rattle.defmt_values.specs.Entries.{look, variant_at, Place, places_of}
use Rattle.defmt_values.specs.Fits.{IsForm, HasPieces, IsList, FitsVals, FitsElems, weigh_val, weigh_vals, weigh_elems, weigh_nodes}
use Rattle.defmt_values.specs.Plain.{Val, format, seq, sequence, Vals, no_vals, val, Elems, no_elems, elem, Nodes, no_nodes, node, elems_len}
use Rattle.defmt_values.specs.Scan.{node_places, index_or}
use Rattle.defmt_values.proofs.Forms.{places_are, variant_small}
use Rattle.defmt_encode.specs.Carry.{variant_byte, count_bytes, index_bytes, node_slots, slots_at, bytes_val, bytes_vals, bytes_elems, bytes_nodes}
use Rattle.defmt_encode.specs.Fields.{IsNumber, Sums, FoundVal, FoundVals, FoundElems, FoundNodes}
use Rattle.defmt_encode.specs.Lengths.{LengthsFit, ElemsLengthsFit}
use Rattle.defmt_encode.specs.Read.{Read, ◌⇒◌, OneAt, number_at, there, variant_of, add, form_of, each_at, elem_at, elems_at, indexed_at, node_at, list_at, some_at, member_at, nodes_at, sequence_at, slot_at, value_at}
use Rattle.defmt_values.specs.Sound.{AreSound, ElemsSound}
use Rattle.defmt_encode.proofs.Chains.{done, same, bound, add_found}
use Rattle.defmt_encode.proofs.Entries.{form_found, node_slots_are}
use Rattle.defmt_encode.proofs.Finds.{Val3, val_to, leaf, uint_found, int_found, flag_found, char_found, str_found, shown_found, float_found, istr_found, slice_found, array_found, window_found}
use Rattle.defmt_encode.proofs.Numbers.{AreBytes, bytes_rest, number_found}

-- whatever this reader reads is carried by the bytes
abbrev pub IsReader : Map → ℕ → OneAt → Type 0
IsReader t left one = (slot : Slot) (w s : ℕ) (from : List ℕ) (y : Val3) → AreBytes from → one slot w s from ≡ done y → FoundVal t left slot w s y.1 y.0 from y.2

-- ---- variants

abbrev pub Picked : Type 0
Picked = Option ℕ × List Piece × List ℕ

pub record HasVariant (form : Parsed) (v : Picked) (from : List ℕ) : Type 0 where
  pub has : HasPieces form v.0 v.1
  pub carries : from ≡ variant_byte v.0 ++ v.2

there_found : (o : Option (List Piece)) (ps : List Piece) → there o ≡ done ps → o ≡ Some ps
there_found None ps h = absurd (cc)
there_found (Some qs) ps h = ap (λ q. Some q) (same qs ps h)

pub one_byte : (v : ℕ) → v < 256 → little_bytes 1 v ≡ v ∷ []
one_byte v h = let e : v % 256 ≡ v = omega (arith, h) in ap (λ (x : ℕ). x ∷ []) e

pub variant_found : (form : Parsed) (from : List ℕ) (y : Picked) → AreBytes from → variant_of form from ≡ done y → HasVariant form y from
variant_found Unsupported from y h e = absurd (cc)
variant_found Raw from y h e = absurd (cc)
variant_found (One ps) from y h e =
    let i : HasVariant (One ps) (None, ps, from) from = record { has = refl; carries = refl } in
    subst (λ (p : Picked). HasVariant (One ps) p from) (same (None, ps, from) y e) i
variant_found (Variants forms) from y h e =
    let b0 = bound (number_at 1 from) (λ v. there (variant_at forms v.0) ⇒ λ ps. Ok (Some v.0, ps, v.1)) y e in
    let b1 = bound (there (variant_at forms b0.0.0)) (λ ps. Ok (Some b0.0.0, ps, b0.0.1)) y b0.2 in
    let n = number_found 1 from b0.0 h b0.1 in
    let o = there_found (variant_at forms b0.0.0) b1.0 b1.1 in
    let i : HasVariant (Variants forms) (Some b0.0.0, b1.0, b0.0.1) from = record {
      has = (forms, refl, o);
      carries = n.carries ∙ ap (λ (x : List ℕ). x ++ b0.0.1) (one_byte b0.0.0 (variant_small forms b0.0.0 b1.0 o));
    } in
    subst (λ (p : Picked). HasVariant (Variants forms) p from) (same (Some b0.0.0, b1.0, b0.0.1) y b1.2) i

-- ---- joining

pub joined : (from a b mid rest : List ℕ) → from ≡ a ++ mid → mid ≡ b ++ rest → from ≡ (a ++ b) ++ rest
joined from a b mid rest p q = p ∙ ap (λ (x : List ℕ). a ++ x) q ∙ sym (append_assoc a b rest)

pub two_sums : (s a b m r : ℕ) → Sums s a m → Sums m b r → Sums s (a + b) r
two_sums s a b m r x y = record { sum = omega (arith, x.sum, y.sum); kept = λ h. y.kept (x.kept h) }

-- ---- the values of places

abbrev pub Args3 : Type 0
Args3 = Vals × ℕ × List ℕ

-- one more value behind fitting ones
pub vals_more : (t : Map) (left w s : ℕ) (x : Place) (xs : List Place) (from : List ℕ) (v : Val3) (r : Args3) → FoundVal t left x.slot (x.uses * w) s v.1 v.0 from v.2 → FoundVals t left xs w v.1 r.1 r.0 v.2 r.2 → FoundVals t left (x ∷ xs) w s r.1 (val v.0 r.0) from r.2
unfolding bytes_vals
vals_more t left w s x xs from v r first more = record {
  fits = (x, xs, refl, first.fits, more.fits);
  sound = (first.sound, more.sound);
  lengths = (first.lengths, more.lengths);
  sums = two_sums s (weigh_val t (x.uses * w) v.0) (weigh_vals t xs w r.0) v.1 r.1 first.sums more.sums;
  carries = joined from (bytes_val t x.slot v.0) (bytes_vals t (slots_at xs) r.0) v.2 r.2 first.carries more.carries;
}

pub vals_none : (t : Map) (left w s : ℕ) (from : List ℕ) → FoundVals t left [] w s s no_vals from from
unfolding bytes_vals
vals_none t left w s from = record { fits = refl; sound = tt; lengths = tt; sums = leaf s; carries = refl }

abbrev pub each_rest : OneAt → List Place → ℕ → Val3 → Read Args3
each_rest one xs w h = each_at one xs w h.1 h.2 ⇒ λ r. Ok (val h.0 r.0, r.1, r.2)

pub each_found : (t : Map) (left : ℕ) (one : OneAt) → IsReader t left one → (places : List Place) (w s : ℕ) (from : List ℕ) (y : Args3) → AreBytes from → each_at one places w s from ≡ done y → FoundVals t left places w s y.1 y.0 from y.2
unfolding each_at
each_found t left one is [] w s from y h e = subst (λ (p : Args3). FoundVals t left [] w s p.1 p.0 from p.2) (same (no_vals, s, from) y e) (vals_none t left w s from)
each_found t left one is (x ∷ xs) w s from y h e =
    let b0 = bound (one x.slot (x.uses * w) s from) (each_rest one xs w) y e in
    let b1 = bound (each_at one xs w b0.0.1 b0.0.2) (λ r. Ok (val b0.0.0 r.0, r.1, r.2)) y b0.2 in
    let first = is x.slot (x.uses * w) s from b0.0 h b0.1 in
    let more = each_found t left one is xs w b0.0.1 b0.0.2 b1.0 (bytes_rest from (bytes_val t x.slot b0.0.0) b0.0.2 h first.carries) b1.1 in
    subst (λ (p : Args3). FoundVals t left (x ∷ xs) w s p.1 p.0 from p.2) (same (val b0.0.0 b1.0.0, b1.0.1, b1.0.2) y b1.2)
    (vals_more t left w s x xs from b0.0 b1.0 first more)

-- ---- elements

abbrev pub Elem3 : Type 0
Elem3 = (Option ℕ × Vals) × ℕ × List ℕ

pub record FoundElem (t : Map) (left index : ℕ) (form : Parsed) (w s : ℕ) (y : Elem3) (from : List ℕ) : Type 0 where
  pub pieces : List Piece
  pub has : HasPieces form y.0.0 pieces
  pub fits : FitsVals t left (places_of pieces) y.0.1
  pub sound : AreSound y.0.1
  pub lengths : LengthsFit t (node_slots t index y.0.0) y.0.1
  pub sums : Sums s (w + weigh_vals t (node_places t index y.0.0) w y.0.1) y.1
  pub carries : from ≡ (variant_byte y.0.0 ++ bytes_vals t (node_slots t index y.0.0) y.0.1) ++ y.2

abbrev pub elem_args : OneAt → ℕ → ℕ → Picked → Read Elem3
elem_args one w s v = each_at one (places_of v.1) w s v.2 ⇒ λ a. Ok ((v.0, a.0), a.1, a.2)

abbrev pub elem_variant : OneAt → Parsed → ℕ → List ℕ → ℕ → Read Elem3
elem_variant one form w from s = variant_of form from ⇒ elem_args one w s

pub elem_found : (t : Map) (left index : ℕ) (form : Parsed) (one : OneAt) → IsReader t left one → IsForm t index form → (w s : ℕ) (from : List ℕ) (y : Elem3) → AreBytes from → elem_at one form w s from ≡ done y → FoundElem t left index form w s y from
elem_found t left index form one is f w s from y h e =
    let b0 = bound (add w s) (elem_variant one form w from) y e in
    let b1 = bound (variant_of form from) (elem_args one w b0.0) y b0.2 in
    let b2 = bound (each_at one (places_of b1.0.1) w b0.0 b1.0.2) (λ a. Ok ((b1.0.0, a.0), a.1, a.2)) y b1.2 in
    let v : Picked = b1.0 in
    let a : Args3 = b2.0 in
    let m = add_found w s b0.0 b0.1 in
    let p = variant_found form from v h b1.1 in
    let k = each_found t left one is (places_of v.1) w b0.0 v.2 a (bytes_rest from (variant_byte v.0) v.2 h p.carries) b2.1 in
    let sl : slots_at (places_of v.1) ≡ node_slots t index v.0 = sym (node_slots_are t index form v.0 v.1 f p.has) in
    let n_is : weigh_vals t (node_places t index v.0) w a.0 ≡ weigh_vals t (places_of v.1) w a.0 = ap (λ q. weigh_vals t q w a.0) (places_are t index form v.0 v.1 f p.has) in
    let i : FoundElem t left index form w s ((v.0, a.0), a.1, a.2) from = record {
      pieces = v.1;
      has = p.has;
      fits = k.fits;
      sound = k.sound;
      lengths = subst (λ (q : List Slot). LengthsFit t q a.0) sl k.lengths;
      sums = record { sum = omega (arith, m.1, k.sums.sum, n_is); kept = λ z. k.sums.kept (omega (arith, m.0, m.1)) };
      carries = joined from (variant_byte v.0) (bytes_vals t (node_slots t index v.0) a.0) v.2 a.2 p.carries (k.carries ∙ ap (λ q. bytes_vals t q a.0 ++ a.2) sl);
    } in
    subst (λ (q : Elem3). FoundElem t left index form w s q from) (same ((v.0, a.0), a.1, a.2) y b2.2) i

abbrev pub Elems3 : Type 0
Elems3 = Elems × ℕ × List ℕ

abbrev pub FoundCount : Map → ℕ → ℕ → Parsed → ℕ → ℕ → ℕ → List ℕ → Elems3 → Type 0
FoundCount t left index form n w s from p = FoundElems t left index form w s p.1 p.0 from p.2 × (elems_len p.0 ≡ n)

pub elems_none : (t : Map) (left index : ℕ) (form : Parsed) (w s : ℕ) (from : List ℕ) → FoundElems t left index form w s s no_elems from from
unfolding bytes_elems
elems_none t left index form w s from = record { fits = tt; sound = tt; lengths = tt; sums = leaf s; carries = refl }

-- one more element in front of fitting ones
pub elems_more : (t : Map) (left index : ℕ) (form : Parsed) (w s : ℕ) (from : List ℕ) (e : Elem3) (r : Elems3) → FoundElem t left index form w s e from → FoundElems t left index form w e.1 r.1 r.0 e.2 r.2 → FoundElems t left index form w s r.1 (elem e.0.0 e.0.1 r.0) from r.2
unfolding bytes_elems
elems_more t left index form w s from e r first more = record {
  fits = (first.pieces, first.has, first.fits, more.fits);
  sound = (first.sound, more.sound);
  lengths = (first.lengths, more.lengths);
  sums = two_sums s (w + weigh_vals t (node_places t index e.0.0) w e.0.1) (weigh_elems t index w r.0) e.1 r.1 first.sums more.sums;
  carries = joined from (variant_byte e.0.0 ++ bytes_vals t (node_slots t index e.0.0) e.0.1) (bytes_elems t index r.0) e.2 r.2 first.carries more.carries;
}

abbrev pub elems_rest : OneAt → Parsed → ℕ → ℕ → Elem3 → Read Elems3
elems_rest one form n w e = elems_at one form n w e.1 e.2 ⇒ λ r. Ok (elem e.0.0 e.0.1 r.0, r.1, r.2)

pub elems_found : (t : Map) (left index : ℕ) (form : Parsed) (one : OneAt) → IsReader t left one → IsForm t index form → (n w s : ℕ) (from : List ℕ) (y : Elems3) → AreBytes from → elems_at one form n w s from ≡ done y → FoundCount t left index form n w s from y
unfolding elems_at
elems_found t left index form one is f zero w s from y h e = subst (λ (p : Elems3). FoundCount t left index form zero w s from p) (same (no_elems, s, from) y e) (elems_none t left index form w s from, refl)
elems_found t left index form one is f (suc n) w s from y h e =
    let b0 = bound (elem_at one form w s from) (elems_rest one form n w) y e in
    let b1 = bound (elems_at one form n w b0.0.1 b0.0.2) (λ r. Ok (elem b0.0.0.0 b0.0.0.1 r.0, r.1, r.2)) y b0.2 in
    let first = elem_found t left index form one is f w s from b0.0 h b0.1 in
    let front : List ℕ = variant_byte b0.0.0.0 ++ bytes_vals t (node_slots t index b0.0.0.0) b0.0.0.1 in
    let more = elems_found t left index form one is f n w b0.0.1 b0.0.2 b1.0 (bytes_rest from front b0.0.2 h first.carries) b1.1 in
    let k : elems_len b1.0.0 + 1 ≡ suc n = omega (arith, more.1) in
    subst (λ (p : Elems3). FoundCount t left index form (suc n) w s from p) (same (elem b0.0.0.0 b0.0.0.1 b1.0.0, b1.0.1, b1.0.2) y b1.2)
    (elems_more t left index form w s from b0.0 b1.0 first more.0, k)

-- ---- Format values

moved : (a b c rest : List ℕ) → a ++ ((b ++ c) ++ rest) ≡ ((a ++ b) ++ c) ++ rest
moved a b c rest = ap (λ (x : List ℕ). a ++ x) (append_assoc b c rest) ∙ sym (append_assoc a b (c ++ rest)) ∙ sym (append_assoc (a ++ b) c rest)

-- what stands behind the index of a Format value
pub record FoundIndexed (t : Map) (left index w s : ℕ) (y : Elem3) (from : List ℕ) : Type 0 where
  pub form : Parsed
  pub up : 0 < left
  pub is : IsForm t index form
  pub elem : FoundElem t (left - 1) index form w s y from

abbrev pub indexed_elem : OneAt → ℕ → ℕ → List ℕ → Parsed → Read Elem3
indexed_elem one w s from form = elem_at one form w s from

indexed_found : (t : Map) (left : ℕ) (one : OneAt) → 0 < left → IsReader t (left - 1) one → (index w s : ℕ) (from : List ℕ) (y : Elem3) → AreBytes from → indexed_at t one index w s from ≡ done y → FoundIndexed t left index w s y from
indexed_found t left one up is index w s from y h e =
    let b = bound (form_of t.language (look t index)) (indexed_elem one w s from) y e in
    let f = form_found t index b.0 b.1 in
    record { form = b.0; up = up; is = f.0; elem = elem_found t (left - 1) index b.0 one is f.0 w s from y h b.2 }

abbrev pub node_rest : Map → OneAt → ℕ → ℕ → ℕ × List ℕ → Read Val3
node_rest t one w s i = indexed_at t one i.0 w s i.1 ⇒ λ e. Ok (format i.0 e.0.0 e.0.1, e.1, e.2)

node_found : (t : Map) (left : ℕ) (one : OneAt) → 0 < left → IsReader t (left - 1) one → (w s : ℕ) (from : List ℕ) (y : Val3) → AreBytes from → node_at t one w s from ≡ done y → FoundVal t left (slots.One kinds.Format) w s y.1 y.0 from y.2
unfolding bytes_val
node_found t left one up is w s from y h e =
    let b0 = bound (number_at 2 from) (node_rest t one w s) y e in
    let i : ℕ = b0.0.0 in
    let b1 = bound (indexed_at t one i w s b0.0.1) (λ e. Ok (format i e.0.0 e.0.1, e.1, e.2)) y b0.2 in
    let n = number_found 2 from b0.0 h b0.1 in
    let a = indexed_found t left one up is i w s b0.0.1 b1.0 (bytes_rest from (little_bytes 2 i) b0.0.1 h n.carries) b1.1 in
    let o : Option ℕ = b1.0.0.0 in
    let vs : Vals = b1.0.0.1 in
    val_to t left (slots.One kinds.Format) w s from (format i o vs, b1.0.1, b1.0.2) y
    (record {
      fits = (a.form, a.elem.pieces, refl, a.up, a.is, a.elem.has, a.elem.fits);
      sound = a.elem.sound;
      lengths = a.elem.lengths;
      sums = a.elem.sums;
      carries = n.carries ∙ ap (λ (x : List ℕ). little_bytes 2 i ++ x) a.elem.carries ∙ moved (little_bytes 2 i) (variant_byte o) (bytes_vals t (node_slots t i o) vs) b1.0.2;
    }) b1.2

-- ---- lists of Format values

pub record FoundList (t : Map) (left count w s r : ℕ) (v : Val) (from rest : List ℕ) : Type 0 where
  pub index : Option ℕ
  pub elems : Elems
  pub is : seq index elems ≡ v
  pub count_is : elems_len elems ≡ count
  pub fits : ((elems ≡ no_elems) × (index ≡ None)) ⊎ ((i : ℕ) × (form : Parsed) × (index ≡ Some i) × (0 < elems_len elems) × (0 < left) × IsForm t i form × FitsElems t (left - 1) form elems)
  pub sound : ElemsSound elems
  pub lengths : ElemsLengthsFit t (index_or index) elems
  pub sums : Sums s (weigh_elems t (index_or index) w elems) r
  pub carries : from ≡ (index_bytes index ++ bytes_elems t (index_or index) elems) ++ rest

list_to : (t : Map) (left count w s : ℕ) (from : List ℕ) (x y : Val3) → FoundList t left count w s x.1 x.0 from x.2 → done x ≡ done y → FoundList t left count w s y.1 y.0 from y.2
list_to t left count w s from x y f e = subst (λ (p : Val3). FoundList t left count w s p.1 p.0 from p.2) (same x y e) f

abbrev pub list_elems : OneAt → ℕ → ℕ → ℕ → ℕ × List ℕ → Parsed → Read Val3
list_elems one count w s i form = elems_at one form count w s i.1 ⇒ λ r. Ok (seq (Some i.0) r.0, r.1, r.2)

abbrev pub list_form : Map → OneAt → ℕ → ℕ → ℕ → ℕ × List ℕ → Read Val3
list_form t one count w s i = form_of t.language (look t i.0) ⇒ list_elems one count w s i

list_found : (t : Map) (left count : ℕ) (one : OneAt) → 0 < left → 0 < count → IsReader t (left - 1) one → (w s : ℕ) (from : List ℕ) (y : Val3) → AreBytes from → list_at t one count w s from ≡ done y → FoundList t left count w s y.1 y.0 from y.2
list_found t left count one up few is w s from y h e =
    let b0 = bound (number_at 2 from) (list_form t one count w s) y e in
    let i : ℕ = b0.0.0 in
    let b1 = bound (form_of t.language (look t i)) (list_elems one count w s b0.0) y b0.2 in
    let b2 = bound (elems_at one b1.0 count w s b0.0.1) (λ r. Ok (seq (Some i) r.0, r.1, r.2)) y b1.2 in
    let n = number_found 2 from b0.0 h b0.1 in
    let f = form_found t i b1.0 b1.1 in
    let a = elems_found t (left - 1) i b1.0 one is f.0 count w s b0.0.1 b2.0 (bytes_rest from (little_bytes 2 i) b0.0.1 h n.carries) b2.1 in
    let k : 0 < elems_len b2.0.0 = omega (arith, a.1) in
    list_to t left count w s from (seq (Some i) b2.0.0, b2.0.1, b2.0.2) y
    (record {
      index = Some i;
      elems = b2.0.0;
      is = refl;
      count_is = a.1;
      fits = inr (i, b1.0, refl, k, up, f.0, a.0.fits);
      sound = a.0.sound;
      lengths = a.0.lengths;
      sums = a.0.sums;
      carries = n.carries ∙ ap (λ (x : List ℕ). little_bytes 2 i ++ x) a.0.carries ∙ sym (append_assoc (little_bytes 2 i) (bytes_elems t i b2.0.0) b2.0.2);
    }) b2.2

none_elems : (t : Map) (from : List ℕ) → from ≡ (index_bytes None ++ bytes_elems t (index_or None) no_elems) ++ from
unfolding bytes_elems
none_elems t from = refl

-- the reader of what is one level below, where there is such a level
abbrev pub IsBelow : Map → ℕ → Option OneAt → Type 0
IsBelow t left None = Unit {0}
IsBelow t left (Some one) = (0 < left) × IsReader t (left - 1) one

some_found : (t : Map) (left count : ℕ) (one : Option OneAt) → IsBelow t left one → (w s : ℕ) (from : List ℕ) (y : Val3) → AreBytes from → some_at t one count w s from ≡ done y → FoundList t left count w s y.1 y.0 from y.2
some_found t left zero one b w s from y h e = list_to t left 0 w s from (seq None no_elems, s, from) y
    (record { index = None; elems = no_elems; is = refl; count_is = refl; fits = inl (refl, refl); sound = tt; lengths = tt; sums = leaf s; carries = none_elems t from }) e
some_found t left (suc n) None b w s from y h e = absurd (cc)
some_found t left (suc n) (Some one) b w s from y h e = list_found t left (suc n) one b.0 (omega arith) b.1 w s from y h e

-- the value of a list, with the bytes of its count in front
listed : (t : Map) (left : ℕ) (slot : Slot) (count w s r : ℕ) (v : Val) (from after rest : List ℕ) → IsList slot count → from ≡ count_bytes slot count ++ after → FoundList t left count w s r v after rest → FoundVal t left slot w s r v from rest
unfolding bytes_val
listed t left slot count w s r v from after rest k e f =
    let m : FoundVal t left slot w s r (seq f.index f.elems) from rest = record {
      fits = (subst (λ (n : ℕ). IsList slot n) (sym f.count_is) k, f.fits);
      sound = f.sound;
      lengths = f.lengths;
      sums = f.sums;
      carries = e ∙ ap (λ (x : List ℕ). count_bytes slot count ++ x) f.carries ∙ moved (count_bytes slot count) (index_bytes f.index) (bytes_elems t (index_or f.index) f.elems) rest
          ∙ ap (λ (n : ℕ). ((count_bytes slot n ++ index_bytes f.index) ++ bytes_elems t (index_or f.index) f.elems) ++ rest) (sym f.count_is);
    } in
    subst (λ (x : Val). FoundVal t left slot w s r x from rest) f.is m

-- ---- sequences

pub member_found : (t : Map) (left : ℕ) (one : Option OneAt) → IsBelow t left one → (index w s : ℕ) (from : List ℕ) (y : Elem3) → AreBytes from → member_at t one index w s from ≡ done y → FoundIndexed t left index w s y from
member_found t left None b index w s from y h e = absurd (cc)
member_found t left (Some one) b index w s from y h e = indexed_found t left one b.0 b.1 index w s from y h e

abbrev pub Nodes3 : Type 0
Nodes3 = Nodes × ℕ × List ℕ

pub nodes_none : (t : Map) (left w s : ℕ) (from : List ℕ) → FoundNodes t left w s s no_nodes from from
unfolding bytes_nodes
nodes_none t left w s from = record { fits = tt; sound = tt; lengths = tt; sums = leaf s; carries = refl }

-- one more element in front of fitting ones
pub nodes_more : (t : Map) (left i w s : ℕ) (from mid : List ℕ) (e : Elem3) (r : Nodes3) → IsNumber 2 i from mid → 0 < i → FoundIndexed t left i w s e mid → FoundNodes t left w e.1 r.1 r.0 e.2 r.2
    → FoundNodes t left w s r.1 (node i e.0.0 e.0.1 r.0) from r.2
unfolding bytes_nodes
nodes_more t left i w s from mid e r n some first more =
    let body : List ℕ = bytes_vals t (node_slots t i e.0.0) e.0.1 in
    record {
      fits = (first.form, first.elem.pieces, some, first.up, first.is, first.elem.has, first.elem.fits, more.fits);
      sound = (first.elem.sound, more.sound);
      lengths = (first.elem.lengths, more.lengths);
      sums = two_sums s (w + weigh_vals t (node_places t i e.0.0) w e.0.1) (weigh_nodes t w r.0) e.1 r.1 first.elem.sums more.sums;
      carries = joined from ((little_bytes 2 i ++ variant_byte e.0.0) ++ body) (bytes_nodes t r.0) e.2 r.2
          (n.carries ∙ ap (λ (x : List ℕ). little_bytes 2 i ++ x) first.elem.carries ∙ moved (little_bytes 2 i) (variant_byte e.0.0) body e.2) more.carries;
    }

abbrev pub nodes_tail : Map → Option OneAt → ℕ → ℕ → ℕ → Elem3 → Read Nodes3
nodes_tail t one n w i e = nodes_at t one n w e.1 e.2 ⇒ λ r. Ok (node i e.0.0 e.0.1 r.0, r.1, r.2)

abbrev pub nodes_behind : Map → Option OneAt → ℕ → ℕ → ℕ → ℕ × List ℕ → Bool → Read Nodes3
nodes_behind t one n w s i ends = if ends then Ok (no_nodes, s, i.1) else (member_at t one i.0 w s i.1 ⇒ nodes_tail t one n w i.0)

abbrev pub nodes_rest : Map → Option OneAt → ℕ → ℕ → ℕ → ℕ × List ℕ → Read Nodes3
nodes_rest t one n w s i = nodes_behind t one n w s i (i.0 == 0)

-- fitting elements, and the index 0 behind them
pub record FoundEnd (t : Map) (left w s : ℕ) (y : Nodes3) (from : List ℕ) : Type 0 where
  pub rest : List ℕ
  pub found : FoundNodes t left w s y.1 y.0 from rest
  pub ends : rest ≡ little_bytes 2 0 ++ y.2

end_to : (t : Map) (left w s : ℕ) (from : List ℕ) (x y : Nodes3) → FoundEnd t left w s x from → done x ≡ done y → FoundEnd t left w s y from
end_to t left w s from x y f e = subst (λ (p : Nodes3). FoundEnd t left w s p from) (same x y e) f

module _ (t : Map) (left : ℕ) (one : Option OneAt) (b : IsBelow t left one) where
  behind_found : (n w s : ℕ) (from : List ℕ) (i : ℕ × List ℕ) (y : Nodes3) (d : Bool) → (i.0 == 0) ≡ d → AreBytes from → IsNumber 2 i.0 from i.1
      → ((s : ℕ) (from : List ℕ) (y : Nodes3) → AreBytes from → nodes_at t one n w s from ≡ done y → FoundEnd t left w s y from)
      → nodes_behind t one n w s i d ≡ done y → FoundEnd t left w s y from
  behind_found n w s from i y true z h k ih e =
      end_to t left w s from (no_nodes, s, i.1) y
      (record { rest = from; found = nodes_none t left w s from; ends = k.carries ∙ ap (λ (x : ℕ). little_bytes 2 x ++ i.1) (eqb-true i.0 0 z) }) e
  behind_found n w s from i y false z h k ih e =
      let b1 = bound (member_at t one i.0 w s i.1) (nodes_tail t one n w i.0) y e in
      let b2 = bound (nodes_at t one n w b1.0.1 b1.0.2) (λ r. Ok (node i.0 b1.0.0.0 b1.0.0.1 r.0, r.1, r.2)) y b1.2 in
      let h1 = bytes_rest from (little_bytes 2 i.0) i.1 h k.carries in
      let first = member_found t left one b i.0 w s i.1 b1.0 h1 b1.1 in
      let front : List ℕ = variant_byte b1.0.0.0 ++ bytes_vals t (node_slots t i.0 b1.0.0.0) b1.0.0.1 in
      let more = ih b1.0.1 b1.0.2 b2.0 (bytes_rest i.1 front b1.0.2 h1 first.elem.carries) b2.1 in
      let some : 0 < i.0 = let ne = eqb-false i.0 0 z in omega (arith, ne) in
      end_to t left w s from (node i.0 b1.0.0.0 b1.0.0.1 b2.0.0, b2.0.1, b2.0.2) y
      (record { rest = more.rest; found = nodes_more t left i.0 w s from i.1 b1.0 (b2.0.0, b2.0.1, more.rest) k some first more.found; ends = more.ends }) b2.2

  nodes_found : (n w s : ℕ) (from : List ℕ) (y : Nodes3) → AreBytes from → nodes_at t one n w s from ≡ done y → FoundEnd t left w s y from
  unfolding nodes_at
  nodes_found zero w s from y h e = absurd (cc)
  nodes_found (suc n) w s from y h e =
      let b0 = bound (number_at 2 from) (nodes_rest t one n w s) y e in
      behind_found n w s from b0.0 y (b0.0.0 == 0) refl h (number_found 2 from b0.0 h b0.1) (λ s from y. nodes_found n w s from y) b0.2

  sequence_found : (w s : ℕ) (from : List ℕ) (y : Val3) → AreBytes from → sequence_at t one w s from ≡ done y → FoundVal t left (slots.One kinds.Sequence) w s y.1 y.0 from y.2
  unfolding bytes_val
  sequence_found w s from y h e =
      let a = bound (nodes_at t one (length from) w s from) (λ r. Ok (sequence r.0, r.1, r.2)) y e in
      let f = nodes_found (length from) w s from a.0 h a.1 in
      val_to t left (slots.One kinds.Sequence) w s from (sequence a.0.0, a.0.1, a.0.2) y
      (record {
        fits = (refl, f.found.fits);
        sound = f.found.sound;
        lengths = f.found.lengths;
        sums = f.found.sums;
        carries = joined from (bytes_nodes t a.0.0) (little_bytes 2 0) f.rest a.0.2 f.found.carries f.ends;
      }) a.2

-- ---- each slot

slot_found : (t : Map) (left : ℕ) (one : Option OneAt) → IsBelow t left one → (slot : Slot) (w s : ℕ) (from : List ℕ) (y : Val3) → AreBytes from → slot_at t one slot w s from ≡ done y → FoundVal t left slot w s y.1 y.0 from y.2
slot_found t left one k (slots.One (kinds.Uint size)) w s from y h e = uint_found t left w s from y h size e
slot_found t left one k (slots.One (kinds.Int size)) w s from y h e = int_found t left w s from y h size e
slot_found t left one k (slots.One kinds.Bool) w s from y h e = flag_found t left w s from y h e
slot_found t left one k (slots.One kinds.Char) w s from y h e = char_found t left w s from y h e
slot_found t left one k (slots.One kinds.Str) w s from y h e = str_found t left w s from y h e
slot_found t left one k (slots.One kinds.Istr) w s from y h e = istr_found t left w s from y h e
slot_found t left one k (slots.One kinds.Bytes) w s from y h e = slice_found t left w s from y h e
slot_found t left one k (slots.One (kinds.ByteArray count)) w s from y h e = array_found t left w s from y h count e
slot_found t left None k (slots.One kinds.Format) w s from y h e = absurd (cc)
slot_found t left (Some one) k (slots.One kinds.Format) w s from y h e = node_found t left one k.0 k.1 w s from y h e
slot_found t left one k (slots.One kinds.FormatSlice) w s from y h e =
    let b0 = bound (number_at 4 from) (λ c. some_at t one c.0 w s c.1) y e in
    let n = number_found 4 from b0.0 h b0.1 in
    listed t left (slots.One kinds.FormatSlice) b0.0.0 w s y.1 y.0 from b0.0.1 y.2 (inl refl) n.carries (some_found t left b0.0.0 one k w s b0.0.1 y (bytes_rest from (little_bytes 4 b0.0.0) b0.0.1 h n.carries) b0.2)
slot_found t left one k (slots.One (kinds.FormatArray count)) w s from y h e =
    listed t left (slots.One (kinds.FormatArray count)) count w s y.1 y.0 from from y.2 (inr refl) refl (some_found t left count one k w s from y h e)
slot_found t left one k (slots.One (kinds.Bits lo hi)) w s from y h e = absurd (cc)
slot_found t left one k (slots.One (kinds.Float size)) w s from y h e = float_found t left w s from y h size e
slot_found t left one k (slots.One kinds.Debug) w s from y h e = shown_found t left w s from y h (slots.One kinds.Debug) (inr (inl refl)) (λ x. refl) (λ n. tt) e
slot_found t left one k (slots.One kinds.Display) w s from y h e = shown_found t left w s from y h (slots.One kinds.Display) (inr (inr refl)) (λ x. refl) (λ n. tt) e
slot_found t left one k (slots.One kinds.Sequence) w s from y h e = sequence_found t left one k w s from y h e
slot_found t left one k (slots.Bits first width) w s from y h e = window_found t left w s from y h first width e

pub value_found : (t : Map) (left : ℕ) → IsReader t left (value_at t left)
unfolding value_at
value_found t zero = λ slot w s from y h e. slot_found t zero None tt slot w s from y h e
value_found t (suc left) = λ slot w s from y h e.
    let k : left ≡ suc left - 1 = omega arith in
    let is : IsReader t (suc left - 1) (value_at t left) = subst (λ (n : ℕ). IsReader t n (value_at t left)) k (value_found t left) in
    slot_found t (suc left) (Some (value_at t left)) (omega arith, is) slot w s from y h e

-- A cause that is met is answered.
use Rattle.std.proofs.Common.{◌≡◌, ◌<◌, ◌≤◌, inl, inr, ◌^◌, ◌+◌, ◌-◌, ◌*◌, ◌==◌, ℕ, zero, suc, Bool, false, List, [], ◌∷◌, ◌++◌, length, Option, Some, None, Ok, Err, refl, sym, ap, ◌∙◌, subst, arith, append_assoc, length-append, add_assoc}
use Rattle.std.proofs.lemmas.Bool.{lt-leb, ne_eqb}
use Rattle.byteorder.specs.Endian.{little_bytes, twos_complement}
use Rattle.defmt_grammar.specs.Sizes.{float_bytes}
use Rattle.defmt_grammar.specs.declared.kind.Kind.TheVariants as kinds
use Rattle.defmt_grammar.specs.declared.piece.Piece.{Piece}
use Rattle.defmt_grammar.specs.declared.slot.Slot.{Slot}
use Rattle.defmt_grammar.specs.declared.slot.Slot.TheVariants as slots
use Rattle.defmt_intern.specs.Catalog.{Catalog}
use Rattle.defmt_intern.specs.Table.{Map}
use Rattle.defmt_intern.specs.declared.parsed.Parsed.{Parsed}
use Rattle.defmt_intern.specs.declared.parsed.Parsed.TheVariants.{Unsupported, Raw, One, Variants}
use Rattle.defmt_values.specs.Entries.{look, variant_at, Place, places_of}
use Rattle.defmt_values.specs.Fits.{IsForm, FitsVals, FitsElems, FitsNodes, weigh_val, weigh_vals, weigh_elems, weigh_nodes}
use Rattle.defmt_values.specs.Plain.{uint, int, flag, char, str, istr, bytes, bits, format, seq, float, sequence, Vals, no_vals, val, Elems, no_elems, elem, Nodes, no_nodes, node, elems_len, nodes_len}
use Rattle.defmt_values.specs.Scan.{node_places}
use Rattle.defmt_values.proofs.Forms.{index_small, places_are}
use Rattle.defmt_encode.specs.Carry.{size_bytes, text_end, variant_byte, node_slots, slots_at, bytes_val, bytes_vals, bytes_elems, bytes_nodes}
use Rattle.defmt_encode.specs.Fields.{IsNumber, IsChunk}
use Rattle.defmt_encode.specs.Lengths.{LengthsFit, ElemsLengthsFit, NodesLengthsFit}
use Rattle.defmt_encode.specs.Met.{MetBool, MetChar, MetBytes, MetStr, MetShown, MetIstr, MetVariant, OneMet, Level, no_level, level, levels, MetEach, MetElem, MetElems, MetIndexed, MetNode, MetList, MetSome, MetMember, MetNext, MetNodes, MetSlot, met_at, MetStamp, MetBehind, MetPlaced, Meets}
use Rattle.defmt_encode.specs.Read.{Read, ◌⇒◌, OneAt, number_at, signed_at, chunk_at, flag_of, char_of, text_of, bytes_at, text_at, ended_at, shown_text_at, shown_at, interned_of, flag_at, char_at, istr_at, there, variant_of, add, form_of, each_at, elem_at, elems_at, indexed_at, node_at, list_at, some_at, member_at, nodes_at, sequence_at, slot_at, value_at, below, logged_of, stamp_form, stamp_at, place_at, padded, message_at}
use Rattle.defmt_values.specs.Sound.{AreSound, ElemsSound, NodesSound}
use Rattle.defmt_intern.specs.Stamp.{stamp_of}
use Rattle.defmt_encode.specs.declared.cause.Cause.{Cause}
use Rattle.defmt_encode.specs.declared.cause.Cause.TheVariants as causes
use Rattle.defmt_encode.proofs.Back.{val_back, vals_back, elem_from, indexed_from, nodes_pass, nodes_few, node_parts}
use Rattle.defmt_encode.proofs.Chains.{done, refused, passes, breaks}
use Rattle.defmt_encode.proofs.Ends.{ended_back, ended_refused}
use Rattle.defmt_encode.proofs.Entries.{interned_refused, form_back_of, form_refused, own_back, own_refused, stamp_refused, node_slots_are}
use Rattle.defmt_encode.proofs.Finds.{Val3}
use Rattle.defmt_encode.proofs.FindsAll.{Picked, Args3, Elem3, Elems3, each_rest, elem_args, elem_variant, elems_rest, Nodes3, nodes_tail, nodes_behind, nodes_rest, indexed_elem, node_rest, list_elems, list_form}
use Rattle.defmt_encode.proofs.Hears.{Message4, rest_end, rest_args, rest_stamp, rest_place, rest_own, stamp_rest, stamp_back}
use Rattle.defmt_encode.proofs.Joins.{value_is}
use Rattle.defmt_encode.proofs.Numbers.{number_back, chunk_back, cut_number, cut_chunk, length_little}
use Rattle.defmt_encode.proofs.Placing.{place_back, place_met}
use Rattle.defmt_encode.proofs.ReadsBack.{adds, variant_back, below_is}
use Rattle.defmt_encode.proofs.Uses.{AreUsed, own_used, form_used, weight_some}

-- what is met is refused by this reader
abbrev IsRefused : OneAt → OneMet → Type 0
IsRefused one met = (slot : Slot) (w s : ℕ) (from : List ℕ) (c : Cause) → s ≤ 8192 → 0 < w → met slot w s from c → one slot w s from ≡ refused Val3 c

-- ---- fields

number_again : (k n : ℕ) (from rest : List ℕ) → IsNumber k n from rest → number_at k from ≡ done (n, rest)
number_again k n from rest i = ap (λ (x : List ℕ). number_at k x) i.carries ∙ number_back k n rest i.small

chunk_again : (n : ℕ) (chunk from rest : List ℕ) → IsChunk n chunk from rest → chunk_at n from ≡ done (chunk, rest)
chunk_again n chunk from rest i = ap (λ (m : ℕ). chunk_at m from) (sym i.size) ∙ ap (λ (x : List ℕ). chunk_at (length chunk) x) i.carries ∙ chunk_back chunk rest

flag_refused : (n : ℕ) (c : Cause) → 1 < n → c ≡ causes.BadBool → flag_of n ≡ refused Bool c
flag_refused zero c h e = absurd (omega arith)
flag_refused (suc zero) c h e = absurd (omega arith)
flag_refused (suc (suc n)) c h e = ap (λ d. Err d) (sym e)

abbrev flag_rest : ℕ → ℕ × List ℕ → Read Val3
flag_rest s r = flag_of r.0 ⇒ λ b. Ok (flag b, s, r.1)

abbrev char_rest : ℕ → ℕ × List ℕ → Read Val3
char_rest s r = char_of r.0 ⇒ λ x. Ok (char x, s, r.1)

abbrev text_rest : List ℕ × List ℕ → Read (List ℕ × List ℕ)
text_rest r = text_of r.0 ⇒ λ text. Ok (text, r.1)

abbrev istr_rest : Map → ℕ → ℕ × List ℕ → Read Val3
istr_rest t s i = interned_of (look t i.0) ⇒ λ _. Ok (istr i.0, s, i.1)

abbrev variant_rest : List (List Piece) → ℕ × List ℕ → Read Picked
variant_rest forms v = there (variant_at forms v.0) ⇒ λ ps. Ok (Some v.0, ps, v.1)

module _ (s : ℕ) (from : List ℕ) (c : Cause) where
  bool_met : MetBool from c → flag_at s from ≡ refused Val3 c
  bool_met (inl m) = breaks (number_at 1 from) (flag_rest s) c (cut_number 1 from c m)
  bool_met (inr m) = passes (number_at 1 from) (flag_rest s) (m.0, m.1) (refused Val3 c) (number_again 1 m.0 from m.1 m.2) (breaks (flag_of m.0) (λ b. Ok (flag b, s, m.1)) c (flag_refused m.0 c m.3 m.4))

  char_met : MetChar from c → char_at s from ≡ refused Val3 c
  char_met (inl m) = breaks (number_at 4 from) (char_rest s) c (cut_number 4 from c m)
  char_met (inr m) =
      let e : char_of m.0 ≡ refused ℕ c = rw (m.3, m.4) refl in
      passes (number_at 4 from) (char_rest s) (m.0, m.1) (refused Val3 c) (number_again 4 m.0 from m.1 m.2) (breaks (char_of m.0) (λ x. Ok (char x, s, m.1)) c e)

  counted_met : MetBytes from c → bytes_at from ≡ refused (List ℕ × List ℕ) c
  counted_met (inl m) = breaks (number_at 4 from) (λ n. chunk_at n.0 n.1) c (cut_number 4 from c m)
  counted_met (inr m) = passes (number_at 4 from) (λ n. chunk_at n.0 n.1) (m.0, m.1) (refused (List ℕ × List ℕ) c) (number_again 4 m.0 from m.1 m.2) (cut_chunk m.0 m.1 c m.3)

  text_met : MetStr from c → text_at from ≡ refused (List ℕ × List ℕ) c
  text_met (inl m) = breaks (bytes_at from) text_rest c (counted_met m)
  text_met (inr m) =
      let e : text_of m.2 ≡ refused (List ℕ) c = rw (m.6, m.7) refl in
      let b : bytes_at from ≡ done (m.2, m.3) = passes (number_at 4 from) (λ n. chunk_at n.0 n.1) (m.0, m.1) (done (m.2, m.3)) (number_again 4 m.0 from m.1 m.4) (chunk_again m.0 m.2 m.1 m.3 m.5) in
      passes (bytes_at from) text_rest (m.2, m.3) (refused (List ℕ × List ℕ) c) b (breaks (text_of m.2) (λ text. Ok (text, m.3)) c e)

  shown_met : MetShown from c → shown_at s from ≡ refused Val3 c
  shown_met (inl m) =
      let e : ended_at from ≡ refused (List ℕ × List ℕ) c = ended_refused from m.0 ∙ ap (λ (d : Cause). refused (List ℕ × List ℕ) d) (sym m.1) in
      breaks (shown_text_at from) (λ r. Ok (str r.0, s, r.1)) c (breaks (ended_at from) text_rest c e)
  shown_met (inr m) =
      let e : text_of m.0 ≡ refused (List ℕ) c = rw (m.4, m.5) refl in
      let b : ended_at from ≡ done (m.0, m.1) = ap (λ (x : List ℕ). ended_at x) (m.3 ∙ sym (append_assoc m.0 (text_end ∷ []) m.1)) ∙ ended_back m.0 m.1 m.2 in
      breaks (shown_text_at from) (λ r. Ok (str r.0, s, r.1)) c
      (passes (ended_at from) text_rest (m.0, m.1) (refused (List ℕ × List ℕ) c) b (breaks (text_of m.0) (λ text. Ok (text, m.1)) c e))

  istr_met : (t : Map) → MetIstr t from c → istr_at t s from ≡ refused Val3 c
  istr_met t (inl m) = breaks (number_at 2 from) (istr_rest t s) c (cut_number 2 from c m)
  istr_met t (inr m) = passes (number_at 2 from) (istr_rest t s) (m.0, m.1) (refused Val3 c) (number_again 2 m.0 from m.1 m.2) (breaks (interned_of (look t m.0)) (λ _. Ok (istr m.0, s, m.1)) c (interned_refused t m.0 c m.3))

-- ---- variants

variant_met : (form : Parsed) (from : List ℕ) (c : Cause) → MetVariant form from c → variant_of form from ≡ refused Picked c
variant_met Unsupported from c m = absurd m
variant_met Raw from c m = absurd m
variant_met (One ps) from c m = absurd m
variant_met (Variants forms) from c (inl m) = breaks (number_at 1 from) (variant_rest forms) c (cut_number 1 from c m)
variant_met (Variants forms) from c (inr m) =
    let e : there (variant_at forms m.0) ≡ refused (List Piece) c = rw (m.3, m.4) refl in
    passes (number_at 1 from) (variant_rest forms) (m.0, m.1) (refused Picked c) (number_again 1 m.0 from m.1 m.2) (breaks (there (variant_at forms m.0)) (λ ps. Ok (Some m.0, ps, m.1)) c e)

-- ---- places

used_front : (a b : List Place) → AreUsed (a ++ b) → AreUsed a
used_front [] b u = tt
used_front (p ∷ a) b u = (u.0, used_front a b u.1)

used_behind : (a b : List Place) → AreUsed (a ++ b) → AreUsed b
used_behind [] b u = u
used_behind (p ∷ a) b u = used_behind a b u.1

module _ (t : Map) (left w : ℕ) (some : 0 < w) where
  -- values of the places in front are read, and what follows is refused
  each_refused : (places others : List Place) (s : ℕ) (rest : List ℕ) (vs : Vals) (c : Cause) → FitsVals t left places vs → AreSound vs → AreUsed places
      → LengthsFit t (slots_at places) vs → s + weigh_vals t places w vs ≤ 8192
      → each_at (value_at t left) others w (s + weigh_vals t places w vs) rest ≡ refused Args3 c
      → each_at (value_at t left) (places ++ others) w s (bytes_vals t (slots_at places) vs ++ rest) ≡ refused Args3 c
  unfolding each_at bytes_vals
  each_refused places others s rest no_vals c f g used short light h =
      let z : s + 0 ≡ s = omega arith in
      let h' : each_at (value_at t left) others w s rest ≡ refused Args3 c = subst (λ (n : ℕ). each_at (value_at t left) others w n rest ≡ refused Args3 c) z h in
      rw f h'
  each_refused places others s rest (val v vs) c f g used short light h =
      let x : Place = f.0 in
      let xs : List Place = f.1 in
      let one : List ℕ = bytes_val t x.slot v in
      let more : List ℕ = bytes_vals t (slots_at xs) vs in
      let a : ℕ = weigh_val t (x.uses * w) v in
      let b : ℕ = weigh_vals t xs w vs in
      let sizes : LengthsFit t (slots_at (x ∷ xs)) (val v vs) = subst (λ (q : List Place). LengthsFit t (slots_at q) (val v vs)) f.2 short in
      let sum : s + (a + b) ≤ 8192 = subst (λ (q : List Place). s + weigh_vals t q w (val v vs) ≤ 8192) f.2 light in
      let u : AreUsed (x ∷ xs) = subst (λ (q : List Place). AreUsed q) f.2 used in
      let k : slot_at t (below t left) x.slot (x.uses * w) s (one ++ (more ++ rest)) ≡ done (v, s + a, more ++ rest) = val_back t left x.slot (x.uses * w) s (more ++ rest) v f.3 g.0 (weight_some x.uses w u.0 some) sizes.0 (omega (arith, sum)) in
      let k' : value_at t left x.slot (x.uses * w) s (one ++ (more ++ rest)) ≡ done (v, s + a, more ++ rest) = ap (λ (q : OneAt). q x.slot (x.uses * w) s (one ++ (more ++ rest))) (sym (value_is t left)) ∙ k in
      let h' : each_at (value_at t left) others w ((s + a) + b) rest ≡ refused Args3 c =
      subst (λ (n : ℕ). each_at (value_at t left) others w n rest ≡ refused Args3 c) (sym (add_assoc s a b)) (subst (λ (q : List Place). each_at (value_at t left) others w (s + weigh_vals t q w (val v vs)) rest ≡ refused Args3 c) f.2 h) in
      let m = each_refused xs others (s + a) rest vs c f.4 g.1 u.1 sizes.1 (omega (arith, sum)) h' in
      let all : each_at (value_at t left) (x ∷ (xs ++ others)) w s (one ++ (more ++ rest)) ≡ refused Args3 c =
      passes (value_at t left x.slot (x.uses * w) s (one ++ (more ++ rest))) (each_rest (value_at t left) (xs ++ others) w) (v, s + a, more ++ rest) (refused Args3 c) k'
      (breaks (each_at (value_at t left) (xs ++ others) w (s + a) (more ++ rest)) (λ r. Ok (val v r.0, r.1, r.2)) c m) in
      rw f.2 (ap (λ (y : List ℕ). each_at (value_at t left) (x ∷ (xs ++ others)) w s y) (append_assoc one more rest) ∙ all)

  each_met : (met : OneMet) → IsRefused (value_at t left) met → (places : List Place) (s : ℕ) (from : List ℕ) (c : Cause) → s ≤ 8192 → AreUsed places
      → MetEach t left met places w s from c → each_at (value_at t left) places w s from ≡ refused Args3 c
  unfolding each_at
  each_met met refuses places s from c low used m =
      let u : AreUsed (m.front ++ m.place ∷ m.others) = subst (λ (q : List Place). AreUsed q) m.places_is used in
      let behind = used_behind m.front (m.place ∷ m.others) u in
      let body : List ℕ = bytes_vals t (slots_at m.front) m.values in
      let high : m.sum ≤ 8192 = m.found.sums.kept low in
      let light : s + weigh_vals t m.front w m.values ≤ 8192 = omega (arith, high, m.found.sums.sum) in
      let here : value_at t left m.place.slot (m.place.uses * w) m.sum m.rest ≡ refused Val3 c = refuses m.place.slot (m.place.uses * w) m.sum m.rest c high (weight_some m.place.uses w behind.0 some) m.met in
      let step : each_at (value_at t left) (m.place ∷ m.others) w m.sum m.rest ≡ refused Args3 c = breaks (value_at t left m.place.slot (m.place.uses * w) m.sum m.rest) (each_rest (value_at t left) m.others w) c here in
      let step' = subst (λ (n : ℕ). each_at (value_at t left) (m.place ∷ m.others) w n m.rest ≡ refused Args3 c) (sym m.found.sums.sum) step in
      let all = each_refused m.front (m.place ∷ m.others) s m.rest m.values c m.found.fits m.found.sound (used_front m.front (m.place ∷ m.others) u) m.found.lengths light step' in
      ap (λ (q : List Place). each_at (value_at t left) q w s from) m.places_is ∙ ap (λ (x : List ℕ). each_at (value_at t left) (m.front ++ m.place ∷ m.others) w s x) m.found.carries ∙ all

  elem_met : (met : OneMet) → IsRefused (value_at t left) met → (index : ℕ) (form : Parsed) (s : ℕ) (from : List ℕ) (c : Cause) → IsForm t index form → s ≤ 8192
      → MetElem t left met form w s from c → elem_at (value_at t left) form w s from ≡ refused Elem3 c
  elem_met met refuses index form s from c i low (inl m) =
      let e : add w s ≡ refused ℕ c = rw (lt-leb (s + w) 8192 m.0, m.1) refl in
      breaks (add w s) (elem_variant (value_at t left) form w from) c e
  elem_met met refuses index form s from c i low (inr (inl m)) =
      passes (add w s) (elem_variant (value_at t left) form w from) (s + w) (refused Elem3 c) (adds w s m.0)
      (breaks (variant_of form from) (elem_args (value_at t left) w (s + w)) c (variant_met form from c m.1))
  elem_met met refuses index form s from c i low (inr (inr m)) =
      let v : variant_of form from ≡ done (m.0, m.1, m.2) = ap (λ (x : List ℕ). variant_of form x) m.5 ∙ variant_back form m.0 m.1 m.2 m.4 in
      let e = each_met met refuses (places_of m.1) (s + w) m.2 c m.3 (form_used t index form m.0 m.1 i m.4) m.6 in
      passes (add w s) (elem_variant (value_at t left) form w from) (s + w) (refused Elem3 c) (adds w s m.3)
      (passes (variant_of form from) (elem_args (value_at t left) w (s + w)) (m.0, m.1, m.2) (refused Elem3 c) v
      (breaks (each_at (value_at t left) (places_of m.1) w (s + w) m.2) (λ a. Ok ((m.0, a.0), a.1, a.2)) c e))

  -- elements in front are read, and what follows is refused
  elems_refused : (index : ℕ) (form : Parsed) (n count s : ℕ) (rest : List ℕ) (es : Elems) (c : Cause) → IsForm t index form → FitsElems t left form es → ElemsSound es → elems_len es + n ≡ count
      → ElemsLengthsFit t index es → s + weigh_elems t index w es ≤ 8192
      → elems_at (value_at t left) form n w (s + weigh_elems t index w es) rest ≡ refused Elems3 c
      → elems_at (value_at t left) form count w s (bytes_elems t index es ++ rest) ≡ refused Elems3 c
  unfolding elems_at bytes_elems
  elems_refused index form n count s rest no_elems c i f g is short light h =
      let z : s + 0 ≡ s = omega arith in
      let e : n ≡ count = omega (arith, is) in
      subst (λ (m : ℕ). elems_at (value_at t left) form m w s rest ≡ refused Elems3 c) e (subst (λ (m : ℕ). elems_at (value_at t left) form n w m rest ≡ refused Elems3 c) z h)
  elems_refused index form n zero s rest (elem variant vs es) c i f g is short light h = absurd (omega (arith, is))
  elems_refused index form n (suc count) s rest (elem variant vs es) c i f g is short light h =
      let ps : List Piece = f.0 in
      let slots_is : node_slots t index variant ≡ slots_at (places_of ps) = node_slots_are t index form variant ps i f.1 in
      let places_is : node_places t index variant ≡ places_of ps = places_are t index form variant ps i f.1 in
      let body : List ℕ = bytes_vals t (slots_at (places_of ps)) vs in
      let one : List ℕ = variant_byte variant ++ body in
      let more : List ℕ = bytes_elems t index es in
      let a : ℕ = weigh_vals t (places_of ps) w vs in
      let b : ℕ = weigh_elems t index w es in
      let size : LengthsFit t (slots_at (places_of ps)) vs = subst (λ (q : List Slot). LengthsFit t q vs) slots_is short.0 in
      let sum : s + ((w + a) + b) ≤ 8192 = subst (λ (q : List Place). s + ((w + weigh_vals t q w vs) + weigh_elems t index w es) ≤ 8192) places_is light in
      let k = vals_back t left (places_of ps) w (s + w) (more ++ rest) vs f.2 g.0 some (form_used t index form variant ps i f.1) size (omega (arith, sum)) in
      let e = elem_from t left form variant ps w s vs body (more ++ rest) ((s + w) + a) f.1 (omega (arith, sum)) k in
      let first : elem_at (value_at t left) form w s (one ++ (more ++ rest)) ≡ done ((variant, vs), s + (w + a), more ++ rest) = e ∙ ap (λ n. done ((variant, vs), n, more ++ rest)) (add_assoc s w a) in
      let h' : elems_at (value_at t left) form n w ((s + (w + a)) + b) rest ≡ refused Elems3 c =
      subst (λ (m : ℕ). elems_at (value_at t left) form n w m rest ≡ refused Elems3 c) (sym (add_assoc s (w + a) b))
      (subst (λ (r : List Place). elems_at (value_at t left) form n w (s + ((w + weigh_vals t r w vs) + weigh_elems t index w es)) rest ≡ refused Elems3 c) places_is h) in
      let m = elems_refused index form n count (s + (w + a)) rest es c i f.3 g.1 (omega (arith, is)) short.1 (omega (arith, sum)) h' in
      let all : elems_at (value_at t left) form (suc count) w s (one ++ (more ++ rest)) ≡ refused Elems3 c =
      passes (elem_at (value_at t left) form w s (one ++ (more ++ rest))) (elems_rest (value_at t left) form count w) ((variant, vs), s + (w + a), more ++ rest) (refused Elems3 c) first
      (breaks (elems_at (value_at t left) form count w (s + (w + a)) (more ++ rest)) (λ r. Ok (elem variant vs r.0, r.1, r.2)) c m) in
      rw slots_is (ap (λ (y : List ℕ). elems_at (value_at t left) form (suc count) w s y) (append_assoc one more rest) ∙ all)

  elems_met : (met : OneMet) → IsRefused (value_at t left) met → (index : ℕ) (form : Parsed) (count s : ℕ) (from : List ℕ) (c : Cause) → IsForm t index form → s ≤ 8192
      → MetElems t left met index form count w s from c → elems_at (value_at t left) form count w s from ≡ refused Elems3 c
  unfolding elems_at
  elems_met met refuses index form count s from c i low m =
      let high : m.sum ≤ 8192 = m.found.sums.kept low in
      let light : s + weigh_elems t index w m.elems ≤ 8192 = omega (arith, high, m.found.sums.sum) in
      let n : ℕ = count - suc (elems_len m.elems) in
      let is : elems_len m.elems + suc n ≡ count = let l = m.few in omega (arith, l) in
      let here = elem_met met refuses index form m.sum m.rest c i high m.met in
      let step : elems_at (value_at t left) form (suc n) w m.sum m.rest ≡ refused Elems3 c = breaks (elem_at (value_at t left) form w m.sum m.rest) (elems_rest (value_at t left) form n w) c here in
      let step' = subst (λ (k : ℕ). elems_at (value_at t left) form (suc n) w k m.rest ≡ refused Elems3 c) (sym m.found.sums.sum) step in
      ap (λ (x : List ℕ). elems_at (value_at t left) form count w s x) m.found.carries
      ∙ elems_refused index form (suc n) count s m.rest m.elems c i m.found.fits m.found.sound is m.found.lengths light step'

  indexed_met : (met : OneMet) → IsRefused (value_at t left) met → (index s : ℕ) (from : List ℕ) (c : Cause) → s ≤ 8192 → MetIndexed t left met index w s from c → indexed_at t (value_at t left) index w s from ≡ refused Elem3 c
  indexed_met met refuses index s from c low (inl m) = breaks (form_of t.language (look t index)) (indexed_elem (value_at t left) w s from) c (form_refused t index c m)
  indexed_met met refuses index s from c low (inr m) =
      passes (form_of t.language (look t index)) (indexed_elem (value_at t left) w s from) m.0 (refused Elem3 c) (form_back_of t index m.0 m.1 m.2)
      (elem_met met refuses index m.0 s from c m.1 low m.3)

  node_met : (met : OneMet) → IsRefused (value_at t left) met → (s : ℕ) (from : List ℕ) (c : Cause) → s ≤ 8192 → MetNode t left met w s from c → node_at t (value_at t left) w s from ≡ refused Val3 c
  node_met met refuses s from c low (inl m) = breaks (number_at 2 from) (node_rest t (value_at t left) w s) c (cut_number 2 from c m)
  node_met met refuses s from c low (inr m) =
      passes (number_at 2 from) (node_rest t (value_at t left) w s) (m.0, m.1) (refused Val3 c) (number_again 2 m.0 from m.1 m.2)
      (breaks (indexed_at t (value_at t left) m.0 w s m.1) (λ e. Ok (format m.0 e.0.0 e.0.1, e.1, e.2)) c (indexed_met met refuses m.0 s m.1 c low m.3))

  list_met : (met : OneMet) → IsRefused (value_at t left) met → (count s : ℕ) (from : List ℕ) (c : Cause) → s ≤ 8192 → MetList t left met count w s from c → list_at t (value_at t left) count w s from ≡ refused Val3 c
  list_met met refuses count s from c low (inl m) = breaks (number_at 2 from) (list_form t (value_at t left) count w s) c (cut_number 2 from c m)
  list_met met refuses count s from c low (inr (inl m)) =
      passes (number_at 2 from) (list_form t (value_at t left) count w s) (m.0, m.1) (refused Val3 c) (number_again 2 m.0 from m.1 m.2)
      (breaks (form_of t.language (look t m.0)) (list_elems (value_at t left) count w s (m.0, m.1)) c (form_refused t m.0 c m.3))
  list_met met refuses count s from c low (inr (inr m)) =
      passes (number_at 2 from) (list_form t (value_at t left) count w s) (m.0, m.1) (refused Val3 c) (number_again 2 m.0 from m.1 m.3)
      (passes (form_of t.language (look t m.0)) (list_elems (value_at t left) count w s (m.0, m.1)) m.2 (refused Val3 c) (form_back_of t m.0 m.2 m.4 m.5)
      (breaks (elems_at (value_at t left) m.2 count w s m.1) (λ r. Ok (seq (Some m.0) r.0, r.1, r.2)) c
      (elems_met met refuses m.0 m.2 count s m.1 c m.4 low m.6)))

  -- elements of a sequence in front are read, and what follows is refused
  nodes_refused : (n count s : ℕ) (rest : List ℕ) (ns : Nodes) (c : Cause) → FitsNodes t left ns → NodesSound ns → nodes_len ns + n ≡ count → NodesLengthsFit t ns → s + weigh_nodes t w ns ≤ 8192
      → nodes_at t (below t left) n w (s + weigh_nodes t w ns) rest ≡ refused Nodes3 c
      → nodes_at t (below t left) count w s (bytes_nodes t ns ++ rest) ≡ refused Nodes3 c
  unfolding bytes_nodes
  nodes_refused n count s rest no_nodes c f g is short light h =
      let z : s + 0 ≡ s = omega arith in
      let e : n ≡ count = omega (arith, is) in
      subst (λ (m : ℕ). nodes_at t (below t left) m w s rest ≡ refused Nodes3 c) e (subst (λ (m : ℕ). nodes_at t (below t left) n w m rest ≡ refused Nodes3 c) z h)
  nodes_refused n zero s rest (node index variant vs ns) c f g is short light h = absurd (omega (arith, is))
  nodes_refused n (suc count) s rest (node index variant vs ns) c f g is short light h =
      let form : Parsed = f.0 in
      let ps : List Piece = f.1 in
      let a : ℕ = w + weigh_vals t (node_places t index variant) w vs in
      let b : ℕ = weigh_nodes t w ns in
      let body : List ℕ = bytes_vals t (node_slots t index variant) vs in
      let tail : List ℕ = bytes_nodes t ns ++ rest in
      let one : List ℕ = (variant_byte variant ++ body) ++ tail in
      let sum : s + (a + b) ≤ 8192 = light in
      let n_is : weigh_vals t (node_places t index variant) w vs ≡ weigh_vals t (places_of ps) w vs = ap (λ (q : List Place). weigh_vals t q w vs) (places_are t index form variant ps f.4 f.5) in
      let size : LengthsFit t (slots_at (places_of ps)) vs = subst (λ (q : List Slot). LengthsFit t q vs) (node_slots_are t index form variant ps f.4 f.5) short.0 in
      let e = vals_back t (left - 1) (places_of ps) w (s + w) tail vs f.6 g.0 some (form_used t index form variant ps f.4 f.5) size (omega (arith, sum, n_is)) in
      let i = indexed_from t (left - 1) index form variant ps w s vs tail f.4 f.5 (omega (arith, sum, n_is)) e in
      let m : member_at t (below t left) index w s one ≡ done ((variant, vs), s + a, tail) = ap (λ (o : Option OneAt). member_at t o index w s one) (below_is t left f.3) ∙ i in
      let h' : nodes_at t (below t left) n w ((s + a) + b) rest ≡ refused Nodes3 c = subst (λ (k : ℕ). nodes_at t (below t left) n w k rest ≡ refused Nodes3 c) (sym (add_assoc s a b)) h in
      let k = nodes_refused n count (s + a) rest ns c f.7 g.1 (omega (arith, is)) short.1 (omega (arith, sum)) h' in
      ap (λ (x : List ℕ). nodes_at t (below t left) (suc count) w s x) (node_parts (little_bytes 2 index) (variant_byte variant) body (bytes_nodes t ns) rest)
      ∙ nodes_pass t (below t left) count index w s (s + a) variant vs one tail (index_small t index f.4.entry f.4.there) f.2 m
      ∙ breaks (nodes_at t (below t left) count w (s + a) tail) (λ r. Ok (node index variant vs r.0, r.1, r.2)) c k

-- the reader and what is refused one level below belong together
abbrev IsLevel : Map → ℕ → Option OneAt → Level → Type 0
IsLevel t left None no_level = Unit {0}
IsLevel t left (Some one) (level met) = (one ≡ value_at t left) × IsRefused (value_at t left) met
IsLevel t left one l = ⊥

some_met : (t : Map) (left count : ℕ) (one : Option OneAt) (l : Level) → IsLevel t left one l → (w s : ℕ) (from : List ℕ) (c : Cause) → s ≤ 8192 → 0 < w → MetSome t left l count w s from c → some_at t one count w s from ≡ refused Val3 c
some_met t left zero one l b w s from c low some m = absurd m
some_met t left (suc n) None no_level b w s from c low some m = ap (λ d. Err d) (sym m)
some_met t left (suc n) None (level met) b w s from c low some m = absurd b
some_met t left (suc n) (Some one) no_level b w s from c low some m = absurd b
some_met t left (suc n) (Some one) (level met) b w s from c low some m = rw b.0 (list_met t left w some met b.1 (suc n) s from c low m)

-- the same reader, by the levels that may be opened
below_level : (t : Map) (left : ℕ) (one : Option OneAt) (l : Level) → IsLevel t left one l → one ≡ below t (levels l left)
below_level t left None no_level b = refl
below_level t left None (level met) b = absurd b
below_level t left (Some one) no_level b = absurd b
below_level t left (Some one) (level met) b = ap (λ (f : OneAt). Some f) b.0

member_met : (t : Map) (left : ℕ) (one : Option OneAt) (l : Level) → IsLevel t left one l → (index w s : ℕ) (from : List ℕ) (c : Cause) → s ≤ 8192 → 0 < w → MetMember t left l index w s from c → member_at t one index w s from ≡ refused Elem3 c
member_met t left None no_level b index w s from c low some m = ap (λ d. Err d) (sym m)
member_met t left None (level met) b index w s from c low some m = absurd b
member_met t left (Some one) no_level b index w s from c low some m = absurd b
member_met t left (Some one) (level met) b index w s from c low some m = rw b.0 (indexed_met t left w some met b.1 index s from c low m)

module _ (t : Map) (left : ℕ) (one : Option OneAt) (l : Level) (b : IsLevel t left one l) (w : ℕ) (some : 0 < w) where
  next_met : (n s : ℕ) (from : List ℕ) (c : Cause) → length from ≤ n → s ≤ 8192 → MetNext t left l w s from c → nodes_at t one n w s from ≡ refused Nodes3 c
  unfolding nodes_at
  next_met zero s from c few low (inl m) = ap (λ d. Err d) (sym m.1)
  next_met zero s from c few low (inr m) =
      absurd (omega (arith, few, ap (λ (x : List ℕ). length x) m.2.carries, length-append (little_bytes 2 m.0) m.1, length_little 2 m.0))
  next_met (suc n) s from c few low (inl m) = breaks (number_at 2 from) (nodes_rest t one n w s) c (cut_number 2 from c m)
  next_met (suc n) s from c few low (inr m) =
      let ne : (m.0 == 0) ≡ false = let p = m.3 in ne_eqb m.0 0 (λ z. omega (arith, p, z)) in
      passes (number_at 2 from) (nodes_rest t one n w s) (m.0, m.1) (refused Nodes3 c) (number_again 2 m.0 from m.1 m.2)
      (ap (λ d. nodes_behind t one n w s (m.0, m.1) d) ne
      ∙ breaks (member_at t one m.0 w s m.1) (nodes_tail t one n w m.0) c (member_met t left one l b m.0 w s m.1 c low some m.4))

  sequence_met : (s : ℕ) (from : List ℕ) (c : Cause) → s ≤ 8192 → MetNodes t left l w s from c → sequence_at t one w s from ≡ refused Val3 c
  sequence_met s from c low m =
      let outer : ℕ = levels l left in
      let is : one ≡ below t outer = below_level t left one l b in
      let high : m.sum ≤ 8192 = m.found.sums.kept low in
      let light : s + weigh_nodes t w m.nodes ≤ 8192 = omega (arith, high, m.found.sums.sum) in
      let size : length from ≡ length (bytes_nodes t m.nodes) + length m.rest = ap (λ (x : List ℕ). length x) m.found.carries ∙ length-append (bytes_nodes t m.nodes) m.rest in
      let n : ℕ = length from - nodes_len m.nodes in
      let count : nodes_len m.nodes + n ≡ length from = omega (arith, size, nodes_few t m.nodes) in
      let few : length m.rest ≤ n = omega (arith, size, nodes_few t m.nodes) in
      let here = next_met n m.sum m.rest c few high m.met in
      let step : nodes_at t (below t outer) n w (s + weigh_nodes t w m.nodes) m.rest ≡ refused Nodes3 c =
      ap (λ (x : ℕ). nodes_at t (below t outer) n w x m.rest) m.found.sums.sum ∙ ap (λ (o : Option OneAt). nodes_at t o n w m.sum m.rest) (sym is) ∙ here in
      let all = nodes_refused t outer w some n (length from) s m.rest m.nodes c m.found.fits m.found.sound count m.found.lengths light step in
      breaks (nodes_at t one (length from) w s from) (λ r. Ok (sequence r.0, r.1, r.2)) c
      (ap (λ (o : Option OneAt). nodes_at t o (length from) w s from) is ∙ ap (λ (x : List ℕ). nodes_at t (below t outer) (length from) w s x) m.found.carries ∙ all)

slot_met : (t : Map) (left : ℕ) (one : Option OneAt) (l : Level) → IsLevel t left one l → (slot : Slot) (w s : ℕ) (from : List ℕ) (c : Cause) → s ≤ 8192 → 0 < w → MetSlot t left l slot w s from c → slot_at t one slot w s from ≡ refused Val3 c
slot_met t left one l b (slots.One (kinds.Uint size)) w s from c low some m = breaks (number_at (size_bytes size) from) (λ r. Ok (uint r.0, s, r.1)) c (cut_number (size_bytes size) from c m)
slot_met t left one l b (slots.One (kinds.Int size)) w s from c low some m =
    breaks (signed_at (size_bytes size) from) (λ r. Ok (int r.0, s, r.1)) c (breaks (number_at (size_bytes size) from) (λ r. Ok (twos_complement (size_bytes size) r.0, r.1)) c (cut_number (size_bytes size) from c m))
slot_met t left one l b (slots.One kinds.Bool) w s from c low some m = bool_met s from c m
slot_met t left one l b (slots.One kinds.Char) w s from c low some m = char_met s from c m
slot_met t left one l b (slots.One kinds.Str) w s from c low some m = breaks (text_at from) (λ r. Ok (str r.0, s, r.1)) c (text_met s from c m)
slot_met t left one l b (slots.One kinds.Istr) w s from c low some m = istr_met s from c t m
slot_met t left one l b (slots.One kinds.Bytes) w s from c low some m = breaks (bytes_at from) (λ r. Ok (bytes r.0, s, r.1)) c (counted_met s from c m)
slot_met t left one l b (slots.One (kinds.ByteArray count)) w s from c low some m = breaks (chunk_at count from) (λ r. Ok (bytes r.0, s, r.1)) c (cut_chunk count from c m)
slot_met t left None no_level b (slots.One kinds.Format) w s from c low some m = ap (λ d. Err d) (sym m)
slot_met t left None (level met) b (slots.One kinds.Format) w s from c low some m = absurd b
slot_met t left (Some one) no_level b (slots.One kinds.Format) w s from c low some m = absurd b
slot_met t left (Some one) (level met) b (slots.One kinds.Format) w s from c low some m = rw b.0 (node_met t left w some met b.1 s from c low m)
slot_met t left one l b (slots.One kinds.FormatSlice) w s from c low some (inl m) = breaks (number_at 4 from) (λ n. some_at t one n.0 w s n.1) c (cut_number 4 from c m)
slot_met t left one l b (slots.One kinds.FormatSlice) w s from c low some (inr m) =
    passes (number_at 4 from) (λ n. some_at t one n.0 w s n.1) (m.0, m.1) (refused Val3 c) (number_again 4 m.0 from m.1 m.2) (some_met t left m.0 one l b w s m.1 c low some m.3)
slot_met t left one l b (slots.One (kinds.FormatArray count)) w s from c low some m = some_met t left count one l b w s from c low some m
slot_met t left one l b (slots.One (kinds.Bits lo hi)) w s from c low some m = ap (λ d. Err d) (sym m)
slot_met t left one l b (slots.One (kinds.Float size)) w s from c low some m = breaks (number_at (float_bytes size) from) (λ r. Ok (float r.0, s, r.1)) c (cut_number (float_bytes size) from c m)
slot_met t left one l b (slots.One kinds.Debug) w s from c low some m = shown_met s from c m
slot_met t left one l b (slots.One kinds.Display) w s from c low some m = shown_met s from c m
slot_met t left one l b (slots.One kinds.Sequence) w s from c low some m = sequence_met t left one l b w some s from c low m
slot_met t left one l b (slots.Bits first width) w s from c low some m = breaks (number_at width from) (λ r. Ok (bits (r.0 * 256 ^ first), s, r.1)) c (cut_number width from c m)

value_met : (t : Map) (left : ℕ) → IsRefused (value_at t left) (met_at t left)
unfolding value_at met_at
value_met t zero = λ slot w s from c low some m. slot_met t zero None no_level tt slot w s from c low some m
value_met t (suc left) = λ slot w s from c low some m. slot_met t left (Some (value_at t left)) (level (met_at t left)) (refl, value_met t left) slot w s from c low some m

-- ---- messages

args_met : (t : Map) (places : List Place) (from : List ℕ) (c : Cause) → AreUsed places → MetEach t 16 (met_at t 16) places 1 0 from c → each_at (value_at t 16) places 1 0 from ≡ refused Args3 c
args_met t places from c used m = each_met t 16 1 (omega arith) (met_at t 16) (value_met t 16) places 0 from c (omega arith) used m

stamp_met : (t : Map) (o : Option ℕ) (from : List ℕ) (c : Cause) → MetStamp t o from c → stamp_at t o from ≡ refused (Vals × List ℕ) c
stamp_met t None from c m = absurd m
stamp_met t (Some index) from c (inl m) =
    let e : stamp_form t.language (look t index) ≡ refused (List Piece) c = rw (m.1, m.3) (stamp_refused t.language m.0 m.2) in
    breaks (stamp_form t.language (look t index)) (stamp_rest t from) c e
stamp_met t (Some index) from c (inr m) =
    let e : stamp_form t.language (look t index) ≡ done m.1 = rw (m.2, m.3) refl in
    passes (stamp_form t.language (look t index)) (stamp_rest t from) m.1 (refused (Vals × List ℕ) c) e
    (breaks (each_at (value_at t 16) (places_of m.1) 1 0 from) (λ r. Ok (r.0, r.2)) c (args_met t (places_of m.1) from c (own_used t.language m.0 m.1 m.3) m.4))

behind_met : (t : Map) (i : ℕ) (ps : List Piece) (place : Option ℕ) (from : List ℕ) (c : Cause) → AreUsed (places_of ps) → MetBehind t ps from c → (stamp_at t (stamp_of t) from ⇒ rest_args t i ps place) ≡ refused Message4 c
behind_met t i ps place from c used (inl m) = breaks (stamp_at t (stamp_of t) from) (rest_args t i ps place) c (stamp_met t (stamp_of t) from c m)
behind_met t i ps place from c used (inr (inl m)) =
    passes (stamp_at t (stamp_of t) from) (rest_args t i ps place) (m.0, m.1) (refused Message4 c) (stamp_back t m.0 from m.1 m.2)
    (breaks (each_at (value_at t 16) (places_of ps) 1 0 m.1) (rest_end i place m.0) c (args_met t (places_of ps) m.1 c used m.3))
behind_met t i ps place from c used (inr (inr m)) =
    let stamp : Vals = m.0 in
    let mid : List ℕ = m.1 in
    let vs : Vals = m.2 in
    let rest : List ℕ = m.4 in
    let high : m.3 ≤ 8192 = m.6.sums.kept (omega arith) in
    let k = vals_back t 16 (places_of ps) 1 0 rest vs m.6.fits m.6.sound (omega arith) used m.6.lengths (omega (arith, high, m.6.sums.sum)) in
    let k' : each_at (value_at t 16) (places_of ps) 1 0 mid ≡ done (vs, 0 + weigh_vals t (places_of ps) 1 vs, rest) = ap (λ (x : List ℕ). each_at (value_at t 16) (places_of ps) 1 0 x) m.6.carries ∙ k in
    let e : padded rest ≡ refused (Unit {0}) c = rw (m.7, m.8) refl in
    passes (stamp_at t (stamp_of t) from) (rest_args t i ps place) (stamp, mid) (refused Message4 c) (stamp_back t stamp from mid m.5)
    (passes (each_at (value_at t 16) (places_of ps) 1 0 mid) (rest_end i place stamp) (vs, 0 + weigh_vals t (places_of ps) 1 vs, rest) (refused Message4 c) k'
    (breaks (padded rest) (λ _. Ok (place, stamp, i, vs)) c e))

placed_met : (t : Catalog) (i : ℕ) (ps : List Piece) (from : List ℕ) (c : Cause) → AreUsed (places_of ps) → MetPlaced t ps from c → (place_at t.profile from ⇒ rest_stamp t.entries i ps) ≡ refused Message4 c
placed_met t i ps from c used (inl m) = breaks (place_at t.profile from) (rest_stamp t.entries i ps) c (place_met t.profile from c m)
placed_met t i ps from c used (inr m) =
    passes (place_at t.profile from) (rest_stamp t.entries i ps) (m.0, m.1) (refused Message4 c) (place_back t.profile m.0 from m.1 m.2)
    (behind_met t.entries i ps m.0 m.1 c used m.3)

pub met_again : (t : Catalog) (from : List ℕ) (c : Cause) → Meets t from c → message_at t from ≡ refused Message4 c
met_again t from c (inl m) = breaks (number_at 2 from) (rest_own t) c (cut_number 2 from c m)
met_again t from c (inr (inl m)) =
    passes (number_at 2 from) (rest_own t) (m.0, m.1) (refused Message4 c) (number_again 2 m.0 from m.1 m.2)
    (breaks (logged_of t.entries.language (look t.entries m.0)) (rest_place t (m.0, m.1)) c (own_refused t.entries m.0 c m.3))
met_again t from c (inr (inr m)) =
    passes (number_at 2 from) (rest_own t) (m.0, m.1) (refused Message4 c) (number_again 2 m.0 from m.1 m.3)
    (passes (logged_of t.entries.language (look t.entries m.0)) (rest_place t (m.0, m.1)) m.2 (refused Message4 c) (own_back t.entries m.0 m.2 m.4)
    (placed_met t m.0 m.2 m.1 c (own_used t.entries.language m.4.entry m.2 m.4.body) m.5))

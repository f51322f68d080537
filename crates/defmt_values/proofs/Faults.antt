-- The first cause of a statement, as a relation, is what a scan with counters answers.
use Rattle.std.proofs.Common.{◌≡◌, ◌⊎◌, ◌<◌, ◌≤◌, inl, inr, ◌+◌, ◌-◌, ◌*◌, ◌++◌, nat_lt, nat_le, ℕ, zero, suc, Bool, true, false, List, [], ◌∷◌, length, Option, Some, None, Result, Ok, Err, refl, sym, ap, ◌∙◌, subst, arith, add_assoc, cond}
use Rattle.std.specs.Prelude.{IfErr}
use Rattle.std.proofs.lemmas.Bool.{leb-false, lt-leb, lt-ltb}
use Rattle.defmt_grammar.specs.declared.piece.Piece.{Piece}
use Rattle.defmt_grammar.specs.declared.slot.Slot.{Slot}
use Rattle.defmt_intern.specs.Table.{Map}
use Rattle.defmt_intern.specs.declared.parsed.Parsed.{Parsed}
use Rattle.defmt_values.specs.Entries.{look, Place, places_of}
use Rattle.defmt_values.specs.Faults.{OneFault, Level, no_level, level, NextFault, EachFault, FormFault, NodeFault, ElemsFault, ListFault, SeqFault, levels, NodesFault, ValFault, fault_at, StatementFault}
use Rattle.defmt_values.specs.Fits.{IsForm, HasPieces, FitsVal, FitsVals, FitsElems, FitsNodes, weigh_val, weigh_vals, weigh_elems, weigh_nodes, Fits}
use Rattle.defmt_values.specs.Plain.{Val, uint, int, flag, char, str, istr, bytes, bits, format, seq, float, sequence, Vals, no_vals, val, Elems, no_elems, elem, Nodes, no_nodes, node, elems_len, elems_empty, join_vals, join_elems, join_nodes}
use Rattle.defmt_values.specs.Scan.{◌>>=◌, test, uint_cause, int_cause, flag_cause, char_cause, str_cause, istr_cause, bytes_cause, bits_cause, float_cause, node_cause, list_cause, count_cause, sequence_cause, form_at, element_form, list_form, pick, add, no_index, node_places, index_or, own_form, scan_val, scan_vals, scan_elems, scan_one, scan_nodes, scan_own, own_cause}
use Rattle.defmt_values.proofs.Again.{val_again, vals_again, elems_again, node_again, fits_found, fits_again}
use Rattle.defmt_values.proofs.Forms.{places_are, element_there, pieces_there, adds}
use Rattle.defmt_values.proofs.Found.{bound, Sums, none_index, form_found, element_found, pick_found, add_found, node_sums, val_found, vals_found, elems_found, node_in}

-- ---- chains

abbrev failed : (A : Type 0) → ℕ → Result A ℕ
failed A c = Err c

abbrev done : ℕ → Result ℕ ℕ
done n = Ok n

abbrev ended : ℕ → Result (Unit {0}) ℕ
ended n = Ok tt

same_cause : {A : Type 0} (c d : ℕ) → failed A c ≡ failed A d → c ≡ d
same_cause c d h = cc

-- a chain that is refused is refused at one link
broken : {A B : Type 0} (x : Result A ℕ) (f : A → Result B ℕ) (c : ℕ) → (x >>= f) ≡ failed B c → (x ≡ failed A c) ⊎ ((a : A) × (x ≡ Ok a) × (f a ≡ failed B c))
broken (Ok a) f c h = inr (a, refl, h)
broken {B = B} (Err d) f c h = inl (ap (λ e. Err e) (same_cause {A = B} d c h))

passes : {A B : Type 0} (x : Result A ℕ) (f : A → Result B ℕ) (a : A) (r : Result B ℕ) → x ≡ Ok a → f a ≡ r → (x >>= f) ≡ r
passes x f a r e k = ap (λ q. q >>= f) e ∙ k

breaks : {A B : Type 0} (x : Result A ℕ) (f : A → Result B ℕ) (c : ℕ) → x ≡ failed A c → (x >>= f) ≡ failed B c
breaks x f c e = ap (λ q. q >>= f) e

-- a test in front of a sum is refused where both are
before_sum : (x : Result (Unit {0}) ℕ) (s c : ℕ) → (x >>= λ _. done s) ≡ failed ℕ c → x ≡ failed (Unit {0}) c
before_sum (Ok a) s c h = absurd (cc)
before_sum (Err d) s c h = ap (λ e. Err e) (same_cause {A = ℕ} d c h)

before_end : (x : Result ℕ ℕ) (c : ℕ) → (x >>= ended) ≡ failed (Unit {0}) c → x ≡ failed ℕ c
before_end (Ok a) c h = absurd (cc)
before_end (Err d) c h = ap (λ e. Err e) (same_cause {A = Unit {0}} d c h)

heavy_by : (w s c : ℕ) (b : Bool) → nat_le (s + w) 8192 ≡ b → cond {A = Result ℕ ℕ} b (Ok (s + w)) (Err 7) ≡ failed ℕ c → (8192 < s + w) × (c ≡ 7)
heavy_by w s c true e h = absurd (cc)
heavy_by w s c false e h = (leb-false (s + w) 8192 e, sym (same_cause {A = ℕ} 7 c h))

heavy : (w s c : ℕ) → add w s ≡ failed ℕ c → (8192 < s + w) × (c ≡ 7)
heavy w s c h = heavy_by w s c (nat_le (s + w) 8192) refl h

two : (x : Result ℕ ℕ) (y : Result (List Piece) ℕ) (f : ℕ → List Piece → Result ℕ ℕ) (g : ℕ → Result ℕ ℕ) → (x >>= λ s. (y >>= λ ps. (f s ps >>= g))) ≡ ((x >>= λ s. (y >>= λ ps. f s ps)) >>= g)
two (Err e) y f g = refl
two (Ok s) (Err e) f g = refl
two (Ok s) (Ok ps) f g = refl

-- ---- the chains of a scan; left is the number of levels inside

abbrev args_scan : Map → ℕ → ℕ → Vals → ℕ → List Piece → Result ℕ ℕ
args_scan t left w vs s ps = scan_vals t left (places_of ps) w s vs

abbrev picked_scan : Map → ℕ → ℕ → Option ℕ → Vals → Parsed → ℕ → Result ℕ ℕ
picked_scan t left w variant vs form s = pick form variant >>= args_scan t left w vs s

-- of an element, and of a Format value behind its entry
abbrev form_scan : Map → ℕ → ℕ → ℕ → Option ℕ → Vals → Parsed → Result ℕ ℕ
form_scan t left w s variant vs form = add w s >>= picked_scan t left w variant vs form

abbrev node_scan : Map → ℕ → ℕ → Result Parsed ℕ → ℕ → ℕ → Option ℕ → Vals → Unit {0} → Result ℕ ℕ
node_scan t n left found w s variant vs _ = test (nat_lt 0 n) 6 >>= λ _. (found >>= form_scan t left w s variant vs)

abbrev count_scan : Slot → Elems → ℕ → Result ℕ ℕ
count_scan slot es s = count_cause slot (elems_len es) >>= λ _. done s

abbrev elems_scan : Map → ℕ → Slot → ℕ → ℕ → Elems → Parsed → Result ℕ ℕ
elems_scan t left slot w s es form = scan_elems t left form w s es >>= count_scan slot es

abbrev some_scan : Map → ℕ → ℕ → Slot → ℕ → ℕ → Option ℕ → Elems → Result ℕ ℕ
some_scan t n left slot w s index es = test (nat_lt 0 n) 6 >>= λ _. (list_form t index >>= elems_scan t left slot w s es)

abbrev none_scan : Slot → ℕ → Unit {0} → Result ℕ ℕ
none_scan slot s _ = count_cause slot 0 >>= λ _. done s

abbrev seq_scan : Map → ℕ → ℕ → Slot → ℕ → ℕ → Option ℕ → Elems → Unit {0} → Result ℕ ℕ
seq_scan t n left slot w s index es _ = cond {A = Result ℕ ℕ} (elems_empty es) (no_index index >>= none_scan slot s) (some_scan t n left slot w s index es)

elem_is : (t : Map) (left : ℕ) (form : Parsed) (w s : ℕ) (variant : Option ℕ) (vs : Vals) (es : Elems) → scan_elems t left form w s (elem variant vs es) ≡ (form_scan t left w s variant vs form >>= λ r. scan_elems t left form w r es)
unfolding scan_val
elem_is t left form w s variant vs es = two (add w s) (pick form variant) (λ u ps. scan_vals t left (places_of ps) w u vs) (λ r. scan_elems t left form w r es)

-- what a list's index stands for
list_is_form : (t : Map) (index : Option ℕ) (form : Parsed) → list_form t index ≡ Ok form → IsForm t (index_or index) form
list_is_form t None form h = absurd (cc)
list_is_form t (Some i) form h = form_found t i form h

-- ---- what is refused has this cause

-- whatever this refuses of a value round which n levels may be opened, the scan answers
abbrev pub IsRefused : Map → ℕ → OneFault → Type 0
IsRefused t n one = (slot : Slot) (w s : ℕ) (v : Val) (c : ℕ) → one slot w s v c → scan_val t n slot w s v ≡ failed ℕ c

-- whatever cause the scan answers, this refuses
abbrev pub IsTold : Map → ℕ → OneFault → Type 0
IsTold t n one = (slot : Slot) (w s : ℕ) (v : Val) (c : ℕ) → s ≤ 8192 → scan_val t n slot w s v ≡ failed ℕ c → one slot w s v c

module _ (t : Map) (left w : ℕ) where
  -- what fits in front is passed, with its weights
  front_passes : (front others : List Place) (s : ℕ) (vs rest : Vals) → FitsVals t left front vs → s + weigh_vals t front w vs ≤ 8192
      → scan_vals t left (front ++ others) w s (join_vals vs rest) ≡ scan_vals t left others w (s + weigh_vals t front w vs) rest
  unfolding scan_val
  front_passes front others s no_vals rest f light =
      let z : s ≡ s + 0 = omega arith in
      rw f (ap (λ (n : ℕ). scan_vals t left others w n rest) z)
  front_passes front others s (val v vs) rest f light =
      let x : Place = f.0 in
      let xs : List Place = f.1 in
      let a : ℕ = weigh_val t (x.uses * w) v in
      let b : ℕ = weigh_vals t xs w vs in
      let sum : s + (a + b) ≤ 8192 = subst (λ (sl : List Place). s + weigh_vals t sl w (val v vs) ≤ 8192) f.2 light in
      let h = val_again t left x.slot (x.uses * w) s v f.3 (omega (arith, sum)) in
      let k = front_passes xs others (s + a) vs rest f.4 (omega (arith, sum)) in
      rw (f.2, h) (k ∙ ap (λ (n : ℕ). scan_vals t left others w n rest) (add_assoc s a b))

  elems_pass : (index : ℕ) (form : Parsed) (s : ℕ) (es rest : Elems) → IsForm t index form → FitsElems t left form es → s + weigh_elems t index w es ≤ 8192
      → scan_elems t left form w s (join_elems es rest) ≡ scan_elems t left form w (s + weigh_elems t index w es) rest
  unfolding scan_val
  elems_pass index form s no_elems rest i f light =
      let z : s ≡ s + 0 = omega arith in
      ap (λ (n : ℕ). scan_elems t left form w n rest) z
  elems_pass index form s (elem variant vs es) rest i f light =
      let ps : List Piece = f.0 in
      let places_is : node_places t index variant ≡ places_of ps = places_are t index form variant ps i f.1 in
      let a : ℕ = weigh_vals t (places_of ps) w vs in
      let b : ℕ = weigh_elems t index w es in
      let sum : s + ((w + a) + b) ≤ 8192 = subst (λ (sl : List Place). s + ((w + weigh_vals t sl w vs) + weigh_elems t index w es) ≤ 8192) places_is light in
      let h = vals_again t left (places_of ps) w (s + w) vs f.2 (omega (arith, sum)) in
      let k = elems_pass index form ((s + w) + a) es rest i f.3 (omega (arith, sum)) in
      let e : ((s + w) + a) + b ≡ s + ((w + a) + b) = omega arith in
      rw (places_is, adds w s (omega (arith, sum)), pieces_there form variant ps f.1, h) (k ∙ ap (λ (n : ℕ). scan_elems t left form w n rest) e)

  module _ (one : OneFault) (refuses : IsRefused t left one) where
    next_refused : (places : List Place) (s : ℕ) (vs : Vals) (c : ℕ) → NextFault one places w s vs c → scan_vals t left places w s vs ≡ failed ℕ c
    unfolding scan_val
    next_refused [] s no_vals c m = absurd m
    next_refused [] s (val v vs) c m = ap (λ d. Err d) (sym m)
    next_refused (p ∷ ps) s no_vals c m = ap (λ d. Err d) (sym m)
    next_refused (p ∷ ps) s (val v vs) c m = breaks (scan_val t left p.slot (p.uses * w) s v) (λ r. scan_vals t left ps w r vs) c (refuses p.slot (p.uses * w) s v c m)

    each_refused : (places : List Place) (s : ℕ) (vs : Vals) (c : ℕ) → EachFault t left one places w s vs c → scan_vals t left places w s vs ≡ failed ℕ c
    each_refused places s vs c m =
        ap (λ (ps : List Place). scan_vals t left ps w s vs) m.places_is
        ∙ ap (λ (xs : Vals). scan_vals t left (m.front ++ m.others) w s xs) m.values_is
        ∙ front_passes m.front m.others s m.values m.rest m.fits m.light
        ∙ next_refused m.others (s + weigh_vals t m.front w m.values) m.rest c m.next

    form_refused : (form : Parsed) (s : ℕ) (variant : Option ℕ) (vs : Vals) (c : ℕ) → FormFault t left one form w s variant vs c → form_scan t left w s variant vs form ≡ failed ℕ c
    form_refused form s variant vs c (inl m) =
        let e : add w s ≡ failed ℕ c = rw (lt-leb (s + w) 8192 m.0, m.1) refl in
        breaks (add w s) (picked_scan t left w variant vs form) c e
    form_refused form s variant vs c (inr (inl m)) =
        passes (add w s) (picked_scan t left w variant vs form) (s + w) (failed ℕ c) (adds w s m.0)
        (breaks (pick form variant) (args_scan t left w vs (s + w)) c m.1)
    form_refused form s variant vs c (inr (inr m)) =
        passes (add w s) (picked_scan t left w variant vs form) (s + w) (failed ℕ c) (adds w s m.1)
        (passes (pick form variant) (args_scan t left w vs (s + w)) m.0 (failed ℕ c) m.2
        (each_refused (places_of m.0) (s + w) vs c m.3))

    elems_refused : (index : ℕ) (form : Parsed) (s : ℕ) (es : Elems) (c : ℕ) → IsForm t index form → ElemsFault t left one index form w s es c → scan_elems t left form w s es ≡ failed ℕ c
    elems_refused index form s es c i m =
        let n : ℕ = s + weigh_elems t index w m.front in
        let first : scan_elems t left form w n (elem m.variant m.values m.rest) ≡ failed ℕ c =
        elem_is t left form w n m.variant m.values m.rest
        ∙ breaks (form_scan t left w n m.variant m.values form) (λ r. scan_elems t left form w r m.rest) c (form_refused form n m.variant m.values c m.next) in
        ap (λ (xs : Elems). scan_elems t left form w s xs) m.elems_is
        ∙ elems_pass index form s m.front (elem m.variant m.values m.rest) i m.fits m.light
        ∙ first

    list_refused : (slot : Slot) (s : ℕ) (index : Option ℕ) (es : Elems) (c : ℕ) → ListFault t left one slot w s index es c → (list_form t index >>= elems_scan t left slot w s es) ≡ failed ℕ c
    list_refused slot s index es c (inl m) = breaks (list_form t index) (elems_scan t left slot w s es) c m
    list_refused slot s index es c (inr (inl m)) =
        passes (list_form t index) (elems_scan t left slot w s es) m.0 (failed ℕ c) m.1
        (breaks (scan_elems t left m.0 w s es) (count_scan slot es) c (elems_refused (index_or index) m.0 s es c (list_is_form t index m.0 m.1) m.2))
    list_refused slot s index es c (inr (inr m)) =
        let sum : ℕ = s + weigh_elems t (index_or index) w es in
        passes (list_form t index) (elems_scan t left slot w s es) m.0 (failed ℕ c) m.1
        (passes (scan_elems t left m.0 w s es) (count_scan slot es) sum (failed ℕ c) (elems_again t left (index_or index) m.0 w s es (list_is_form t index m.0 m.1) m.2 m.3)
        (breaks (count_cause slot (elems_len es)) (λ _. done sum) c m.4))

  -- ---- a cause that is answered is the first

  module _ (one : OneFault) (tells : IsTold t left one) where
    -- nothing stands in front
    here : (places : List Place) (s : ℕ) (vs : Vals) (c : ℕ) → s ≤ 8192 → NextFault one places w s vs c → EachFault t left one places w s vs c
    here places s vs c low m =
        let z : s ≡ s + 0 = omega arith in
        let light : s + 0 ≤ 8192 = omega arith in
        record {
          front = [];
          others = places;
          places_is = refl;
          values = no_vals;
          rest = vs;
          values_is = refl;
          fits = refl;
          light = light;
          next = subst (λ (n : ℕ). NextFault one places w n vs c) z m;
        }

    -- one more value stands in front
    later : (p : Place) (ps : List Place) (s r : ℕ) (v : Val) (vs : Vals) (c : ℕ) → FitsVal t left p.slot v → s + weigh_val t (p.uses * w) v ≡ r → EachFault t left one ps w r vs c → EachFault t left one (p ∷ ps) w s (val v vs) c
    later p ps s r v vs c f sum m =
        let a : ℕ = weigh_val t (p.uses * w) v in
        let b : ℕ = weigh_vals t m.front w m.values in
        let e : r + b ≡ s + (a + b) = omega (arith, sum) in
        let high : r + b ≤ 8192 = m.light in
        let light : s + (a + b) ≤ 8192 = omega (arith, high, e) in
        record {
          front = p ∷ m.front;
          others = m.others;
          places_is = ap (λ (xs : List Place). p ∷ xs) m.places_is;
          values = val v m.values;
          rest = m.rest;
          values_is = ap (λ (xs : Vals). val v xs) m.values_is;
          fits = (p, m.front, refl, f, m.fits);
          light = light;
          next = subst (λ (n : ℕ). NextFault one m.others w n m.rest c) e m.next;
        }

    each_told : (places : List Place) (s : ℕ) (vs : Vals) (c : ℕ) → s ≤ 8192 → scan_vals t left places w s vs ≡ failed ℕ c → EachFault t left one places w s vs c
    unfolding scan_val
    each_told [] s no_vals c low h = absurd (cc)
    each_told (p ∷ ps) s no_vals c low h = here (p ∷ ps) s no_vals c low (sym (same_cause {A = ℕ} 2 c h))
    each_told [] s (val v vs) c low h = here [] s (val v vs) c low (sym (same_cause {A = ℕ} 2 c h))
    each_told (p ∷ ps) s (val v vs) c low h = elim (broken (scan_val t left p.slot (p.uses * w) s v) (λ r. scan_vals t left ps w r vs) c h) [
      | inl k ↦ here (p ∷ ps) s (val v vs) c low (tells p.slot (p.uses * w) s v c low k)
      | inr k ↦ (
          let f = val_found t left p.slot (p.uses * w) s k.0 v k.1 in
          later p ps s k.0 v vs c f.0 f.1.sum (each_told ps k.0 vs c (f.1.kept low) k.2))
    ]

    form_told : (form : Parsed) (s : ℕ) (variant : Option ℕ) (vs : Vals) (c : ℕ) → s ≤ 8192 → form_scan t left w s variant vs form ≡ failed ℕ c → FormFault t left one form w s variant vs c
    form_told form s variant vs c low h = elim (broken (add w s) (picked_scan t left w variant vs form) c h) [
      | inl k ↦ inl (heavy w s c k)
      | inr k ↦ (
          let a = add_found w s k.0 k.1 in
          let picked : picked_scan t left w variant vs form (s + w) ≡ failed ℕ c = subst (λ (n : ℕ). picked_scan t left w variant vs form n ≡ failed ℕ c) (sym a.1) k.2 in
          elim (broken (pick form variant) (args_scan t left w vs (s + w)) c picked) [
            | inl j ↦ inr (inl (a.0, j))
            | inr j ↦ inr (inr (j.0, a.0, j.1, each_told (places_of j.0) (s + w) vs c a.0 j.2))
          ])
    ]

    -- no element stands in front
    first_elem : (index : ℕ) (form : Parsed) (s : ℕ) (variant : Option ℕ) (vs : Vals) (es : Elems) (c : ℕ) → s ≤ 8192 → FormFault t left one form w s variant vs c → ElemsFault t left one index form w s (elem variant vs es) c
    first_elem index form s variant vs es c low m =
        let z : s ≡ s + 0 = omega arith in
        let light : s + 0 ≤ 8192 = omega arith in
        record {
          front = no_elems;
          variant = variant;
          values = vs;
          rest = es;
          elems_is = refl;
          fits = tt;
          light = light;
          next = subst (λ (n : ℕ). FormFault t left one form w n variant vs c) z m;
        }

    -- one more element stands in front
    later_elem : (index : ℕ) (form : Parsed) (s r : ℕ) (variant : Option ℕ) (vs : Vals) (ps : List Piece) (es : Elems) (c : ℕ) → HasPieces form variant ps → FitsVals t left (places_of ps) vs
        → s + (w + weigh_vals t (node_places t index variant) w vs) ≡ r → ElemsFault t left one index form w r es c → ElemsFault t left one index form w s (elem variant vs es) c
    later_elem index form s r variant vs ps es c has f sum m =
        let a : ℕ = w + weigh_vals t (node_places t index variant) w vs in
        let b : ℕ = weigh_elems t index w m.front in
        let e : r + b ≡ s + (a + b) = omega (arith, sum) in
        let high : r + b ≤ 8192 = m.light in
        let light : s + (a + b) ≤ 8192 = omega (arith, high, e) in
        record {
          front = elem variant vs m.front;
          variant = m.variant;
          values = m.values;
          rest = m.rest;
          elems_is = ap (λ (xs : Elems). elem variant vs xs) m.elems_is;
          fits = (ps, has, f, m.fits);
          light = light;
          next = subst (λ (n : ℕ). FormFault t left one form w n m.variant m.values c) e m.next;
        }

    elem_found : (index : ℕ) (form : Parsed) (s r : ℕ) (variant : Option ℕ) (vs : Vals) → IsForm t index form → form_scan t left w s variant vs form ≡ Ok r
        → (ps : List Piece) × HasPieces form variant ps × FitsVals t left (places_of ps) vs × Sums s (w + weigh_vals t (node_places t index variant) w vs) r
    elem_found index form s r variant vs i h =
        let b1 = bound (add w s) (picked_scan t left w variant vs form) r h in
        let b2 = bound (pick form variant) (args_scan t left w vs b1.0) r b1.2 in
        let ps = pick_found form variant b2.0 b2.1 in
        let a = add_found w s b1.0 b1.1 in
        let n_is : weigh_vals t (node_places t index variant) w vs ≡ weigh_vals t (places_of b2.0) w vs = ap (λ sl. weigh_vals t sl w vs) (places_are t index form variant b2.0 i ps) in
        let all = vals_found t left (places_of b2.0) w b1.0 r vs b2.2 in
        (b2.0, ps, all.0, record { sum = omega (arith, a.1, all.1.sum, n_is); kept = λ m. all.1.kept (omega (arith, a.0, a.1)) })

    elems_told : (index : ℕ) (form : Parsed) (s : ℕ) (es : Elems) (c : ℕ) → IsForm t index form → s ≤ 8192 → scan_elems t left form w s es ≡ failed ℕ c → ElemsFault t left one index form w s es c
    unfolding scan_val
    elems_told index form s no_elems c i low h = absurd (cc)
    elems_told index form s (elem variant vs es) c i low h = elim (broken (form_scan t left w s variant vs form) (λ r. scan_elems t left form w r es) c (sym (elem_is t left form w s variant vs es) ∙ h)) [
      | inl k ↦ first_elem index form s variant vs es c low (form_told form s variant vs c low k)
      | inr k ↦ (
          let g = elem_found index form s k.0 variant vs i k.1 in
          later_elem index form s k.0 variant vs g.0 es c g.1 g.2 g.3.sum (elems_told index form k.0 es c i (g.3.kept low) k.2))
    ]

    list_told : (slot : Slot) (s : ℕ) (index : Option ℕ) (es : Elems) (c : ℕ) → s ≤ 8192 → (list_form t index >>= elems_scan t left slot w s es) ≡ failed ℕ c → ListFault t left one slot w s index es c
    list_told slot s index es c low h = elim (broken (list_form t index) (elems_scan t left slot w s es) c h) [
      | inl k ↦ inl k
      | inr k ↦ (
          let i = list_is_form t index k.0 k.1 in
          elim (broken (scan_elems t left k.0 w s es) (count_scan slot es) c k.2) [
            | inl j ↦ inr (inl (k.0, k.1, elems_told (index_or index) k.0 s es c i low j))
            | inr j ↦ (
                let f = elems_found t left (index_or index) k.0 w s j.0 es i j.1 in
                let high : j.0 ≤ 8192 = f.1.kept low in
                let light : s + weigh_elems t (index_or index) w es ≤ 8192 = omega (arith, high, f.1.sum) in
                inr (inr (k.0, k.1, f.0, light, before_sum (count_cause slot (elems_len es)) j.0 c j.2)))
          ])
    ]

-- ---- one level

no_level_left : (n : ℕ) → n ≡ 0 → test (nat_lt 0 n) 6 ≡ failed (Unit {0}) 6
no_level_left n e = ap (λ (k : ℕ). test (nat_lt 0 k) 6) e

a_level_left : (n : ℕ) → 0 < n → test (nat_lt 0 n) 6 ≡ Ok tt
a_level_left n h = ap (λ (b : Bool). test b 6) (lt-ltb 0 n h)

-- left is one less than n, the number of levels that may be opened round a value
module _ (t : Map) (n left : ℕ) (less : n - 1 ≡ left) where
  node_is : (slot : Slot) (w s index : ℕ) (variant : Option ℕ) (vs : Vals) → scan_val t n slot w s (format index variant vs) ≡ (node_cause slot >>= node_scan t n left (form_at t index) w s variant vs)
  unfolding scan_val
  node_is slot w s index variant vs = subst (λ (m : ℕ). scan_val t n slot w s (format index variant vs) ≡ (node_cause slot >>= node_scan t n m (form_at t index) w s variant vs)) less refl

  node_in_is : (found : Result Parsed ℕ) (w s : ℕ) (variant : Option ℕ) (vs : Vals) → scan_one t n found w s variant vs ≡ node_scan t n left found w s variant vs tt
  unfolding scan_val
  node_in_is found w s variant vs = subst (λ (m : ℕ). scan_one t n found w s variant vs ≡ node_scan t n m found w s variant vs tt) less refl

  nodes_are : (w s index : ℕ) (variant : Option ℕ) (vs : Vals) (ns : Nodes) → scan_nodes t n w s (node index variant vs ns) ≡ (node_scan t n left (element_form t index) w s variant vs tt >>= λ r. scan_nodes t n w r ns)
  unfolding scan_val
  nodes_are w s index variant vs ns = ap (λ (q : Result ℕ ℕ). q >>= λ r. scan_nodes t n w r ns) (node_in_is (element_form t index) w s variant vs)

  seq_is : (slot : Slot) (w s : ℕ) (index : Option ℕ) (es : Elems) → scan_val t n slot w s (seq index es) ≡ (list_cause slot >>= seq_scan t n left slot w s index es)
  unfolding scan_val
  seq_is slot w s index es = subst (λ (m : ℕ). scan_val t n slot w s (seq index es) ≡ (list_cause slot >>= seq_scan t n m slot w s index es)) less refl

  -- what is refused one level below
  abbrev RefusesBelow : Level → Type 0
  RefusesBelow no_level = n ≡ 0
  RefusesBelow (level one) = (0 < n) × IsRefused t left one

  entry_refused : (one : OneFault) → IsRefused t left one → (found : Result Parsed ℕ) (w s : ℕ) (variant : Option ℕ) (vs : Vals) (c : ℕ) → NodeFault t left (level one) found w s variant vs c → (found >>= form_scan t left w s variant vs) ≡ failed ℕ c
  entry_refused one refuses found w s variant vs c (inl k) = breaks found (form_scan t left w s variant vs) c k
  entry_refused one refuses found w s variant vs c (inr k) = passes found (form_scan t left w s variant vs) k.0 (failed ℕ c) k.1 (form_refused t left w one refuses k.0 s variant vs c k.2)

  node_refused : (l : Level) → RefusesBelow l → (found : Result Parsed ℕ) (w s : ℕ) (variant : Option ℕ) (vs : Vals) (c : ℕ) → NodeFault t left l found w s variant vs c → node_scan t n left found w s variant vs tt ≡ failed ℕ c
  node_refused no_level b found w s variant vs c m =
      breaks (test (nat_lt 0 n) 6) (λ _. found >>= form_scan t left w s variant vs) c (no_level_left n b ∙ ap (λ (d : ℕ). failed (Unit {0}) d) (sym m))
  node_refused (level one) b found w s variant vs c m =
      passes (test (nat_lt 0 n) 6) (λ _. found >>= form_scan t left w s variant vs) tt (failed ℕ c) (a_level_left n b.0) (entry_refused one b.1 found w s variant vs c m)

  -- the levels that may be opened round an element of a sequence are those of the sequence's place
  abbrev IsLevel : Level → Type 0
  IsLevel no_level = n ≡ 0
  IsLevel (level one) = 0 < n

  levels_are : (l : Level) → IsLevel l → levels l left ≡ n
  levels_are no_level b = sym b
  levels_are (level one) b = omega (arith, less, b)

  refused_level : (l : Level) → RefusesBelow l → IsLevel l
  refused_level no_level b = b
  refused_level (level one) b = b.0

  nodes_pass : (w s : ℕ) (ns rest : Nodes) → FitsNodes t n ns → s + weigh_nodes t w ns ≤ 8192 → scan_nodes t n w s (join_nodes ns rest) ≡ scan_nodes t n w (s + weigh_nodes t w ns) rest
  unfolding scan_val
  nodes_pass w s no_nodes rest f light =
      let z : s ≡ s + 0 = omega arith in
      ap (λ (m : ℕ). scan_nodes t n w m rest) z
  nodes_pass w s (node index variant vs ns) rest f light =
      let form : Parsed = f.0 in
      let ps : List Piece = f.1 in
      let a : ℕ = w + weigh_vals t (node_places t index variant) w vs in
      let b : ℕ = weigh_nodes t w ns in
      let sum : s + (a + b) ≤ 8192 = light in
      let h = node_again t n (element_form t index) w s index variant vs form ps f.3 (element_there t index form variant ps f.2 f.4 f.5) f.4 f.5 (λ m. vals_again t (n - 1) (places_of ps) w (s + w) vs f.6 m) (omega (arith, sum)) in
      let k = nodes_pass w (s + a) ns rest f.7 (omega (arith, sum)) in
      rw h (k ∙ ap (λ (m : ℕ). scan_nodes t n w m rest) (add_assoc s a b))

  nodes_refused : (l : Level) → RefusesBelow l → (w s : ℕ) (ns : Nodes) (c : ℕ) → NodesFault t left l w s ns c → scan_nodes t n w s ns ≡ failed ℕ c
  nodes_refused l b w s ns c m =
      let k : ℕ = s + weigh_nodes t w m.front in
      let fits : FitsNodes t n m.front = subst (λ (i : ℕ). FitsNodes t i m.front) (levels_are l (refused_level l b)) m.fits in
      ap (λ (xs : Nodes). scan_nodes t n w s xs) m.nodes_is
      ∙ nodes_pass w s m.front (node m.index m.variant m.values m.rest) fits m.light
      ∙ nodes_are w k m.index m.variant m.values m.rest
      ∙ breaks (node_scan t n left (element_form t m.index) w k m.variant m.values tt) (λ r. scan_nodes t n w r m.rest) c (node_refused l b (element_form t m.index) w k m.variant m.values c m.next)

  seq_refused : (l : Level) → RefusesBelow l → (slot : Slot) (w s : ℕ) (index : Option ℕ) (es : Elems) (c : ℕ) → SeqFault t left l slot w s index es c → seq_scan t n left slot w s index es tt ≡ failed ℕ c
  seq_refused l b slot w s index no_elems c (inl m) = breaks (no_index index) (none_scan slot s) c m
  seq_refused l b slot w s index no_elems c (inr m) =
      passes (no_index index) (none_scan slot s) tt (failed ℕ c) (ap (λ (o : Option ℕ). no_index o) m.0) (breaks (count_cause slot 0) (λ _. done s) c m.1)
  seq_refused no_level b slot w s index (elem variant vs es) c m =
      breaks (test (nat_lt 0 n) 6) (λ _. list_form t index >>= elems_scan t left slot w s (elem variant vs es)) c (no_level_left n b ∙ ap (λ (d : ℕ). failed (Unit {0}) d) (sym m))
  seq_refused (level one) b slot w s index (elem variant vs es) c m =
      passes (test (nat_lt 0 n) 6) (λ _. list_form t index >>= elems_scan t left slot w s (elem variant vs es)) tt (failed ℕ c) (a_level_left n b.0) (list_refused t left w one b.1 slot s index (elem variant vs es) c m)

  val_refused : (l : Level) → RefusesBelow l → (slot : Slot) (w s : ℕ) (v : Val) (c : ℕ) → ValFault t left l slot w s v c → scan_val t n slot w s v ≡ failed ℕ c
  unfolding scan_val
  val_refused l b slot w s (uint k) c m = breaks (uint_cause slot k) (λ _. done s) c m
  val_refused l b slot w s (int k) c m = breaks (int_cause slot k) (λ _. done s) c m
  val_refused l b slot w s (flag x) c m = breaks (flag_cause slot) (λ _. done s) c m
  val_refused l b slot w s (char x) c m = breaks (char_cause slot) (λ _. done s) c m
  val_refused l b slot w s (str x) c m = breaks (str_cause slot) (λ _. done s) c m
  val_refused l b slot w s (istr i) c m = breaks (istr_cause t slot i) (λ _. done s) c m
  val_refused l b slot w s (bytes x) c m = breaks (bytes_cause slot (length x)) (λ _. done s) c m
  val_refused l b slot w s (bits k) c m = breaks (bits_cause slot k) (λ _. done s) c m
  val_refused l b slot w s (format index variant vs) c (inl m) = node_is slot w s index variant vs ∙ breaks (node_cause slot) (node_scan t n left (form_at t index) w s variant vs) c m
  val_refused l b slot w s (format index variant vs) c (inr m) =
      node_is slot w s index variant vs ∙ passes (node_cause slot) (node_scan t n left (form_at t index) w s variant vs) tt (failed ℕ c) m.0 (node_refused l b (form_at t index) w s variant vs c m.1)
  val_refused l b slot w s (seq index es) c (inl m) = seq_is slot w s index es ∙ breaks (list_cause slot) (seq_scan t n left slot w s index es) c m
  val_refused l b slot w s (seq index es) c (inr m) =
      seq_is slot w s index es ∙ passes (list_cause slot) (seq_scan t n left slot w s index es) tt (failed ℕ c) m.0 (seq_refused l b slot w s index es c m.1)
  val_refused l b slot w s (float k) c m = breaks (float_cause slot k) (λ _. done s) c m
  val_refused l b slot w s (sequence ns) c (inl m) = breaks (sequence_cause slot) (λ _. scan_nodes t n w s ns) c m
  val_refused l b slot w s (sequence ns) c (inr m) =
      passes (sequence_cause slot) (λ _. scan_nodes t n w s ns) tt (failed ℕ c) m.0 (nodes_refused l b w s ns c m.1)

  -- what is told one level below
  abbrev TellsBelow : Level → Type 0
  TellsBelow no_level = n ≡ 0
  TellsBelow (level one) = (0 < n) × IsTold t left one

  told_level : (l : Level) → TellsBelow l → IsLevel l
  told_level no_level b = b
  told_level (level one) b = b.0

  node_told : (l : Level) → TellsBelow l → (found : Result Parsed ℕ) (w s : ℕ) (variant : Option ℕ) (vs : Vals) (c : ℕ) → s ≤ 8192 → node_scan t n left found w s variant vs tt ≡ failed ℕ c → NodeFault t left l found w s variant vs c
  node_told no_level b found w s variant vs c low h =
      let e : node_scan t n left found w s variant vs tt ≡ failed ℕ 6 = breaks (test (nat_lt 0 n) 6) (λ _. found >>= form_scan t left w s variant vs) 6 (no_level_left n b) in
      sym (same_cause {A = ℕ} 6 c (sym e ∙ h))
  node_told (level one) b found w s variant vs c low h =
      let inside : Result ℕ ℕ = found >>= form_scan t left w s variant vs in
      let e : node_scan t n left found w s variant vs tt ≡ inside = passes (test (nat_lt 0 n) 6) (λ _. inside) tt inside (a_level_left n b.0) refl in
      elim (broken found (form_scan t left w s variant vs) c (sym e ∙ h)) [
        | inl k ↦ inl k
        | inr k ↦ inr (k.0, k.1, form_told t left w one b.1 k.0 s variant vs c low k.2)
      ]

  -- no element of a sequence stands in front
  first_node : (l : Level) (w s index : ℕ) (variant : Option ℕ) (vs : Vals) (ns : Nodes) (c : ℕ) → s ≤ 8192 → NodeFault t left l (element_form t index) w s variant vs c → NodesFault t left l w s (node index variant vs ns) c
  first_node l w s index variant vs ns c low m =
      let z : s ≡ s + 0 = omega arith in
      let light : s + 0 ≤ 8192 = omega arith in
      record {
        front = no_nodes;
        index = index;
        variant = variant;
        values = vs;
        rest = ns;
        nodes_is = refl;
        fits = tt;
        light = light;
        next = subst (λ (k : ℕ). NodeFault t left l (element_form t index) w k variant vs c) z m;
      }

  -- one more element of a sequence stands in front
  later_node : (l : Level) → IsLevel l → (w s r index : ℕ) (variant : Option ℕ) (vs : Vals) (ns : Nodes) (c : ℕ) → FitsNodes t n (node index variant vs no_nodes)
      → s + (w + weigh_vals t (node_places t index variant) w vs) ≡ r → NodesFault t left l w r ns c → NodesFault t left l w s (node index variant vs ns) c
  later_node l up w s r index variant vs ns c f sum m =
      let a : ℕ = w + weigh_vals t (node_places t index variant) w vs in
      let b : ℕ = weigh_nodes t w m.front in
      let e : r + b ≡ s + (a + b) = omega (arith, sum) in
      let high : r + b ≤ 8192 = m.light in
      let light : s + (a + b) ≤ 8192 = omega (arith, high, e) in
      let front : FitsNodes t n m.front = subst (λ (k : ℕ). FitsNodes t k m.front) (levels_are l up) m.fits in
      let more : FitsNodes t n (node index variant vs m.front) = (f.0, f.1, f.2, f.3, f.4, f.5, f.6, front) in
      record {
        front = node index variant vs m.front;
        index = m.index;
        variant = m.variant;
        values = m.values;
        rest = m.rest;
        nodes_is = ap (λ (xs : Nodes). node index variant vs xs) m.nodes_is;
        fits = subst (λ (k : ℕ). FitsNodes t k (node index variant vs m.front)) (sym (levels_are l up)) more;
        light = light;
        next = subst (λ (k : ℕ). NodeFault t left l (element_form t m.index) w k m.variant m.values c) e m.next;
      }

  nodes_told : (l : Level) → TellsBelow l → (w s : ℕ) (ns : Nodes) (c : ℕ) → s ≤ 8192 → scan_nodes t n w s ns ≡ failed ℕ c → NodesFault t left l w s ns c
  unfolding scan_val
  nodes_told l b w s no_nodes c low h = absurd (cc)
  nodes_told l b w s (node index variant vs ns) c low h = elim (broken (node_scan t n left (element_form t index) w s variant vs tt) (λ r. scan_nodes t n w r ns) c (sym (nodes_are w s index variant vs ns) ∙ h)) [
    | inl k ↦ first_node l w s index variant vs ns c low (node_told l b (element_form t index) w s variant vs c low k)
    | inr k ↦ (
        let g = node_in t n (element_form t index) w s k.0 variant vs (λ ps u j. vals_found t (n - 1) (places_of ps) w u k.0 vs j) (node_in_is (element_form t index) w s variant vs ∙ k.1) in
        let e = element_found t index g.form g.there in
        let sums = node_sums t index w s variant vs g.form g.pieces k.0 e.1 g.has g.sums in
        later_node l (told_level l b) w s k.0 index variant vs ns c (g.form, g.pieces, e.0, g.up, e.1, g.has, g.values, tt) sums.sum (nodes_told l b w k.0 ns c (sums.kept low) k.2))
  ]

  seq_told : (l : Level) → TellsBelow l → (slot : Slot) (w s : ℕ) (index : Option ℕ) (es : Elems) (c : ℕ) → s ≤ 8192 → seq_scan t n left slot w s index es tt ≡ failed ℕ c → SeqFault t left l slot w s index es c
  seq_told l b slot w s index no_elems c low h = elim (broken (no_index index) (none_scan slot s) c h) [
    | inl k ↦ inl k
    | inr k ↦ inr (none_index index k.1, before_sum (count_cause slot 0) s c k.2)
  ]
  seq_told no_level b slot w s index (elem variant vs es) c low h =
      let e : some_scan t n left slot w s index (elem variant vs es) ≡ failed ℕ 6 = breaks (test (nat_lt 0 n) 6) (λ _. list_form t index >>= elems_scan t left slot w s (elem variant vs es)) 6 (no_level_left n b) in
      sym (same_cause {A = ℕ} 6 c (sym e ∙ h))
  seq_told (level one) b slot w s index (elem variant vs es) c low h =
      let inside : Result ℕ ℕ = list_form t index >>= elems_scan t left slot w s (elem variant vs es) in
      let e : some_scan t n left slot w s index (elem variant vs es) ≡ inside = passes (test (nat_lt 0 n) 6) (λ _. inside) tt inside (a_level_left n b.0) refl in
      list_told t left w one b.1 slot s index (elem variant vs es) c low (sym e ∙ h)

  val_told : (l : Level) → TellsBelow l → (slot : Slot) (w s : ℕ) (v : Val) (c : ℕ) → s ≤ 8192 → scan_val t n slot w s v ≡ failed ℕ c → ValFault t left l slot w s v c
  unfolding scan_val
  val_told l b slot w s (uint k) c low h = before_sum (uint_cause slot k) s c h
  val_told l b slot w s (int k) c low h = before_sum (int_cause slot k) s c h
  val_told l b slot w s (flag x) c low h = before_sum (flag_cause slot) s c h
  val_told l b slot w s (char x) c low h = before_sum (char_cause slot) s c h
  val_told l b slot w s (str x) c low h = before_sum (str_cause slot) s c h
  val_told l b slot w s (istr i) c low h = before_sum (istr_cause t slot i) s c h
  val_told l b slot w s (bytes x) c low h = before_sum (bytes_cause slot (length x)) s c h
  val_told l b slot w s (bits k) c low h = before_sum (bits_cause slot k) s c h
  val_told l b slot w s (format index variant vs) c low h = elim (broken (node_cause slot) (node_scan t n left (form_at t index) w s variant vs) c (sym (node_is slot w s index variant vs) ∙ h)) [
    | inl k ↦ inl k
    | inr k ↦ inr (k.1, node_told l b (form_at t index) w s variant vs c low k.2)
  ]
  val_told l b slot w s (seq index es) c low h = elim (broken (list_cause slot) (seq_scan t n left slot w s index es) c (sym (seq_is slot w s index es) ∙ h)) [
    | inl k ↦ inl k
    | inr k ↦ inr (k.1, seq_told l b slot w s index es c low k.2)
  ]
  val_told l b slot w s (float k) c low h = before_sum (float_cause slot k) s c h
  val_told l b slot w s (sequence ns) c low h = elim (broken (sequence_cause slot) (λ _. scan_nodes t n w s ns) c h) [
    | inl k ↦ inl k
    | inr k ↦ inr (k.1, nodes_told l b w s ns c low k.2)
  ]

-- ---- all levels

pub fault_refused : (t : Map) (n : ℕ) → IsRefused t n (fault_at t n)
unfolding fault_at
fault_refused t zero = λ slot w s v c m. val_refused t 0 0 (omega arith) no_level refl slot w s v c m
fault_refused t (suc left) = λ slot w s v c m. val_refused t (suc left) left (omega arith) (level (fault_at t left)) (omega arith, fault_refused t left) slot w s v c m

pub fault_told : (t : Map) (n : ℕ) → IsTold t n (fault_at t n)
unfolding fault_at
fault_told t zero = λ slot w s v c low h. val_told t 0 0 (omega arith) no_level refl slot w s v c low h
fault_told t (suc left) = λ slot w s v c low h. val_told t (suc left) left (omega arith) (level (fault_at t left)) (omega arith, fault_told t left) slot w s v c low h

-- ---- statements

abbrev own_scan : Map → Vals → List Piece → Result ℕ ℕ
own_scan t vs ps = scan_vals t 16 (places_of ps) 1 0 vs

pub statement_refused : (t : Map) (index : ℕ) (vs : Vals) (c : ℕ) → StatementFault t index vs c → own_cause t index vs ≡ Err c
statement_refused t index vs c (inl m) = breaks (scan_own t index vs) ended c (breaks (own_form t.language (look t index)) (own_scan t vs) c m)
statement_refused t index vs c (inr m) =
    breaks (scan_own t index vs) ended c
    (passes (own_form t.language (look t index)) (own_scan t vs) m.0 (failed ℕ c) m.1
    (each_refused t 16 1 (fault_at t 16) (fault_refused t 16) (places_of m.0) 0 vs c m.2))

statement_told : (t : Map) (index : ℕ) (vs : Vals) (c : ℕ) → own_cause t index vs ≡ failed (Unit {0}) c → StatementFault t index vs c
statement_told t index vs c h = elim (broken (own_form t.language (look t index)) (own_scan t vs) c (before_end (scan_own t index vs) c h)) [
  | inl k ↦ inl k
  | inr k ↦ inr (k.0, k.1, each_told t 16 1 (fault_at t 16) (fault_told t 16) (places_of k.0) 0 vs c (omega arith) k.2)
]

pub refused_first : (t : Map) (index : ℕ) (vs : Vals) (q : Result (Unit {0}) ℕ) → q ≡ own_cause t index vs → IfErr q (λ c. StatementFault t index vs c)
refused_first t index vs (Ok u) e = tt
refused_first t index vs (Err c) e = statement_told t index vs c (sym e)

-- ---- one first cause, exactly where a statement doesn't fit

decided : (t : Map) (index : ℕ) (vs : Vals) (q : Result (Unit {0}) ℕ) → own_cause t index vs ≡ q → Fits t index vs ⊎ ((c : ℕ) × StatementFault t index vs c)
decided t index vs (Ok u) e = inl (fits_found t index vs (Ok u) (sym e) u refl)
decided t index vs (Err c) e = inr (c, statement_told t index vs c e)

pub fits_or_not : (t : Map) (index : ℕ) (vs : Vals) → Fits t index vs ⊎ ((c : ℕ) × StatementFault t index vs c)
fits_or_not t index vs = decided t index vs (own_cause t index vs) refl

pub one_cause : (t : Map) (index : ℕ) (vs : Vals) (a b : ℕ) → StatementFault t index vs a → StatementFault t index vs b → a ≡ b
one_cause t index vs a b h k = same_cause {A = Unit {0}} a b (sym (statement_refused t index vs a h) ∙ statement_refused t index vs b k)

passed_refused : (x : Result (Unit {0}) ℕ) (c : ℕ) → x ≡ Ok tt → x ≡ failed (Unit {0}) c → ⊥
passed_refused x c h k = cc

pub never_both : (t : Map) (index : ℕ) (vs : Vals) (c : ℕ) → Fits t index vs → StatementFault t index vs c → ⊥
never_both t index vs c f h = passed_refused (own_cause t index vs) c (fits_again t index vs f) (statement_refused t index vs c h)

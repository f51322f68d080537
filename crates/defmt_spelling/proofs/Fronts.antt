-- The first fault of a text, as a relation, is what the reading with counters finds.
use Rattle.std.proofs.Common.{◌≡◌, ◌≤◌, inl, inr, ◌+◌, ◌*◌, ◌++◌, ℕ, List, [], ◌∷◌, Ok, refl, sym, ap, subst, arith, add_assoc}
use Rattle.defmt_grammar.specs.Cut.{skip_spaces}
use Rattle.defmt_intern.specs.Table.{Map}
use Rattle.defmt_shapes.specs.Shape.{Shape, Shapes, no_shapes, shape, HeadShape}
use Rattle.defmt_spelling.specs.Meaning.{meant_val, meant_vals}
use Rattle.defmt_spelling.specs.Names.{NameMap}
use Rattle.defmt_spelling.specs.Reading.{judged, ScannedFault}
use Rattle.defmt_spelling.specs.Spelling.{HeadShapes, NextFault, FirstFault}
use Rattle.defmt_values.proofs.Again.{val_again}
use Rattle.defmt_values.proofs.Faults.{fault_refused, fault_told}
use Rattle.defmt_values.proofs.Found.{val_found}
use Rattle.defmt_values.specs.Entries.{Place}
use Rattle.defmt_values.specs.Fits.{FitsVal, FitsVals, weigh_val, weigh_vals}
use Rattle.defmt_values.specs.Plain.{Val, Vals}

no_place : (p : Place) (ps : List Place) → [] ≡ p ∷ ps → ⊥
no_place p ps h = cc

no_more : (p : Place) (ps : List Place) → p ∷ ps ≡ [] → ⊥
no_more p ps h = cc

same_place : (p q : Place) (ps qs : List Place) → p ∷ ps ≡ q ∷ qs → p ≡ q
same_place p q ps qs h = cc

same_places : (p q : Place) (ps qs : List Place) → p ∷ ps ≡ q ∷ qs → ps ≡ qs
same_places p q ps qs h = cc

module _ (names : NameMap) (t : Map) (left weight : ℕ) where
  -- ---- what the reading finds is the first fault

  -- nothing stands in front
  here : (places : List Place) (sum : ℕ) (text : List ℕ) (c : ℕ) → sum ≤ 8192 → NextFault names t left weight places sum text c → FirstFault names t left weight places sum text c
  unfolding meant_val
  here places sum text c low h =
      let z : sum ≡ sum + 0 = omega arith in
      let light : sum + 0 ≤ 8192 = omega arith in
      record {
        front = [];
        others = places;
        places_is = refl;
        shapes = no_shapes;
        rest = text;
        spelled = refl;
        fits = refl;
        light = light;
        next = subst (λ (n : ℕ). NextFault names t left weight places n text c) z h;
      }

  -- one more value stands in front
  later : (p : Place) (ps : List Place) (sum r : ℕ) (text rest : List ℕ) (s : Shape) (c : ℕ) → HeadShape t.language (skip_spaces text) s rest → FitsVal t left p.slot (meant_val names t p.slot s)
      → sum + weigh_val t (p.uses * weight) (meant_val names t p.slot s) ≡ r → FirstFault names t left weight ps r rest c → FirstFault names t left weight (p ∷ ps) sum text c
  unfolding meant_val
  later p ps sum r text rest s c head f is m =
      let a : ℕ = weigh_val t (p.uses * weight) (meant_val names t p.slot s) in
      let b : ℕ = weigh_vals t m.front weight (meant_vals names t m.front m.shapes) in
      let e : r + b ≡ sum + (a + b) = omega (arith, is) in
      let high : r + b ≤ 8192 = m.light in
      let light : sum + (a + b) ≤ 8192 = omega (arith, high, e) in
      record {
        front = p ∷ m.front;
        others = m.others;
        places_is = ap (λ (xs : List Place). p ∷ xs) m.places_is;
        shapes = shape s m.shapes;
        rest = m.rest;
        spelled = (rest, head, m.spelled);
        fits = (p, m.front, refl, f, m.fits);
        light = light;
        next = subst (λ (n : ℕ). NextFault names t left weight m.others n m.rest c) e m.next;
      }

  pub first_found : (places : List Place) (sum : ℕ) (text : List ℕ) (c : ℕ) → sum ≤ 8192 → ScannedFault names t left weight places sum text c → FirstFault names t left weight places sum text c
  first_found [] sum text c low h = here [] sum text c low h
  first_found (p ∷ ps) sum text c low (inl h) = here (p ∷ ps) sum text c low (inl h)
  first_found (p ∷ ps) sum text c low (inr (inl h)) = here (p ∷ ps) sum text c low (inr (inl h))
  first_found (p ∷ ps) sum text c low (inr (inr h)) =
      let v : Val = meant_val names t p.slot h.0 in
      elim h.3 [
        | inl a ↦ here (p ∷ ps) sum text c low (inr (inr (h.0, h.1, h.2, fault_told t left p.slot (p.uses * weight) sum v c low a)))
        | inr b ↦ (
            let f = val_found t left p.slot (p.uses * weight) sum b.0 v b.1 in
            later p ps sum b.0 text h.1 h.0 c h.2 f.0 f.1.sum (first_found ps b.0 h.1 c (f.1.kept low) b.2))
      ]

  -- ---- the first fault is found by the reading

  next_scanned : (places : List Place) (sum : ℕ) (text : List ℕ) (c : ℕ) → NextFault names t left weight places sum text c → ScannedFault names t left weight places sum text c
  next_scanned [] sum text c h = h
  next_scanned (p ∷ ps) sum text c (inl h) = inl h
  next_scanned (p ∷ ps) sum text c (inr (inl h)) = inr (inl h)
  next_scanned (p ∷ ps) sum text c (inr (inr h)) = inr (inr (h.0, h.1, h.2, inl (fault_refused t left p.slot (p.uses * weight) sum (meant_val names t p.slot h.0) c h.3)))

  front_scanned : (front others : List Place) (sum : ℕ) (text rest : List ℕ) (ss : Shapes) (c : ℕ) → HeadShapes t.language text ss rest → FitsVals t left front (meant_vals names t front ss)
      → sum + weigh_vals t front weight (meant_vals names t front ss) ≤ 8192
      → ScannedFault names t left weight others (sum + weigh_vals t front weight (meant_vals names t front ss)) rest c → ScannedFault names t left weight (front ++ others) sum text c
  unfolding meant_val
  front_scanned [] others sum text rest no_shapes c h f light k =
      let z : sum + 0 ≡ sum = omega arith in
      subst (λ (x : List ℕ). ScannedFault names t left weight others sum x c) (sym h) (subst (λ (n : ℕ). ScannedFault names t left weight others n rest c) z k)
  front_scanned (p ∷ ps) others sum text rest no_shapes c h f light k = absurd (no_more p ps f)
  front_scanned [] others sum text rest (shape s ss) c h f light k = absurd (no_place f.0 f.1 f.2)
  front_scanned (p ∷ ps) others sum text rest (shape s ss) c h f light k =
      let v : Val = meant_val names t p.slot s in
      let vs : Vals = meant_vals names t ps ss in
      let one : FitsVal t left p.slot v = subst (λ (q : Place). FitsVal t left q.slot v) (sym (same_place p f.0 ps f.1 f.2)) f.3 in
      let more : FitsVals t left ps vs = subst (λ (qs : List Place). FitsVals t left qs vs) (sym (same_places p f.0 ps f.1 f.2)) f.4 in
      let a : ℕ = weigh_val t (p.uses * weight) v in
      let b : ℕ = weigh_vals t ps weight vs in
      let all : sum + (a + b) ≤ 8192 = light in
      let passes : judged names t left weight p sum s ≡ Ok (sum + a) = val_again t left p.slot (p.uses * weight) sum v one (omega (arith, all)) in
      let later : ScannedFault names t left weight others ((sum + a) + b) rest c = subst (λ (n : ℕ). ScannedFault names t left weight others n rest c) (sym (add_assoc sum a b)) k in
      inr (inr (s, h.0, h.1, inr (sum + a, passes, front_scanned ps others (sum + a) h.0 rest ss c h.2 more (omega (arith, all)) later)))

  pub first_scanned : (places : List Place) (sum : ℕ) (text : List ℕ) (c : ℕ) → FirstFault names t left weight places sum text c → ScannedFault names t left weight places sum text c
  first_scanned places sum text c m =
      let n : ℕ = sum + weigh_vals t m.front weight (meant_vals names t m.front m.shapes) in
      subst (λ (ps : List Place). ScannedFault names t left weight ps sum text c) (sym m.places_is)
      (front_scanned m.front m.others sum text m.rest m.shapes c m.spelled m.fits m.light (next_scanned m.others n m.rest c m.next))

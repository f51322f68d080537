-- The values of a text, one after another.
use Rattle.std.proofs.Common.{◌≡◌, inl, inr, ◌+◌, ◌*◌, ℕ, true, false, List, [], ◌∷◌, length, Result, Ok, Err, refl, sym, ap, subst, ◌∙◌, arith, eqb, All}
use Rattle.std.proofs.lemmas.Bool.Decides.{nat_tests}
use Rattle.std.proofs.lemmas.List.Elements.{All-head, All-rest}
use Rattle.defmt_grammar.specs.Cut.{skip_spaces}
use Rattle.defmt_grammar.specs.Slots.{uses_at, IsSound}
use Rattle.defmt_grammar.specs.declared.piece.Piece.{Piece}
use Rattle.defmt_grammar.specs.declared.slot.Slot.{Slot}
use Rattle.defmt_intern.specs.Table.{Map}
use Rattle.defmt_shapes.proofs.ShapeLaws.{join_shape, skip_all}
use Rattle.defmt_shapes.specs.Shape.{Shape, Shapes, no_shapes, shape, SpellsShapes, HeadShape, StartsThere}
use Rattle.defmt_spelling.proofs.Heads.{all_spaces, skipped, empty_starts, head_starts, split}
use Rattle.defmt_spelling.specs.Meaning.{meant_val, meant_vals}
use Rattle.defmt_spelling.specs.Names.{NameMap}
use Rattle.defmt_spelling.specs.Reading.{Means, judged, ScannedFault, Front, FrontFault, ReadsFront, ReadsValues, GivesValues}
use Rattle.defmt_spelling.specs.Spelling.{NoValue}
use Rattle.defmt_spelling.specs.declared.fault.ArgFault.{ArgFault}
use Rattle.defmt_spelling.specs.declared.fault.ArgFault.TheVariants as faults
use Rattle.defmt_values.proofs.Scans.{same, IsCapped}
use Rattle.defmt_values.specs.Entries.{Place, places_from}
use Rattle.defmt_values.specs.Plain.{Val, Vals, no_vals, val, snoc, join_vals}
use Rattle.defmt_values.specs.Scan.{scan_val, scan_vals}
use Rattle.defmt_values.proofs.Joins.{join_snoc, join_none}

pub empty_is : (text : List ℕ) → eqb (length text) 0 ≡ true → text ≡ []
empty_is [] h = refl
empty_is (c ∷ cs) h = absurd (grind (arith, nat_tests, h))

pub starts_is : (text : List ℕ) → eqb (length (skip_spaces text)) 0 ≡ false → StartsThere (skip_spaces text)
starts_is text h = elim (skipped text) [ inl e ↦ absurd (let k : eqb (length (skip_spaces text)) 0 ≡ true = ap (λ (x : List ℕ). eqb (length x) 0) e in cc) | inr s ↦ s ]

abbrev failed : ℕ → Result ℕ ℕ
failed c = Err c

abbrev passed : ℕ → Result ℕ ℕ
passed n = Ok n

same_failed : (x : Result ℕ ℕ) (c d : ℕ) → x ≡ failed c → x ≡ failed d → c ≡ d
same_failed x c d h k = cc

same_passed : (x : Result ℕ ℕ) (n m : ℕ) → x ≡ passed n → x ≡ passed m → n ≡ m
same_passed x n m h k = cc

never_both : (x : Result ℕ ℕ) (n c : ℕ) → x ≡ passed n → x ≡ failed c → ⊥
never_both x n c h k = cc

module _ (names : NameMap) (t : Map) (left weight : ℕ) where
  moved : (p : Place) (sum : ℕ) (s r : Shape) (x : Result ℕ ℕ) → s ≡ r → judged names t left weight p sum s ≡ x → judged names t left weight p sum r ≡ x
  moved p sum s r x e h = subst (λ (y : Shape). judged names t left weight p sum y ≡ x) e h

  -- ---- one more value in front

  pub no_more : (sum : ℕ) (text : List ℕ) → skip_spaces text ≡ [] → Means names t left weight [] sum text no_vals sum
  unfolding scan_val meant_val
  no_more sum text e = record { shapes = no_shapes; spelled = all_spaces text e; meant = refl; fits = refl }

  pub more_means : (p : Place) (ps : List Place) (sum u : ℕ) (text rest : List ℕ) (v : Val) (next last : ℕ) (vs : Vals) → IsCapped u (p.uses * weight) → Front names t left p.slot u sum text v next rest → Means names t left weight ps next rest vs last → Means names t left weight (p ∷ ps) sum text (val v vs) last
  unfolding scan_val meant_val
  more_means p ps sum u text rest v next last vs cap f m =
      let one : scan_val t left p.slot (p.uses * weight) sum v ≡ Ok next = sym (same t left p.slot (p.uses * weight) u sum v cap) ∙ f.fits in
      record {
        shapes = shape f.shape m.shapes;
        spelled = join_shape t.language text rest f.shape m.shapes f.head m.spelled;
        meant = ap (λ (x : Val). val x (meant_vals names t ps m.shapes)) f.meant ∙ ap (val v) m.meant;
        fits = rw one m.fits;
      }

  pub more_fault : (p : Place) (ps : List Place) (sum u : ℕ) (text rest : List ℕ) (v : Val) (next c : ℕ) → IsCapped u (p.uses * weight) → Front names t left p.slot u sum text v next rest → ScannedFault names t left weight ps next rest c → ScannedFault names t left weight (p ∷ ps) sum text c
  more_fault p ps sum u text rest v next c cap f h =
      let one : judged names t left weight p sum f.shape ≡ Ok next = sym (same t left p.slot (p.uses * weight) u sum (meant_val names t p.slot f.shape) cap) ∙ ap (scan_val t left p.slot u sum) f.meant ∙ f.fits in
      inr (inr (f.shape, rest, f.head, inr (next, one, h)))

  pub front_fault : (p : Place) (ps : List Place) (sum u : ℕ) (text : List ℕ) (c : ℕ) → IsCapped u (p.uses * weight) → FrontFault names t left p.slot u sum text c → ScannedFault names t left weight (p ∷ ps) sum text c
  front_fault p ps sum u text c cap (inl none) = inl none
  front_fault p ps sum u text c cap (inr (inl other)) = inr (inl other)
  front_fault p ps sum u text c cap (inr (inr h)) = inr (inr (h.0, h.1, h.2, inl (sym (same t left p.slot (p.uses * weight) u sum (meant_val names t p.slot h.0) cap) ∙ h.3)))

  -- ---- the loop over the places

  -- whatever the rest of the text reads as, with the values so far the whole reads so
  pub record Follows (places : List Place) (sum : ℕ) (text : List ℕ) (done : Vals) (others : List Place) (total : ℕ) (rest : List ℕ) : Type 0 where
    pub means : (vs : Vals) (last : ℕ) → Means names t left weight others total rest vs last → Means names t left weight places sum text (join_vals done vs) last
    pub fault : (c : ℕ) → ScannedFault names t left weight others total rest c → ScannedFault names t left weight places sum text c

  module _ (ps : List Piece) (places : List Place) (sum : ℕ) (text : List ℕ) (done : Vals) (position : ℕ) (slots : List Slot) (total : ℕ) (rest : List ℕ) (f : Follows places sum text done (places_from ps position slots) total rest) where
    first_place : (slot : Slot) (others : List Slot) → slots ≡ slot ∷ others → places_from ps position slots ≡ record { slot = slot; uses = uses_at position ps } ∷ places_from ps (position + 1) others
    first_place slot others e = rw e refl

    pub one_done : (slot : Slot) (others : List Slot) (u : ℕ) (v : Val) (next : ℕ) (after : List ℕ) (new : Vals) → slots ≡ slot ∷ others → IsCapped u (uses_at position ps * weight) → Front names t left slot u total rest v next after → new ≡ snoc done v
        → Follows places sum text new (places_from ps (position + 1) others) next after
    one_done slot others u v next after new e cap front is = record {
      means = λ vs last m.
          subst (λ (x : Vals). Means names t left weight places sum text x last) (sym (ap (λ (x : Vals). join_vals x vs) is ∙ join_snoc done v vs))
          (f.means (val v vs) last (subst (λ (x : List Place). Means names t left weight x total rest (val v vs) last) (sym (first_place slot others e))
          (more_means (record { slot = slot; uses = uses_at position ps }) (places_from ps (position + 1) others) total u rest after v next last vs cap front m)));
      fault = λ c h.
          f.fault c (subst (λ (x : List Place). ScannedFault names t left weight x total rest c) (sym (first_place slot others e))
          (more_fault (record { slot = slot; uses = uses_at position ps }) (places_from ps (position + 1) others) total u rest after v next c cap front h));
    }

    pub one_refused : (slot : Slot) (others : List Slot) (u c : ℕ) → slots ≡ slot ∷ others → IsCapped u (uses_at position ps * weight) → FrontFault names t left slot u total rest c → ScannedFault names t left weight places sum text c
    one_refused slot others u c e cap h =
        f.fault c (subst (λ (x : List Place). ScannedFault names t left weight x total rest c) (sym (first_place slot others e))
        (front_fault (record { slot = slot; uses = uses_at position ps }) (places_from ps (position + 1) others) total u rest c cap h))

    pub one_exit : (slot : Slot) (others : List Slot) (u : ℕ) (fault : ArgFault) → slots ≡ slot ∷ others → IsCapped u (uses_at position ps * weight) → ReadsFront names t left slot u total rest (Err fault) → ReadsValues names t left weight places sum text (Err fault)
    one_exit slot others u (faults.Refused c) e cap h = one_refused slot others u c e cap h
    one_exit slot others u faults.Memory e cap h = tt

    pub all_done : slots ≡ [] → skip_spaces rest ≡ [] → Means names t left weight places sum text done total
    all_done e n =
        subst (λ (x : Vals). Means names t left weight places sum text x total) (join_none done)
        (f.means no_vals total (subst (λ (x : List Slot). Means names t left weight (places_from ps position x) total rest no_vals total) (sym e) (no_more total rest n)))

    pub one_too_many : slots ≡ [] → StartsThere (skip_spaces rest) → ScannedFault names t left weight places sum text 2
    one_too_many e s = f.fault 2 (subst (λ (x : List Slot). ScannedFault names t left weight (places_from ps position x) total rest 2) (sym e) (s, refl))

  -- ---- a text that is known to be spelled

  module _ (one : (text : List ℕ) (s r : Shape) (rest after : List ℕ) → HeadShape t.language text s rest → HeadShape t.language text r after → (s ≡ r) × (rest ≡ after)) where
    pub one_shapes : (text : List ℕ) (ss rs : Shapes) → SpellsShapes t.language text ss → SpellsShapes t.language text rs → ss ≡ rs
    one_shapes text no_shapes no_shapes a b = refl
    one_shapes text no_shapes (shape r rs) a b = let h = split t.language text r rs b in absurd (empty_starts (skip_spaces text) (skip_all text a) (head_starts t.language (skip_spaces text) h.rest r h.head))
    one_shapes text (shape s ss) no_shapes a b = let h = split t.language text s ss a in absurd (empty_starts (skip_spaces text) (skip_all text b) (head_starts t.language (skip_spaces text) h.rest s h.head))
    one_shapes text (shape s ss) (shape r rs) a b =
        let h = split t.language text s ss a in
        let k = split t.language text r rs b in
        let e = one (skip_spaces text) s r h.rest k.rest h.head k.head in
        let o = one_shapes k.rest ss rs (subst (λ (x : List ℕ). SpellsShapes t.language x ss) e.1 h.others) k.others in
        ap (λ (x : Shape). shape x ss) e.0 ∙ ap (shape r) o

    pub fault_scan : (places : List Place) (sum : ℕ) (text : List ℕ) (c : ℕ) (ss : Shapes) → ScannedFault names t left weight places sum text c → SpellsShapes t.language text ss → scan_vals t left places weight sum (meant_vals names t places ss) ≡ Err c
    unfolding scan_val meant_val
    fault_scan [] sum text c no_shapes h s = absurd (empty_starts (skip_spaces text) (skip_all text s) h.0)
    fault_scan [] sum text c (shape r rs) h s = ap Err (sym h.1)
    fault_scan (p ∷ ps) sum text c no_shapes (inl h) s = ap Err (sym h.1)
    fault_scan (p ∷ ps) sum text c no_shapes (inr (inl h)) s = absurd (empty_starts (skip_spaces text) (skip_all text s) h.0)
    fault_scan (p ∷ ps) sum text c no_shapes (inr (inr h)) s = absurd (empty_starts (skip_spaces text) (skip_all text s) (head_starts t.language (skip_spaces text) h.1 h.0 h.2))
    fault_scan (p ∷ ps) sum text c (shape r rs) (inl h) s = let k = split t.language text r rs s in absurd (empty_starts (skip_spaces text) h.0 (head_starts t.language (skip_spaces text) k.rest r k.head))
    fault_scan (p ∷ ps) sum text c (shape r rs) (inr (inl h)) s = let k = split t.language text r rs s in absurd (h.1 r k.rest k.head)
    fault_scan (p ∷ ps) sum text c (shape r rs) (inr (inr h)) s =
        let k = split t.language text r rs s in
        let e = one (skip_spaces text) h.0 r h.1 k.rest h.2 k.head in
        elim h.3 [
          | inl a ↦ (let refused : judged names t left weight p sum r ≡ Err c = subst (λ (x : Shape). judged names t left weight p sum x ≡ Err c) e.0 a in rw refused refl)
          | inr b ↦ (
              let passes : judged names t left weight p sum r ≡ Ok b.0 = subst (λ (x : Shape). judged names t left weight p sum x ≡ Ok b.0) e.0 b.1 in
              let later : scan_vals t left ps weight b.0 (meant_vals names t ps rs) ≡ Err c = fault_scan ps b.0 k.rest c rs (subst (λ (x : List ℕ). ScannedFault names t left weight ps b.0 x c) e.1 b.2) k.others in
              rw passes later)
        ]

    pub inside_gives : (places : List Place) (sum : ℕ) (text : List ℕ) (result : Result (Vals × ℕ) ArgFault) → ReadsValues names t left weight places sum text result → (ss : Shapes) → SpellsShapes t.language text ss → GivesValues result (meant_vals names t places ss) (scan_vals t left places weight sum (meant_vals names t places ss))
    inside_gives places sum text (Ok r) m ss s =
        let e : r.0 ≡ meant_vals names t places ss = sym m.meant ∙ ap (meant_vals names t places) (one_shapes text m.shapes ss m.spelled s) in
        (e, ap (scan_vals t left places weight sum) (sym e) ∙ m.fits)
    inside_gives places sum text (Err (faults.Refused c)) h ss s = fault_scan places sum text c ss h s
    inside_gives places sum text (Err faults.Memory) h ss s = tt

    -- one first fault
    pub one_fault : (places : List Place) (sum : ℕ) (text : List ℕ) (c d : ℕ) → ScannedFault names t left weight places sum text c → ScannedFault names t left weight places sum text d → c ≡ d
    one_fault [] sum text c d h k = h.1 ∙ sym k.1
    one_fault (p ∷ ps) sum text c d (inl h) (inl k) = h.1 ∙ sym k.1
    one_fault (p ∷ ps) sum text c d (inl h) (inr (inl k)) = absurd (empty_starts (skip_spaces text) h.0 k.0)
    one_fault (p ∷ ps) sum text c d (inl h) (inr (inr k)) = absurd (empty_starts (skip_spaces text) h.0 (head_starts t.language (skip_spaces text) k.1 k.0 k.2))
    one_fault (p ∷ ps) sum text c d (inr (inl h)) (inl k) = absurd (empty_starts (skip_spaces text) k.0 h.0)
    one_fault (p ∷ ps) sum text c d (inr (inl h)) (inr (inl k)) = h.2 ∙ sym k.2
    one_fault (p ∷ ps) sum text c d (inr (inl h)) (inr (inr k)) = absurd (h.1 k.0 k.1 k.2)
    one_fault (p ∷ ps) sum text c d (inr (inr h)) (inl k) = absurd (empty_starts (skip_spaces text) k.0 (head_starts t.language (skip_spaces text) h.1 h.0 h.2))
    one_fault (p ∷ ps) sum text c d (inr (inr h)) (inr (inl k)) = absurd (k.1 h.0 h.1 h.2)
    one_fault (p ∷ ps) sum text c d (inr (inr h)) (inr (inr k)) =
        let e = one (skip_spaces text) h.0 k.0 h.1 k.1 h.2 k.2 in
        elim h.3 [
          | inl a ↦ elim k.3 [
            | inl b ↦ same_failed (judged names t left weight p sum k.0) c d (moved p sum h.0 k.0 (Err c) e.0 a) b
            | inr b ↦ absurd (never_both (judged names t left weight p sum k.0) b.0 c b.1 (moved p sum h.0 k.0 (Err c) e.0 a))
          ]
          | inr a ↦ elim k.3 [
            | inl b ↦ absurd (never_both (judged names t left weight p sum k.0) a.0 d (moved p sum h.0 k.0 (Ok a.0) e.0 a.1) b)
            | inr b ↦ (
                let n : a.0 ≡ b.0 = same_passed (judged names t left weight p sum k.0) a.0 b.0 (moved p sum h.0 k.0 (Ok a.0) e.0 a.1) b.1 in
                one_fault ps b.0 k.1 c d (subst (λ (x : List ℕ). ScannedFault names t left weight ps b.0 x c) e.1 (subst (λ (x : ℕ). ScannedFault names t left weight ps x h.1 c) n a.2)) b.2)
          ]
        ]

-- ---- the first value

module _ (names : NameMap) (t : Map) (left : ℕ) (slot : Slot) (weight sum : ℕ) (text : List ℕ) where
  pub front_unspelled : (behind : List ℕ) → behind ≡ skip_spaces text → false ≡ eqb (length behind) 0 → NoValue t.language behind → FrontFault names t left slot weight sum text 1
  front_unspelled behind e h n = inr (inl (starts_is text (ap (λ (x : List ℕ). eqb (length x) 0) (sym e) ∙ sym h), subst (NoValue t.language) e n, refl))

pub sound_others : (slots others : List Slot) (slot : Slot) → slots ≡ slot ∷ others → All IsSound slots → All IsSound others
sound_others slots others slot e h = All-rest IsSound slot others slots e h

pub sound_first : (slots others : List Slot) (slot : Slot) → slots ≡ slot ∷ others → All IsSound slots → IsSound slot
sound_first slots others slot e h = All-head IsSound slot others (subst (All IsSound) e h)

-- The IDs that are kept of a file: of each start of a segment the first two that aren't below it.
use Rattle.std.proofs.Common.{◌≡◌, ◌∙◌, ℕ, zero, suc, ◌+◌, ◌<◌, ◌≤◌, List, [], ◌∷◌, ◌++◌, length, take, drop, get_or, refl, sym, ap, subst, arith, inl, inr, append_assoc, append-nil, length-append, length-drop}
use Rattle.std.specs.Prelude.{nat_le}
use Rattle.std.specs.List.{filter}
use Rattle.std.proofs.lemmas.Bool.{cases_Bool, cases_lt, le-leb, lt-leb}
use Rattle.std.proofs.lemmas.List.{take-append-le}
use Rattle.std.proofs.lemmas.List.Elements.{filter-append}
use Rattle.rtt_control.specs.Control.{id_places}
use Rattle.rtt_control.specs.Layout.{starts_with_id}
use Rattle.rtt_dump.specs.Ids.{Rises, first_two}
use Rattle.rtt_dump.proofs.PartLemmas.{here_is, here_not, places_rise, rises_weaken}

abbrev above : ℕ → List ℕ → List ℕ
above s places = filter (nat_le s) places

above_here : (s p : ℕ) (places : List ℕ) → s ≤ p → above s (p ∷ places) ≡ p ∷ above s places
above_here s p places le = rw (le-leb s p le) refl

above_not : (s p : ℕ) (places : List ℕ) → p < s → above s (p ∷ places) ≡ above s places
above_not s p places lt = rw (lt-leb s p lt) refl

pushed_above : (s p : ℕ) (kept more : List ℕ) → s ≤ p → more ≡ kept ++ p ∷ [] → length (above s more) ≡ length (above s kept) + 1
pushed_above s p kept more le pushed =
    ap (λ (l : List ℕ). length (above s l)) pushed
    ∙ ap length (filter-append (nat_le s) kept (p ∷ []) ∙ ap (λ (l : List ℕ). above s kept ++ l) (above_here s p [] le))
    ∙ length-append (above s kept) (p ∷ [])

-- two are enough
full : (s : ℕ) (xs ys : List ℕ) → 2 ≤ length (above s xs) → first_two s (xs ++ ys) ≡ take 2 (above s xs)
full s xs ys two = ap (take 2) (filter-append (nat_le s) xs ys) ∙ take-append-le 2 (above s xs) (above s ys) two

rises_without : (low : ℕ) (xs : List ℕ) (p : ℕ) (ys : List ℕ) → Rises low (xs ++ p ∷ ys) → Rises low (xs ++ ys)
rises_without low [] p ys rises = rises_weaken low p ys rises.0 rises.1
rises_without low (x ∷ xs) p ys rises = (rises.0, rises_without x xs p ys rises.1)

-- The file was searched up to the place `at`. So many segments start up to the last ID but one, and up to the last one.
pub record IsKept (starts file kept left : List ℕ) (at before last : ℕ) : Type 0 where
  pub most : last ≤ length starts
  pub below : (k d : ℕ) → k < last → get_or starts k d ≤ at
  pub one : (k d : ℕ) → k < last → 1 ≤ length (above (get_or starts k d) kept)
  pub two : (k d : ℕ) → k < before → 2 ≤ length (above (get_or starts k d) kept)
  pub same : (k d : ℕ) → k < length starts → first_two (get_or starts k d) (kept ++ id_places at left) ≡ first_two (get_or starts k d) (id_places 0 file)
  pub rises : Rises 0 (kept ++ id_places at left)

pub none_kept : (starts file kept : List ℕ) → kept ≡ [] → IsKept starts file kept file 0 0 0
none_kept starts file kept none = record {
  most = omega arith;
  below = λ k d lt. absurd (omega arith);
  one = λ k d lt. absurd (omega arith);
  two = λ k d lt. absurd (omega arith);
  same = λ k d lt. ap (λ (l : List ℕ). first_two (get_or starts k d) (l ++ id_places 0 file)) none;
  rises = subst (λ (l : List ℕ). Rises 0 (l ++ id_places 0 file)) (sym none) (places_rise 0 file);
}

-- the next ID, of which so many starts are up to it
module _ (starts file kept left cut : List ℕ) (at k before last begun : ℕ) (most : begun ≤ length starts) (up_to : (j d : ℕ) → j < begun → get_or starts j d ≤ at + k)
    (behind : (j d : ℕ) → begun ≤ j → j < length starts → at + k < get_or starts j d) (next : id_places at left ≡ (at + k) ∷ id_places (at + (k + 1)) cut)
    (was : IsKept starts file kept left at before last) where
  abbrev rest : List ℕ
  rest = id_places (at + (k + 1)) cut

  moved : kept ++ id_places at left ≡ kept ++ (at + k) ∷ rest
  moved = ap (λ (l : List ℕ). kept ++ l) next

  lower : (j d : ℕ) → j < begun → get_or starts j d ≤ at + (k + 1)
  lower j d lt = let le = up_to j d lt in omega (arith, le)

  pub kept_more : (more : List ℕ) → more ≡ kept ++ (at + k) ∷ [] → IsKept starts file more cut (at + (k + 1)) last begun
  kept_more more pushed =
      let whole : more ++ rest ≡ kept ++ id_places at left = ap (λ (l : List ℕ). l ++ rest) pushed ∙ append_assoc kept ((at + k) ∷ []) rest ∙ sym moved in
      record {
        most = most;
        below = lower;
        one = λ j d lt. let longer = pushed_above (get_or starts j d) (at + k) kept more (up_to j d lt) pushed in omega (arith, longer);
        two = λ j d lt. let le = was.below j d lt in let longer = pushed_above (get_or starts j d) (at + k) kept more (omega (arith, le)) pushed in omega (arith, longer, was.one j d lt);
        same = λ j d lt. ap (first_two (get_or starts j d)) whole ∙ was.same j d lt;
        rises = subst (λ (l : List ℕ). Rises 0 l) (sym whole) was.rises;
      }

  already : begun ≤ before → (j d : ℕ) → j < last → j < before
  already few j d lt = elim (cases_lt j begun) [
    | inl less ↦ omega arith
    | inr more ↦ absurd (let le = was.below j d lt in let long = was.most in let past = behind j d more (omega (arith, long)) in omega (arith, le, past))
  ]

  passed_over : begun ≤ before → (j d : ℕ) → j < length starts → first_two (get_or starts j d) (kept ++ rest) ≡ first_two (get_or starts j d) (kept ++ (at + k) ∷ rest)
  passed_over few j d lt =
      let s = get_or starts j d in
      elim (cases_lt j begun) [
        | inl less ↦ let two = was.two j d (omega arith) in full s kept rest two ∙ sym (full s kept ((at + k) ∷ rest) two)
        | inr more ↦ ap (take 2) (filter-append (nat_le s) kept rest ∙ ap (λ (l : List ℕ). above s kept ++ l) (sym (above_not s (at + k) rest (behind j d more lt)))
            ∙ sym (filter-append (nat_le s) kept ((at + k) ∷ rest)))
      ]

  kept_same : begun ≤ before → IsKept starts file kept cut (at + (k + 1)) last begun
  kept_same few = record {
    most = most;
    below = lower;
    one = λ j d lt. let two = was.two j d (omega arith) in omega (arith, two);
    two = λ j d lt. was.two j d (already few j d lt);
    same = λ j d lt. passed_over few j d lt ∙ ap (first_two (get_or starts j d)) (sym moved) ∙ was.same j d lt;
    rises = rises_without 0 kept (at + k) rest (subst (λ (l : List ℕ). Rises 0 l) moved was.rises);
  }

  pub kept_still : (more : List ℕ) → more ≡ kept → begun ≤ before → IsKept starts file more cut (at + (k + 1)) last begun
  kept_still more same few = subst (λ (l : List ℕ). IsKept starts file l cut (at + (k + 1)) last begun) (sym same) (kept_same few)

-- where two IDs stand behind each start so far, none counts in front of the next start
kept_step : (starts file kept left : List ℕ) (b at before last : ℕ) → last ≤ before → ((j d : ℕ) → last ≤ j → j < length starts → at < get_or starts j d)
    → IsKept starts file kept (b ∷ left) at before last → IsKept starts file kept left (at + 1) before last
kept_step starts file kept left b at before last few behind was =
    let below : (j d : ℕ) → j < last → get_or starts j d ≤ at + 1 = λ j d lt. let le = was.below j d lt in omega (arith, le) in
    let here_below : (j d : ℕ) → j < last → get_or starts j d ≤ at + 0 = λ j d lt. let le = was.below j d lt in omega (arith, le) in
    let here_behind : (j d : ℕ) → last ≤ j → j < length starts → at + 0 < get_or starts j d = λ j d more lt. let far = behind j d more lt in omega (arith, far) in
    elim (cases_Bool (starts_with_id (b ∷ left))) [
      | inl is ↦
          let here : at ≡ at + 0 = omega arith in
          let next : id_places at (b ∷ left) ≡ (at + 0) ∷ id_places (at + (0 + 1)) left = here_is at b left is ∙ ap (λ (p : ℕ). p ∷ id_places (at + 1) left) here in
          let past = kept_same starts file kept (b ∷ left) left at 0 before last last was.most here_below here_behind next was few in
          record { most = was.most; below = below; one = was.one; two = was.two; same = past.same; rises = past.rises }
      | inr not ↦
          let next : kept ++ id_places at (b ∷ left) ≡ kept ++ id_places (at + 1) left = ap (λ (l : List ℕ). kept ++ l) (here_not at b left not) in
          record {
            most = was.most;
            below = below;
            one = was.one;
            two = was.two;
            same = λ j d lt. ap (first_two (get_or starts j d)) (sym next) ∙ was.same j d lt;
            rises = subst (λ (l : List ℕ). Rises 0 l) next was.rises;
          }
    ]

kept_steps : (starts file kept left : List ℕ) (at before last n : ℕ) → n ≤ length left → (0 < n → last ≤ before)
    → ((j d : ℕ) → 0 < n → last ≤ j → j < length starts → at + n ≤ get_or starts j d)
    → IsKept starts file kept left at before last → IsKept starts file kept (drop n left) (at + n) before last
kept_steps starts file kept left at before last zero fits few below was =
    let same : at ≡ at + 0 = omega arith in subst (λ (p : ℕ). IsKept starts file kept left p before last) same was
kept_steps starts file kept [] at before last (suc n) fits few below was = absurd (omega (arith, fits))
kept_steps starts file kept (b ∷ left) at before last (suc n) fits few below was =
    let enough : last ≤ before = few (omega arith) in
    let same : at + 1 + n ≡ at + suc n = omega arith in
    let fits_left : n ≤ length left = omega (arith, fits) in
    let here : (j d : ℕ) → last ≤ j → j < length starts → at < get_or starts j d = λ j d more lt. let far = below j d (omega arith) more lt in omega (arith, far) in
    let later : (j d : ℕ) → 0 < n → last ≤ j → j < length starts → at + 1 + n ≤ get_or starts j d = λ j d pos more lt.
    let far = below j d (omega arith) more lt in omega (arith, far) in
    let step = kept_step starts file kept left b at before last enough here was in
    subst (λ (p : ℕ). IsKept starts file kept (drop n left) p before last) same
    (kept_steps starts file kept left (at + 1) before last n fits_left (λ pos. enough) later step)

-- so many bytes are passed over
pub kept_past : (starts file kept left cut : List ℕ) (at to before last n : ℕ) → cut ≡ drop n left → to ≡ at + n → n ≤ length left → (0 < n → last ≤ before)
    → ((j d : ℕ) → 0 < n → last ≤ j → j < length starts → at + n ≤ get_or starts j d)
    → IsKept starts file kept left at before last → IsKept starts file kept cut to before last
kept_past starts file kept left cut at to before last n cut_is to_is fits few below was =
    subst (λ (l : List ℕ). IsKept starts file kept l to before last) (sym cut_is)
    (subst (λ (p : ℕ). IsKept starts file kept (drop n left) p before last) (sym to_is) (kept_steps starts file kept left at before last n fits few below was))

pub past_length : (left cut : List ℕ) (at to n end : ℕ) → cut ≡ drop n left → to ≡ at + n → n ≤ length left → at + length left ≡ end → to + length cut ≡ end
past_length left cut at to n end cut_is to_is fits was = omega (arith, ap length cut_is, length-drop n left)

-- all was searched
pub all_kept : (starts file kept left : List ℕ) (at before last : ℕ) → id_places at left ≡ [] → IsKept starts file kept left at before last
    → Rises 0 kept × ((k d : ℕ) → k < length starts → first_two (get_or starts k d) kept ≡ first_two (get_or starts k d) (id_places 0 file))
all_kept starts file kept left at before last none was =
    let whole : kept ++ id_places at left ≡ kept = ap (λ (l : List ℕ). kept ++ l) none ∙ append-nil kept in (
      subst (λ (l : List ℕ). Rises 0 l) whole was.rises,
      λ k d lt. ap (first_two (get_or starts k d)) (sym whole) ∙ was.same k d lt,
    )

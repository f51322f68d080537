-- Statements that are numbered.
use Rattle.std.proofs.Common.{◌≡◌, ◌≤◌, ◌<◌, ◌+◌, ℕ, zero, suc, List, [], ◌∷◌, ◌++◌, length, take, get_or, sym, ◌∙◌, ap, append_assoc, arith, length-append}
use Rattle.std.specs.Prelude.{Some, None}
use Rattle.std.specs.List.{AllByRecursion, slice_get}
use Rattle.std.proofs.lemmas.Grind.{flat_map-append}
use Rattle.std.proofs.lemmas.List.{append-nil, length-take-le, take_more}
use Rattle.std.proofs.lemmas.Option.{slice_get-get_or}
use Rattle.defmt_values.specs.declared.value.Statement.{Statement}
use Rattle.defmt_script.specs.Script.{count_all}
use Rattle.defmt_print.specs.Printed.{all_statements, numbered}

module _ (line : ℕ → Statement → List ℕ) where
  pub numbered-append : (number : ℕ) (xs ys : List Statement) → numbered line number (xs ++ ys) ≡ numbered line number xs ++ numbered line (number + length xs) ys
  numbered-append number [] ys = ap (λ (n : ℕ). numbered line n ys) (let e : number ≡ number + 0 = omega arith in e)
  numbered-append number (x ∷ xs) ys =
      ap (λ (l : List ℕ). line number x ++ l) (numbered-append (number + 1) xs ys
      ∙ ap (λ (n : ℕ). numbered line (number + 1) xs ++ numbered line n ys) (let e : number + 1 + length xs ≡ number + suc (length xs) = omega arith in e))
      ∙ sym (append_assoc (line number x) (numbered line (number + 1) xs) (numbered line (number + suc (length xs)) ys))

  -- one statement more of a list
  pub one_more : (start now after : List ℕ) (number place : ℕ) (list : List Statement) (stm : Statement) → place < length list → get_or list place stm ≡ stm
      → now ≡ start ++ numbered line number (take place list) → after ≡ now ++ line (number + place) stm
      → after ≡ start ++ numbered line number (take (place + 1) list)
  one_more start now after number place list stm within at now_is after_is =
      let front : List Statement = take place list in
      let size : length front ≡ place = length-take-le place list (omega (arith, within)) in
      let more : take (place + 1) list ≡ front ++ stm ∷ [] = take_more list place stm within ∙ ap (λ (s : Statement). front ++ s ∷ []) at in
      let text : numbered line number (take (place + 1) list) ≡ numbered line number front ++ line (number + place) stm =
      ap (numbered line number) more ∙ numbered-append number front (stm ∷ [])
      ∙ ap (λ (n : ℕ). numbered line number front ++ numbered line (number + n) (stm ∷ [])) size
      ∙ ap (λ (l : List ℕ). numbered line number front ++ l) (append-nil (line (number + place) stm)) in
      after_is ∙ ap (λ (l : List ℕ). l ++ line (number + place) stm) now_is
      ∙ append_assoc start (numbered line number front) (line (number + place) stm)
      ∙ ap (λ (l : List ℕ). start ++ l) (sym text)

-- the element at a place
pub at_place : {A : Type 0} (list : List A) (place : ℕ) (x : A) → place < length list → Some x ≡ slice_get list place → get_or list place x ≡ x
at_place {A} list place x within is = let e : Some (get_or list place x) ≡ Some x = sym (slice_get-get_or list place x within) ∙ sym is in cc e

pub not_none : {A : Type 0} (list : List A) (place : ℕ) → place < length list → None ≡ slice_get list place → ⊥
not_none [] place within is = absurd (omega (arith, within))
not_none (x ∷ list) zero within is = absurd (cc is)
not_none (x ∷ list) (suc place) within is = not_none list place (omega (arith, within)) is

-- what holds of each holds at a place
pub all_at : {A : Type 0} (P : A → Type 0) (xs : List A) (place : ℕ) (d : A) → AllByRecursion P xs → place < length xs → P (get_or xs place d)
all_at P [] place d all within = absurd (omega (arith, within))
all_at P (x ∷ xs) zero d all within = all.0
all_at P (x ∷ xs) (suc place) d all within = all_at P xs place d all.1 (omega (arith, within))

-- ---- writers

pub all_more : (writers : List (List Statement)) (writer : ℕ) → writer < length writers
    → all_statements (take (writer + 1) writers) ≡ all_statements (take writer writers) ++ get_or writers writer []
all_more writers writer within =
    ap all_statements (take_more writers writer [] within)
    ∙ flat_map-append (λ (l : List Statement). l) (take writer writers) (get_or writers writer [] ∷ [])
    ∙ ap (λ (l : List Statement). all_statements (take writer writers) ++ l) (append-nil (get_or writers writer []))

pub front_count : (writers : List (List Statement)) (writer : ℕ) → writer < length writers
    → length (all_statements (take writer writers)) + length (get_or writers writer []) ≤ count_all writers
front_count [] writer within = absurd (omega (arith, within))
front_count (list ∷ more) zero within = omega arith
front_count (list ∷ more) (suc writer) within =
    omega (arith, front_count more writer (omega (arith, within)), length-append list (all_statements (take writer more)))

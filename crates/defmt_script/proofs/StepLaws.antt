-- What a writer does in each step.
use Rattle.std.proofs.Common.{◌≡◌, ◌≤◌, ◌<◌, ◌+◌, ◌-◌, ◌==◌, ℕ, zero, suc, cond, List, [], ◌∷◌, ◌++◌, Option, Some, None, length, append-nil, inl, inr, refl, sym, ap, ◌∙◌, subst, arith}
use Rattle.std.specs.Prelude.{nat_lt, replicate, slice_get}
use Rattle.std.proofs.lemmas.Bool.{cases_lt, eq-eqb, le-ltb, lt-ltb, ne_eqb}
use Rattle.defmt_script.specs.Lawful.{IsLawful}
use Rattle.defmt_script.specs.Script.{Script, statements_by}
use Rattle.defmt_script.specs.Turns.{AreInTurn, logs_in, step_at, steps_from, steps_of, texts_in}
use Rattle.defmt_script.specs.declared.step.Step.{Step}
use Rattle.defmt_script.specs.declared.step.Step.TheVariants.{Log, Say}
use Rattle.rtt_terminal.specs.Speech.{Saying, Speech, count_said, said_by}

-- ---- equal steps in front

there : (n i : ℕ) (ys : List Step) → i < n → slice_get (replicate n Log ++ ys) i ≡ Some Log
there zero i ys lt = absurd (omega (arith, lt))
there (suc n) zero ys lt = refl
there (suc n) (suc i) ys lt = there n i ys (omega (arith, lt))

past : (n i : ℕ) (ys : List Step) → n ≤ i → slice_get (replicate n Log ++ ys) i ≡ slice_get ys (i - n)
past zero i ys le = let same : i ≡ i - 0 = omega arith in ap (slice_get ys) same
past (suc n) zero ys le = absurd (omega (arith, le))
past (suc n) (suc i) ys le = let same : i - n ≡ suc i - suc n = omega arith in past n i ys (omega (arith, le)) ∙ ap (slice_get ys) same

-- ---- the step with a number

last_found : (number n : ℕ) → slice_get (replicate n Log) number ≡ cond (nat_lt number n) (Some Log) None
last_found number n =
    let whole : slice_get (replicate n Log) number ≡ slice_get (replicate n Log ++ []) number = ap (λ (l : List Step). slice_get l number) (sym (append-nil (replicate n Log))) in
    elim (cases_lt number n) [
      | inl lt ↦ rw (lt-ltb number n lt) (whole ∙ there n number [] lt)
      | inr le ↦ rw (le-ltb number n le) (whole ∙ past n number [] le)
    ]

-- behind the statements in front of a text
text_found : (number n : ℕ) (more : List Step) (o : Option Step) → n ≤ number → slice_get more (number - n - 1) ≡ o → slice_get (Say ∷ more) (number - n) ≡ cond (number == n) (Some Say) o
text_found number n more o le rest = elim (cases_lt n number) [
  | inl lt ↦
      let next : number - n ≡ suc (number - n - 1) = omega (arith, lt) in
      rw (ne_eqb number n (λ e. omega (arith, lt, e))) (ap (slice_get (Say ∷ more)) next ∙ rest)
  | inr ge ↦
      let same : number ≡ n = omega (arith, le, ge) in
      let first : number - n ≡ 0 = omega (arith, same) in
      rw (eq-eqb number n same) (ap (slice_get (Say ∷ more)) first)
]

first_found : (number n : ℕ) (more : List Step) (o : Option Step) → slice_get more (number - n - 1) ≡ o
    → slice_get (replicate n Log ++ Say ∷ more) number ≡ cond (nat_lt number n) (Some Log) (cond (number == n) (Some Say) o)
first_found number n more o rest = elim (cases_lt number n) [
  | inl lt ↦ rw (lt-ltb number n lt) (there n number (Say ∷ more) lt)
  | inr le ↦ rw (le-ltb number n le) (past n number (Say ∷ more) le ∙ text_found number n more o le rest)
]

step_found : (list : List Saying) (from count number : ℕ) → slice_get (steps_from from count list) number ≡ step_at number from count list
step_found [] from count number = last_found number (count - from)
step_found (s ∷ list) from count number =
    first_found number (s.behind - from) (steps_from s.behind count list) (step_at (number - (s.behind - from) - 1) s.behind count list)
    (step_found list s.behind count (number - (s.behind - from) - 1))

-- ---- of a script

in_turn_by : (s : Script) (writer n : ℕ) (list : List Saying) → IsLawful s → n ≡ length (statements_by s writer) → list ≡ said_by s.said writer → AreInTurn 0 n list
in_turn_by s writer n list lawful n_is list_is =
    subst (λ (k : ℕ). AreInTurn 0 k list) (sym n_is) (subst (λ (l : List Saying). AreInTurn 0 (length (statements_by s writer)) l) (sym list_is) (lawful.turns writer))

pub in_turn : (s : Script) (writer n : ℕ) (speech : Speech) (list : List Saying) → IsLawful s → n ≡ length (statements_by s writer) → speech ≡ s.said → list ≡ said_by speech writer → AreInTurn 0 n list
in_turn s writer n speech list lawful n_is speech_is list_is = in_turn_by s writer n list lawful n_is (list_is ∙ ap (λ (x : Speech). said_by x writer) speech_is)

pub step_is : (s : Script) (writer number n : ℕ) (speech : Speech) (list : List Saying) → n ≡ length (statements_by s writer) → speech ≡ s.said → list ≡ said_by speech writer
    → step_at number 0 n list ≡ slice_get (steps_of s writer) number
step_is s writer number n speech list n_is speech_is list_is =
    let all : list ≡ said_by s.said writer = list_is ∙ ap (λ (x : Speech). said_by x writer) speech_is in
    sym (step_found list 0 n number)
    ∙ ap (λ (k : ℕ). slice_get (steps_from 0 k list) number) n_is
    ∙ ap (λ (l : List Saying). slice_get (steps_from 0 (length (statements_by s writer)) l) number) all

-- ---- how many steps there are

logs_front : (n : ℕ) (ys : List Step) → logs_in (replicate n Log ++ ys) ≡ n + logs_in ys
logs_front zero ys = omega arith
logs_front (suc n) ys = omega (arith, logs_front n ys)

texts_front : (n : ℕ) (ys : List Step) → texts_in (replicate n Log ++ ys) ≡ texts_in ys
texts_front zero ys = refl
texts_front (suc n) ys = texts_front n ys

at_most : (from count : ℕ) (list : List Saying) → AreInTurn from count list → from ≤ count
at_most from count [] h = h
at_most from count (s ∷ list) h = omega (arith, h.0, at_most s.behind count list h.1)

logs_from : (list : List Saying) (from count : ℕ) → AreInTurn from count list → logs_in (steps_from from count list) ≡ count - from
logs_from [] from count h =
    let whole : logs_in (replicate (count - from) Log) ≡ logs_in (replicate (count - from) Log ++ []) = ap logs_in (sym (append-nil (replicate (count - from) Log))) in
    omega (arith, whole, logs_front (count - from) [])
logs_from (s ∷ list) from count h =
    omega (arith, logs_front (s.behind - from) (Say ∷ steps_from s.behind count list), logs_from list s.behind count h.1, h.0, at_most s.behind count list h.1)

texts_from : (list : List Saying) (from count : ℕ) → texts_in (steps_from from count list) ≡ length list
texts_from [] from count =
    let whole : texts_in (replicate (count - from) Log) ≡ texts_in (replicate (count - from) Log ++ []) = ap texts_in (sym (append-nil (replicate (count - from) Log))) in
    whole ∙ texts_front (count - from) []
texts_from (s ∷ list) from count = omega (arith, texts_front (s.behind - from) (Say ∷ steps_from s.behind count list), texts_from list s.behind count)

pub steps_counted : (s : Script) (writer : ℕ) → IsLawful s → (logs_in (steps_of s writer) ≡ length (statements_by s writer)) × (texts_in (steps_of s writer) ≡ count_said s.said writer)
steps_counted s writer lawful =
    let n : ℕ = length (statements_by s writer) in
    let logs : logs_in (steps_of s writer) ≡ n - 0 = logs_from (said_by s.said writer) 0 n (lawful.turns writer) in
    (omega (arith, logs), texts_from (said_by s.said writer) 0 n)

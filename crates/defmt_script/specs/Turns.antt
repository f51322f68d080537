-- How the texts of a writer stand among its statements.
use Rattle.std.specs.Prelude.{◌≤◌, ◌+◌, ◌-◌, ◌==◌, nat_lt, ℕ, List, [], ◌∷◌, ◌++◌, length, Option, Some, None, if◌then◌else◌, option_map, replicate}
use Rattle.std.specs.Borrow.{Bor}
use Rattle.defmt_script.specs.Script.{Script, statements_by}
use Rattle.defmt_script.specs.declared.step.Step.{Step}
use Rattle.defmt_script.specs.declared.step.Step.TheVariants.{Log, Say}
use Rattle.rtt_terminal.specs.Speech.{IsSpeech, Saying, said_by}

-- Behind so many statements of a count: in front of each further text stand no fewer, and no more than the count.
abbrev pub AreInTurn : ℕ → ℕ → List Saying → Type 0
AreInTurn from count [] = from ≤ count
AreInTurn from count (s ∷ more) = (from ≤ s.behind) × AreInTurn s.behind count more

-- each writer's texts stand among its statements
abbrev pub HasTurns : Script → Type 0
HasTurns s = (writer : ℕ) → AreInTurn 0 (length (statements_by s writer)) (said_by s.said writer)

-- what holds of the texts of a script
abbrev pub IsTold : Script → Type 0
IsTold s = IsSpeech s.said × HasTurns s

-- ---- the steps of a writer

-- The steps of a writer that has logged so many statements of its count: it says each text once it has logged those that stand in front.
abbrev pub steps_from : ℕ → ℕ → List Saying → List Step
steps_from from count [] = replicate (count - from) Log
steps_from from count (s ∷ more) =
    replicate (s.behind - from) Log ++ Say ∷ steps_from s.behind count more

-- what a writer does, in order
abbrev pub steps_of : Script → ℕ → List Step
steps_of s writer = steps_from 0 (length (statements_by s writer)) (said_by s.said writer)

abbrev pub logs_in : List Step → ℕ
logs_in [] = 0
logs_in (Log ∷ more) = logs_in more + 1
logs_in (Say ∷ more) = logs_in more

abbrev pub texts_in : List Step → ℕ
texts_in [] = 0
texts_in (Log ∷ more) = texts_in more
texts_in (Say ∷ more) = texts_in more + 1

-- the step with a number, as the code finds it
abbrev pub step_at : ℕ → ℕ → ℕ → List Saying → Option Step
step_at number from count [] = if nat_lt number (count - from) then Some Log else None
step_at number from count (s ∷ more) =
    if nat_lt number (s.behind - from) then Some Log
    else if number == s.behind - from then Some Say
    else step_at (number - (s.behind - from) - 1) s.behind count more

-- ---- what calls tell

-- the terminal and the text of what is to be said
abbrev pub told : Saying → ℕ × List ℕ
told s = (s.terminal, s.text)

-- the same as a call tells it
abbrev pub told_of : Option (ℕ × Bor (List ℕ)) → Option (ℕ × List ℕ)
told_of o = option_map (λ p. (p.0, p.1.now)) o

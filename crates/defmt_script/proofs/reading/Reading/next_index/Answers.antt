use Rattle.std.proofs.Common.{ap, arith, ◌+◌, ◌∙◌, ℕ}
use Rattle.defmt_script.specs.Script.{next_index}
use Rattle.defmt_script.specs.State.{State}
use Rattle.defmt_script.proofs.reading.Reading.next_index.Goals as goal

pub overflow_add-result : goal.overflow_add-result
overflow_add-result c = omega (arith, c.self.invariant.strings_are, c.self.invariant.steady.strings_fit)

pub returns : goal.returns
returns c = ap (λ (n : ℕ). n + 1) c.self.invariant.strings_are ∙ ap (λ (v : State). next_index v.script) c.self.view_is

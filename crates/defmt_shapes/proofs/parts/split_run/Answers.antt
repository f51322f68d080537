use Rattle.std.proofs.Common.{arith, sym, ◌∙◌}
use Rattle.defmt_shapes.specs.Runs.{in_class}
use Rattle.defmt_shapes.proofs.RunLaws.{run_boundary, run_at}
use Rattle.defmt_shapes.proofs.parts.split_run.Goals as goal

pub split_at-requires : goal.split_at-requires
split_at-requires c = run_boundary c.args.class c.args.text.now c.loop-i.i c.utf8.text (omega arith) c.loop-i.invariant

pub returns-then-not-has-clause-parts : goal.returns-then-not-has-clause-parts
returns-then-not-has-clause-parts c = run_at (in_class c.args.class) c.args.text.now c.loop-i.i c.split_at.result (omega arith) c.loop-i.invariant (λ lt. sym (rw c.as_bytes-b-items.ensures.value at c.has.ensures) ∙ c.if-not-has.true) c.split_at.ensures.front c.split_at.ensures.back

pub returns-clause-parts : goal.returns-clause-parts
returns-clause-parts c = run_at (in_class c.args.class) c.args.text.now _ c.split_at-2.result (omega arith) (λ k lt. c.loop-i.invariant k (omega arith)) (λ lt. absurd (omega arith)) c.split_at-2.ensures.front c.split_at-2.ensures.back

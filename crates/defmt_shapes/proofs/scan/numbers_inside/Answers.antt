use Rattle.std.proofs.Common.{ℕ, List, sym, ap}
use Rattle.defmt_shapes.proofs.FlatLaws.{numbers_there}
use Rattle.defmt_shapes.proofs.scan.numbers_inside.Goals as goal

pub returns-clause-parts : goal.returns-clause-parts
returns-clause-parts c = λ language. numbers_there language c.args.text.now c.split_run.result.0.now c.split_run.result.1.now c.in_ok-rest.rest.now (ap (λ (p : List ℕ × List ℕ). p.0) c.split_run.ensures.parts) (ap (λ (p : List ℕ × List ℕ). p.1) c.split_run.ensures.parts) (sym c.in_ok-rest.ensures.rest)

use Rattle.defmt_run.proofs.Deciding.{wanting_all}
use Rattle.defmt_run.proofs.Gated.{untold_gated}
use Rattle.defmt_run.specs.Told.{told}
use Rattle.defmt_run.proofs.top.perform.Goals as goal

pub returns-in-Err-clause-answer : goal.returns-in-Err-clause-answer
returns-in-Err-clause-answer g c = λ job is.
    wanting_all job g.S.Source.left g.S.Source.faults g.F.Shelf.files g.F.Shelf.faults g.K.Sink.held g.K.Sink.faults
    c.args.src.now c.args.shelf.now c.args.out.now c.silent-in-Err.result.fault (told c.silent-in-Err.result) c.silent-in-Err.ensures.fault c.silent-in-Err.ensures.untold

pub returns-in-Ok-None-clause-gate : goal.returns-in-Ok-None-clause-gate
returns-in-Ok-None-clause-gate g c = untold_gated _ _ _ c.silent.ensures.untold

pub returns-in-Err-clause-gate : goal.returns-in-Err-clause-gate
returns-in-Err-clause-gate g c = untold_gated _ _ _ c.silent-in-Err.ensures.untold

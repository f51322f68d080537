use Rattle.std.proofs.Common.{ap, ◌∙◌}
use Rattle.defmt_logger.proofs.Append.{marks_of-snoc}
use Rattle.defmt_logger.specs.Kept.{next_mark}
use Rattle.defmt_logger.specs.Tape.{marks_of}
use Rattle.defmt_logger.proofs.logging.LoggingWorkEachStatement.step.Goals as goal

pub append-requires-clause-place : goal.append-requires-clause-place
append-requires-clause-place g c = rw (c.self.invariant.0, c.self.view_is) c.requires.place

pub returns-clause-done : goal.returns-clause-done
returns-clause-done g c w =
    let d = c.self.inside.desk in
    rw (← c.self.view_is) (ap (marks_of w) c.append.ensures.mark ∙ marks_of-snoc w d.tape.marks (next_mark d.script d.tape.marks c.args.writer c.append.result))

use Rattle.std.proofs.Common.{ap}
use Rattle.defmt_logger.specs.Tape.{marks_of}
use Rattle.defmt_logger.proofs.logger.Logger+Eight+E+EachStatement+K+Logging+K+U+C.start.Goals as goal

pub start-shared-requires-clause-fresh : goal.start-shared-requires-clause-fresh
start-shared-requires-clause-fresh g c w = ap (marks_of w) c.in_ok-desk.ensures.tape

use Rattle.std.proofs.Common.{rules}
use Rattle.defmt_grammar.specs.Param.{both_now}
use Rattle.defmt_shapes.proofs.RunLaws.{run_hexadecimal}
use Rattle.defmt_shapes.proofs.escape.number_escape.Goals as goal

pub scalar_of-requires : goal.scalar_of-requires
scalar_of-requires c = (search rules, run_hexadecimal c.in_ok-more.more.now (both_now c.split_run.result) c.split_run.ensures.parts)

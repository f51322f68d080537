use Rattle.defmt_script.proofs.Steadiness.{begins_steady}
use Rattle.defmt_script.proofs.reading.Reading.new.Goals as goal

pub invariant_of-result : goal.invariant_of-result
invariant_of-result c = begins_steady _ _ _ _ _ c.new-2.ensures c.new-3.ensures.entries c.new-4.ensures c.in_ok-writers.ensures c.in_ok-said.ensures

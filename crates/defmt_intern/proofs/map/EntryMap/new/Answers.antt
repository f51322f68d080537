use Rattle.defmt_intern.proofs.TableLaws.{whole_empty}
use Rattle.defmt_intern.proofs.map.EntryMap.new.Goals as goal

pub invariant_of-result : goal.invariant_of-result
invariant_of-result c = whole_empty c.args.language c.new.result.items c.new.ensures.items

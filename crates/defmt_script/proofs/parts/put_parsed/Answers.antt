use Rattle.defmt_script.proofs.parts.put_parsed.Goals as goal

pub unreachable-requires : goal.unreachable-requires
unreachable-requires c = c.requires.free _ (rw c.in-Err-Refused.field-0-is at c.in-Err-Refused.ensures.answer).1

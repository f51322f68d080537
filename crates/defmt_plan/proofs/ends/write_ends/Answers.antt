use Rattle.std.proofs.Common.{◌-◌, ◌∙◌, length}
use Rattle.std.proofs.lemmas.List.{take_rest}
use Rattle.defmt_hints.proofs.Overlapping.{ends_written}
use Rattle.defmt_plan.proofs.ends.write_ends.Goals as goal

pub returns : goal.returns
returns c =
    ends_written c.args.out.now c.args.text.now c.copy_from_slice.new.self c.copy_from_slice-2.new.self c.args.at c.args.count c.requires.within c.requires.count.0 c.requires.count.1
    c.copy_from_slice.ensures.after (c.copy_from_slice-2.ensures.after ∙ take_rest c.args.text.now (length c.args.text.now - c.args.count))

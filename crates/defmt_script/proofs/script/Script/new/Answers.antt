use Rattle.std.proofs.Common.{ap, subst, sym}
use Rattle.defmt_intern.specs.Table.{Map}
use Rattle.defmt_script.specs.Lawful.{IsLawful}
use Rattle.defmt_script.specs.Script.{Script}
use Rattle.defmt_script.proofs.script.Script.new.Goals as goal

pub invariant_of-result : goal.invariant_of-result
invariant_of-result c =
    (subst (λ (t : Map). IsLawful (record { settings = c.args.settings; table = t; names = c.args.names; writers = c.args.writers.items; said = c.args.said })) (sym c.set_profile.ensures.entries) c.requires.lawful, c.set_profile.ensures.profile, c.requires.sound)

pub returns : goal.returns
returns c =
    ap (λ (t : Map). let s : Script = record { settings = c.args.settings; table = t; names = c.args.names; writers = c.args.writers.items; said = c.args.said } in s) c.set_profile.ensures.entries

use Rattle.std.proofs.Common.{subst}
use Rattle.defmt_script.specs.Lawful.{IsLawful}
use Rattle.defmt_script.proofs.script.Script.lawful.Goals as goal

pub returns : goal.returns
returns c = subst IsLawful c.self.view_is c.self.invariant.0

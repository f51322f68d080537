use Rattle.std.proofs.Common.{ap}
use Rattle.defmt_values.specs.Plain.{str}
use Rattle.defmt_spelling.proofs.leaves.str_value.Goals as goal

pub returns : goal.returns
returns c = λ s q. (ap str (c.in_ok-text.ensures.spelled s q), c.in_ok-check_str.ensures)

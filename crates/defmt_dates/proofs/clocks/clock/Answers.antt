use Rattle.std.proofs.Common.{◌∙◌}
use Rattle.defmt_dates.proofs.TextLaws.{clock_is}
use Rattle.defmt_dates.proofs.clocks.clock.Goals as goal

pub returns-clause-text : goal.returns-clause-text
returns-clause-text c = rw (c.whole_days-text.ensures.text, c.time_bytes.ensures, c.divided-rest.ensures.remainder) at c.put.ensures ∙ clock_is c.args.seconds

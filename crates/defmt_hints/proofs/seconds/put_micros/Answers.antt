use Rattle.defmt_hints.specs.Printed.{fraction_text}
use Rattle.defmt_hints.proofs.seconds.put_micros.Goals as goal

pub returns-then-whole-lt10 : goal.returns-then-whole-lt10
unfolding fraction_text
returns-then-whole-lt10 c = c.put_short.ensures

pub returns-else-whole-lt10 : goal.returns-else-whole-lt10
unfolding fraction_text
returns-else-whole-lt10 c = c.put_long.ensures

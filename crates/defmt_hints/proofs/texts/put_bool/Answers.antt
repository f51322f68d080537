use Rattle.defmt_hints.specs.Printed.{printed_bool}
use Rattle.defmt_hints.proofs.texts.put_bool.Goals as goal

pub returns-then-value : goal.returns-then-value
unfolding printed_bool
returns-then-value c = rw c.if-value.true c.put.ensures

pub returns-else-value : goal.returns-else-value
unfolding printed_bool
returns-else-value c = rw c.if-value.false c.put-else-value.ensures

use Rattle.std.proofs.Common.{rules}
use Rattle.defmt_hints.specs.Printed.{printed_char}
use Rattle.defmt_hints.proofs.texts.put_char.Goals as goal

pub returns-in-Debug : goal.returns-in-Debug
unfolding printed_char
returns-in-Debug c = search rules

pub returns-in-Plain : goal.returns-in-Plain
unfolding printed_char
returns-in-Plain c = search rules

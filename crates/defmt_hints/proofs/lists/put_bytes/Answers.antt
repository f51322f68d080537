use Rattle.std.proofs.Common.{rules}
use Rattle.defmt_hints.specs.Printed.{printed_bytes}
use Rattle.defmt_hints.proofs.lists.put_bytes.Goals as goal

pub returns-in-Ascii : goal.returns-in-Ascii
unfolding printed_bytes
returns-in-Ascii c = rw c.in-Ascii.is c.put_byte_text.ensures

pub returns-in-Plain : goal.returns-in-Plain
unfolding printed_bytes
returns-in-Plain c = search rules

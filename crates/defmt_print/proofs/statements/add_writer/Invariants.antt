use Rattle.std.proofs.Common.{◌≡◌, ◌++◌, [], take, get_or}
use Rattle.defmt_print.specs.Printed.{numbered, numbered_line}
use Rattle.defmt_print.proofs.statements.add_writer.Given as goal

abbrev pub invariant-loop-place : goal.invariant-loop-place
invariant-loop-place l =
    l.out.items ≡ l.fn.out.items ++ numbered (numbered_line l.script) l.number (take l.place (get_or l.script.writers l.writer []))

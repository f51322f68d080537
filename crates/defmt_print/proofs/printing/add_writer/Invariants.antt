use Rattle.std.proofs.Common.{◌≡◌, ◌++◌, drop}
use Rattle.defmt_print.specs.Groups.{writer_lines}
use Rattle.defmt_print.proofs.printing.add_writer.Given as goal

abbrev pub invariant-loop-number : goal.invariant-loop-number
invariant-loop-number l =
    l.out.items ++ writer_lines l.style l.script l.writer l.number (drop l.number l.tape) ≡ l.fn.out.items ++ writer_lines l.style l.script l.writer 0 l.tape

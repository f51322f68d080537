use Rattle.std.proofs.Common.{◌≡◌, length, take}
use Rattle.defmt_print.specs.Printed.{all_statements, numbered, numbered_line}
use Rattle.defmt_print.proofs.statements.statement_lines.Given as goal

abbrev pub invariant-loop-writer : goal.invariant-loop-writer
invariant-loop-writer l = record {
  number : l.number ≡ length (all_statements (take l.writer l.script.writers));
  out : l.out.items ≡ numbered (numbered_line l.script) 0 (all_statements (take l.writer l.script.writers));
}

use Rattle.std.proofs.Common.{◌≡◌, ℕ, take, flat_map}
use Rattle.defmt_print.specs.Groups.{writer_lines}
use Rattle.defmt_print.proofs.printing.group_lines.Given as goal

abbrev pub invariant-loop-writer : goal.invariant-loop-writer
invariant-loop-writer l = l.out.items ≡ flat_map (λ (writer : ℕ). writer_lines l.style l.script writer 0 l.tape) (take l.writer-index l.writer-items)

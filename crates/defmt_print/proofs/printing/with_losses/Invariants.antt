use Rattle.std.proofs.Common.{◌≡◌, ◌++◌, take, flat_map}
use Rattle.defmt_print.specs.Losses.{loss_line}
use Rattle.defmt_print.proofs.printing.with_losses.Given as goal

abbrev pub invariant-loop-mark : goal.invariant-loop-mark
invariant-loop-mark l = l.out.items ≡ l.initial.out.items ++ flat_map (loss_line l.form) (take l.mark-index l.tape)

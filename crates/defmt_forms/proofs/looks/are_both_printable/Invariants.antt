use Rattle.std.proofs.Common.{◌≡◌, ◌&&◌, take}
use Rattle.std.specs.List.{list_all}
use Rattle.defmt_forms.specs.Tamed.{is_printable}
use Rattle.defmt_forms.proofs.looks.are_both_printable.Given as goal

abbrev pub invariant-loop-i : goal.invariant-loop-i
invariant-loop-i l = l.printable ≡ (list_all is_printable (take l.i l.first) && list_all is_printable (take l.i l.second))

use Rattle.std.proofs.Common.{◌≡◌, take}
use Rattle.std.specs.List.{list_all}
use Rattle.defmt_forms.specs.Tamed.{is_quiet}
use Rattle.defmt_forms.proofs.looks.is_each_quiet.Given as goal

abbrev pub invariant-loop-byte : goal.invariant-loop-byte
invariant-loop-byte l = l.quiet ≡ list_all is_quiet (take l.byte-index l.text)

use Rattle.std.proofs.Common.{◌≡◌, take}
use Rattle.std.specs.List.{list_all}
use Rattle.defmt_forms.specs.Tamed.{is_other}
use Rattle.defmt_forms.proofs.looks.has_none.Given as goal

abbrev pub invariant-loop-byte : goal.invariant-loop-byte
invariant-loop-byte l = l.other ≡ list_all (is_other l.one) (take l.byte-index l.block)

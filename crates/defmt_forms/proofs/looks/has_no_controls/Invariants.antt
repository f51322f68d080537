use Rattle.std.proofs.Common.{◌≡◌, take, nat_le}
use Rattle.std.specs.List.{list_all}
use Rattle.defmt_forms.proofs.looks.has_no_controls.Given as goal

abbrev pub invariant-loop-byte : goal.invariant-loop-byte
invariant-loop-byte l = l.high ≡ list_all (nat_le 32) (take l.byte-index l.block)

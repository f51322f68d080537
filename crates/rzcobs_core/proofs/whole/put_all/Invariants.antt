use Rattle.std.proofs.Common.{◌≡◌, ◌≤◌, ◌-◌, take, length}
use Rattle.rzcobs_core.specs.Encodes.{Encodes, WritesOn}
use Rattle.rzcobs_core.proofs.whole.put_all.Given as goal

abbrev pub invariant-some : goal.invariant-some
invariant-some l = record {
  same_buffer : l.encoder.out.ghost_name ≡ l.fn.encoder.out.ghost_name;
  put : Encodes l.encoder.out.now l.encoder.stored l.encoder.count l.encoder.zeros (take l.at l.message);
  within : l.at ≤ length l.message;
  size : length l.encoder.out.now ≡ length l.fn.encoder.out.now;
  behind : WritesOn l.fn.encoder.stored l.fn.encoder.out.now l.encoder.stored l.encoder.out.now;
}

abbrev pub decreases-some : goal.decreases-some
decreases-some l = length l.message - l.at

use Rattle.std.proofs.Common.{◌≡◌, ◌++◌, ℕ, List, take, length}
use Rattle.rzcobs_core.specs.Encodes.{Encodes, Gathers, WritesOn}
use Rattle.rzcobs_core.proofs.encoder.Encoder.gather_all.Given as goal

abbrev pub invariant-loop-byte : goal.invariant-loop-byte
invariant-loop-byte l = record {
  same_buffer : l.self.out.ghost_name ≡ l.fn.self.out.ghost_name;
  more : (message : List ℕ) → Encodes l.fn.self.out.now l.fn.self.stored l.fn.self.count l.fn.self.zeros message
      → Gathers l.self.out.now l.self.stored l.self.count l.self.zeros (message ++ take l.byte-index l.bytes);
  count : l.self.count ≡ l.byte-index;
  size : length l.self.out.now ≡ length l.fn.self.out.now;
  behind : WritesOn l.fn.self.stored l.fn.self.out.now l.self.stored l.self.out.now;
}

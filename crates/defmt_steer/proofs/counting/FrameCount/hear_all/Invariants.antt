use Rattle.std.proofs.Common.{ℕ, ◌+◌, ◌≤◌, List, ◌++◌, take}
use Rattle.defmt_steer.specs.Steers.{Counts}
use Rattle.defmt_steer.proofs.counting.FrameCount.hear_all.Given as goal

abbrev pub invariant-loop-byte : goal.invariant-loop-byte
invariant-loop-byte l = record {
  most : l.self.frames ≤ l.fn.self.frames + l.byte-index;
  more : l.fn.self.frames ≤ l.self.frames;
  counts : (stream : List ℕ) → Counts l.fn.self.frames l.fn.self.zeros l.fn.self.begun stream
      → Counts l.self.frames l.self.zeros l.self.begun (stream ++ take l.byte-index l.bytes);
}

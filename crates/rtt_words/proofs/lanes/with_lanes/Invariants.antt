use Rattle.std.proofs.Common.{◌≡◌, ℕ, ◌+◌, ◌<◌, ◌≤◌, length, slice_index}
use Rattle.rtt_words.proofs.lanes.with_lanes.Given as goal

abbrev pub invariant-loop-i : goal.invariant-loop-i
invariant-loop-i l =
    (length l.lanes ≡ 8)
    × ((t : ℕ) → t < l.i → slice_index l.lanes (l.lane + t) ≡ slice_index l.bytes t)
    × ((j : ℕ) → j < l.lane → slice_index l.lanes j ≡ slice_index l.initial.lanes j)
    × ((j : ℕ) → l.lane + l.i ≤ j → slice_index l.lanes j ≡ slice_index l.initial.lanes j)
    × ((j : ℕ) → slice_index l.lanes j < 256)

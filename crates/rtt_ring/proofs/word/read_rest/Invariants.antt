use Rattle.std.proofs.Common.{◌≡◌, ◌+◌, ◌-◌, ◌%◌, ◌≤◌, ◌++◌, length}
use Rattle.rtt_words.specs.WordRule.{StartsWith}
use Rattle.rtt_words.specs.Told.{joined_upper, joined_lower}
use Rattle.rtt_ring.proofs.word.read_rest.Given as goal

abbrev pub invariant-loop-done : goal.invariant-loop-done
invariant-loop-done l =
    (joined_upper l.words ≡ joined_upper l.initial.words) × (joined_lower l.words ≡ joined_lower l.initial.words)
    × (length l.rest.items ≡ l.done) × (l.at ≡ (length (joined_lower l.initial.words).got + l.done) % l.size) × (l.done ≤ l.wait)
    × (l.wait ≤ l.rest.room + l.done)
    × StartsWith (joined_upper l.initial.words).sent ((joined_lower l.initial.words).got ++ l.rest.items)

abbrev pub decreases-loop-done : goal.decreases-loop-done
decreases-loop-done l = l.wait - l.done

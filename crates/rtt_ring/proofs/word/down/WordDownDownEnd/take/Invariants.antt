use Rattle.std.proofs.Common.{◌≡◌, ◌-◌, ◌≤◌, ◌++◌, take, drop}
use Rattle.rtt_words.specs.Told.{lower, lower_name}
use Rattle.rtt_ring.proofs.word.down.WordDownDownEnd.take.Given as goal

abbrev pub invariant-loop-done : goal.invariant-loop-done
invariant-loop-done l =
    (lower_name l.self.words ≡ lower_name l.initial.self.words) × (l.self.size ≡ l.initial.self.size) × (l.done ≤ l.count)
    × ((lower l.self.words).found ≡ (lower l.initial.self.words).found) × ((lower l.self.words).looks ≡ (lower l.initial.self.words).looks)
    × ((lower l.self.words).got ≡ (lower l.initial.self.words).got ++ take l.done l.buf)
    × ((lower l.self.words).released ≡ (lower l.initial.self.words).released) × (drop l.done l.buf ≡ drop l.done l.initial.buf)
    × ((lower l.self.words).rd_off ≡ (lower l.initial.self.words).rd_off)
    × ((lower l.self.words).wr_off ≡ (lower l.initial.self.words).wr_off)

abbrev pub decreases-loop-done : goal.decreases-loop-done
decreases-loop-done l = l.count - l.done

use Rattle.std.proofs.Common.{◌≡◌, ◌+◌, ◌-◌, ◌≤◌, ◌++◌, length, take}
use Rattle.rtt_words.specs.Told.{upper, upper_name}
use Rattle.rtt_ring.proofs.word.up.WordUpUpEnd.put.Given as goal

abbrev pub invariant-loop-done : goal.invariant-loop-done
invariant-loop-done l =
    (upper_name l.self.words ≡ upper_name l.initial.self.words) × (l.self.size ≡ l.initial.self.size) × (l.self.room + l.done ≡ l.initial.self.room) × (l.done ≤ length l.bytes)
    × ((upper l.self.words).staged ≡ (upper l.initial.self.words).staged ++ take l.done l.bytes)
    × ((upper l.self.words).sent ≡ (upper l.initial.self.words).sent) × ((upper l.self.words).looks ≡ (upper l.initial.self.words).looks) × ((upper l.self.words).freed ≡ (upper l.initial.self.words).freed)
    × ((upper l.self.words).rd_off ≡ (upper l.initial.self.words).rd_off)

abbrev pub decreases-loop-done : goal.decreases-loop-done
decreases-loop-done l = length l.bytes - l.done

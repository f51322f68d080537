-- Several bytes put at once.
use Rattle.std.proofs.Common.{◌≡◌, ℕ, ◌+◌, ◌-◌, ◌/◌, ◌<◌, ◌≤◌, List, [], ◌∷◌, ◌++◌, length, take, drop, get_or, sym, ◌∙◌, ap, arith, length-append, length-drop, append_assoc}
use Rattle.std.proofs.lemmas.List.{take_all, take_more, length-take-le}
use Rattle.std.proofs.Math.Seq.{take-add}
use Rattle.rzcobs_core.specs.Encodes.{Gathers, Encodes}

-- fewer than seven gathered bytes are no whole block
pub few_encode : (out : List ℕ) (stored count marks : ℕ) (message : List ℕ) → Gathers out stored count marks message → count ≤ 6 → Encodes out stored count marks message
few_encode out stored count marks message g few = record {
  gathers = g;
  few = omega arith;
  full = λ far. absurd (omega arith);
}

pub one_behind : (message bytes : List ℕ) (i : ℕ) → i < length bytes → (message ++ take i bytes) ++ get_or bytes i 0 ∷ [] ≡ message ++ take (i + 1) bytes
one_behind message bytes i within = append_assoc message (take i bytes) (get_or bytes i 0 ∷ []) ∙ ap (λ (l : List ℕ). message ++ l) (sym (take_more bytes i 0 within))

-- the bytes from a place on, as a slice has them
pub from_there : (message : List ℕ) (at : ℕ) → take (length message - at) (drop at message) ≡ drop at message
from_there message at = take_all (length message - at) (drop at message) (omega (arith, length-drop at message))

pub more_behind : (message : List ℕ) (at count : ℕ) → take at message ++ take count (take (length message - at) (drop at message)) ≡ take (at + count) message
more_behind message at count = ap (λ (l : List ℕ). take at message ++ take count l) (from_there message at) ∙ sym (take-add at count message)

-- the room for one byte more, where there is room for all
pub room_there : (message bytes : List ℕ) (i n : ℕ) → i < length bytes → length message + length bytes + (length message + length bytes + 6) / 7 ≤ n
    → length (message ++ take i bytes) + 1 + (length (message ++ take i bytes) + 1 + 6) / 7 ≤ n
room_there message bytes i n within room = omega (arith, length-append message (take i bytes), length-take-le i bytes (omega arith), room)

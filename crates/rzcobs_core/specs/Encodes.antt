-- What an encoder has written of the message so far, and what it has still gathered.
use Rattle.std.specs.Prelude.{◌≡◌, ◌+◌, ◌*◌, ◌<◌, ◌≤◌, ℕ, List, ◌++◌, length, take, drop}
use Rattle.rzcobs_core.specs.Blocks.{nonzero, zero_bits}
use Rattle.rzcobs_core.specs.Canon.{canon}

-- The blocks of the message's front are written, and behind them stand the gathered bytes that
-- aren't zero; the bits tell where the gathered zeros are.
pub record Gathers (out : List ℕ) (stored count zeros : ℕ) (message : List ℕ) : Type 0 where
  pub front : List ℕ
  pub gathered : List ℕ
  pub code : List ℕ
  pub message_is : message ≡ front ++ gathered
  pub written : (rest : List ℕ) → canon (front ++ rest) ≡ code ++ canon rest
  pub bytes : take stored out ≡ code ++ nonzero gathered
  pub stored_is : stored ≡ length code + length (nonzero gathered)
  pub count_is : count ≡ length gathered
  pub zeros_is : zeros ≡ zero_bits gathered
  pub few : count ≤ 134
  pub full : 7 < count → zeros ≡ 0
  pub room : 7 * length code ≤ 8 * length front

-- The same, and the gathered bytes are no whole block yet.
pub record Encodes (out : List ℕ) (stored count zeros : ℕ) (message : List ℕ) : Type 0 where
  pub gathers : Gathers out stored count zeros message
  pub few : count ≤ 133
  pub full : 7 ≤ count → zeros ≡ 0

-- More is stored than before, and the bytes behind it are as they were.
pub record WritesOn (stored : ℕ) (out : List ℕ) (stored_after : ℕ) (out_after : List ℕ) : Type 0 where
  pub grows : stored ≤ stored_after
  pub behind : drop stored_after out_after ≡ drop stored_after out

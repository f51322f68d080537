-- What the ends of the table keep, and what contracts see of them.
use Rattle.std.specs.Prelude.{◌≡◌, ◌/◌, ℕ, ◌+◌, ◌<◌, ◌≤◌, List, [], ◌∷◌}
use Rattle.atomic_table.specs.Seated.{TableId}
use Rattle.atomic_table.specs.Table.{Me}
use Rattle.rtt_words.specs.declared.view.View.{View}
use Rattle.rtt_words.specs.declared.view.View.TheVariants.{Up, Down, Both}
use Rattle.rtt_words.specs.History.{loads_in, last_loaded}
use Rattle.rtt_words.specs.WordRule.{upper_of, lower_of}

-- the table z, with the key `key`, has words for so many bytes, and the seat is one of the table
pub record IsTableOf (z : TableId) (key : ℕ) (of : TableId) : Type 0 where
  pub words : z.words ≡ (key + 7) / 8 + 2
  pub big : (1 < key) × (key ≤ 65536)
  pub seated : of ≡ z

pub record IsUpper {S : Type 0} (z : TableId) (key : ℕ) (of : TableId) (m : Me S View) : Type 0 where
  pub table : IsTableOf z key of
  pub is_up : m ≡ (Up (upper_of m.0), [])
  pub sized : (upper_of m.0).size ≡ key
  -- each look is a load of RdOff
  pub counted : loads_in (upper_of m.0).rd_off ≡ (upper_of m.0).looks
  pub last : last_loaded 0 (upper_of m.0).rd_off ≡ (upper_of m.0).freed

pub record IsLower {S : Type 0} (z : TableId) (key : ℕ) (of : TableId) (m : Me S View) : Type 0 where
  pub table : IsTableOf z key of
  pub is_down : m ≡ (Down (lower_of m.0), [])
  pub sized : (lower_of m.0).size ≡ key
  -- each look is a load of WrOff
  pub counted : loads_in (lower_of m.0).wr_off ≡ (lower_of m.0).looks
  pub last : last_loaded 0 (lower_of m.0).wr_off ≡ (lower_of m.0).found

pub record IsBothEnds {S : Type 0} (z : TableId) (key : ℕ) (of : TableId) (m : Me S View) : Type 0 where
  pub table : IsTableOf z key of
  pub is_both : m ≡ (Both (upper_of m.0) (lower_of m.0), [])
  pub sized : (upper_of m.0).size ≡ key

-- the name of a ring: its size, and the numbers that tell its table from every other
abbrev pub name_of : ℕ → TableId → List ℕ
name_of size z = size ∷ z.words ∷ z.slots ∷ z.views_name ∷ z.atom ∷ z.block ∷ z.offset ∷ z.slot_names

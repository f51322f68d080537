-- The slots of pieces: what is sent for each position. The defmt book, "Bitfields".
use Rattle.std.specs.Prelude.{◌≤◌, ◌<◌, ◌+◌, ◌-◌, ◌*◌, ◌/◌, ℕ, min, max, nat_le, List, [], ◌∷◌, map, length, All, ◌==◌, if◌then◌else◌}
use Rattle.std.specs.List.{range_with_len}
use Rattle.defmt_grammar.specs.declared.kind.Kind.{Kind}
use Rattle.defmt_grammar.specs.declared.kind.Kind.TheVariants as kinds
use Rattle.defmt_grammar.specs.declared.param.Param.{Param}
use Rattle.defmt_grammar.specs.declared.piece.Piece.{Piece}
use Rattle.defmt_grammar.specs.declared.piece.Piece.TheVariants as pieces
use Rattle.defmt_grammar.specs.declared.slot.Slot.{Slot}
use Rattle.defmt_grammar.specs.declared.slot.Slot.TheVariants.{One, Bits}

-- the parameters among pieces
abbrev pub params_of : List Piece → List Param
params_of [] = []
params_of (pieces.Literal text ∷ ps) = params_of ps
params_of (pieces.Param p ∷ ps) = p ∷ params_of ps

-- the number of positions: one more than the greatest
unfoldable pub positions : List Param → ℕ
positions [] = 0
positions (p ∷ ps) = max (p.position + 1) (positions ps)

-- the kinds for which a position is used
unfoldable pub kinds_at : ℕ → List Param → List Kind
kinds_at position [] = []
kinds_at position (p ∷ ps) = if p.position == position then p.kind ∷ kinds_at position ps else kinds_at position ps

-- how often a position is used
abbrev pub uses_at : ℕ → List Piece → ℕ
uses_at position ps = length (kinds_at position (params_of ps))

-- the least start of the bit fields, which is below 128 where there is one
unfoldable pub least_start : List Kind → ℕ
least_start [] = 128
least_start (kinds.Bits lo hi ∷ ks) = min lo (least_start ks)
least_start (kind ∷ ks) = least_start ks

-- the greatest end of the bit fields
unfoldable pub greatest_end : List Kind → ℕ
greatest_end [] = 0
greatest_end (kinds.Bits lo hi ∷ ks) = max hi (greatest_end ks)
greatest_end (kind ∷ ks) = greatest_end ks

-- a number of bytes, raised to the next of 1, 2, 4, 8, 16
abbrev pub raised : ℕ → ℕ
raised count = if nat_le count 1 then 1 else if nat_le count 2 then 2 else if nat_le count 4 then 4 else if nat_le count 8 then 8 else 16

-- how many bytes hold the bits start to end - 1: the bytes start / 8 to (end - 1) / 8
abbrev pub bytes_between : ℕ → ℕ → ℕ
bytes_between start end = (end - 1) / 8 + 1 - start / 8

-- a window that holds the bits start to end - 1 of 16 bytes
abbrev pub window : ℕ → ℕ → Slot
window start end = Bits (min (start / 8) (16 - raised (bytes_between start end))) (raised (bytes_between start end))

-- the slot of a position that is used for these kinds
unfoldable pub slot_of : List Kind → Slot
slot_of [] = One kinds.Format
slot_of (kinds.Bits lo hi ∷ ks) = window (least_start (kinds.Bits lo hi ∷ ks)) (greatest_end (kinds.Bits lo hi ∷ ks))
slot_of (kind ∷ ks) = One kind

-- one slot for each position
unfoldable pub slots_of : List Piece → List Slot
slots_of ps = map (λ position. slot_of (kinds_at position (params_of ps))) (range_with_len 0 (positions (params_of ps)))

-- a kind is none of bit fields, and a window lies within 16 bytes
abbrev pub IsSound : Slot → Type 0
IsSound (One (kinds.Bits lo hi)) = ⊥
IsSound (One kind) = Unit {0}
IsSound (Bits first width) = first + width ≤ 16

-- the slot holds the bits lo to hi - 1
abbrev pub HoldsRange : Slot → ℕ → ℕ → Type 0
HoldsRange (One kind) lo hi = ⊥
HoldsRange (Bits first width) lo hi = (8 * first ≤ lo) × (hi ≤ 8 * (first + width))

-- a bit field is held by the slot of its position
abbrev pub HoldsField : Slot → Kind → Type 0
HoldsField slot (kinds.Bits lo hi) = HoldsRange slot lo hi
HoldsField slot kind = Unit {0}

-- each position below the limit is used
abbrev pub AllUsed : List Piece → ℕ → Type 0
AllUsed ps limit = (position : ℕ) → position < limit → 0 < uses_at position ps

-- what is known of the slots of pieces that some text spells
pub record SlotsAreSound (ps : List Piece) : Type 0 where
  pub few : length (slots_of ps) ≤ 16
  pub sound : All IsSound (slots_of ps)
  pub used : AllUsed ps (length (slots_of ps))
  pub hold : (position : ℕ) → All (HoldsField (slot_of (kinds_at position (params_of ps)))) (kinds_at position (params_of ps))

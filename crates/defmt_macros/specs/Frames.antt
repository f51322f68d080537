-- Frames: the bytes put so far, and the slots still to come.
use Rattle.std.specs.Prelude.{◌≡◌, ◌≤◌, ◌+◌, ℕ, List, [], ◌∷◌, ◌++◌, length, take, drop, Option, Some, None}
use Rattle.std.specs.Borrow.{MutBor}
use Rattle.byteorder.specs.Endian.{little_bytes}
use Rattle.defmt_grammar.specs.declared.slot.Slot.{Slot}
use Rattle.defmt_intern.specs.Table.{Map}
use Rattle.defmt_values.specs.Fits.{FitsVal}
use Rattle.defmt_values.specs.Plain.{Vals, no_vals, val, vals_len}
use Rattle.defmt_encode.specs.Carry.{bytes_vals, message_head}
use Rattle.defmt_macros.specs.Spot.{Spot}
use Rattle.defmt_macros.specs.declared.frame.Frame.{Frame}

-- the buffer that it puts into
abbrev pub buffer_of : Frame → List ℕ
buffer_of frame = frame.buf.now

-- how many bytes were put
abbrev pub count_put : Frame → ℕ
count_put frame = frame.at

-- the bytes put so far
abbrev pub bytes_put : Frame → List ℕ
bytes_put frame = take (count_put frame) (buffer_of frame)

-- the slots still to come
abbrev pub slots_left : Frame → List Slot
slots_left frame = frame.left.now

-- it puts into the buffer that was lent by this reference
abbrev pub PutsInto : Frame → MutBor (List ℕ) → Type 0
PutsInto frame lent = frame.buf.ghost_name ≡ lent.ghost_name

-- the reference stays the same
abbrev pub SameBuffer : Frame → Frame → Type 0
SameBuffer old new = new.buf.ghost_name ≡ old.buf.ghost_name

-- this slot is the next to come
abbrev pub IsNext : Frame → Slot → Type 0
IsNext frame slot = (more : List Slot) × (slots_left frame ≡ slot ∷ more)

-- with so many bytes more the message has at most 2,000
abbrev pub HasRoom : Frame → ℕ → Type 0
HasRoom frame count = count_put frame + count ≤ 2000

-- a stamp is sent in eight bytes
abbrev pub stamp_bytes : Option ℕ → List ℕ
stamp_bytes None = []
stamp_bytes (Some n) = little_bytes 8 n

-- the head of a message whose stamp is sent so
abbrev pub head_of : ℕ → Option ℕ → Option ℕ → List ℕ
head_of index place stamp = message_head index place (stamp_bytes stamp)

-- the whole message of a site with these values
abbrev pub whole_of : Map → Spot → Option ℕ → Option ℕ → Vals → List ℕ
whole_of t site place stamp vs = head_of site.index place stamp ++ bytes_vals t site.slots vs

-- these bytes were put behind the others, what lies behind them is as before, and the slot is no more
-- to come
pub record Grows (old new : Frame) (slot : Slot) (more : List ℕ) : Type 0 where
  pub bytes_are : bytes_put new ≡ bytes_put old ++ more
  pub behind_is : drop (count_put new) (buffer_of new) ≡ drop (count_put new) (buffer_of old)
  pub count_is : count_put new ≡ count_put old + length more
  pub slots_are : slots_left old ≡ slot ∷ slots_left new

-- the same, and no slot is to come
pub record GrowsByAll (old new : Frame) (more : List ℕ) : Type 0 where
  pub bytes_are : bytes_put new ≡ bytes_put old ++ more
  pub behind_is : drop (count_put new) (buffer_of new) ≡ drop (count_put new) (buffer_of old)
  pub count_is : count_put new ≡ count_put old + length more
  pub slots_are : slots_left new ≡ []

-- each value fits its slot, and each slot has one
abbrev pub FitSlots : Map → List Slot → Vals → Type 0
FitSlots t [] no_vals = Unit {0}
FitSlots t [] (val v vs) = ⊥
FitSlots t (s ∷ ss) no_vals = ⊥
FitSlots t (s ∷ ss) (val v vs) = FitsVal t 16 s v × FitSlots t ss vs

-- The frame has the head, the bytes of these values for the slots in front, and the other slots to
-- come.
pub record Holds (t : Map) (index : ℕ) (slots : List Slot) (place stamp : Option ℕ) (vs : Vals)
    (frame : Frame) : Type 0 where
  pub front : List Slot
  pub slots_are : slots ≡ front ++ slots_left frame
  pub size : vals_len vs ≡ length front
  pub bytes_are : bytes_put frame ≡ head_of index place stamp ++ bytes_vals t front vs

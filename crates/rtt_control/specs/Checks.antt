-- The checks of a control block in their order, and the refusal of each.
use Rattle.std.specs.Prelude.{◌≡◌, ◌+◌, ◌-◌, ◌%◌, ◌<◌, ◌≤◌, ℕ, List, ◌∷◌, [], ◌++◌, length, take, drop, IfSome, slice_get}
use Rattle.byte_images.specs.First.{Place, FirstToFail}
use Rattle.rtt_control.specs.declared.block.Block.{Block}
use Rattle.rtt_control.specs.declared.block.Descriptor.{Descriptor}
use Rattle.rtt_control.specs.declared.fault.Cause.{Cause}
use Rattle.rtt_control.specs.declared.fault.Cause.TheVariants.{NoId, Bounds, Offset, Flags, TwoIds}
use Rattle.rtt_control.specs.declared.fault.ControlFault.{ControlFault}
use Rattle.rtt_control.specs.declared.fault.ControlFault.TheVariants.{Refused, Memory}
use Rattle.rtt_control.specs.Layout.{id, block_len, block_of, ups_at, downs_at}

-- the numbers of the causes
abbrev pub number_of : Cause → ℕ
number_of NoId = 1
number_of Bounds = 2
number_of Offset = 3
number_of Flags = 4
number_of TwoIds = 5

abbrev pub refused : Cause → ℕ → ControlFault
refused cause place = Refused (number_of cause) place

-- ---- the checks

-- n is the number of a descriptor, up-descriptors first
pub data Check : Type 0 where
  has_id : Check
  has_room : Check
  lies_in : ℕ → Check
  has_offsets : ℕ → Check
  has_mode : ℕ → Check

abbrev pub place : Check → Place
place has_id = record { row = 0; index = 0 }
place has_room = record { row = 1; index = 0 }
place (lies_in n) = record { row = 2 + n; index = 0 }
place (has_offsets n) = record { row = 2 + n; index = 1 }
place (has_mode n) = record { row = 2 + n; index = 2 }

-- the buffer lies in an image of `size` bytes, of which the first has the address `base`
abbrev pub LiesIn : ℕ → ℕ → Descriptor → Type 0
LiesIn size base d = 0 < d.size → (base ≤ d.start) × (d.start - base + d.size ≤ size)

-- WrOff and RdOff are places in the buffer, or 0 where it has none
abbrev pub HasOffsets : Descriptor → Type 0
HasOffsets d = (d.size ≡ 0 → (d.wr ≡ 0) × (d.rd ≡ 0)) × (0 < d.size → (d.wr < d.size) × (d.rd < d.size))

-- bits 0 and 1 of the flags are skip, trim or block
abbrev pub HasMode : Descriptor → Type 0
HasMode d = d.flags % 4 < 3

-- what a call checks: descriptors in order, in an image of `size` bytes of which the first has the address `base`
pub record Subject : Type 0 where
  pub size : ℕ
  pub base : ℕ
  pub descriptors : List Descriptor

abbrev pub Holds : Type 0 → Type 0 → Subject → Check → Type 0
Holds Id Room s has_id = Id
Holds Id Room s has_room = Room
Holds Id Room s (lies_in n) = IfSome (slice_get s.descriptors n) (LiesIn s.size s.base)
Holds Id Room s (has_offsets n) = IfSome (slice_get s.descriptors n) HasOffsets
Holds Id Room s (has_mode n) = IfSome (slice_get s.descriptors n) HasMode

-- `at` is the place of the block
abbrev pub refusal : ℕ → Check → ControlFault
refusal at has_id = refused NoId at
refusal at has_room = refused Bounds at
refusal at (lies_in n) = refused Bounds n
refusal at (has_offsets n) = refused Offset n
refusal at (has_mode n) = refused Flags n

-- a fault is the refusal of the first check that doesn't hold, or want of memory
pub record IsFirstRefusal (Id Room : Type 0) (s : Subject) (at : ℕ) (fault : ControlFault) : Type 0 where
  pub check : Check
  pub first : FirstToFail place (Holds Id Room s) check
  pub is : fault ≡ refusal at check

abbrev pub IsRefusal : Type 0 → Type 0 → Subject → ℕ → ControlFault → Type 0
IsRefusal Id Room s at Memory = Unit {0}
IsRefusal Id Room s at (Refused cause place) = IsFirstRefusal Id Room s at (Refused cause place)

abbrev pub Passes : Type 0 → Type 0 → Subject → Type 0
Passes Id Room s = (check : Check) → Holds Id Room s check

-- ---- what each call checks

-- the ID stands at a place
abbrev pub HasId : List ℕ → ℕ → Type 0
HasId image at = take 16 (drop at image) ≡ id

-- `read`: the block at a place
abbrev pub HasBlock : List ℕ → ℕ → Type 0
HasBlock image at = at + block_len (ups_at image at) (downs_at image at) ≤ length image

abbrev pub read_subject : List ℕ → ℕ → ℕ → Subject
read_subject image base at = record { size = length image; base = base; descriptors = (block_of image at).up ++ (block_of image at).down }

-- `write`: the block that is to be put at a place, of which no ID is asked
abbrev pub HasSpace : List ℕ → ℕ → Block → Type 0
HasSpace image at block = at + block_len (length block.up) (length block.down) ≤ length image

abbrev pub write_subject : List ℕ → ℕ → Block → Subject
write_subject image base block = record { size = length image; base = base; descriptors = block.up ++ block.down }

-- `unread`: its one descriptor
abbrev pub unread_subject : List ℕ → ℕ → Descriptor → Subject
unread_subject image base d = record { size = length image; base = base; descriptors = d ∷ [] }

-- What each call answers, as a function of its arguments: the value, or the first refusal.
use Rattle.std.specs.Prelude.{◌≡◌, ◌+◌, ◌-◌, ◌%◌, ◌==◌, ◌&&◌, ◌||◌, ℕ, Bool, not, List, [], ◌∷◌, ◌++◌, length, drop, Option, Some, None, Result, Ok, Err, if◌then◌else◌, nat_lt, nat_le}
use Rattle.rtt_control.specs.Layout.{block_bytes, block_len, downs_at, lists_at, starts_with_id, ups_at, waiting, with_bytes}
use Rattle.rtt_control.specs.Checks.{refused}
use Rattle.rtt_control.specs.declared.block.Block.{Block}
use Rattle.rtt_control.specs.declared.block.Descriptor.{Descriptor}
use Rattle.rtt_control.specs.declared.fault.Cause.{Cause}
use Rattle.rtt_control.specs.declared.fault.Cause.TheVariants.{NoId, Bounds, Offset, Flags, TwoIds}
use Rattle.rtt_control.specs.declared.fault.ControlFault.{ControlFault}
use Rattle.rtt_control.specs.declared.fault.ControlFault.TheVariants.{Refused, Memory}

-- ---- find

-- the places of the ID, of bytes that begin at the place `at`
abbrev pub id_places : ℕ → List ℕ → List ℕ
id_places at [] = []
id_places at (b ∷ rest) = if starts_with_id (b ∷ rest) then at ∷ id_places (at + 1) rest else id_places (at + 1) rest

-- the list of at most one place
abbrev pub listed : Option ℕ → List ℕ
listed None = []
listed (Some p) = p ∷ []

abbrev pub answer_of_find : List ℕ → Result ℕ ControlFault
answer_of_find [] = Err (refused NoId 0)
answer_of_find (p ∷ []) = Ok p
answer_of_find (p ∷ q ∷ rest) = Err (refused TwoIds q)

abbrev pub found : List ℕ → Result ℕ ControlFault
found image = answer_of_find (id_places 0 image)

-- ---- descriptors

-- the buffer lies in an image of `size` bytes
abbrev pub lies_in : ℕ → ℕ → Descriptor → Bool
lies_in size base d = d.size == 0 || (nat_le base d.start && nat_le (d.start - base + d.size) size)

abbrev pub has_offsets : Descriptor → Bool
has_offsets d = if d.size == 0 then (d.wr == 0 && d.rd == 0) else (nat_lt d.wr d.size && nat_lt d.rd d.size)

abbrev pub has_mode : Descriptor → Bool
has_mode d = nat_lt (d.flags % 4) 3

-- the first cause of one descriptor
unfoldable pub cause_of : ℕ → ℕ → Descriptor → Option Cause
cause_of size base d = if not (lies_in size base d) then Some Bounds
    else if not (has_offsets d) then Some Offset
    else if not (has_mode d) then Some Flags
    else None

abbrev pub refused_or : Option Cause → ℕ → Option ControlFault → Option ControlFault
refused_or (Some cause) n later = Some (refused cause n)
refused_or None n later = later

-- the first refusal of some descriptors, of which the first has the number n
abbrev pub first_refusal : ℕ → ℕ → ℕ → List Descriptor → Option ControlFault
first_refusal size base n [] = None
first_refusal size base n (d ∷ rest) = refused_or (cause_of size base d) n (first_refusal size base (n + 1) rest)

abbrev pub unless : {A : Type 0} → Option ControlFault → A → Result A ControlFault
unless (Some fault) value = Err fault
unless None value = Ok value

-- ---- read

abbrev pub checked : ℕ → ℕ → Block → Result Block ControlFault
checked size base block = unless (first_refusal size base 0 (block.up ++ block.down)) block

abbrev pub read_by : List ℕ → ℕ → ℕ → ℕ → ℕ → Result Block ControlFault
read_by image base at ups downs = if nat_lt (length image) (at + block_len ups downs) then Err (refused Bounds at)
    else checked (length image) base (lists_at image at ups downs)

abbrev pub block_at : List ℕ → ℕ → ℕ → Result Block ControlFault
block_at image base at = if not (starts_with_id (drop at image)) then Err (refused NoId at)
    else read_by image base at (ups_at image at) (downs_at image at)

-- ---- write

abbrev pub written : Block → List ℕ → ℕ → ℕ → Result (List ℕ) ControlFault
written block image base at = if nat_lt (length image) (at + block_len (length block.up) (length block.down)) then Err (refused Bounds at)
    else unless (first_refusal (length image) base 0 (block.up ++ block.down)) (with_bytes image at (block_bytes block.up block.down))

-- ---- unread

abbrev pub unread_of : List ℕ → ℕ → Descriptor → Result (List ℕ) ControlFault
unread_of image base d = unless (first_refusal (length image) base 0 (d ∷ [])) (waiting image base d)

-- ---- what the code answers

-- the fault is this answer's, or want of memory
abbrev pub IsAnswer : {A : Type 0} → Result A ControlFault → ControlFault → Type 0
IsAnswer answer Memory = Unit {0}
IsAnswer answer (Refused cause place) = answer ≡ Err (Refused cause place)

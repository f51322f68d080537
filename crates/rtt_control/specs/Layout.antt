-- What a control block and its bytes are, after `SEGGER_RTT_CB` and `SEGGER_RTT_BUFFER_UP` of SEGGER RTT for targets of 32 bits.
use Rattle.std.specs.Prelude.{◌+◌, ◌-◌, ◌*◌, ◌%◌, ◌<◌, ◌==◌, if◌then◌else◌, ℕ, zero, suc, Bool, List, [], ◌∷◌, ◌++◌, length, take, drop, slice_index, nat_eq}
use Rattle.std.specs.List.{flat_map, starts_with}
use Rattle.byteorder.specs.Endian.{little_bytes}
use Rattle.byte_images.specs.Fields.{number}
use Rattle.rtt_control.specs.declared.block.Block.{Block}
use Rattle.rtt_control.specs.declared.block.Descriptor.{Descriptor}

-- `SEGGER RTT` and six zeros
abbrev pub id : List ℕ
id = 83 ∷ 69 ∷ 71 ∷ 71 ∷ 69 ∷ 82 ∷ 32 ∷ 82 ∷ 84 ∷ 84 ∷ 0 ∷ 0 ∷ 0 ∷ 0 ∷ 0 ∷ 0 ∷ []

-- the ID stands at the front
unfoldable pub starts_with_id : List ℕ → Bool
starts_with_id image = starts_with nat_eq image id

-- the number in the four bytes at a place
abbrev pub word : List ℕ → ℕ → ℕ
word image at = number at 4 image

-- the descriptor of the 24 bytes at a place
abbrev pub descriptor_at : List ℕ → ℕ → Descriptor
descriptor_at image at = record {
  name = word image at;
  start = word image (at + 4);
  size = word image (at + 8);
  wr = word image (at + 12);
  rd = word image (at + 16);
  flags = word image (at + 20);
}

-- `count` descriptors from a place on
abbrev pub descriptors_at : List ℕ → ℕ → ℕ → List Descriptor
descriptors_at image at zero = []
descriptors_at image at (suc count) = descriptors_at image at count ++ descriptor_at image (at + 24 * count) ∷ []

-- the numbers of buffers of the block at a place
abbrev pub ups_at : List ℕ → ℕ → ℕ
ups_at image at = word image (at + 16)

abbrev pub downs_at : List ℕ → ℕ → ℕ
downs_at image at = word image (at + 20)

-- the block with so many descriptors from a place on
abbrev pub lists_at : List ℕ → ℕ → ℕ → ℕ → Block
lists_at image at ups downs = record { up = descriptors_at image (at + 24) ups; down = descriptors_at image (at + 24 + 24 * ups) downs }

-- the block at a place: up-descriptors, then down-descriptors
abbrev pub block_of : List ℕ → ℕ → Block
block_of image at = lists_at image at (ups_at image at) (downs_at image at)

-- the length of a block with so many up- and down-descriptors
abbrev pub block_len : ℕ → ℕ → ℕ
block_len ups downs = 24 + 24 * (ups + downs)

-- ---- the bytes of a block

abbrev pub fields : Descriptor → List ℕ
fields d = d.name ∷ d.start ∷ d.size ∷ d.wr ∷ d.rd ∷ d.flags ∷ []

unfoldable pub word_bytes : ℕ → List ℕ
word_bytes n = little_bytes 4 n

abbrev pub descriptor_bytes : Descriptor → List ℕ
descriptor_bytes d = flat_map word_bytes (fields d)

-- each field fits 32 bits
pub record IsWords (d : Descriptor) : Type 0 where
  pub name : d.name < 4294967296
  pub start : d.start < 4294967296
  pub size : d.size < 4294967296
  pub wr : d.wr < 4294967296
  pub rd : d.rd < 4294967296
  pub flags : d.flags < 4294967296

-- the bytes of a block with these descriptors
abbrev pub block_bytes : List Descriptor → List Descriptor → List ℕ
block_bytes up down =
    ((id ++ flat_map word_bytes (length up ∷ length down ∷ [])) ++ flat_map descriptor_bytes up) ++ flat_map descriptor_bytes down

-- an image with these bytes at a place; every byte before and behind them is as it was
abbrev pub with_bytes : List ℕ → ℕ → List ℕ → List ℕ
with_bytes image at bytes = take at image ++ (bytes ++ drop (at + length bytes) image)

-- ---- the bytes that wait in a buffer

-- `count` bytes of a buffer from a place on, round the end
abbrev pub round : List ℕ → ℕ → ℕ → ℕ → List ℕ
round buffer size at zero = []
round buffer size at (suc count) = slice_index buffer (at % size) ∷ round buffer size (at + 1) count

-- the bytes from RdOff up to WrOff; none for the size 0
unfoldable pub waiting : List ℕ → ℕ → Descriptor → List ℕ
waiting image base d = if d.size == 0 then []
    else round (drop (d.start - base) image) d.size d.rd ((d.wr + d.size - d.rd) % d.size)

-- The memory image of a plain ring (SEGGER RTT, the control block of a 32-bit target): the block at place 0, with one
-- up-descriptor and none down, and the buffer at place 48.
use Rattle.std.specs.Prelude.{ℕ, ◌+◌, ◌-◌, min, List, [], ◌∷◌, ◌++◌, length, take, drop}
use Rattle.std.specs.List.{flat_map}
use Rattle.rtt_control.specs.declared.block.Descriptor.{Descriptor}
use Rattle.rtt_control.specs.Layout.{descriptor_bytes, id, round, with_bytes, word_bytes}

-- the target address of the image, 0x20000000
abbrev pub base : ℕ
base = 536870912

-- the first 24 bytes of the block
unfoldable pub header : List ℕ
header = id ++ flat_map word_bytes (1 ∷ 0 ∷ [])

-- the ring's up-descriptor: WrOff and RdOff are offsets in the buffer
abbrev pub plain_descriptor : ℕ → ℕ → ℕ → Descriptor
plain_descriptor size wr rd = record { name = 0; start = base + 48; size = size; wr = wr; rd = rd; flags = 0 }

-- the 48 bytes of the block
unfoldable pub block_of : ℕ → ℕ → ℕ → List ℕ
block_of size wr rd = header ++ descriptor_bytes (plain_descriptor size wr rd)

-- `count` bytes of the buffer from the byte number `at` on, whose place is its residue
abbrev pub part : List ℕ → ℕ → ℕ → ℕ → List ℕ
part image size at count = round (drop 48 image) size at count

-- how many of the bytes lie in front of the buffer's end, where the first is at the place `at`
abbrev pub first_run : List ℕ → ℕ → List ℕ → ℕ
first_run image at bytes = min (length bytes) (length image - 48 - at)

-- the image with these bytes from the place `at` of the buffer on, round its end
abbrev pub stored : List ℕ → ℕ → List ℕ → List ℕ
stored image at bytes =
    with_bytes (with_bytes image (48 + at) (take (first_run image at bytes) bytes)) 48 (drop (first_run image at bytes) bytes)

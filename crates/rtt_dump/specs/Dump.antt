-- The bytes of a buffer in a memory image.
use Rattle.std.specs.Prelude.{ℕ, Bool, List, [], ◌-◌, ◌==◌, drop, slice_get, unwrap_or, if◌then◌else◌}
use Rattle.rtt_control.specs.Layout.{block_of, round, waiting}
use Rattle.rtt_control.specs.declared.block.Descriptor.{Descriptor}
use Rattle.rtt_dump.specs.Ids.{ids}
use Rattle.rtt_dump.specs.Segments.{Region, regions}
use Rattle.rtt_dump.specs.declared.ids.Spot.{Spot}

-- ---- one buffer

-- all bytes of a buffer, the oldest first: those at the places WrOff, WrOff + 1 and so on, round the end; none for the size 0
unfoldable pub whole : List ℕ → ℕ → Descriptor → List ℕ
whole image base d = if d.size == 0 then [] else round (drop (d.start - base) image) d.size d.wr d.size

-- the bytes that wait, or with `old` all
abbrev pub buffer_bytes : List ℕ → ℕ → Descriptor → Bool → List ℕ
buffer_bytes image base d old = if old then whole image base d else waiting image base d

-- ---- an up-buffer of the block at a place of a segment

abbrev pub up_buffer : List ℕ → ℕ → ℕ → Descriptor
up_buffer image at up =
    unwrap_or (slice_get (block_of image at).up up) (record { name = 0; start = 0; size = 0; wr = 0; rd = 0; flags = 0 })

abbrev pub channel_bytes : Region → ℕ → ℕ → Bool → List ℕ
channel_bytes region at up old = buffer_bytes region.bytes region.base (up_buffer region.bytes at up) old

-- ---- an image

-- the first ID, and the segment that it stands in
abbrev pub first_id : List Region → Spot
first_id regions = unwrap_or (slice_get (ids regions) 0) (record { segment = 0; at = 0 })

abbrev pub holder : List Region → Region
holder regions = unwrap_or (slice_get regions (first_id regions).segment) (record { base = 0; bytes = [] })

-- the bytes of up-buffer `up` of the block whose ID stands in the image
abbrev pub dump : List ℕ → ℕ → ℕ → Bool → List ℕ
dump file base up old = let all = regions file base in channel_bytes (holder all) (first_id all).at up old

-- The segments of a memory image.
use Rattle.std.specs.Prelude.{◌≤◌, ◌+◌, ℕ, List, [], ◌∷◌, length, take, drop, map, if◌then◌else◌}
use Rattle.rtt_dump.specs.Elf.{is_elf, loaded}
use Rattle.rtt_dump.specs.declared.segment.Segment.{Segment}
use Rattle.rtt_dump.specs.declared.elf.ProgramHeader.{ProgramHeader}
use Rattle.rtt_dump.specs.declared.spans.Span.{Span}

-- a part of a target's memory: the address of its first byte, and its bytes
pub record Region : Type 0 where
  pub base : ℕ
  pub bytes : List ℕ

-- a segment without the room of its bytes
abbrev pub plain : Segment → Region
plain s = record { base = s.base; bytes = s.bytes.items }

-- a segment of a core file
abbrev pub region_of : List ℕ → ProgramHeader → Region
region_of file p = record { base = p.address; bytes = take p.size (drop p.offset file) }

-- the segments of a core file, or the whole file at the base
abbrev pub regions : List ℕ → ℕ → List Region
regions file base = if is_elf file then map (region_of file) (loaded file) else record { base = base; bytes = file } ∷ []

-- ---- for private clauses: where the segments stand in the file

abbrev pub span_of : ProgramHeader → Span
span_of p = record { base = p.address; start = p.offset; len = p.size }

abbrev pub spans : List ℕ → ℕ → List Span
spans file base = if is_elf file then map span_of (loaded file) else record { base = base; start = 0; len = length file } ∷ []

abbrev pub start_of : Span → ℕ
start_of s = s.start

abbrev pub region : List ℕ → Span → Region
region file s = record { base = s.base; bytes = take s.len (drop s.start file) }

-- it lies in a file of this length
abbrev pub IsInside : ℕ → Span → Type 0
IsInside size s = s.start + s.len ≤ size

-- Gaps between the places of lines.
use Rattle.std.specs.Prelude.{ℕ, ◌+◌, ◌-◌, ◌%◌}

-- how many marks stand between two whose numbers modulo 65,536 are these: next - last - 1 modulo 65,536
abbrev pub gap_of : ℕ → ℕ → ℕ
gap_of last next = (next + 65535 - last) % 65536

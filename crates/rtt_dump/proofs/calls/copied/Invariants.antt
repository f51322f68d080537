use Rattle.std.proofs.Common.{◌≡◌, map, take}
use Rattle.rtt_dump.specs.Segments.{plain, region}
use Rattle.rtt_dump.proofs.calls.copied.Given as goal

abbrev pub invariant-loop-span : goal.invariant-loop-span
invariant-loop-span l = map plain l.segments.items ≡ map (region l.file) (take l.span-index l.spans)

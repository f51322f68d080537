use Rattle.std.proofs.Common.{◌≡◌, map, take}
use Rattle.rtt_dump.specs.Segments.{start_of}
use Rattle.rtt_dump.proofs.ids.starts_of.Given as goal

abbrev pub invariant-loop-span : goal.invariant-loop-span
invariant-loop-span l = l.starts.items ≡ map start_of (take l.span-index l.spans)

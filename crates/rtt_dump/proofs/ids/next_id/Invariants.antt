use Rattle.std.proofs.Common.{◌≡◌, ◌+◌, ◌-◌, ◌++◌, ℕ, length, map}
use Rattle.std.specs.List.{filter}
use Rattle.rtt_dump.specs.Ids.{Rises, ends_by, listed, places_in, spots}
use Rattle.rtt_dump.proofs.ids.next_id.Given as goal

abbrev pub invariant-loop-rest : goal.invariant-loop-rest
invariant-loop-rest l = record {
  spots_are : listed l.first ++ spots l.segment (map (λ (p : ℕ). p - l.span.start) (filter (ends_by (l.span.start + l.span.len)) l.rest))
      ≡ listed l.initial.first ++ spots l.segment (places_in l.span.start l.span.len l.places);
  rises : Rises l.span.start l.rest;
}

abbrev pub decreases-loop-rest : goal.decreases-loop-rest
decreases-loop-rest l = length l.rest

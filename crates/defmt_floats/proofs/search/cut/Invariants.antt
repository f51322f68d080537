use Rattle.std.proofs.Common.{◌≡◌, ◌+◌, ◌-◌, ◌^◌, ◌≤◌}
use Rattle.defmt_floats.specs.Shortest.{most_digits, is_found, last_place, first_from}
use Rattle.defmt_floats.proofs.search.cut.Given as goal

abbrev pub invariant-loop-cut : goal.invariant-loop-cut
invariant-loop-cut g l =
    let f = g.F.RawFloat.format in record {
      unit : l.unit ≡ 10 ^ l.cut;
      sizes : (19 - most_digits f ≤ l.cut) × (l.cut ≤ 18);
      same : first_from (is_found f l.bits) (l.place - l.cut) (l.cut + most_digits f - 19) ≡ last_place f l.bits;
    }

abbrev pub decreases-loop-cut : goal.decreases-loop-cut
decreases-loop-cut g l = l.cut

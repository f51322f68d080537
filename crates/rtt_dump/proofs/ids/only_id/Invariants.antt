use Rattle.std.proofs.Common.{◌≡◌, ◌++◌, map}
use Rattle.rtt_dump.specs.Ids.{IsBelow, ids, listed}
use Rattle.rtt_dump.specs.Segments.{region}
use Rattle.rtt_dump.proofs.IdLemmas.{ids_behind}
use Rattle.rtt_dump.proofs.ids.only_id.Given as goal

abbrev pub invariant-loop-number : goal.invariant-loop-number
invariant-loop-number l = record {
  ids_are : listed l.first ++ ids_behind l.file l.number l.spans ≡ ids (map (region l.file) l.spans);
  below : IsBelow l.number l.first;
}

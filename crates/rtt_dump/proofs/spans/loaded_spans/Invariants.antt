use Rattle.std.proofs.Common.{◌≤◌, length}
use Rattle.std.specs.List.{All}
use Rattle.rtt_dump.specs.Segments.{IsInside}
use Rattle.rtt_dump.proofs.LoadedLemmas.{IsRead}
use Rattle.rtt_dump.proofs.spans.loaded_spans.Given as goal

abbrev pub invariant-loop-k : goal.invariant-loop-k
invariant-loop-k l = record {
  read : IsRead l.file l.table.count l.k l.spans.items;
  inside : All (IsInside (length l.file)) l.spans.items;
  few : length l.spans.items ≤ l.k;
}

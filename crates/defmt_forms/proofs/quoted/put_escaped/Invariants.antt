use Rattle.std.proofs.Common.{◌≡◌, ◌≤◌, ◌+◌, ◌*◌, ◌++◌, length}
use Rattle.json.specs.Print.{escape}
use Rattle.defmt_forms.proofs.quoted.put_escaped.Given as goal

abbrev pub invariant-runs : goal.invariant-runs
invariant-runs l = record {
  goes : l.out.items ++ escape l.rest ≡ l.fn.out.items ++ escape l.fn.text;
  room : 6 * length l.rest ≤ l.out.room;
  rest : l.fn.out.room + 6 * length l.rest ≤ l.out.room + 6 * length l.fn.text;
}

abbrev pub decreases-runs : goal.decreases-runs
decreases-runs l = length l.rest

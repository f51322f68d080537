use Rattle.std.proofs.Common.{◌≤◌, ℕ, length, map}
use Rattle.defmt_intern.specs.Table.{Map}
use Rattle.defmt_values.specs.View.{plain, vals_of}
use Rattle.defmt_eager.specs.Answers.{HaveAtMost}
use Rattle.defmt_eager.specs.Line.{printed_limit}
use Rattle.defmt_eager.proofs.wide.longest.Given as goal

-- what bounds the values that are still to come bounds all of them
abbrev pub invariant-each : goal.invariant-each
invariant-each l = (t : Map) (n : ℕ) → l.most ≤ n → n ≤ printed_limit → HaveAtMost t (vals_of (map plain l.rest)) n → HaveAtMost t l.args n

abbrev pub decreases-each : goal.decreases-each
decreases-each l = length l.rest

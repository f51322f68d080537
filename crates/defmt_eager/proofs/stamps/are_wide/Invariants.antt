use Rattle.std.proofs.Common.{◌≡◌, ◌+◌, length}
use Rattle.defmt_eager.specs.Line.{printed_limit}
use Rattle.defmt_eager.specs.Show.{pieces_text, shows}
use Rattle.defmt_encode.specs.Carry.{stamp_args}
use Rattle.defmt_grammar.specs.declared.hint.Hint.TheVariants as hints
use Rattle.defmt_intern.specs.Table.{Map}
use Rattle.defmt_eager.proofs.stamps.are_wide.Given as goal

-- what is left of the limit, and the pieces that are still to come
abbrev pub invariant-each : goal.invariant-each
invariant-each l = (t : Map) → length (pieces_text hints.Plain l.pieces (shows t (stamp_args l.stamp))) + l.left ≡ printed_limit + length (pieces_text hints.Plain l.rest (shows t (stamp_args l.stamp)))

abbrev pub decreases-each : goal.decreases-each
decreases-each l = length l.rest

use Rattle.std.proofs.Common.{length}
use Rattle.defmt_eager.specs.Show.{pieces_text, shows}
use Rattle.defmt_encode.specs.Carry.{stamp_args}
use Rattle.defmt_grammar.specs.declared.hint.Hint.TheVariants as hints
use Rattle.defmt_eager.proofs.Parts.{Pending}
use Rattle.defmt_eager.proofs.stamps.put_stamp_pieces.Given as goal

abbrev pub invariant-each : goal.invariant-each
invariant-each l = Pending l.fn.out l.at (pieces_text hints.Plain l.pieces (shows l.table.entries (stamp_args l.stamp))) l.out l.place (pieces_text hints.Plain l.rest (shows l.table.entries (stamp_args l.stamp)))

abbrev pub decreases-each : goal.decreases-each
decreases-each l = length l.rest

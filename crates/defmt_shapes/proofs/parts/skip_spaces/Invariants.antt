use Rattle.std.proofs.Common.{◌≡◌, length}
use Rattle.std.specs.Str.{IsUtf8}
use Rattle.defmt_grammar.specs.Cut.{skip_spaces}
use Rattle.defmt_shapes.proofs.parts.skip_spaces.Given as goal

abbrev pub invariant-loop-rest : goal.invariant-loop-rest
invariant-loop-rest l = record { utf8 : IsUtf8 l.text; same : skip_spaces l.text ≡ skip_spaces l.fn.text }

abbrev pub decreases-loop-rest : goal.decreases-loop-rest
decreases-loop-rest l = length l.text

use Rattle.std.proofs.Common.{length, ap, sym, ◌∙◌}
use Rattle.defmt_shapes.proofs.CharacterLaws.{no_char}
use Rattle.defmt_shapes.proofs.escape.first_char.Goals as goal

pub returns-in_default-clause-parts : goal.returns-in_default-clause-parts
returns-in_default-clause-parts c = no_char c.args.text.now (ap length (sym c.chars-chars.ensures.rest) ∙ c.in_default.ensures.steps.0.0)

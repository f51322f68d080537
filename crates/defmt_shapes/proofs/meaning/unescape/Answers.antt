use Rattle.std.proofs.Common.{List, ℕ, sym, subst, arith}
use Rattle.defmt_shapes.proofs.CharacterLaws.{character_shorter}
use Rattle.defmt_shapes.proofs.MeaningLaws.{TextLeft, begin_text, next_text, whole_text, one_text}
use Rattle.defmt_shapes.proofs.meaning.unescape.Goals as goal

pub characters-init : goal.characters-init
characters-init c = record { left = subst (λ (t : List ℕ). TextLeft c.args.inside.now t c.args.inside.now) (sym c.new-text.ensures) (begin_text c.args.inside.now); utf8 = c.utf8.inside }

pub characters-smaller : goal.characters-smaller
characters-smaller c = character_shorter 34 c.characters.rest.now (c.in-Some.character, c.in-Some.after.now) (omega arith) c.in-Some.ensures.parts

pub characters-preserved : goal.characters-preserved
characters-preserved c = record {
  left = subst (λ (t : List ℕ). TextLeft c.args.inside.now t c.in-Some.after.now) (sym c.in-Ok.ensures.ok)
      (next_text c.args.inside.now c.characters.text c.characters.rest.now c.in-Some.after.now c.in-Some.character c.characters.invariant.left c.in-Some.ensures.parts);
  utf8 = c.in-Some.ensures.utf8;
}

pub returns-clause-means : goal.returns-clause-means
returns-clause-means c = whole_text c.args.inside.now c.characters.text c.characters.rest.now c.characters.invariant.left c.in_default.ensures.parts

pub returns-clause-spelled : goal.returns-clause-spelled
returns-clause-spelled c = λ s q.
    one_text c.args.inside.now c.characters.text s (whole_text c.args.inside.now c.characters.text c.characters.rest.now c.characters.invariant.left c.in_default.ensures.parts) q

use Rattle.std.proofs.Common.{◌∙◌, sym, subst}
use Rattle.std.proofs.lemmas.Bool.{OnTrue_from}
use Rattle.std.specs.Prelude.{IfSome}
use Rattle.std.specs.Str.{IsUtf8}
use Rattle.defmt_shapes.specs.Shape.{no_shapes, shape}
use Rattle.defmt_shapes.specs.Spelling.{IsValue}
use Rattle.defmt_spelling.proofs.Calls.{more_values, value_shorter}
use Rattle.defmt_spelling.proofs.Heads.{all_spaces}
use Rattle.defmt_spelling.proofs.Loops.{empty_is}
use Rattle.defmt_spelling.specs.Reading.{SpellsSome}
use Rattle.defmt_spelling.proofs.reading.are_values.Goals as goal

pub each-preserved : goal.each-preserved
each-preserved c =
    let v = subst (λ o. IsValue c.args.language c.skip_spaces.result.now o) c.in-Some.is c.in_ok-more.ensures.value in record {
      utf8 = subst (λ o. IfSome o (λ p. IsUtf8 p.1.now)) c.in-Some.is c.in_ok-more.ensures.utf8;
      front = λ ss s. c.each.invariant.front (shape v.0 ss) (more_values c.args.language c.each.rest.now c.skip_spaces.result.now c.in-Some.more.now v.0 ss c.skip_spaces.ensures.rest v.1 s);
    }

pub each-smaller : goal.each-smaller
each-smaller c =
    let v = subst (λ o. IsValue c.args.language c.skip_spaces.result.now o) c.in-Some.is c.in_ok-more.ensures.value in
    value_shorter c.args.language c.each.rest.now c.skip_spaces.result.now c.in-Some.more.now v.0 c.skip_spaces.ensures.rest v.1

pub returns : goal.returns
returns c = OnTrue_from c.is_empty.result (SpellsSome c.args.language c.args.text.now) (λ empty.
    c.each.invariant.front no_shapes (all_spaces c.each.rest.now (sym c.skip_spaces-2.ensures.rest ∙ empty_is c.skip_spaces-2.result.now (sym c.is_empty.ensures ∙ empty))))

use Rattle.std.proofs.Common.{sym, arith, rules}
use Rattle.defmt_grammar.proofs.Cuts.{behind_found}
use Rattle.defmt_shapes.proofs.CharacterLaws.{character_shorter}
use Rattle.defmt_shapes.proofs.QuoteLaws.{close_boundary, has_closed, is_stuck, is_open, next_quotes}
use Rattle.defmt_shapes.proofs.escape.quoted_end.Goals as goal

pub split_at-requires : goal.split_at-requires
split_at-requires c = close_boundary c.args.text.now c.characters.rest.now c.in-Some.after.now c.characters.invariant.quotes (behind_found 34 c.characters.rest.now c.in-Some.after.now (sym c.in-Some.ensures.rest)) c.characters.invariant.utf8

pub returns-in-Some-clause-parts : goal.returns-in-Some-clause-parts
returns-in-Some-clause-parts c = has_closed c.args.text.now c.characters.rest.now c.split_at.result.0.now c.in-Some.after.now c.characters.invariant.quotes (behind_found 34 c.characters.rest.now c.in-Some.after.now (sym c.in-Some.ensures.rest)) c.split_at.ensures.front

pub returns-in_default-character_of-clause-parts : goal.returns-in_default-character_of-clause-parts
returns-in_default-character_of-clause-parts c = is_stuck c.args.text.now c.characters.rest.now c.characters.invariant.quotes (sym c.in_default.ensures.rest) c.in_default-character_of.ensures.parts

pub characters-smaller : goal.characters-smaller
characters-smaller c = character_shorter 34 c.characters.rest.now (c.in-Some-character_of.field-0-0, c.in-Some-character_of.after.now) (omega arith) c.in-Some-character_of.ensures.parts

pub characters-preserved : goal.characters-preserved
characters-preserved c =
    let lt = character_shorter 34 c.characters.rest.now (c.in-Some-character_of.field-0-0, c.in-Some-character_of.after.now) (omega arith) c.in-Some-character_of.ensures.parts in
    record {
      quotes = next_quotes c.args.text.now c.characters.rest.now (c.in-Some-character_of.field-0-0, c.in-Some-character_of.after.now) c.characters.invariant.quotes c.in-Some-character_of.ensures.parts;
      utf8 = c.in-Some-character_of.ensures.utf8;
      within = omega (arith, lt, c.characters.invariant.within);
    }

pub returns-clause-parts : goal.returns-clause-parts
returns-clause-parts c = is_open c.args.text.now c.characters.rest.now c.characters.invariant.quotes (search rules)

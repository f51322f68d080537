use Rattle.std.proofs.Common.{arith, ◌∙◌, sym}
use Rattle.defmt_grammar.proofs.Cuts.{behind_found, skip_spaces_one, skip_spaces_none, utf8_behind}
use Rattle.defmt_shapes.proofs.parts.skip_spaces.Goals as goal

pub loop-rest-preserved : goal.loop-rest-preserved
loop-rest-preserved c =
    let e = behind_found 32 c.loop-rest.text.now c.in-Some.rest.now (sym c.in-Some.ensures.rest) in
    record { utf8 = utf8_behind 32 c.in-Some.rest.now c.loop-rest.text.now e (omega arith) c.loop-rest.invariant.utf8; same = skip_spaces_one c.loop-rest.text.now c.in-Some.rest.now (sym c.in-Some.ensures.rest) ∙ c.loop-rest.invariant.same }

pub loop-rest-smaller : goal.loop-rest-smaller
loop-rest-smaller c = let e = behind_found 32 c.loop-rest.text.now c.in-Some.rest.now (sym c.in-Some.ensures.rest) in rw e (omega arith)

pub returns-clause-rest : goal.returns-clause-rest
returns-clause-rest c = sym (skip_spaces_none c.loop-rest.text.now (sym c.in_default.ensures.rest)) ∙ c.loop-rest.invariant.same

use Rattle.std.proofs.Common.{subst}
use Rattle.defmt_shapes.specs.Spelling.{IsValue}
use Rattle.defmt_spelling.proofs.Calls.{value_shorter}
use Rattle.defmt_spelling.proofs.CallLaws.{no_call, call_is, other_is}
use Rattle.defmt_spelling.proofs.sequences.first_call.Goals as goal

pub returns-in_default-clause-call : goal.returns-in_default-clause-call
returns-in_default-clause-call c = λ ss calls s.
    no_call c.args.language c.args.text.now c.skip_spaces.result.now ss c.skip_spaces.ensures.rest (subst (λ o. IsValue c.args.language c.skip_spaces.result.now o) c.in_default.is c.in_ok-spelling.ensures.value) calls s

pub returns-in-Call-clause-call : goal.returns-in-Call-clause-call
returns-in-Call-clause-call c = λ ss calls s.
    let v = subst (λ o. IsValue c.args.language c.skip_spaces.result.now o) c.in-Some.is c.in_ok-spelling.ensures.value in
    call_is c.args.language c.args.text.now c.skip_spaces.result.now c.in-Some.spelling c.in-Some.rest.now c.in-Call.name c.in-Call.variant c.in-Call.inside ss c.skip_spaces.ensures.rest c.in-Call.is v calls s

pub returns-in-Call-clause-shorter : goal.returns-in-Call-clause-shorter
returns-in-Call-clause-shorter c =
    let v = subst (λ o. IsValue c.args.language c.skip_spaces.result.now o) c.in-Some.is c.in_ok-spelling.ensures.value in
    value_shorter c.args.language c.args.text.now c.skip_spaces.result.now c.in-Some.rest.now v.0 c.skip_spaces.ensures.rest v.1

pub returns-in_default-spelling : goal.returns-in_default-spelling
returns-in_default-spelling c =
    let v = subst (λ o. IsValue c.args.language c.skip_spaces.result.now o) c.in-Some.is c.in_ok-spelling.ensures.value in
    record {
      call = λ ss calls s. other_is c.args.language c.args.text.now c.skip_spaces.result.now c.in-Some.spelling c.in-Some.rest.now ss c.skip_spaces.ensures.rest c.in_default-spelling.not-Call v calls s;
      shorter = tt;
      utf8 = tt;
    }

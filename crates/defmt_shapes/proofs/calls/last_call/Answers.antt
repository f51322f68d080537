use Rattle.std.proofs.Common.{◌∙◌, sym, ap}
use Rattle.defmt_grammar.specs.Param.{both_now}
use Rattle.defmt_shapes.proofs.LastCalls.{no_name, no_opening, no_closing, closes_early, call_found, words_in}
use Rattle.defmt_shapes.specs.Spelling.{closes_at_once}
use Rattle.defmt_shapes.proofs.calls.last_call.Goals as goal

pub returns-then-not-are_name-clause-parts : goal.returns-then-not-are_name-clause-parts
returns-then-not-are_name-clause-parts c = λ name inside h.
    no_name c.args.text.now name inside (both_now c.split_run.result) c.split_run.ensures.parts (sym c.are_name.ensures ∙ c.if-not-are_name.true) h

pub returns-in_default-clause-parts : goal.returns-in_default-clause-parts
returns-in_default-clause-parts c = λ name inside h.
    no_opening c.args.text.now name inside (both_now c.split_run.result) c.split_run.ensures.parts c.in_default.ensures.rest h

pub returns-in_default-before-clause-parts : goal.returns-in_default-before-clause-parts
returns-in_default-before-clause-parts c = λ name inside h.
    no_closing c.args.text.now name inside c.in-Some.values.now (both_now c.split_run.result) c.split_run.ensures.parts c.in-Some.ensures.rest c.in_default-before.ensures.front h

pub returns-then-closes_at_once-clause-parts : goal.returns-then-closes_at_once-clause-parts
returns-then-closes_at_once-clause-parts c =
    call_found c.args.text.now c.in-Some.values.now c.in-Some-before.inside.now (both_now c.split_run.result) c.split_run.ensures.parts (sym c.are_name.ensures ∙ c.if-not-are_name.false) c.in-Some.ensures.rest c.in-Some-before.ensures.front
    (ap closes_at_once (sym c.as_bytes.ensures.value) ∙ sym c.closes_at_once.ensures ∙ c.if-closes_at_once.true)

pub returns-else-closes_at_once-clause-parts : goal.returns-else-closes_at_once-clause-parts
returns-else-closes_at_once-clause-parts c = λ name inside h.
    closes_early c.args.text.now name inside c.in-Some.values.now c.in-Some-before.inside.now (both_now c.split_run.result) c.split_run.ensures.parts c.in-Some.ensures.rest c.in-Some-before.ensures.front
    (ap closes_at_once (sym c.as_bytes.ensures.value) ∙ sym c.closes_at_once.ensures ∙ c.if-closes_at_once.false) h

pub are_name-requires : goal.are_name-requires
are_name-requires c = words_in c.args.text.now (both_now c.split_run.result) c.split_run.ensures.parts

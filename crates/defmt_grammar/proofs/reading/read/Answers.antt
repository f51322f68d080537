use Rattle.std.proofs.Common.{◌≡◌, arith, sym, length, rules, []}
use Rattle.std.proofs.lemmas.List.{nil_from_length}
use Rattle.std.proofs.Common.{◌-◌}
use Rattle.defmt_grammar.specs.Grammar.{hole}
use Rattle.defmt_grammar.specs.Step.{run, hole as hole_step}
use Rattle.defmt_grammar.proofs.StepLaws.{step_spells, step_fails, token_shorter}
use Rattle.defmt_grammar.proofs.ReadingLaws.{run_shorter, goes_by_run, goes_by_hole, has_read, has_failed, place_fits}
use Rattle.defmt_grammar.proofs.reading.read.Goals as goal

pub overflow_add-result : goal.overflow_add-result
overflow_add-result c =
    let f = step_fails c.args.mode c.tokens.next c.tokens.rest.now c.in-Err.fault (search rules) (sym c.in-Err.ensures.step) in
    omega (arith, place_fits c.args.text.now c.args.mode c.tokens.pieces.items c.tokens.uses.items c.tokens.literal c.tokens.next c.tokens.rest.now c.in-Err.fault c.tokens.invariant f)

pub overflow_cast-result : goal.overflow_cast-result
overflow_cast-result c =
    let f = step_fails c.args.mode c.tokens.next c.tokens.rest.now c.in-Err.fault (search rules) (sym c.in-Err.ensures.step) in
    omega (arith, place_fits c.args.text.now c.args.mode c.tokens.pieces.items c.tokens.uses.items c.tokens.literal c.tokens.next c.tokens.rest.now c.in-Err.fault c.tokens.invariant f)

pub returns-in-Err : goal.returns-in-Err
returns-in-Err c = (
  c.in-Err.fault.cause,
  has_failed c.args.text.now c.args.mode c.tokens.pieces.items c.tokens.uses.items c.tokens.literal c.tokens.next c.tokens.rest.now c.in-Err.fault c.tokens.invariant
      (step_fails c.args.mode c.tokens.next c.tokens.rest.now c.in-Err.fault (search rules) (sym c.in-Err.ensures.step)),
  c.number.ensures,
)

pub tokens-smaller-in-Ok-Literal-default : goal.tokens-smaller-in-Ok-Literal-default
tokens-smaller-in-Ok-Literal-default c =
    let s = step_spells c.args.mode (length c.args.text.now) c.tokens.next c.tokens.rest.now (run c.in-Ok-Literal-default.run'.now, c.in-Ok-Literal-default.after.now) (sym (rw c.in-Ok-Literal-default.field-0-0-is at c.in-Ok-Literal-default.ensures.step)) in
    run_shorter c.args.mode (length c.args.text.now) c.tokens.next c.tokens.rest.now c.in-Ok-Literal-default.run'.now c.in-Ok-Literal-default.after.now s

pub tokens-preserved-in-Ok-Literal-default : goal.tokens-preserved-in-Ok-Literal-default
tokens-preserved-in-Ok-Literal-default c =
    let s = step_spells c.args.mode (length c.args.text.now) c.tokens.next c.tokens.rest.now (run c.in-Ok-Literal-default.run'.now, c.in-Ok-Literal-default.after.now) (sym (rw c.in-Ok-Literal-default.field-0-0-is at c.in-Ok-Literal-default.ensures.step)) in
    rw c.in_ok-push_str-in-Ok-Literal-default.ensures.ok (goes_by_run c.args.text.now c.args.mode c.tokens.pieces.items c.tokens.uses.items c.tokens.literal c.tokens.next c.tokens.rest.now c.in-Ok-Literal-default.run'.now c.in-Ok-Literal-default.after.now c.tokens.invariant s c.in-Ok-Literal-default.ensures.utf8)

pub tokens-smaller : goal.tokens-smaller
tokens-smaller c =
    let s = step_spells c.args.mode (length c.args.text.now) c.tokens.next c.tokens.rest.now (hole_step c.in-Ok-Param-default.param c.in-Ok-Param-default.after_next, c.in-Ok-Param-default.after.now) (sym (rw c.in-Ok-Param-default.field-0-0-is at c.in-Ok-Param-default.ensures.step)) in
    token_shorter c.args.mode (length c.args.text.now) c.tokens.next c.tokens.rest.now (hole (length c.args.text.now - length c.tokens.rest.now) c.in-Ok-Param-default.param) c.in-Ok-Param-default.after_next c.in-Ok-Param-default.after.now s

pub tokens-preserved : goal.tokens-preserved
tokens-preserved c =
    let s = step_spells c.args.mode (length c.args.text.now) c.tokens.next c.tokens.rest.now (hole_step c.in-Ok-Param-default.param c.in-Ok-Param-default.after_next, c.in-Ok-Param-default.after.now) (sym (rw c.in-Ok-Param-default.field-0-0-is at c.in-Ok-Param-default.ensures.step)) in
    rw (c.in_ok-push-in-Ok-Param-default.ensures.items, c.in_ok-push-in-Ok-Param-default-2.ensures.items, c.in_ok-flush-in-Ok-Param-default.ensures.pieces, c.in_ok-flush-in-Ok-Param-default.ensures.literal)
    (goes_by_hole c.args.text.now c.args.mode c.tokens.pieces.items c.tokens.uses.items c.tokens.literal c.tokens.next c.tokens.rest.now c.in-Ok-Param-default.param c.in-Ok-Param-default.after_next c.in-Ok-Param-default.after.now c.tokens.invariant s c.in-Ok-Param-default.ensures.utf8)

pub returns : goal.returns
returns c =
    let ended : c.tokens.rest.now ≡ [] = nil_from_length c.tokens.rest.now (search rules) in
    rw c.in_ok-flush.ensures.pieces (has_read c.args.text.now c.args.mode c.tokens.pieces.items c.tokens.uses.items c.tokens.literal c.tokens.next c.tokens.rest.now c.tokens.invariant ended)

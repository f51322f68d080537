use Rattle.std.proofs.Common.{rules, length, ap, sym, ◌∙◌, arith}
use Rattle.defmt_macros.proofs.Alike.{one_slot}
use Rattle.defmt_macros.proofs.Places.{alike_more, differ_ended, differ_first, differ_further, differ_more}
use Rattle.defmt_macros.proofs.site.+difference.Goals as goal

pub difference-requires : goal.difference-requires
difference-requires t c = (omega (arith, ap length c.in-Some-Some.ensures), omega (arith, ap length c.in-Some-Some.ensures))

pub returns-in_err-difference-in-Some-Some : goal.returns-in_err-difference-in-Some-Some
returns-in_err-difference-in-Some-Some t c =
    let s = c.in-Some-Some in
    let same = one_slot s.a.now s.b.now (sym c.eq.ensures ∙ c.if-eq.true) in
    rw c.from_residual.ensures (alike_more c.args.own.now c.args.given.now s.own.now s.given.now s.a.now s.b.now s.ensures s.ensures' same c.in_err-difference-in-Some-Some.ensures)

pub overflow_add-result : goal.overflow_add-result
overflow_add-result t c = record { fits = omega (arith, c.in_ok-difference-in-Some-Some.ensures.1, ap length c.in-Some-Some.ensures) }

pub returns-in-None-None : goal.returns-in-None-None
returns-in-None-None t c = c.in-None-None.ensures ∙ sym c.in-None-None.ensures'

pub returns-in_ok-difference-in-Some-Some : goal.returns-in_ok-difference-in-Some-Some
returns-in_ok-difference-in-Some-Some t c =
    let s = c.in-Some-Some in
    let same = one_slot s.a.now s.b.now (sym c.eq.ensures ∙ c.if-eq.true) in
    let later = c.in_ok-difference-in-Some-Some.ensures in
    differ_more c.args.own.now c.args.given.now s.own.now s.given.now s.a.now s.b.now c.in_ok-difference-in-Some-Some.field-0 s.ensures s.ensures' same later.0 later.1

pub returns-in_default : goal.returns-in_default
returns-in_default t c = differ_ended c.args.own.now c.args.given.now _ _ c.in_default.ensures c.in_default.ensures'

pub returns-in_default-2 : goal.returns-in_default-2
returns-in_default-2 t c =
    let s = c.in-Some-Some in
    differ_first c.args.own.now c.args.given.now s.own.now s.given.now s.a.now s.b.now s.ensures s.ensures' (λ e. search rules)

pub returns-in_default-3 : goal.returns-in_default-3
returns-in_default-3 t c = differ_further c.args.own.now c.args.given.now _ _ c.in_default.ensures c.in_default.ensures'

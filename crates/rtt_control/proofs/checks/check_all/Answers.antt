use Rattle.std.proofs.Common.{◌≡◌, ◌∙◌, ℕ, ◌+◌, length, sym, ap, arith}
use Rattle.std.specs.Prelude.{Option}
use Rattle.rtt_control.specs.declared.fault.ControlFault.{ControlFault}
use Rattle.rtt_control.specs.Control.{first_refusal}
use Rattle.rtt_control.proofs.CheckLemmas.{first_refusal_joined, or_later}
use Rattle.rtt_control.proofs.checks.check_all.Goals as goal

pub returns-in-Some : goal.returns-in-Some
returns-in-Some c =
    let up = c.args.up.now in
    let down = c.args.down.now in
    sym (first_refusal_joined c.args.size c.args.base 0 up down
    ∙ ap (λ (o : Option ControlFault). or_later o (first_refusal c.args.size c.args.base (0 + length up) down)) (sym c.in-Some.ensures))

pub returns-in-None : goal.returns-in-None
returns-in-None c =
    let up = c.args.up.now in
    let down = c.args.down.now in
    let start : length up ≡ 0 + length up = omega arith in
    c.check-in-None.ensures
    ∙ ap (λ (k : ℕ). first_refusal c.args.size c.args.base k down) start
    ∙ ap (λ (o : Option ControlFault). or_later o (first_refusal c.args.size c.args.base (0 + length up) down)) c.in-None.ensures
    ∙ sym (first_refusal_joined c.args.size c.args.base 0 up down)

use Rattle.std.proofs.Common.{sym, ◌∙◌}
use Rattle.rtt_terminal.proofs.SayableLaws.{sayable_again, sayable_found}
use Rattle.rtt_terminal.proofs.sayable.is_sayable.Goals as goal

pub returns-clause-sayable : goal.returns-clause-sayable
returns-clause-sayable c =
    (λ yes. sayable_found c.args.text.now (sym c.may_be_spoken.ensures ∙ yes), λ can. c.may_be_spoken.ensures ∙ sayable_again c.args.text.now can)

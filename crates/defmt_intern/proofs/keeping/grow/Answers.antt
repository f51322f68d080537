use Rattle.std.proofs.Common.{◌∙◌, None, ap, arith, length, subst, sym}
use Rattle.std.proofs.lemmas.List.{length_push}
use Rattle.std.proofs.lemmas.List.Elements.{All-push}
use Rattle.defmt_intern.specs.Table.{AreReadIn, IsReadIn, kept_in}
use Rattle.defmt_intern.proofs.Slots.{grown}
use Rattle.defmt_intern.proofs.keeping.grow.Goals as goal

pub each-preserved : goal.each-preserved
each-preserved c =
    (ap kept_in c.in_ok-push.ensures.items ∙ grown c.each.slots.items ∙ c.each.invariant.0, (λ language old. subst (AreReadIn language) (sym c.in_ok-push.ensures.items) (All-push (IsReadIn language) c.each.slots.items None (c.each.invariant.1 language old) tt)), omega (arith, ap length c.in_ok-push.ensures.items, length_push c.each.slots.items None))

pub returns-in_err-push-clause-read : goal.returns-in_err-push-clause-read
returns-in_err-push-clause-read c = λ language old. subst (AreReadIn language) (sym c.in_err-push.ensures.items) (c.each.invariant.1 language old)

use Rattle.std.proofs.Common.{◌++◌, ℕ, List, Option, length, sym, ap, ◌∙◌, arith, inl, inr}
use Rattle.std.proofs.lemmas.Bool.{cases_lt}
use Rattle.std.proofs.lemmas.Option.{slice_get_within}
use Rattle.defmt_hooks.specs.declared.level.Level.{Level}
use Rattle.defmt_print.specs.OrderLines.{order_text}
use Rattle.defmt_recording.specs.Output.{ended}
use Rattle.defmt_print.proofs.Numbered.{not_none}
use Rattle.defmt_print.proofs.OrderLaws.{added, all_added}
use Rattle.defmt_print.proofs.orders.with_orders.Goals as goal

pub loop-level-preserved : goal.loop-level-preserved
loop-level-preserved c =
    let orders : List (ℕ × Level) = c.args.script.now.settings.orders in
    let order : ℕ × Level = (c.in-Some.field-0-0, c.in-Some.level) in
    record {
      within = omega (arith, slice_get_within orders c.loop-level.number order (sym c.in-Some.ensures));
      added = added orders c.args.turns.now.turns c.loop-level.number order c.args.lines.items c.loop-level.out.items c.add_order.new.out.items (sym c.in-Some.ensures) c.loop-level.invariant.added
          (c.in_ok-add_order.ensures ∙ ap (λ (o : Option ℕ). c.loop-level.out.items ++ ended (order_text c.in-Some.level o)) c.heard_at.ensures);
    }

pub returns : goal.returns
returns c =
    let orders : List (ℕ × Level) = c.args.script.now.settings.orders in
    elim (cases_lt c.loop-level.number (length orders)) [
      | inl less ↦ absurd (not_none orders c.loop-level.number less c.in_default.ensures)
      | inr past ↦ all_added orders c.args.turns.now.turns c.loop-level.number c.args.lines.items c.loop-level.out.items past c.loop-level.invariant.added
    ]

use Rattle.std.proofs.Common.{ℕ, ◌≡◌, ◌+◌, ◌++◌, ◌∷◌, [], Some, take, sym, ap, ◌∙◌, inl, inr, arith}
use Rattle.std.specs.Prelude.{slice_get}
use Rattle.std.proofs.lemmas.List.{take_all, take_more}
use Rattle.std.proofs.lemmas.Option.{get_or_from_slice_get, slice_get_cases, slice_get_within}
use Rattle.defmt_hooks.specs.declared.level.Level.{Level}
use Rattle.defmt_steer.specs.Steers.{Plan}
use Rattle.defmt_steer.proofs.steer_run.orders_of.Goals as goal

-- one order more is taken
with_next : (orders : Plan) (n : ℕ) (order : ℕ × Level) → slice_get orders n ≡ Some order → take (n + 1) orders ≡ take n orders ++ order ∷ []
with_next orders n order there =
    take_more orders n order (slice_get_within orders n order there)
    ∙ ap (λ (x : ℕ × Level). take n orders ++ x ∷ []) (get_or_from_slice_get orders n order order there)

pub loop-order-preserved : goal.loop-order-preserved
loop-order-preserved c =
    let orders : Plan = c.args.script.now.settings.orders in
    let n : ℕ = c.loop-order.number in
    let there : slice_get orders n ≡ Some c.in-Some.order = sym c.in-Some.ensures in
    record {
      within = omega (arith, slice_get_within orders n c.in-Some.order there);
      taken =
          c.in_ok-push.ensures.items ∙ ap (λ (l : Plan). l ++ c.in-Some.order ∷ []) c.loop-order.invariant.taken
          ∙ sym (with_next orders n c.in-Some.order there);
    }

pub returns : goal.returns
returns c =
    let orders : Plan = c.args.script.now.settings.orders in
    let n : ℕ = c.loop-order.number in
    elim (slice_get_cases orders n).1 [
      | inl w ↦ absurd (c.in_default.not-Some w.0 (c.order.ensures ∙ w.2))
      | inr w ↦ c.loop-order.invariant.taken ∙ take_all n orders w.0
    ]

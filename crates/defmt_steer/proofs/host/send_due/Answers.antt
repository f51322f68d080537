use Rattle.std.proofs.Common.{ℕ, List, ◌≡◌, ◌<◌, ◌≤◌, ◌++◌, length, get_or, take, sym, ap, ◌∙◌, arith}
use Rattle.std.proofs.lemmas.List.{take_all}
use Rattle.std.proofs.lemmas.Option.{slice_get-get_or}
use Rattle.defmt_hooks.specs.declared.level.Level.{Level}
use Rattle.defmt_hooks.specs.declared.level.Level.TheVariants.{Trace}
use Rattle.defmt_steer.proofs.Due.{Next, due_all, due_late, due_next, joined-snoc}
use Rattle.defmt_steer.proofs.Hosted.{few_sent}
use Rattle.defmt_steer.specs.Steers.{Plan, due}
use Rattle.rtt_down.specs.Orders.{order_of, orders_joined}
use Rattle.rtt_modes.proofs.Pieces.{kept_on}
use Rattle.defmt_steer.proofs.host.send_due.Goals as goal

abbrev order_at : Plan → ℕ → ℕ × Level
order_at plan n = get_or plan n (0, Trace)

-- an order that isn't due ends those that were sent
ends : (plan : Plan) (frames n : ℕ) → n ≤ length (due plan frames) → n < length plan → frames < (order_at plan n).0 → n ≡ length (due plan frames)
ends plan frames n le below late = due_late plan frames n (order_at plan n) le (slice_get-get_or plan n (0, Trace) below) late

-- an order that is due is the next of those that are
goes : (plan : Plan) (frames n : ℕ) → n ≤ length (due plan frames) → n < length plan → (order_at plan n).0 ≤ frames → Next (due plan frames) n (order_at plan n).1
goes plan frames n le below early = due_next plan frames n (order_at plan n) le (slice_get-get_or plan n (0, Trace) below) early

-- where all that are due were sent
all_sent : (plan : Plan) (frames n : ℕ) (sent : List ℕ) → n ≡ length (due plan frames) → sent ≡ orders_joined (take n (due plan frames)) → sent ≡ orders_joined (due plan frames)
all_sent plan frames n sent all is = is ∙ ap orders_joined (take_all n (due plan frames) (omega (arith, all)))

pub returns-then-from-frames-clause-count : goal.returns-then-from-frames-clause-count
returns-then-from-frames-clause-count g c =
    ends c.args.orders.now c.args.frames c.loop-sent.sent c.loop-sent.invariant.next c.loop-sent-test.true (omega (arith, c.from.ensures, c.if-from-frames.true))

pub returns-then-from-frames-clause-sent : goal.returns-then-from-frames-clause-sent
returns-then-from-frames-clause-sent g c =
    let all = ends c.args.orders.now c.args.frames c.loop-sent.sent c.loop-sent.invariant.next c.loop-sent-test.true (omega (arith, c.from.ensures, c.if-from-frames.true)) in
    all_sent c.args.orders.now c.args.frames c.loop-sent.sent (g.U.UpEnd.view c.loop-sent.up).sent all c.loop-sent.invariant.sent

pub send_order-requires-clause-few : goal.send_order-requires-clause-few
send_order-requires-clause-few g c =
    let next = goes c.args.orders.now c.args.frames c.loop-sent.sent c.loop-sent.invariant.next c.loop-sent-test.true (omega (arith, c.from.ensures, c.if-from-frames.false)) in
    few_sent c.args.orders.now c.args.frames c.loop-sent.sent (g.U.UpEnd.view c.loop-sent.up).sent c.requires.few next.below c.loop-sent.invariant.sent

pub returns-clause-count : goal.returns-clause-count
returns-clause-count g c = due_all c.args.orders.now c.args.frames c.loop-sent.sent c.loop-sent.invariant.next c.loop-sent-test.false

pub returns-clause-sent : goal.returns-clause-sent
returns-clause-sent g c =
    let all = due_all c.args.orders.now c.args.frames c.loop-sent.sent c.loop-sent.invariant.next c.loop-sent-test.false in
    all_sent c.args.orders.now c.args.frames c.loop-sent.sent (g.U.UpEnd.view c.loop-sent.up).sent all c.loop-sent.invariant.sent

pub loop-sent-preserved : goal.loop-sent-preserved
loop-sent-preserved g c =
    let plan : Plan = c.args.orders.now in
    let n : ℕ = c.loop-sent.sent in
    let levels : List Level = due plan c.args.frames in
    let level : Level = (order_at plan n).1 in
    let next = goes plan c.args.frames n c.loop-sent.invariant.next c.loop-sent-test.true (omega (arith, c.from.ensures, c.if-from-frames.false)) in
    record {
      next = omega (arith, next.below);
      sent =
          c.send_order.ensures.sent ∙ ap (λ (l : List ℕ). l ++ order_of level) c.loop-sent.invariant.sent
          ∙ sym (joined-snoc (take n levels) level) ∙ ap orders_joined (sym next.more);
      kept = kept_on _ _ _ c.loop-sent.invariant.kept c.send_order.ensures.kept;
    }

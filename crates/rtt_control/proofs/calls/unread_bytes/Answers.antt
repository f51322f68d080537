use Rattle.std.proofs.Common.{◌≡◌, ◌∙◌, ℕ, ◌+◌, ◌-◌, ◌%◌, ◌<◌, List, ◌++◌, length, take, drop, arith, ap, sym, refl, length-drop}
use Rattle.std.proofs.lemmas.List.{length-take-le}
use Rattle.rtt_control.specs.Layout.{round}
use Rattle.std.specs.Prelude.{Ok}
use Rattle.rtt_control.proofs.RoundLemmas.{unread_none, waiting_none, waiting_in}
use Rattle.rtt_control.proofs.calls.unread_bytes.Goals as goal

pub returns-then-desc-eq0-clause-waiting : goal.returns-then-desc-eq0-clause-waiting
returns-then-desc-eq0-clause-waiting c =
    unread_none c.args.image.now c.args.base c.args.desc.now c.in_default.ensures.first
    ∙ ap (λ x. Ok x) (waiting_none c.args.image.now c.args.base c.args.desc.now c.if-desc-eq0.true ∙ sym c.new-bytes.ensures.items)

pub returns-clause-waiting : goal.returns-clause-waiting
returns-clause-waiting c =
    let d = c.args.desc.now in
    let image = c.args.image.now in
    let base = c.args.base in
    let at = d.start - base in
    let n = at + d.size - at in
    let buffer = take n (drop at image) in
    let some : 0 < d.size = omega arith in
    let inside = c.in_default.ensures.inside refl some in
    let size_is : n ≡ d.size = omega arith in
    let len : length buffer ≡ d.size = length-take-le n (drop at image) (omega (arith, length-drop at image)) ∙ size_is in
    unread_none image base d c.in_default.ensures.first
    ∙ ap (λ x. Ok x) (waiting_in image buffer c.append_round.new.out.items base d (λ e. absurd (omega arith)) (ap (λ (k : ℕ). take k (drop at image)) size_is) len
    (c.in_ok-append_round.ensures ∙ ap (λ (l : List ℕ). l ++ round buffer (length buffer) d.rd ((d.wr + length buffer - d.rd) % length buffer)) c.new-bytes.ensures.items))

use Rattle.std.proofs.Common.{Some, None, refl, sym, ◌∙◌, ap, arith}
use Rattle.std.proofs.lemmas.Bool.{true≢false}
use Rattle.defmt_framing.specs.Framing.{Framing}
use Rattle.defmt_framing.proofs.Standing.{finishes}
use Rattle.defmt_framing.proofs.framer.Framer.finish.Goals as goal

pub returns-then-self-eq0 : goal.returns-then-self-eq0
returns-then-self-eq0 g c stream st =
    let t = g.T.Teller.tells c.args.teller.now in
    let v = ap (λ (h : Framing). h.since) c.self.view_is in
    finishes t c.args.self stream None st (λ z some. absurd (omega (arith, v))) (λ z some. absurd (omega (arith, v))) (λ none. refl)

pub returns-then-self : goal.returns-then-self
returns-then-self g c stream st =
    let t = g.T.Teller.tells c.args.teller.now in
    let v = ap (λ (h : Framing). h.since) c.self.view_is in
    let z = ap (λ (h : Framing). h.zeros) c.self.view_is in
    finishes t c.args.self stream (Some c.cut_tail.result) st (λ zeros some. ap (λ e. Some e) (c.cut_tail.ensures ∙ ap t.cut_tail v))
    (λ zeros some. absurd (true≢false (sym c.if-self.true ∙ z ∙ zeros))) (λ none. absurd (omega (arith, v, none)))

pub returns : goal.returns
returns g c stream st =
    let t = g.T.Teller.tells c.args.teller.now in
    let v = ap (λ (h : Framing). h.since) c.self.view_is in
    let z = ap (λ (h : Framing). h.zeros) c.self.view_is in
    finishes t c.args.self stream (Some c.cut_front.result) st (λ zeros some. absurd (true≢false (sym zeros ∙ sym z ∙ c.if-self.false)))
    (λ zeros some. ap (λ e. Some e) (c.cut_front.ensures ∙ ap t.cut_front v)) (λ none. absurd (omega (arith, v, none)))

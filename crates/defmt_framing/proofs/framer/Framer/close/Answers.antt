use Rattle.std.proofs.Common.{◌+◌, ◌<◌, length, true, refl, sym, ◌∙◌, ap, subst, arith}
use Rattle.defmt_framing.specs.Framing.{Framing, Stands}
use Rattle.defmt_framing.proofs.Standing.{closes}
use Rattle.defmt_framing.proofs.framer.Framer.close.Goals as goal

pub returns-clause-hears : goal.returns-clause-hears
returns-clause-hears g c stream st =
    let t = g.T.Teller.tells c.args.teller.now in
    let s = c.self.inside in
    let before : Framing = record { heard = s.heard; zeros = s.zeros; since = s.since; kept = s.kept.items } in
    let after : Framing = record { heard = c.saturating_add-self-inside.result; zeros = true; since = 0; kept = c.clear.new.self.items } in
    let v = ap (λ (b : Framing). b.since) c.self.view_is in
    let some : 0 < s.since + length c.args.run.now = omega (arith, v, c.requires.some) in
    closes t before after stream c.args.run.now c.args.skipped c.in_ok-told.told (subst (λ (b : Framing). Stands b stream) (sym c.self.view_is) st)
    (λ not. c.requires.only (λ e. not (v ∙ e))) c.requires.none some
    c.saturating_add-self-inside.ensures refl refl c.clear.ensures.items c.in_ok-told.ensures.piece
    (λ none. c.in_ok-told.ensures.front none ∙ ap t.cut_front c.saturating_add-size.ensures)

use Rattle.std.proofs.Common.{◌≡◌, ℕ, true, sym, ap, subst, arith}
use Rattle.defmt_framing.specs.Framing.{Framing, Stands, is_between}
use Rattle.defmt_framing.proofs.Between.{passed}
use Rattle.defmt_framing.proofs.framer.Framer.pass_pieces.Goals as goal

pub returns : goal.returns
returns g c tells stream bytes st size ended =
    let s = c.self.inside in
    let before : Framing = record { heard = s.heard; zeros = s.zeros; since = s.since; kept = s.kept.items } in
    let after : Framing = record { heard = c.saturating_add-self-inside.result; zeros = s.zeros; since = s.since; kept = s.kept.items } in
    passed tells before after stream bytes (subst (λ (b : Framing). Stands b stream) (sym c.self.view_is) st)
    (subst (λ (b : Framing). is_between b ≡ true) (sym c.self.view_is) c.requires) ended
    (ap (λ (n : ℕ). record before { heard = n }) (omega (arith, c.saturating_add-self-inside.ensures, size)))

use Rattle.std.proofs.Common.{ℕ, List, true, ap}
use Rattle.defmt_framing.specs.Framing.{Framing}
use Rattle.defmt_framing.proofs.Between.{stands_begun}
use Rattle.defmt_framing.proofs.framer.Framer.begin.Goals as goal

pub returns : goal.returns
returns c =
    let after : List ℕ → Framing = λ kept. record { heard = 1; zeros = true; since = 0; kept = kept } in
    stands_begun (after c.clear.new.self.items) (ap after c.clear.ensures.items)

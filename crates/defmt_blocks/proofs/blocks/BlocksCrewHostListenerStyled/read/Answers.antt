use Rattle.std.proofs.Common.{arith, subst, sym}
use Rattle.defmt_listen.specs.Heard.{IsMet}
use Rattle.defmt_blocks.proofs.blocks.BlocksCrewHostListenerStyled.read.Goals as goal

pub returns-in-None-clause-known : goal.returns-in-None-clause-known
returns-in-None-clause-known g c = λ count known.
    let ahead = c.read_ahead.ensures.known count known in
    let met = subst (IsMet count (g.S.Source.left c.read_ahead.new.src) (g.S.Source.faults c.read_ahead.new.src)) (sym c.give.ensures.behind) ahead.1 in
    let after = c.read_on.ensures.known count ahead.0 met in
    ((omega (arith, ahead.0, c.read_on.ensures.later), after.0), after.1)

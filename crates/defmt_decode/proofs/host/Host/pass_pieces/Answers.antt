use Rattle.std.proofs.Common.{◌∷◌, sym, subst}
use Rattle.defmt_framing.specs.Calls.{HeardAs}
use Rattle.defmt_framing.specs.Framing.{Stands}
use Rattle.defmt_decode.specs.Event.{begun_of, tells}
use Rattle.defmt_decode.specs.Hearing.{Hearing}
use Rattle.defmt_decode.proofs.host.Host.pass_pieces.Goals as goal

pub returns-clause-passed : goal.returns-clause-passed
returns-clause-passed c stream bytes st size ended =
    subst (λ (h : Hearing). HeardAs (tells h.table) c.pass_pieces.new.self stream bytes (begun_of h.table (0 ∷ bytes))) c.self.view_is
    (c.pass_pieces.ensures (tells c.self.inside.reader) stream bytes (subst (λ (h : Hearing). Stands h.framing stream) (sym c.self.view_is) st) size ended)

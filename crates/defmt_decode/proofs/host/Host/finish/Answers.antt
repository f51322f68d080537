use Rattle.std.proofs.Common.{◌≡◌, ◌++◌, List, subst, ℕ}
use Rattle.std.specs.Prelude.{option_to_list}
use Rattle.defmt_decode.specs.Event.{begun_of, events_of}
use Rattle.defmt_decode.specs.Hearing.{Hearing}
use Rattle.defmt_framing.specs.Framing.{Stands}
use Rattle.defmt_decode.proofs.host.Host.finish.Goals as goal

pub returns : goal.returns
returns c =
    subst (λ (h : Hearing). (stream : List ℕ) → Stands h.framing stream → events_of h.table stream ≡ begun_of h.table stream ++ option_to_list c.finish.result) c.self.view_is c.finish.ensures

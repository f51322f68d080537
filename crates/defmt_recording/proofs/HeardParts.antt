-- The events of a stream that is heard in two parts.
use Rattle.std.proofs.Common.{◌≡◌, ◌++◌, ℕ, List, [], sym, ◌∙◌, ap}
use Rattle.std.specs.Prelude.{Option, option_to_list}
use Rattle.defmt_decode.specs.Event.{begun_of, events_of, tells}
use Rattle.defmt_decode.specs.declared.event.Event.{Event}
use Rattle.defmt_framing.specs.Framing.{Framing}
use Rattle.defmt_intern.specs.Catalog.{Catalog}
use Rattle.defmt_listen.specs.Heard.{Reported}
use Rattle.defmt_listen.proofs.Fronts.{begun_nothing}
use Rattle.defmt_recording.specs.Keeping.{by_keeping}
use Rattle.defmt_recording.specs.declared.kept.Kept.{Kept}
use Rattle.defmt_recording.proofs.Events.{keeps_all}

pub heard_both : (t : Catalog) (one two : Framing) (first rest : List ℕ) (start middle end : Kept) (events : List Event) (last : Option Event) → start.events ≡ []
    → Reported (tells t) by_keeping one start middle [] first → Reported (tells t) by_keeping two middle end first rest
    → events_of t (first ++ rest) ≡ begun_of t (first ++ rest) ++ option_to_list last → events ≡ end.events ++ option_to_list last → events ≡ events_of t (first ++ rest)
heard_both t one two first rest start middle end events last none a b ends is =
    let first_kept : middle.events ≡ start.events ++ a.told = ap (λ (k : Kept). k.events) a.moved ∙ keeps_all start a.told in
    let rest_kept : end.events ≡ middle.events ++ b.told = ap (λ (k : Kept). k.events) b.moved ∙ keeps_all middle b.told in
    let begun_first : begun_of t first ≡ a.told = a.as_told.tells_all ∙ ap (λ (l : List Event). l ++ a.told) (begun_nothing (tells t)) in
    let all : end.events ≡ begun_of t (first ++ rest) =
    rest_kept ∙ ap (λ (l : List Event). l ++ b.told) (first_kept ∙ ap (λ (l : List Event). l ++ a.told) none ∙ sym begun_first) ∙ sym b.as_told.tells_all in
    is ∙ ap (λ (l : List Event). l ++ option_to_list last) all ∙ sym ends

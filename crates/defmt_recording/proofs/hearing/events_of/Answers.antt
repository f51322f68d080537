use Rattle.std.proofs.Common.{◌≡◌, ◌++◌, ◌∙◌, ℕ, List, [], ap, subst}
use Rattle.std.specs.Prelude.{option_to_list}
use Rattle.std.proofs.lemmas.Result.{IfOk-weaker}
use Rattle.defmt_decode.specs.Event.{events_of, tells}
use Rattle.defmt_decode.specs.declared.event.Event.{Event}
use Rattle.defmt_framing.specs.Told.{Tells, begun, events}
use Rattle.defmt_intern.specs.declared.table.Table.{Table}
use Rattle.defmt_listen.specs.Heard.{Reported}
use Rattle.defmt_recording.specs.Keeping.{by_keeping}
use Rattle.defmt_recording.specs.declared.kept.Kept.{Kept}
use Rattle.defmt_recording.proofs.HeardParts.{heard_both}
use Rattle.defmt_recording.proofs.hearing.events_of.Goals as goal

pub returns : goal.returns
returns c =
    let stream : List ℕ = c.args.front.now ++ c.args.rest.now in
    let start : Kept = record { events = c.new-events.result } in
    let first : tells c.new-host.result.table ≡ tells c.args.table = ap (λ (m : Table). tells m) (c.new-host.ensures.table ∙ c.in_ok-planned.ensures) in
    let second : tells c.in_ok-listener.listener.host.table ≡ tells c.args.table = c.in_ok-listener.ensures.same ∙ first in
    let third : tells c.in_ok-listener-2.listener.host.table ≡ tells c.args.table = c.in_ok-listener-2.ensures.same ∙ second in
    let a = subst (λ (m : Tells Event). Reported m by_keeping c.in_ok-listener.listener.host.framing start c.in_ok-listener.kept [] c.args.front.now) first
    (c.in_ok-listener.ensures.reported [] c.new-host.ensures.stands) in
    let b = subst (λ (m : Tells Event). Reported m by_keeping c.in_ok-listener-2.listener.host.framing c.in_ok-listener.kept c.in_ok-listener-2.kept c.args.front.now c.args.rest.now) second
    (c.in_ok-listener-2.ensures.reported c.args.front.now a.as_told.stands) in
    let ends = subst (λ (m : Tells Event). events m stream ≡ begun m stream ++ option_to_list c.finish.result) third (c.finish.ensures stream b.as_told.stands) in
    IfOk-weaker c.with_event.result (λ (all : List Event). all ≡ c.in_ok-listener-2.kept.events ++ option_to_list c.finish.result) (λ (all : List Event). all ≡ events_of c.args.table stream)
    (λ all is. heard_both c.args.table c.in_ok-listener.listener.host.framing c.in_ok-listener-2.listener.host.framing c.args.front.now c.args.rest.now start c.in_ok-listener.kept c.in_ok-listener-2.kept
    all c.finish.result c.new-events.ensures a b ends is) c.with_event.ensures

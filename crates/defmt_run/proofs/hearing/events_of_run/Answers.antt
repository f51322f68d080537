use Rattle.std.proofs.Common.{◌≡◌, ◌++◌, ◌∙◌, List, ℕ, ap, sym}
use Rattle.std.proofs.lemmas.Result.{IfOk-weaker}
use Rattle.defmt_decode.specs.Event.{events_of}
use Rattle.defmt_decode.specs.declared.event.Event.{Event}
use Rattle.defmt_print.specs.Heard.{catalog_of}
use Rattle.defmt_run.proofs.hearing.events_of_run.Goals as goal

both : (a b first rest sent : List ℕ) → first ≡ a → rest ≡ b → sent ≡ a ++ b → first ++ rest ≡ sent
both a b first rest sent first_is rest_is sent_is =
    ap (λ (l : List ℕ). l ++ rest) first_is ∙ ap (λ (l : List ℕ). a ++ l) rest_is ∙ sym sent_is

pub sent_events-requires : goal.sent_events-requires
sent_events-requires c = record {
  lawful = c.requires.lawful;
  sent = both c.args.run.now.captured.items c.args.run.now.rest.items c.as_slice.result.now c.as_slice-2.result.now c.args.run.now.settled.sent c.as_slice.ensures c.as_slice-2.ensures c.requires.whole ∙ c.requires.sends;
}

pub returns-clause-events : goal.returns-clause-events
returns-clause-events c =
    IfOk-weaker c.sent_events.result (λ (events : List Event). events ≡ events_of (catalog_of c.args.run.now.script) (c.as_slice.result.now ++ c.as_slice-2.result.now))
    (λ (events : List Event). events ≡ events_of (catalog_of c.args.run.now.script) c.args.run.now.settled.sent)
    (λ events is. is ∙ ap (events_of (catalog_of c.args.run.now.script)) (both c.args.run.now.captured.items c.args.run.now.rest.items c.as_slice.result.now c.as_slice-2.result.now c.args.run.now.settled.sent c.as_slice.ensures c.as_slice-2.ensures c.requires.whole))
    c.sent_events.ensures.events

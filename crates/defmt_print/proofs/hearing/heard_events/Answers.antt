use Rattle.std.proofs.Common.{◌≡◌, ◌++◌, ◌∙◌, List}
use Rattle.std.proofs.lemmas.Result.{IfOk-weaker}
use Rattle.defmt_decode.specs.Event.{events_of}
use Rattle.defmt_decode.specs.declared.event.Event.{Event}
use Rattle.defmt_print.specs.Heard.{catalog_of}
use Rattle.defmt_print.proofs.Tables.{by_table, same_catalog}
use Rattle.defmt_print.proofs.hearing.heard_events.Goals as goal

pub returns : goal.returns
returns c =
    IfOk-weaker c.events_of.result (λ (events : List Event). events ≡ events_of c.in_ok-copy.copy (c.args.front.now ++ c.args.rest.now))
    (λ (events : List Event). events ≡ events_of (catalog_of c.args.script.now) (c.args.front.now ++ c.args.rest.now))
    (λ events is. by_table (catalog_of c.args.script.now) c.in_ok-copy.copy (c.args.front.now ++ c.args.rest.now) events is
    (c.in_ok-copy.ensures ∙ same_catalog c.table.result.now (catalog_of c.args.script.now) c.table.ensures.entries c.table.ensures.profile))
    c.events_of.ensures

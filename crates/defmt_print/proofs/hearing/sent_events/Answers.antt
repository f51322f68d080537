use Rattle.std.proofs.Common.{◌≡◌, ◌++◌, ◌∙◌, List, ap, subst, sym}
use Rattle.std.proofs.lemmas.Result.{IfOk-weaker}
use Rattle.defmt_decode.specs.Event.{events_of}
use Rattle.defmt_decode.specs.declared.event.Event.{Event}
use Rattle.defmt_print.specs.Heard.{GapsIn, LinesIn, catalog_of}
use Rattle.defmt_print.proofs.Tables.{by_table, same_catalog}
use Rattle.defmt_print.proofs.hearing.sent_events.Goals as goal

pub returns-clause-events : goal.returns-clause-events
returns-clause-events c =
    IfOk-weaker c.events_of.result (λ (events : List Event). events ≡ events_of c.in_ok-copy.copy (c.args.front.now ++ c.args.rest.now))
    (λ (events : List Event). events ≡ events_of (catalog_of c.args.script.now) (c.args.front.now ++ c.args.rest.now))
    (λ events is. by_table (catalog_of c.args.script.now) c.in_ok-copy.copy (c.args.front.now ++ c.args.rest.now) events is
    (c.in_ok-copy.ensures ∙ same_catalog c.table.result.now (catalog_of c.args.script.now) c.table.ensures.entries c.table.ensures.profile))
    c.events_of.ensures

pub returns-clause-lines : goal.returns-clause-lines
returns-clause-lines c =
    IfOk-weaker c.events_of.result (λ (events : List Event). events ≡ events_of (catalog_of c.args.script.now) (c.args.front.now ++ c.args.rest.now))
    (λ (events : List Event). LinesIn c.args.script.now.settings.mode c.args.script.now c.args.tape.now.marks events)
    (λ events is. subst (λ (l : List Event). LinesIn c.args.script.now.settings.mode c.args.script.now c.args.tape.now.marks l)
    (sym (is ∙ ap (events_of (catalog_of c.args.script.now)) c.requires.sent)) (c.sent_lines.ensures.lines c.args.tape.now.marks c.requires.lawful))
    (returns-clause-events c)

pub returns-clause-gaps : goal.returns-clause-gaps
returns-clause-gaps c =
    IfOk-weaker c.events_of.result (λ (events : List Event). events ≡ events_of (catalog_of c.args.script.now) (c.args.front.now ++ c.args.rest.now))
    (λ (events : List Event). GapsIn c.args.script.now.settings.mode c.args.script.now.settings.profile c.args.script.now c.args.tape.now.marks events)
    (λ events is. subst (λ (l : List Event). GapsIn c.args.script.now.settings.mode c.args.script.now.settings.profile c.args.script.now c.args.tape.now.marks l)
    (sym (is ∙ ap (events_of (catalog_of c.args.script.now)) c.requires.sent)) (c.sent_lines.ensures.gaps c.args.tape.now.marks c.requires.lawful))
    (returns-clause-events c)

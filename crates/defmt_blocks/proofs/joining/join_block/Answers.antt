use Rattle.std.proofs.Common.{◌≡◌, ◌-◌, ◌++◌, ◌∙◌, ℕ, List, length, take, drop, refl, ap, subst}
use Rattle.std.specs.Prelude.{Result, Ok, Err, OnErr, OnOk}
use Rattle.std.proofs.lemmas.List.{take-append-drop, take_rest}
use Rattle.defmt_blocks.proofs.Counting.{look_is}
use Rattle.defmt_decode.specs.Event.{tells}
use Rattle.defmt_decode.specs.declared.event.Event.{Event}
use Rattle.defmt_framing.specs.Told.{Tells}
use Rattle.defmt_listen.specs.Heard.{HeardPart, HeardSome}
use Rattle.defmt_listen.specs.Streams.{Output, output_of}
use Rattle.defmt_listen.proofs.Parts.{part_some, part_then}
use Rattle.defmt_recording.specs.Styled.{Reel, by_style}
use Rattle.defmt_blocks.proofs.joining.join_block.Goals as goal

ok_then : {T E P Q : Type 0} (r : Result T E) → OnOk r P → (P → Q) → OnOk r Q
ok_then (Ok x) p f = f p
ok_then (Err e) p f = p

err_then : {T E P Q : Type 0} (r : Result T E) → OnErr r P → (P → Q) → OnErr r Q
err_then (Ok x) p f = p
err_then (Err e) p f = f p

pub returns-clause-heard : goal.returns-clause-heard
returns-clause-heard g c =
    let t : Tells Event = tells c.args.listener.now.host.table in
    let part : List ℕ = c.args.part.now in
    let at : ℕ = c.in_ok-at.at in
    let rest : List ℕ = take (length part - at) (drop at part) in
    let whole : take at part ++ rest ≡ part = ap (λ (l : List ℕ). take at part ++ l) (take_rest part at) ∙ take-append-drop at part in
    let one : Output = output_of g.K.Sink.held g.K.Sink.faults c.args.out.now c.join_side.new.out in
    let two : Output = output_of g.K.Sink.held g.K.Sink.faults c.join_side.new.out c.hear_part.new.out in
    let both : Output = output_of g.K.Sink.held g.K.Sink.faults c.args.out.now c.hear_part.new.out in
    ok_then c.hear_part.result c.hear_part.ensures.heard (λ heard stream st.
    let first = c.in_ok-at.ensures.heard stream st in
    let second = subst (λ (x : Tells Event). HeardPart x by_style c.hear_part.new.listener.host.framing c.join_side.new.reporter c.hear_part.new.reporter two (stream ++ take at part) rest
    c.join_side.new.report.faults c.hear_part.new.report.faults) c.in_ok-at.ensures.same (heard (stream ++ take at part) first.as_told.stands) in
    subst (λ (l : List ℕ). HeardPart t by_style c.hear_part.new.listener.host.framing c.args.reporter.now c.hear_part.new.reporter both stream l c.args.report.now.faults c.hear_part.new.report.faults)
    whole
    (part_then t by_style stream c.join_side.new.listener.host.framing c.args.reporter.now c.join_side.new.reporter one two (take at part) rest
    c.args.report.now.faults c.join_side.new.report.faults first refl c.hear_part.new.listener.host.framing c.hear_part.new.reporter c.hear_part.new.report.faults second))

pub returns-clause-look : goal.returns-clause-look
returns-clause-look g c =
    ok_then c.hear_part.result c.hear_part.ensures.heard (λ heard.
    let first = c.in_ok-at.ensures.heard c.requires.hearing.0 c.requires.hearing.1 in
    let one = heard (c.requires.hearing.0 ++ take c.in_ok-at.at c.args.part.now) first.as_told.stands in
    ap (λ (r : Reel). r.look) one.moved ∙ look_is c.join_side.new.reporter one.told ∙ c.in_ok-at.ensures.look)

pub returns-clause-some : goal.returns-clause-some
returns-clause-some g c =
    let t : Tells Event = tells c.args.listener.now.host.table in
    let part : List ℕ = c.args.part.now in
    let at : ℕ = c.in_ok-at.at in
    let rest : List ℕ = take (length part - at) (drop at part) in
    let whole : take at part ++ rest ≡ part = ap (λ (l : List ℕ). take at part ++ l) (take_rest part at) ∙ take-append-drop at part in
    let one : Output = output_of g.K.Sink.held g.K.Sink.faults c.args.out.now c.join_side.new.out in
    let two : Output = output_of g.K.Sink.held g.K.Sink.faults c.join_side.new.out c.hear_part.new.out in
    let both : Output = output_of g.K.Sink.held g.K.Sink.faults c.args.out.now c.hear_part.new.out in
    err_then c.hear_part.result c.hear_part.ensures.some (λ heard stream st.
    let first = c.in_ok-at.ensures.heard stream st in
    let some = subst (λ (x : Tells Event). HeardSome x by_style c.join_side.new.reporter two (stream ++ take at part) rest) c.in_ok-at.ensures.same
    (heard (stream ++ take at part) first.as_told.stands) in
    subst (λ (l : List ℕ). HeardSome t by_style c.args.reporter.now both stream l) whole
    (part_some t by_style stream c.join_side.new.listener.host.framing c.args.reporter.now c.join_side.new.reporter one two (take at part) rest
    c.args.report.now.faults c.join_side.new.report.faults first refl some))

use Rattle.std.proofs.Common.{◌≡◌, ◌++◌, ◌∙◌, ℕ, List, take, drop, refl, sym, ap, subst, arith}
use Rattle.std.specs.Prelude.{IfSome, Option}
use Rattle.std.proofs.lemmas.List.{take-append-drop}
use Rattle.defmt_blocks.specs.Blocks.{SaidBlock, bytes_of, told_says}
use Rattle.defmt_blocks.specs.declared.side.Block.{Block}
use Rattle.defmt_blocks.proofs.Counting.{look_is}
use Rattle.defmt_blocks.proofs.Stretches.{front_and_stretch}
use Rattle.defmt_decode.specs.Event.{tells}
use Rattle.defmt_decode.specs.declared.event.Event.{Event}
use Rattle.defmt_framing.specs.Told.{Tells}
use Rattle.defmt_listen.specs.Heard.{HeardPart, HeardSome}
use Rattle.defmt_listen.specs.Streams.{Output, output_of}
use Rattle.defmt_listen.proofs.Fronts.{on_err}
use Rattle.defmt_listen.proofs.Parts.{part_some, part_then, some_more}
use Rattle.defmt_recording.specs.Styled.{Look, Reel, by_style}
use Rattle.defmt_blocks.proofs.joining.join_side.Goals as goal

pub returns-in_err-hear_part-clause-some : goal.returns-in_err-hear_part-clause-some
returns-in_err-hear_part-clause-some g c =
    let t : Tells Event = tells c.args.listener.now.host.table in
    let part : List ℕ = c.args.part.now in
    let b : Block = c.in-Some.block in
    let output : Output = output_of g.K.Sink.held g.K.Sink.faults c.args.out.now c.hear_part.new.out in
    on_err c.from_residual.result (λ (stream : List ℕ) st.
    subst (λ (l : List ℕ). HeardSome t by_style c.args.reporter.now output stream l) (take-append-drop b.from part)
    (some_more t by_style stream c.args.reporter.now output (take b.from part) (drop b.from part) (c.in_err-hear_part.ensures.some stream st)))

pub returns-then-not-goes_on-clause-look : goal.returns-then-not-goes_on-clause-look
returns-then-not-goes_on-clause-look g c =
    let heard = c.in_ok-hear_part.ensures.heard c.requires.hearing.0 c.requires.hearing.1 in
    ap (λ (r : Reel). r.look) heard.moved ∙ look_is c.args.reporter.now heard.told

pub take_over-requires-clause-said : goal.take_over-requires-clause-said
take_over-requires-clause-said g c =
    let heard = c.in_ok-hear_part.ensures.heard c.requires.hearing.0 c.requires.hearing.1 in
    let look : c.hear_part.new.reporter.look ≡ c.args.reporter.now.look = ap (λ (r : Reel). r.look) heard.moved ∙ look_is c.args.reporter.now heard.told in
    let t : Tells Event = tells c.args.listener.now.host.table in
    let told : SaidBlock (told_says c.args.reporter.now.look t) c.args.part.now c.args.side.now c.in-Some.block =
    subst (λ (o : Option Block). IfSome o (λ b. SaidBlock (told_says c.args.reporter.now.look t) c.args.part.now c.args.side.now b)) c.in-Some.is c.requires.said in
    subst (λ (l : Look). SaidBlock (told_says l (tells c.hear_part.new.listener.host.table)) c.args.part.now c.args.side.now c.in-Some.block) (sym look)
    (subst (λ (x : Tells Event). SaidBlock (told_says c.args.reporter.now.look x) c.args.part.now c.args.side.now c.in-Some.block) (sym c.in_ok-hear_part.ensures.same) told)

pub returns-in_err-take_over-clause-some : goal.returns-in_err-take_over-clause-some
returns-in_err-take_over-clause-some g c =
    let t : Tells Event = tells c.args.listener.now.host.table in
    let part : List ℕ = c.args.part.now in
    let b : Block = c.in-Some.block in
    let front : List ℕ = take b.from part in
    let one : Output = output_of g.K.Sink.held g.K.Sink.faults c.args.out.now c.hear_part.new.out in
    let two : Output = output_of g.K.Sink.held g.K.Sink.faults c.hear_part.new.out c.take_over.new.out in
    let both : Output = output_of g.K.Sink.held g.K.Sink.faults c.args.out.now c.take_over.new.out in
    let told : SaidBlock (told_says c.args.reporter.now.look t) part c.args.side.now b =
    subst (λ (o : Option Block). IfSome o (λ x. SaidBlock (told_says c.args.reporter.now.look t) part c.args.side.now x)) c.in-Some.is c.requires.said in
    let whole : part ≡ (front ++ bytes_of part b) ++ drop b.to part =
    sym (take-append-drop b.to part) ∙ ap (λ (l : List ℕ). l ++ drop b.to part) (front_and_stretch part b.from b.to told.1 (omega (arith, told.1, told.2))) in
    on_err c.from_residual-in_err-take_over.result (λ (stream : List ℕ) st.
    let first = c.in_ok-hear_part.ensures.heard stream st in
    let some = subst (λ (x : Tells Event). HeardSome x by_style c.hear_part.new.reporter two (stream ++ front) (bytes_of part b)) c.in_ok-hear_part.ensures.same
    (c.in_err-take_over.ensures.some (stream ++ front) first.as_told.stands) in
    subst (λ (l : List ℕ). HeardSome t by_style c.args.reporter.now both stream l) (sym whole)
    (some_more t by_style stream c.args.reporter.now both (front ++ bytes_of part b) (drop b.to part)
    (part_some t by_style stream c.hear_part.new.listener.host.framing c.args.reporter.now c.hear_part.new.reporter one two front (bytes_of part b)
    c.args.report.now.faults c.hear_part.new.report.faults first refl some)))

pub returns-clause-heard : goal.returns-clause-heard
returns-clause-heard g c stream st =
    let t : Tells Event = tells c.args.listener.now.host.table in
    let part : List ℕ = c.args.part.now in
    let b : Block = c.in-Some.block in
    let front : List ℕ = take b.from part in
    let one : Output = output_of g.K.Sink.held g.K.Sink.faults c.args.out.now c.hear_part.new.out in
    let two : Output = output_of g.K.Sink.held g.K.Sink.faults c.hear_part.new.out c.take_over.new.out in
    let both : Output = output_of g.K.Sink.held g.K.Sink.faults c.args.out.now c.take_over.new.out in
    let told : SaidBlock (told_says c.args.reporter.now.look t) part c.args.side.now b =
    subst (λ (o : Option Block). IfSome o (λ x. SaidBlock (told_says c.args.reporter.now.look t) part c.args.side.now x)) c.in-Some.is c.requires.said in
    let first = c.in_ok-hear_part.ensures.heard stream st in
    let second = subst (λ (x : Tells Event). HeardPart x by_style c.take_over.new.listener.host.framing c.hear_part.new.reporter c.take_over.new.reporter two (stream ++ front) (bytes_of part b)
    c.hear_part.new.report.faults c.take_over.new.report.faults) c.in_ok-hear_part.ensures.same (c.in_ok-take_over.ensures.heard (stream ++ front) first.as_told.stands) in
    subst (λ (l : List ℕ). HeardPart t by_style c.take_over.new.listener.host.framing c.args.reporter.now c.take_over.new.reporter both stream l c.args.report.now.faults c.take_over.new.report.faults)
    (sym (front_and_stretch part b.from b.to told.1 (omega (arith, told.1, told.2))))
    (part_then t by_style stream c.hear_part.new.listener.host.framing c.args.reporter.now c.hear_part.new.reporter one two front (bytes_of part b)
    c.args.report.now.faults c.hear_part.new.report.faults first refl c.take_over.new.listener.host.framing c.take_over.new.reporter c.take_over.new.report.faults second)

pub returns-clause-look : goal.returns-clause-look
returns-clause-look g c =
    let heard = c.in_ok-hear_part.ensures.heard c.requires.hearing.0 c.requires.hearing.1 in
    c.in_ok-take_over.ensures.look ∙ ap (λ (r : Reel). r.look) heard.moved ∙ look_is c.args.reporter.now heard.told

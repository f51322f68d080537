use Rattle.std.proofs.Common.{ap, ◌∙◌, arith, length, subst, sym}
use Rattle.dl_io.specs.Buffer.{Buffer}
use Rattle.writer_threads.specs.Passing.{WasTold}
use Rattle.defmt_writers.proofs.Ends.{run_ends}
use Rattle.defmt_writers.proofs.Taken.{run_got}
use Rattle.defmt_writers.proofs.script_run.settle_run.Goals as goal

pub returns-clause-run : goal.returns-clause-run
returns-clause-run g c =
    let made = c.in_ok-settled.ensures in
    let parts = c.into_parts-down.ensures in
    let drain = c.take_rest.new.self in
    run_ends g.K.Naming.script c.args.script c.args.tape (g.H.Up.UpEnd.view c.args.up) _ _ _ _
    c.requires.script c.requires.kept c.requires.all
    (made.account.0 ∙ c.take_rest.ensures.sent) (made.account.1 ∙ parts.got) made.rest.0 (omega (arith, c.take_rest.ensures.kept.later, made.rest.1))
    (λ h. ap (λ (b : Buffer). b.items) parts.captured ∙ drain.idle (drain.late_is ∙ h)) c.looks-looks.ensures (made.split ∙ c.take_rest.ensures.kept.split)

pub returns-clause-taken : goal.returns-clause-taken
returns-clause-taken g c = λ tells in_time.
    let made = c.in_ok-settled.ensures in
    let parts = c.into_parts-down.ensures in
    let drain = c.take_rest.new.self in
    run_got g.K.Naming.script c.args.script c.args.tape (g.H.Up.UpEnd.view c.args.up) (g.H.Up.UpEnd.view c.take_rest.new.up) _ _ _ drain.reader.captured
    c.requires.script c.requires.kept drain.holds
    c.take_rest.ensures.sent made.account.0 (made.account.1 ∙ parts.got ∙ ap (λ (b : Buffer). b.items) parts.captured) made.rest.0 made.rest.1
    (c.take_rest.ensures.taken (c.args.drain.late_is ∙ in_time) tells)

pub returns-clause-told : goal.returns-clause-told
returns-clause-told g c =
    subst (λ (b : Buffer). WasTold g.N.FromSplit.told 0 (length b.items)) (sym c.into_parts-down.ensures.captured) c.take_rest.new.self.reader.told

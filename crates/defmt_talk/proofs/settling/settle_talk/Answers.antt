use Rattle.std.proofs.Common.{length, ap, sym, ◌∙◌, arith}
use Rattle.dl_io.specs.Buffer.{Buffer}
use Rattle.defmt_talk.proofs.TalkLaws.{talk_ends}
use Rattle.defmt_writers.proofs.Taken.{released_got}
use Rattle.defmt_talk.proofs.settling.settle_talk.Goals as goal

pub returns-clause-talk : goal.returns-clause-talk
returns-clause-talk g c =
    let made = c.in_ok-settled.ensures in
    talk_ends g.V.Naming.speech c.args.said _ _ _ _
    c.requires.lawful c.requires.all c.requires.sent
    (made.account.0 ∙ c.take_rest.ensures.sent) (made.account.1 ∙ c.into_parts-down.ensures.got) made.rest.0
    (made.split ∙ c.take_rest.ensures.kept.split ∙ sym c.requires.said)

pub returns-clause-taken : goal.returns-clause-taken
returns-clause-taken g c = λ tells.
    let made = c.in_ok-settled.ensures in
    let parts = c.into_parts-down.ensures in
    let took = c.take_rest.ensures in
    let captured : Buffer = c.take_rest.new.self.captured in
    released_got _ _ _ _ (g.H.Up.UpEnd.view c.take_rest.new.up).freed captured
    (omega (arith, ap length (took.sent ∙ c.requires.sent), took.takes.room, c.args.listener.holds c.args.said.words c.requires.lawful))
    made.account.0 (made.account.1 ∙ parts.got ∙ ap (λ (b : Buffer). b.items) parts.captured) made.rest.0 made.rest.1 (took.taken tells)

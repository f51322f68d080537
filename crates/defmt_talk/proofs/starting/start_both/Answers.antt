use Rattle.std.proofs.lemmas.Result.{IfOk-weaker}
use Rattle.defmt_talk.proofs.TalkLaws.{ok_of}
use Rattle.defmt_talk.proofs.starting.start_both.Goals as goal

pub returns : goal.returns
returns g c =
    let logs = c.start-logs.ensures in
    record {
      fresh = IfOk-weaker c.both.result _ _ (λ r is. (
        ok_of _ _ _ is.0 logs.p0,
        ok_of _ _ _ is.0 logs.p1,
        ok_of _ _ _ is.0 logs.p2,
        ok_of _ _ _ is.0 logs.p3,
        ok_of _ _ _ is.0 logs.p4,
        ok_of _ _ _ is.0 logs.p5,
        ok_of _ _ _ is.0 logs.p6,
        ok_of _ _ _ is.0 logs.p7,
      )) c.both.ensures;
    }

use Rattle.std.proofs.lemmas.Result.{IfOk-weaker}
use Rattle.defmt_talk.proofs.TalkLaws.{ok_of}
use Rattle.defmt_talk.proofs.settling.settle_both.Goals as goal

pub returns-clause-script : goal.returns-clause-script
returns-clause-script g c = IfOk-weaker c.both.result _ _ (λ r is. ok_of _ _ _ is.0 c.settle_run-run.ensures.script) c.both.ensures

pub returns-clause-run : goal.returns-clause-run
returns-clause-run g c = IfOk-weaker c.both.result _ _ (λ r is. ok_of _ _ _ is.0 c.settle_run-run.ensures.run) c.both.ensures

pub returns-clause-talk : goal.returns-clause-talk
returns-clause-talk g c = IfOk-weaker c.both.result _ _ (λ r is. ok_of _ _ _ is.1 c.settle_talk-talk.ensures.talk) c.both.ensures

pub returns-clause-rings : goal.returns-clause-rings
returns-clause-rings g c =
    IfOk-weaker c.both.result _ _ (λ r is. (ok_of _ _ _ is.0 c.settle_run-run.ensures.ring, ok_of _ _ _ is.1 c.settle_talk-talk.ensures.ring)) c.both.ensures

pub returns-clause-taken : goal.returns-clause-taken
returns-clause-taken g c = IfOk-weaker c.both.result _ _ (λ r is. ok_of _ _ _ is.0 c.settle_run-run.ensures.taken) c.both.ensures

pub returns-clause-texts_taken : goal.returns-clause-texts_taken
returns-clause-texts_taken g c = IfOk-weaker c.both.result _ _ (λ r is. ok_of _ _ _ is.1 c.settle_talk-talk.ensures.taken) c.both.ensures

pub returns-clause-told : goal.returns-clause-told
returns-clause-told g c = IfOk-weaker c.both.result _ _ (λ r is. ok_of _ _ _ is.0 c.settle_run-run.ensures.told) c.both.ensures

use Rattle.std.proofs.Common.{map, string_bytes, ◌≡◌, sym, ◌∙◌, subst}
use Rattle.std.specs.Prelude.{◌⊎◌, ℕ, Option}
use Rattle.defmt_listen.specs.Streams.{input_of, output_of}
use Rattle.defmt_run.proofs.Deciding.{may_come, must_come, no_job, refused}
use Rattle.defmt_recording.specs.Calls.{files_of}
use Rattle.defmt_run.specs.Session.{Answers}
use Rattle.defmt_run.specs.Told.{told}
use Rattle.defmt_words.specs.Words.{job}
use Rattle.defmt_words.specs.declared.job.Job.{Job}
use Rattle.defmt_run.proofs.top.session.Goals as goal

pub returns-clause-comes : goal.returns-clause-comes
returns-clause-comes g c = λ wanted is.
    let input = input_of g.S.Source.left g.S.Source.faults c.args.src.now c.perform.new.src in
    let shelf = files_of g.F.Shelf.files g.F.Shelf.faults c.args.shelf.now c.perform.new.shelf in
    let output = output_of g.K.Sink.held g.K.Sink.faults c.args.out.now c.perform.new.out in
    may_come input shelf wanted output c.perform.result.fault (told c.perform.result)
    (subst (λ (o : Option Job). Answers o input shelf output c.perform.result.fault (told c.perform.result)) is (c.perform.ensures.answer (job (map string_bytes c.args.words.now)) c.job_of-asked.ensures))

pub returns-clause-exact : goal.returns-clause-exact
returns-clause-exact g c = λ wanted fault is must.
    let input = input_of g.S.Source.left g.S.Source.faults c.args.src.now c.perform.new.src in
    let shelf = files_of g.F.Shelf.files g.F.Shelf.faults c.args.shelf.now c.perform.new.shelf in
    let output = output_of g.K.Sink.held g.K.Sink.faults c.args.out.now c.perform.new.out in
    must_come c.one_reading.ensures wanted input shelf output c.perform.result.fault fault must
    (may_come input shelf wanted output c.perform.result.fault (told c.perform.result)
    (subst (λ (o : Option Job). Answers o input shelf output c.perform.result.fault (told c.perform.result)) is (c.perform.ensures.answer (job (map string_bytes c.args.words.now)) c.job_of-asked.ensures)))

pub returns-clause-words : goal.returns-clause-words
returns-clause-words g c = λ is.
    no_job (job (map string_bytes c.args.words.now))
    (input_of g.S.Source.left g.S.Source.faults c.args.src.now c.perform.new.src)
    (files_of g.F.Shelf.files g.F.Shelf.faults c.args.shelf.now c.perform.new.shelf)
    (output_of g.K.Sink.held g.K.Sink.faults c.args.out.now c.perform.new.out)
    c.perform.result.fault (told c.perform.result) (c.perform.ensures.answer (job (map string_bytes c.args.words.now)) c.job_of-asked.ensures) (sym c.perform.ensures.status ∙ is)

pub returns-clause-no_words : goal.returns-clause-no_words
returns-clause-no_words g c = λ none.
    subst (λ (n : ℕ). (n ≡ 2) ⊎ (n ≡ 1)) (sym c.perform.ensures.status) (refused (job (map string_bytes c.args.words.now))
    (input_of g.S.Source.left g.S.Source.faults c.args.src.now c.perform.new.src)
    (files_of g.F.Shelf.files g.F.Shelf.faults c.args.shelf.now c.perform.new.shelf)
    (output_of g.K.Sink.held g.K.Sink.faults c.args.out.now c.perform.new.out)
    c.perform.result.fault (told c.perform.result) (c.perform.ensures.answer (job (map string_bytes c.args.words.now)) c.job_of-asked.ensures) none)

use Rattle.defmt_run.proofs.Tables.{small_table}
use Rattle.defmt_run.proofs.running.spelled_by.Goals as goal

pub returns-in-Ok-clause-small : goal.returns-in-Ok-clause-small
returns-in-Ok-clause-small c =
    small_table c.size_grows.ensures.empty c.size_grows.ensures.insert c.texts_are_few.ensures c.args.text.now c.in-Ok.script c.in-Ok.ensures.answer c.requires

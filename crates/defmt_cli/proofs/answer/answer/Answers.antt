use Rattle.defmt_run.specs.Told.{told}
use Rattle.defmt_cli.proofs.answer.answer.Goals as goal

pub returns : goal.returns
returns g c = record {
  fault = c.session-outcome.result.fault;
  told = told c.session-outcome.result;
  answers = c.session-outcome.ensures.answer;
  is = c.session-outcome.ensures.status;
  says = c.say.ensures;
}

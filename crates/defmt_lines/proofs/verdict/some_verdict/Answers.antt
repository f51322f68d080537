use Rattle.defmt_lines.proofs.SomeForms.{some_answer}
use Rattle.defmt_lines.proofs.Verdicts as verdicts
use Rattle.defmt_lines.proofs.verdict.some_verdict.Goals as goal

pub returns : goal.returns
returns c = record { verdict = verdicts.some_verdict; answer = some_answer }

use Rattle.defmt_spelling.proofs.QuickLaws.{flag_appended}
use Rattle.defmt_spelling.proofs.quick.push_truth.Goals as goal

pub returns-clause-value : goal.returns-clause-value
returns-clause-value c = flag_appended c.args.text.now c.in-Some.rest.now c.in-Some.value c.args.args.now c.push.new.self c.in-Some.ensures.value c.in_ok-push.ensures.ok

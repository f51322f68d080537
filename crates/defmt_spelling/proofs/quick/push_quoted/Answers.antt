use Rattle.defmt_spelling.proofs.QuickLaws.{str_appended}
use Rattle.defmt_spelling.proofs.quick.push_quoted.Goals as goal

pub returns-clause-value : goal.returns-clause-value
returns-clause-value c = str_appended c.args.text.now c.in-Some.rest.now c.in-Some.inside.now c.in_ok-copy.copy c.args.args.now c.push.new.self c.in-Some.ensures.value c.in_ok-copy.ensures c.in_ok-push.ensures.ok

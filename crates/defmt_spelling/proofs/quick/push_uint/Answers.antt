use Rattle.std.proofs.lemmas.Bool.{OnTrue_at}
use Rattle.defmt_spelling.proofs.QuickLaws.{uint_appended}
use Rattle.defmt_spelling.proofs.quick.push_uint.Goals as goal

pub returns-clause-value : goal.returns-clause-value
returns-clause-value c =
    uint_appended c.args.size c.args.text.now c.in-Some.rest.now c.in-Some.number c.from.result c.args.args.now c.push.new.self c.in-Some.ensures.value (OnTrue_at c.if-not-is_of_size.false c.is_of_size.ensures) c.from.ensures c.in_ok-push.ensures.ok

use Rattle.std.proofs.lemmas.Bool.{OnTrue_at}
use Rattle.defmt_spelling.proofs.QuickLaws.{bits_appended}
use Rattle.defmt_spelling.proofs.quick.push_bits.Goals as goal

pub returns-clause-value : goal.returns-clause-value
returns-clause-value c =
    bits_appended c.args.width c.args.text.now c.in-Some.rest.now c.in-Some.number c.from.result c.args.args.now c.push.new.self c.in-Some.ensures.value (OnTrue_at c.if-not-is_of_bytes.false c.is_of_bytes.ensures) c.from.ensures c.in_ok-push.ensures.ok

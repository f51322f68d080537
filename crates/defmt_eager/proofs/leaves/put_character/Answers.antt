use Rattle.std.proofs.lemmas.Str.{IsUtf8-encode}
use Rattle.defmt_eager.proofs.Parts.{puts_of}
use Rattle.defmt_hints.proofs.Utf8Laws.{utf8_char}
use Rattle.defmt_eager.proofs.leaves.put_character.Goals as goal

pub returns : goal.returns
returns c = puts_of c.put_char.result _ _ _ _ (utf8_char c.args.character c.args.hint (IsUtf8-encode c.args.character c.ranges.character.0)) c.put_char.ensures

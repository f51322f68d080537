use Rattle.std.proofs.Common.{◌∷◌, ap, ◌∙◌}
use Rattle.json.specs.Reads.{token_of}
use Rattle.json.specs.declared.token.Token.{Token}
use Rattle.elf_table.proofs.MembersLaws.{is_object}
use Rattle.elf_table.proofs.members.object_texts.Goals as goal

pub returns-in-None : goal.returns-in-None
returns-in-None c =
    is_object c.args.reader.now c.next.new.self c.texts_of.new.reader c.in_ok-texts.texts
    (c.in-Some-BeginObject.ensures.value ∙ ap (λ (t : Token). token_of t ∷ c.next.new.self) c.in-Some-BeginObject.field-0-is)
    c.in-None.ensures.value.0 c.in_ok-texts.ensures

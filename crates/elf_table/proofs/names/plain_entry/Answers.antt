use Rattle.std.proofs.Common.{List, ℕ, ap, subst, ◌∙◌}
use Rattle.json.specs.Token.{Token}
use Rattle.json.specs.Lex.{tokens}
use Rattle.elf_table.specs.Members.{IsObjectOf}
use Rattle.elf_table.proofs.QuickLaws.{names_by_texts}
use Rattle.elf_table.proofs.names.plain_entry.Goals as goal

pub returns-in-Some : goal.returns-in-Some
returns-in-Some c =
    let read = c.in-Ok.ensures.cases in
    names_by_texts c.entry_with.result c.in-Some.texts c.args.name.now c.entry_with.ensures read.1
    (subst (λ (n : List ℕ). IsObjectOf (tokens n) c.in-Some.texts) read.0 c.in-Some.ensures)

pub returns-in-Some-object_texts : goal.returns-in-Some-object_texts
returns-in-Some-object_texts c =
    let read = c.in-Ok.ensures.cases in
    names_by_texts c.entry_with-in-Some-object_texts.result c.in-Some-object_texts.texts c.args.name.now c.entry_with-in-Some-object_texts.ensures read.1
    (subst (λ (ts : List Token). IsObjectOf ts c.in-Some-object_texts.texts) (c.in_ok-reader.ensures.ok ∙ ap tokens read.0) c.in-Some-object_texts.ensures)

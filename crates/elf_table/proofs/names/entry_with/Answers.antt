use Rattle.std.proofs.Common.{◌≡◌, Some, ap, rules}
use Rattle.std.specs.Option.{option_copied}
use Rattle.elf_table.proofs.MembersLaws.{says}
use Rattle.elf_table.proofs.names.entry_with.Goals as goal

pub returns : goal.returns
returns c =
    let owner : c.args.texts.«package» ≡ Some c.in-Some.«package» = search rules in
    let tag : c.args.texts.tag ≡ Some c.in-Some.tag = search rules in
    let text : c.args.texts.text ≡ Some c.in-Some.text = search rules in
    let disambiguator : c.args.texts.disambiguator ≡ Some c.in-Some.disambiguator = search rules in
    λ name utf8 object. says name c.args.texts _ c.in-Some.«package».now c.in-Some.tag.now c.in-Some.text.now c.in-Some.disambiguator.now utf8 object
    (ap option_copied owner) (ap option_copied tag) (ap option_copied text) (ap option_copied disambiguator)
    c.in_ok-of_name.ensures c.in_ok-copy_of.ensures c.in_ok-copy_of-2.ensures c.in_ok-copy_of-3.ensures

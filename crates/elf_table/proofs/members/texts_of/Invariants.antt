use Rattle.std.proofs.Common.{length}
use Rattle.std.specs.Option.{option_copied}
use Rattle.elf_table.proofs.MembersLaws.{Progress}
use Rattle.elf_table.proofs.members.texts_of.Given as goal

abbrev pub invariant-members : goal.invariant-members
invariant-members l = Progress l.initial.reader (option_copied l.«package») (option_copied l.tag) (option_copied l.text) (option_copied l.disambiguator) l.reader

abbrev pub decreases-members : goal.decreases-members
decreases-members l = length l.reader

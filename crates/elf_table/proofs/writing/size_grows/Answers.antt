use Rattle.elf_table.proofs.ListedLaws.{size-empty_of, size-insert}
use Rattle.elf_table.proofs.writing.size_grows.Goals as goal

pub returns-clause-empty : goal.returns-clause-empty
returns-clause-empty c = size-empty_of

pub returns-clause-insert : goal.returns-clause-insert
returns-clause-insert c = size-insert

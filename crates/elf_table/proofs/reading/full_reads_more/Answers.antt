use Rattle.std.proofs.Common.{refl}
use Rattle.elf_table.proofs.FullLaws.{never_refused, named_in_full}
use Rattle.elf_table.proofs.reading.full_reads_more.Goals as goal

pub returns-clause-names : goal.returns-clause-names
returns-clause-names c = λ file symbol r. never_refused r.symbols symbol r.refused

pub returns-clause-unread : goal.returns-clause-unread
returns-clause-unread c = refl

pub returns-clause-base : goal.returns-clause-base
returns-clause-base c = named_in_full

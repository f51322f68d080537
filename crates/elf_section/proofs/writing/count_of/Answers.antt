use Rattle.std.proofs.Common.{arith}
use Rattle.elf_section.specs.Symbol.{plain_all}
use Rattle.elf_section.proofs.WritingLaws.{items, rows_len}
use Rattle.elf_section.proofs.writing.count_of.Goals as goal

pub returns-clause-value : goal.returns-clause-value
returns-clause-value c = omega (arith, c.marker_count-count.ensures.value, rows_len c.args.profile (plain_all c.args.list.now), items c.args.list.now)

pub returns-clause-small : goal.returns-clause-small
returns-clause-small c = let few = c.requires.few in omega (arith, few, items c.args.list.now, c.marker_count-count.ensures.small)

use Rattle.std.proofs.Common.{subst, arith, List}
use Rattle.elf_section.specs.Symbol.{plain_refs}
use Rattle.elf_section.specs.declared.symbols.SymbolRef.{SymbolRef}
use Rattle.elf_table.specs.Names.{Makes}
use Rattle.elf_table.proofs.Answers.{reads_by_making}
use Rattle.elf_table.proofs.reading.load.Goals as goal

pub table_of-requires : goal.table_of-requires
table_of-requires c = rw c.deref.ensures.value (let few = c.in-Ok.ensures.few in omega (arith, few))

pub returns-in-Ok : goal.returns-in-Ok
returns-in-Ok c = reads_by_making c.args.language c.args.file.now (plain_refs c.in-Ok.listing.symbols.items) c.in-Ok.listing.profile c.table_of.result c.in-Ok.ensures.answer (subst (λ (s : List SymbolRef). Makes c.args.language (plain_refs s) c.in-Ok.listing.profile c.table_of.result) c.deref.ensures.value c.table_of.ensures)

use Rattle.elf_table.proofs.Answers.{names_only, elf_only, symbol_only}
use Rattle.elf_table.proofs.reading.read_table.Goals as goal

pub returns-clause-named : goal.returns-clause-named
returns-clause-named c = λ table n. names_only c.args.language c.args.file.now c.load.result table c.load.ensures n

pub returns-clause-elf : goal.returns-clause-elf
returns-clause-elf c = λ refusal f. elf_only c.args.language c.args.file.now c.load.result refusal c.load.ensures f

pub returns-clause-names : goal.returns-clause-names
returns-clause-names c = λ cause symbol f. symbol_only c.args.language c.args.file.now c.load.result cause symbol c.load.ensures f

use Rattle.std.proofs.Common.{refl}
use Rattle.elf_section.proofs.SectionLaws.{refuse_table, refuse_plain, refuse_strings, passed_strings}
use Rattle.elf_section.proofs.table.check_table.Goals as goal

pub returns-then-not-is_table : goal.returns-then-not-is_table
returns-then-not-is_table c = rw c.outside.ensures (refuse_table c.args.file.now c.args.i c.requires.passed c.requires.symbols c.if-not-is_table.ensures)

pub returns-then-strings-ne0 : goal.returns-then-strings-ne0
returns-then-strings-ne0 c = rw c.alone.ensures (refuse_plain c.args.file.now c.args.i c.section-link.result c.section-strings.result c.requires.passed c.requires.symbols c.if-not-is_table.ensures c.section-link.ensures.value c.section-strings.ensures.value c.if-strings-ne0.true)

pub returns-then-not-fits : goal.returns-then-not-fits
returns-then-not-fits c = rw (c.outside-then-not-fits.ensures, c.section-link.ensures.value) (refuse_strings c.args.file.now c.args.i c.section-link.result c.section-strings.result c.requires.passed c.requires.symbols c.if-not-is_table.ensures c.section-link.ensures.value c.section-strings.ensures.value c.if-strings-ne0.false (λ f. let e = c.if-not-fits.ensures.1 f in absurd cc))

pub returns : goal.returns
returns c = passed_strings c.args.file.now c.args.i c.section-link.result c.section-strings.result c.requires.passed c.requires.symbols c.if-not-is_table.ensures c.section-link.ensures.value c.section-strings.ensures.value c.if-strings-ne0.false (c.if-not-fits.ensures.0 refl)

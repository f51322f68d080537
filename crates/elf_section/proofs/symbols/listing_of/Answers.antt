use Rattle.std.proofs.Common.{◌∙◌, ap, arith}
use Rattle.elf_section.specs.Listed.{symbols_below}
use Rattle.elf_section.proofs.Stages.{passes}
use Rattle.elf_section.proofs.TableLaws.{open_count}
use Rattle.elf_section.proofs.symbols.listing_of.Goals as goal

pub returns-clause-answer : goal.returns-clause-answer
returns-clause-answer c =
    let o = c.in_ok-checked.ensures.0 in (
      record {
        passes = passes c.args.file.now c.in_ok-checked.ensures.1;
        defmt = c.in_ok-defmt.defmt;
        is_defmt = c.in_ok-defmt.ensures.0;
        table = c.in_ok-checked.checked.table.number;
        is_table = o.symbols;
        are = c.in_ok-symbols.ensures.symbols ∙ ap (symbols_below c.args.file.now c.in_ok-defmt.defmt c.in_ok-checked.checked.table.number) o.count_is;
      },
      c.in_ok-checked.ensures.2,
    )

pub returns-clause-few : goal.returns-clause-few
returns-clause-few c =
    let n = open_count c.args.file.now c.in_ok-checked.checked.table c.in_ok-checked.ensures.0 in
    let few = c.in_ok-symbols.ensures.few in
    omega (arith, n, few)

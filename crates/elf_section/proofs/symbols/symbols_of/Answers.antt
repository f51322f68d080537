use Rattle.std.proofs.Common.{arith}
use Rattle.elf_section.proofs.ListedLaws.{same_count}
use Rattle.elf_section.proofs.symbols.symbols_of.Goals as goal

pub returns-clause-answer : goal.returns-clause-answer
returns-clause-answer c = rw (c.in_ok-owned.ensures, c.deref.ensures.value) c.in_ok-listing.ensures.answer.0

pub returns-clause-few : goal.returns-clause-few
returns-clause-few c =
    let few = c.in_ok-listing.ensures.few in
    let same = same_count c.in_ok-owned.field-0.items c.in_ok-listing.listing.symbols.items (rw c.deref.ensures.value at c.in_ok-owned.ensures) in
    omega (arith, few, same)

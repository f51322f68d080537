use Rattle.elf_section.proofs.ReadLaws.{lists_only, listing_refused}
use Rattle.elf_section.proofs.symbols.read_listing.Goals as goal

pub returns-clause-listed : goal.returns-clause-listed
returns-clause-listed c = λ symbols profile l. lists_only c.args.file.now c.listing_of.result symbols profile c.listing_of.ensures.answer l

pub returns-clause-refused : goal.returns-clause-refused
returns-clause-refused c = λ fault f. listing_refused c.args.file.now c.listing_of.result fault c.listing_of.ensures.answer f

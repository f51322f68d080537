use Rattle.elf_section.proofs.ReadLaws.{tells_only, profile_refused}
use Rattle.elf_section.proofs.symbols.read_profile.Goals as goal

pub returns-clause-told : goal.returns-clause-told
returns-clause-told c = λ profile p. tells_only c.args.file.now c.profile_of.result profile c.profile_of.ensures p

pub returns-clause-refused : goal.returns-clause-refused
returns-clause-refused c = λ fault f. profile_refused c.args.file.now c.profile_of.result fault c.profile_of.ensures f

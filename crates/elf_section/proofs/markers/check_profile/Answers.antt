use Rattle.std.proofs.Common.{refl}
use Rattle.elf_section.specs.Checks as check
use Rattle.elf_section.proofs.Stages.{refuse}
use Rattle.elf_section.proofs.TableLaws.{holds_not, profile_of, passed_profile}
use Rattle.elf_section.proofs.markers.check_profile.Goals as goal

pub returns-in-Some : goal.returns-in-Some
returns-in-Some c = (
  passed_profile c.args.file.now c.args.table.now.number c.in-Some.profile c.requires.passed c.requires.open.symbols c.in-Some.ensures,
  profile_of c.args.file.now c.args.table.now.number c.in-Some.profile c.requires.open.symbols c.in-Some.ensures,
)

pub returns-in-None : goal.returns-in-None
returns-in-None c = rw c.alone.ensures (refuse c.args.file.now check.has_profile c.requires.passed refl (λ h. holds_not c.args.file.now c.args.table.now.number c.in-None.ensures (h c.args.table.now.number c.requires.open.symbols)))

use Rattle.std.proofs.Common.{◌++◌, List, ℕ, ap}
use Rattle.elf_section.proofs.WritingLaws.{zeros}
use Rattle.elf_section.proofs.writing.push_zeros.Goals as goal

pub returns : goal.returns
returns c = rw c.in_ok-extend_from_slice.ensures.ok (ap (λ (t : List ℕ). c.args.out.now.items ++ t) (zeros c.args.count c.requires))

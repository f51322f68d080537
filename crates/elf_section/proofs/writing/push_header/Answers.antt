use Rattle.std.proofs.Common.{append_assoc}
use Rattle.elf_section.specs.Written.{half, word}
use Rattle.elf_section.proofs.writing.push_header.Goals as goal

pub returns : goal.returns
unfolding half word
returns c = rw (c.in_ok-extend_from_slice-2.ensures.ok, c.in_ok-push_word.ensures, c.in_ok-extend_from_slice.ensures.ok) (simp append_assoc)

use Rattle.std.proofs.Common.{refl}
use Rattle.elf_section.proofs.writing.push_words.Goals as goal

pub returns : goal.returns
returns c = rw (c.in_ok-push_word-2.ensures, c.in_ok-push_word.ensures) refl

use Rattle.std.proofs.Common.{◌∙◌, ap, arith, List, ℕ, rules}
use Rattle.std.specs.Prelude.{is_some}
use Rattle.elf_section.specs.Bytes.{text_at}
use Rattle.elf_section.proofs.StringLaws.{ended_text}
use Rattle.elf_section.proofs.strings.StringTable.has_text_at.Goals as goal

pub returns-then-self-len-eq0 : goal.returns-then-self-len-eq0
returns-then-self-len-eq0 c = ended_text c.self.inside.bytes.now c.args.at (omega arith) (search rules) ∙ ap (λ (t : List ℕ). is_some (text_at c.args.at t)) c.self.view_is

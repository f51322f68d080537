use Rattle.std.proofs.Common.{subst, sym}
use Rattle.defmt_lines.specs.Line.{Line, Says}
use Rattle.defmt_lines.proofs.LineLaws.{text_found}
use Rattle.defmt_lines.proofs.line.read_text_line.Goals as goal

pub returns : goal.returns
returns c = subst (λ (l : Line). Says c.args.line.now l) (sym c.line_of_text.ensures) (text_found c.args.line.now c.utf8.line)

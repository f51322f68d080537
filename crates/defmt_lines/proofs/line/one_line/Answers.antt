use Rattle.defmt_lines.proofs.LineLaws.{one_line}
use Rattle.defmt_lines.proofs.line.one_line.Goals as goal

pub returns : goal.returns
returns c = one_line

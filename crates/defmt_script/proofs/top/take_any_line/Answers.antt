use Rattle.defmt_lines.specs.LineView.{line_view}
use Rattle.defmt_script.proofs.top.take_any_line.Goals as goal

pub returns : goal.returns
returns c = (line_view c.read_text_line.result, c.read_text_line.ensures, c.take_line.ensures)

use Rattle.defmt_lines.specs.Line.{act}
use Rattle.defmt_lines.specs.declared.form.Form.TheVariants as forms
use Rattle.defmt_script.proofs.top.take_text_line.Goals as goal

pub returns-in-Some : goal.returns-in-Some
returns-in-Some c = (act forms.Statement c.in-Some.line.writer c.in-Some.line.field.now c.in-Some.line.rest.now, c.in-Some.ensures, c.take_statement.ensures)

use Rattle.std.proofs.Common.{subst, sym}
use Rattle.defmt_lines.specs.Line.{Line, Says}
use Rattle.defmt_lines.proofs.FrontLaws.{statement_said}
use Rattle.defmt_lines.proofs.LineLaws.{text_found}
use Rattle.defmt_lines.proofs.line.read_statement.Goals as goal

pub returns : goal.returns
returns c =
    let said = statement_said c.args.line.now c.in-Some.behind.now _ _ c.in-Some.writer c.in-Some.ensures.text c.in-Some.ensures.of_eight c.field_and_rest.ensures.field c.field_and_rest.ensures.rest in
    subst (λ (l : Line). Says c.args.line.now l) (sym said) (text_found c.args.line.now c.utf8.line)

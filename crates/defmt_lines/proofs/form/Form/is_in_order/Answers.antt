use Rattle.std.proofs.Common.{arith}
use Rattle.std.proofs.lemmas.Bool.Decides.{nat_tests}
use Rattle.defmt_lines.proofs.FormLaws.{ranked}
use Rattle.defmt_lines.proofs.form.Form.is_in_order.Goals as goal

pub returns : goal.returns
returns c = grind (arith, nat_tests, ranked c.args.first c.args.self, c.rank.ensures, c.rank-2.ensures)

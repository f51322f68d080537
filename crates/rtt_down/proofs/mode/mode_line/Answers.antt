use Rattle.std.proofs.Common.{◌∙◌, sym, arith}
use Rattle.defmt_lines.specs.LineView.{line_view}
use Rattle.rtt_down.proofs.ModeLaws.{goes_on}
use Rattle.rtt_down.proofs.mode.mode_line.Goals as goal

pub loop-rest-preserved : goal.loop-rest-preserved
loop-rest-preserved c = record {
  so_far = goes_on _ _ _ _ c.next_line.result.1.now (line_view c.read_line.result) c.loop-rest.invariant.so_far c.next_line.ensures.lines c.read_line.ensures (sym c.sets_mode.ensures ∙ c.if-sets_mode.false);
  number = omega (arith, c.next_line.ensures.shorter);
}

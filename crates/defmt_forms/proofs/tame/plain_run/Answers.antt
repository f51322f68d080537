use Rattle.std.proofs.Common.{◌+◌, ◌∙◌, drop, get_or, sym}
use Rattle.defmt_forms.proofs.Runs.{one_more, plain_byte}
use Rattle.defmt_forms.specs.Terminal.{tame}
use Rattle.defmt_forms.proofs.tame.plain_run.Goals as goal

pub loop-i-preserved : goal.loop-i-preserved
loop-i-preserved c =
    one_more tame c.args.text.now c.loop-i.i c.loop-i-test.true
    (plain_byte (get_or c.args.text.now c.loop-i.i 0) (drop (c.loop-i.i + 1) c.args.text.now) (sym c.is_plain.ensures ∙ c.if-not-is_plain.false)) c.loop-i.invariant

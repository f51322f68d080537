use Rattle.std.proofs.Common.{◌+◌, ◌∙◌, drop, get_or, sym}
use Rattle.defmt_forms.proofs.Runs.{bare_byte, one_more}
use Rattle.json.specs.Print.{escape}
use Rattle.defmt_forms.proofs.quoted.plain_run.Goals as goal

pub loop-i-preserved : goal.loop-i-preserved
loop-i-preserved c =
    one_more escape c.args.text.now c.loop-i.i c.loop-i-test.true
    (bare_byte (get_or c.args.text.now c.loop-i.i 0) (drop (c.loop-i.i + 1) c.args.text.now) (sym c.is_bare.ensures ∙ c.if-not-is_bare.false)) c.loop-i.invariant

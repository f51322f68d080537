use Rattle.std.proofs.Common.{◌∙◌, ◌+◌, sym, ap, arith}
use Rattle.std.specs.Prelude.{Some}
use Rattle.rtt_control.specs.Layout.{ups_at}
use Rattle.rtt_control.proofs.StoredLaws.{stored_past, stored_there}
use Rattle.rtt_control.proofs.up.find_up.Goals as goal

pub returns-then-counts-number-clause-descriptor : goal.returns-then-counts-number-clause-descriptor
returns-then-counts-number-clause-descriptor c =
    let image = c.args.image.now in
    sym (stored_past image (c.args.at + 24) c.args.up (ups_at image c.args.at) (omega (arith, c.in_ok-counts.ensures.ups)))

pub returns-clause-descriptor : goal.returns-clause-descriptor
returns-clause-descriptor c =
    let image = c.args.image.now in
    ap Some c.read_descriptor.ensures
    ∙ sym (stored_there image (c.args.at + 24) c.args.up (ups_at image c.args.at) (omega (arith, c.in_ok-counts.ensures.ups)))

use Rattle.std.proofs.Common.{◌∙◌, ◌+◌, ◌*◌, ◌≤◌, length, sym, rules}
use Rattle.std.specs.Prelude.{Ok}
use Rattle.rtt_control.proofs.ReadBack.{checked_back}
use Rattle.rtt_control.proofs.calls.write_block.Goals as goal

pub returns-in-None-clause-back : goal.returns-in-None-clause-back
returns-in-None-clause-back c =
    let up = c.as_slice-up.result.now in
    let down = c.as_slice-down.result.now in
    let eu = c.as_slice-up.ensures in
    let ed = c.as_slice-down.ensures in
    let fits : c.args.at + 24 + 24 * (length up + length down) ≤ length c.args.image.now = search rules in
    checked_back c.args.image.now c.put_block.new.image c.args.base c.args.at up down fits c.requires
    c.put_block.ensures.words.0 c.put_block.ensures.words.1 c.put_block.ensures.bytes (sym c.in-None.ensures)
    ∙ (λ i. Ok (record { up = eu i; down = ed i }))

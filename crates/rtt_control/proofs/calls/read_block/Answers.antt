use Rattle.std.proofs.Common.{◌∙◌, ap}
use Rattle.std.specs.Prelude.{Ok}
use Rattle.std.proofs.lemmas.Result.{err_from_is_err_and}
use Rattle.rtt_control.specs.declared.block.Block.{Block}
use Rattle.rtt_control.specs.Control.{block_at}
use Rattle.rtt_control.proofs.StoredLaws.{answer_of, block_made}
use Rattle.rtt_control.proofs.calls.read_block.Goals as goal

pub returns-in_err-counts-clause-fault : goal.returns-in_err-counts-clause-fault
returns-in_err-counts-clause-fault c =
    let p = err_from_is_err_and c.from_residual.result c.from_residual.ensures.1 in
    answer_of c.from_residual.result (block_at c.args.image.now c.args.base c.args.at) p.0 c.in_err-counts.field-0.0 p.1 p.2 c.in_err-counts.ensures.fault

pub returns-clause-answer : goal.returns-clause-answer
returns-clause-answer c =
    let counts = c.in_ok-counts.counts in
    c.in_ok-counts.ensures.answer
    ∙ ap (λ (b : Block). Ok b) (block_made c.args.image.now c.args.at counts.ups counts.downs c.in_ok-up.up c.in_ok-down.down c.in_ok-counts.ensures.ups c.in_ok-counts.ensures.downs
    c.in_ok-up.ensures.read c.in_ok-down.ensures.read)

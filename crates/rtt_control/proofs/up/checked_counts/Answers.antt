use Rattle.std.proofs.Common.{◌≡◌, true, drop, arith}
use Rattle.rtt_control.specs.Layout.{starts_with_id}
use Rattle.rtt_control.proofs.StoredLaws.{block_passes, block_refused}
use Rattle.rtt_control.proofs.up.checked_counts.Goals as goal

pub returns-in-Some-clause-fault : goal.returns-in-Some-clause-fault
returns-in-Some-clause-fault c =
    let has : starts_with_id (drop c.args.at c.args.image.now) ≡ true = cc in
    block_refused c.args.image.now c.args.base c.args.at c.word_at-ups.result c.word_at-downs.result has c.word_at-ups.ensures.value c.word_at-downs.ensures.value (omega arith)
    c.in-Some.fault c.in-Some.ensures

pub returns-in-None-clause-answer : goal.returns-in-None-clause-answer
returns-in-None-clause-answer c =
    let has : starts_with_id (drop c.args.at c.args.image.now) ≡ true = cc in
    block_passes c.args.image.now c.args.base c.args.at c.word_at-ups.result c.word_at-downs.result has c.word_at-ups.ensures.value c.word_at-downs.ensures.value (omega arith)
    c.in-None.ensures

use Rattle.std.proofs.Common.{◌≡◌, sym, ◌∙◌, arith}
use Rattle.defmt_framing.proofs.Near.{few, none, here, none_more, here_more}
use Rattle.defmt_framing.proofs.places.until_zero.Goals as goal

pub returns-then-near-lt-LANES-clause-none : goal.returns-then-near-lt-LANES-clause-none
returns-then-near-lt-LANES-clause-none c = none c.args.bytes.now _ (omega arith) c.until_near_zero-near.ensures

pub returns-then-near-lt-LANES-clause-zero : goal.returns-then-near-lt-LANES-clause-zero
returns-then-near-lt-LANES-clause-zero c within = here c.args.bytes.now _ (omega arith) c.until_near_zero-near.ensures c.if-near-lt-LANES.true

pub returns-then-more-lt-LANES-clause-none : goal.returns-then-more-lt-LANES-clause-none
returns-then-more-lt-LANES-clause-none c =
    let whole : c.until_near_zero-near.result ≡ 16 = omega (arith, few c.args.bytes.now _ (omega arith) c.until_near_zero-near.ensures) in
    none_more c.args.bytes.now c.split_at.result.1.now _ (omega arith) (sym whole ∙ c.until_near_zero-near.ensures) c.split_at.ensures.back c.until_near_zero-more.ensures

pub returns-then-more-lt-LANES-clause-zero : goal.returns-then-more-lt-LANES-clause-zero
returns-then-more-lt-LANES-clause-zero c within =
    let whole : c.until_near_zero-near.result ≡ 16 = omega (arith, few c.args.bytes.now _ (omega arith) c.until_near_zero-near.ensures) in
    here_more c.args.bytes.now c.split_at.result.1.now _ (omega arith) (sym whole ∙ c.until_near_zero-near.ensures) c.split_at.ensures.back c.until_near_zero-more.ensures c.if-more-lt-LANES.true

use Rattle.std.proofs.Common.{arith, map, string_bytes, Some, None}
use Rattle.ring_bench.specs.Plan.{PartsOf, NumbersOf, SayFour}
use Rattle.ring_bench.proofs.Plans.{no_numbers, out_of_range}
use Rattle.ring_bench.proofs.plan.plan_of.Goals as goal
use Rattle.ring_bench.proofs.plan.plan_of.Goals.{then-size-lt16-via-then-size-lt16, then-size-lt16-via-else-size-lt16+then-size-gt65536, then-size-lt16-via-else-size-lt16+else-size-gt65536+then-frame-eq0, then-size-lt16-via-else-size-lt16+else-size-gt65536+else-frame-eq0+then-frame-gt-MOST}

pub returns-in_err-size-clause-none : goal.returns-in_err-size-clause-none
returns-in_err-size-clause-none c = λ size frame count rounds timed asks is.
    let parts : PartsOf (map string_bytes c.args.words.now) (Some (map string_bytes c.in_ok-first.first.now, c.in_ok-first.timed)) = c.in_ok-first.ensures in
    let none : NumbersOf (map string_bytes c.in_ok-first.first.now) None = c.in_err-size.ensures in
    no_numbers (map string_bytes c.args.words.now) (map string_bytes c.in_ok-first.first.now) c.in_ok-first.timed size frame count rounds timed parts none asks

pub returns-then-size-lt16-clause-none : goal.returns-then-size-lt16-clause-none
returns-then-size-lt16-clause-none c = λ size frame count rounds timed asks is.
    let parts : PartsOf (map string_bytes c.args.words.now) (Some (map string_bytes c.in_ok-first.first.now, c.in_ok-first.timed)) = c.in_ok-first.ensures in
    let say : SayFour (map string_bytes c.in_ok-first.first.now) c.in_ok-size.size c.in_ok-size.frame c.in_ok-size.count c.in_ok-size.rounds = c.in_ok-size.ensures in
    out_of_range (map string_bytes c.args.words.now) (map string_bytes c.in_ok-first.first.now) c.in_ok-first.timed c.in_ok-size.size c.in_ok-size.frame c.in_ok-size.count c.in_ok-size.rounds size frame count rounds timed parts say
    (λ least most some few.
    elim c.then-size-lt16.branch [
      | then-size-lt16-via-then-size-lt16 w ↦ omega arith
      | then-size-lt16-via-else-size-lt16+then-size-gt65536 w ↦ omega arith
      | then-size-lt16-via-else-size-lt16+else-size-gt65536+then-frame-eq0 w ↦ omega arith
      | then-size-lt16-via-else-size-lt16+else-size-gt65536+else-frame-eq0+then-frame-gt-MOST w ↦ omega arith
    ])
    asks

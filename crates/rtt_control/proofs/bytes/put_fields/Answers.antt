use Rattle.std.proofs.Common.{arith}
use Rattle.rtt_control.proofs.bytes.put_fields.Goals as goal

pub returns-clause-words : goal.returns-clause-words
returns-clause-words c =
    let fit = c.put_numbers.ensures.fit in
    record {
      name = fit 0 0 (omega arith);
      start = fit 1 0 (omega arith);
      size = fit 2 0 (omega arith);
      wr = fit 3 0 (omega arith);
      rd = fit 4 0 (omega arith);
      flags = fit 5 0 (omega arith);
    }

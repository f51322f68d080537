use Rattle.std.proofs.Common.{arith, sym}
use Rattle.defmt_grammar.proofs.Leads.{digits_boundary, lead_at}
use Rattle.defmt_grammar.proofs.param.split_digits.Goals as goal

pub split_at-requires : goal.split_at-requires
split_at-requires c = digits_boundary c.args.text.now c.loop-i.i c.utf8.text (omega arith) c.loop-i.invariant

pub returns-then-not-is_ascii_digit : goal.returns-then-not-is_ascii_digit
returns-then-not-is_ascii_digit c = lead_at c.args.text.now c.loop-i.i c.split_at.result (omega arith) c.loop-i.invariant (λ lt. sym (rw c.as_bytes-b-items.ensures.value at c.if-not-is_ascii_digit.ensures.value)) c.split_at.ensures.front c.split_at.ensures.back

pub returns : goal.returns
returns c = lead_at c.args.text.now _ c.split_at-2.result (omega arith) (λ k lt. c.loop-i.invariant k (omega arith)) (λ lt. absurd (omega arith)) c.split_at-2.ensures.front c.split_at-2.ensures.back

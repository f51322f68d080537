use Rattle.std.proofs.Common.{ℕ, List, subst}
use Rattle.defmt_hints.proofs.Places.{digit_text}
use Rattle.defmt_hints.specs.Written.{Writes}
use Rattle.defmt_hints.proofs.numbers.put_decimal.Goals as goal

pub returns-then-number-lt10 : goal.returns-then-number-lt10
returns-then-number-lt10 c =
    subst (λ (t : List ℕ). Writes c.put.result c.args.out.now c.args.at c.put.new.out t) (digit_text c.args.number c.if-number-lt10.true) c.put.ensures

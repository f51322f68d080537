use Rattle.std.proofs.Common.{ℕ, List, subst, ◌∙◌, arith}
use Rattle.defmt_hints.proofs.Decimals.{std_decimal}
use Rattle.defmt_hints.specs.Written.{Writes}
use Rattle.defmt_hints.proofs.numbers.put_wide_decimal.Goals as goal

pub returns : goal.returns
returns c =
    subst (λ (t : List ℕ). Writes c.put.result c.args.out.now c.args.at c.put.new.out t) (c.as_bytes.ensures.value ∙ c.format.ensures.text ∙ std_decimal c.args.number (omega arith)) c.put.ensures

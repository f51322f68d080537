use Rattle.std.proofs.Common.{◌≡◌, ℕ, ◌<◌, true, false, ◌==◌, get_or, refl, eqb-true}
use Rattle.std.proofs.lemmas.Bool.{agree_below_at}
use Rattle.std.specs.Fmt.{digit_glyph}
use Rattle.defmt_hints.specs.declared.radix.TheConstants.{LOWER, UPPER}
use Rattle.defmt_hints.proofs.radix.glyph.Goals as goal

pub returns-then-upper : goal.returns-then-upper
returns-then-upper c = rw c.if-upper.true (eqb-true _ _ (agree_below_at (λ k. get_or UPPER k 0 == digit_glyph true k) (λ _. true) 16 c.args.digit refl c.requires))

pub returns-else-upper : goal.returns-else-upper
returns-else-upper c = rw c.if-upper.false (eqb-true _ _ (agree_below_at (λ k. get_or LOWER k 0 == digit_glyph false k) (λ _. true) 16 c.args.digit refl c.requires))

-- A message that isn't too long is written.
use Rattle.std.proofs.Common.{◌≡◌, ◌≤◌, ℕ, List, length, Err, subst, arith}
use Rattle.std.specs.Prelude.{Result}
use Rattle.defmt_encode.specs.Out.{Writes}
use Rattle.defmt_encode.specs.declared.put.Long.{Long}

pub never_long : (old new message : List ℕ) (written : Result ℕ Long) (long : Long) → written ≡ Err long → Writes old new written message → length message ≤ 2000 → ⊥
never_long old new message written long is writes short =
    let refused = subst (λ (r : Result ℕ Long). Writes old new r message) is writes in absurd (omega (arith, short, refused.0))

-- What lies behind the stored bytes.
use Rattle.std.proofs.Common.{◌≡◌, ℕ, ◌+◌, ◌-◌, ◌≤◌, List, drop, set, refl, sym, ◌∙◌, ap, arith}
use Rattle.std.proofs.lemmas.List.{drop-set-lt, drop-drop}
use Rattle.rzcobs_core.specs.Encodes.{WritesOn}

later : (m n : ℕ) (a b : List ℕ) → m ≤ n → drop m a ≡ drop m b → drop n a ≡ drop n b
later m n a b le same =
    let e : m + (n - m) ≡ n = omega arith in
    ap (λ (k : ℕ). drop k a) (sym e) ∙ sym (drop-drop (n - m) m a) ∙ ap (drop (n - m)) same ∙ drop-drop (n - m) m b ∙ ap (λ (k : ℕ). drop k b) e

pub nothing_written : (stored : ℕ) (out : List ℕ) → WritesOn stored out stored out
nothing_written stored out = record { grows = omega arith; behind = refl }

pub one_written : (stored : ℕ) (out : List ℕ) (byte : ℕ) → WritesOn stored out (stored + 1) (set out stored byte)
one_written stored out byte = record { grows = omega arith; behind = drop-set-lt (stored + 1) out stored byte (omega arith) }

pub both_written : (stored : ℕ) (out : List ℕ) (stored_between : ℕ) (out_between : List ℕ) (stored_after : ℕ) (out_after : List ℕ)
    → WritesOn stored out stored_between out_between → WritesOn stored_between out_between stored_after out_after → WritesOn stored out stored_after out_after
both_written stored out stored_between out_between stored_after out_after first then_ = record {
  grows = omega (arith, first.grows, then_.grows);
  behind = then_.behind ∙ later stored_between stored_after out_between out then_.grows first.behind;
}

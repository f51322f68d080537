-- The function and the relation agree.
use Rattle.std.proofs.Common.{◌≡◌, List, ℕ, Option, Some, None, refl, ap, subst}
use Rattle.rzcobs_core.specs.Blocks.{Blocks, IsNoCode}
use Rattle.rzcobs_core.proofs.OneReading.{one_reading}
use Rattle.defmt_framing.specs.Decoded.{decoded}
use Rattle.defmt_framing.proofs.Decides.{IsTold, told}

is_found : (code bytes : List ℕ) (o : Option (List ℕ)) → IsTold code o → Blocks code bytes → o ≡ Some bytes
is_found code bytes (Some found) is blocks = ap (λ (b : List ℕ). Some b) (one_reading code found bytes is blocks)
is_found code bytes None none blocks = absurd (none bytes blocks)

is_again : (code bytes : List ℕ) (o : Option (List ℕ)) → IsTold code o → o ≡ Some bytes → Blocks code bytes
is_again code bytes (Some found) is same = subst (λ (b : List ℕ). Blocks code b) (cc same) is
is_again code bytes None none same = absurd (cc same)

is_none : (code : List ℕ) (o : Option (List ℕ)) → IsTold code o → IsNoCode code → o ≡ None
is_none code (Some found) is none = absurd (none found is)
is_none code None not none = refl

pub decoded_found : (code bytes : List ℕ) → Blocks code bytes → decoded code ≡ Some bytes
decoded_found code bytes blocks = is_found code bytes (decoded code) (told code) blocks

pub decoded_again : (code bytes : List ℕ) → decoded code ≡ Some bytes → Blocks code bytes
decoded_again code bytes same = is_again code bytes (decoded code) (told code) same

pub decoded_none : (code : List ℕ) → IsNoCode code → decoded code ≡ None
decoded_none code none = is_none code (decoded code) (told code) none

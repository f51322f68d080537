-- Which texts may be spoken.
use Rattle.std.proofs.Common.{◌≡◌, ◌≢◌, ◌≤◌, ◌&&◌, ℕ, Bool, true, false, not, eqb, leb, List, [], ◌∷◌, length, refl, arith}
use Rattle.std.proofs.lemmas.Bool.{and_parts, le-leb, leb-true, ne_eqb}
use Rattle.std.proofs.lemmas.Bool.Decides.{nat_tests}
use Rattle.std.specs.List.{AllByRecursion, list_all}
use Rattle.rtt_terminal.specs.Sayable.{is_plain, is_sayable}
use Rattle.rtt_terminal.specs.Stream.{IsSayable}

plain_by : (b : ℕ) (x y : Bool) → leb 32 b ≡ x → eqb b 127 ≡ y → x && not y ≡ true → (32 ≤ b) × (b ≢ 127)
plain_by b true false p q h = (leb-true 32 b p, let ne : b ≢ 127 = grind (arith, nat_tests) in ne)
plain_by b true true p q h = absurd (cc h)
plain_by b false y p q h = absurd (cc h)

plain_found : (b : ℕ) → is_plain b ≡ true → (32 ≤ b) × (b ≢ 127)
plain_found b h = plain_by b (leb 32 b) (eqb b 127) refl refl h

plain_again : (b : ℕ) → 32 ≤ b → b ≢ 127 → is_plain b ≡ true
plain_again b le ne = rw (le-leb 32 b le, ne_eqb b 127 ne) refl

all_found : (text : List ℕ) → list_all is_plain text ≡ true → AllByRecursion (λ b. (32 ≤ b) × (b ≢ 127)) text
all_found [] h = tt
all_found (b ∷ text) h =
    let both = and_parts (is_plain b) (list_all is_plain text) h in (plain_found b both.0, all_found text both.1)

all_again : (text : List ℕ) → AllByRecursion (λ b. (32 ≤ b) × (b ≢ 127)) text → list_all is_plain text ≡ true
all_again [] h = refl
all_again (b ∷ text) h = rw (plain_again b h.0.0 h.0.1, all_again text h.1) refl

pub sayable_found : (text : List ℕ) → is_sayable text ≡ true → IsSayable text
sayable_found text h =
    let both = and_parts (leb (length text) 2000) (list_all is_plain text) h in
    record { short = leb-true (length text) 2000 both.0; plain = all_found text both.1 }

pub sayable_again : (text : List ℕ) → IsSayable text → is_sayable text ≡ true
sayable_again text h = rw (le-leb (length text) 2000 h.short, all_again text h.plain) refl

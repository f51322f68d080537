-- Texts with an end behind them.
use Rattle.std.proofs.Common.{◌≡◌, ◌≢◌, ◌<◌, ◌≤◌, inl, inr, ◌+◌, ◌/◌, ◌==◌, ℕ, zero, suc, Bool, true, false, List, [], ◌∷◌, ◌++◌, length, get_or, take, drop, Ok, refl, sym, ap, subst, arith, cond}
use Rattle.std.proofs.lemmas.Bool.{cases_lt, lt-ltb, le-ltb, eqb-true, eqb-false, ne_eqb, and_parts}
use Rattle.std.specs.Str.{IsUtf8}
use lib.Utf8.{scalar, scalars, next, encode, encodes, scalar_cases}
use Rattle.defmt_encode.specs.Carry.{text_end}
use Rattle.defmt_encode.specs.Met.{HasNoEnd}
use Rattle.defmt_encode.specs.Read.{Read, ◌⇒◌, ended_at}
use Rattle.defmt_encode.specs.declared.cause.Cause.{Cause}
use Rattle.defmt_encode.specs.declared.cause.Cause.TheVariants as causes
use Rattle.defmt_encode.proofs.Chains.{done, refused, same, same_cause, bound, before_last}

-- ---- no text in UTF-8 has an end

scalar_low : (c : ℕ) → scalar c ≡ true → c < 1114112
scalar_low c h = elim (scalar_cases c h) [
  | inl low ↦ omega (arith, low)
  | inr high ↦ high.1
]

one : (c : ℕ) → c < 128 → encode c ≡ c ∷ []
unfolding encode
one c h = rw (lt-ltb c 128 h) refl

two : (c : ℕ) → 128 ≤ c → c < 2048 → encode c ≡ (192 + c / 64) ∷ next c ∷ []
unfolding encode
two c l h = rw (le-ltb c 128 l, lt-ltb c 2048 h) refl

three : (c : ℕ) → 2048 ≤ c → c < 65536 → encode c ≡ (224 + c / 4096) ∷ next (c / 64) ∷ next c ∷ []
unfolding encode
three c l h = rw (le-ltb c 128 (omega (arith, l)), le-ltb c 2048 l, lt-ltb c 65536 h) refl

four : (c : ℕ) → 65536 ≤ c → encode c ≡ (240 + c / 262144) ∷ next (c / 4096) ∷ next (c / 64) ∷ next c ∷ []
unfolding encode
four c l = rw (le-ltb c 128 (omega (arith, l)), le-ltb c 2048 (omega (arith, l)), le-ltb c 65536 l) refl

-- by the number of its bytes
encoded : (c : ℕ) → scalar c ≡ true → HasNoEnd (encode c)
encoded c h =
    let low = scalar_low c h in
    elim (cases_lt 127 c) [
      | inr short ↦ subst (λ (x : List ℕ). HasNoEnd x) (sym (one c (omega (arith, short)))) ((λ e. omega (arith, short, e)), tt)
      | inl above ↦ elim (cases_lt 2047 c) [
        | inr short ↦ subst (λ (x : List ℕ). HasNoEnd x) (sym (two c (omega (arith, above)) (omega (arith, short)))) ((λ e. omega (arith, short, e)), ((λ e. omega (arith, e)), tt))
        | inl more ↦ elim (cases_lt 65535 c) [
          | inr short ↦ subst (λ (x : List ℕ). HasNoEnd x) (sym (three c (omega (arith, more)) (omega (arith, short)))) ((λ e. omega (arith, short, e)), ((λ e. omega (arith, e)), ((λ e. omega (arith, e)), tt)))
          | inl most ↦ subst (λ (x : List ℕ). HasNoEnd x) (sym (four c (omega (arith, most)))) ((λ e. omega (arith, low, e)), ((λ e. omega (arith, e)), ((λ e. omega (arith, e)), ((λ e. omega (arith, e)), tt))))
        ]
      ]
    ]

no_end_both : (a b : List ℕ) → HasNoEnd a → HasNoEnd b → HasNoEnd (a ++ b)
no_end_both [] b h k = k
no_end_both (x ∷ a) b h k = (h.0, no_end_both a b h.1 k)

all_encoded : (cs : List ℕ) → scalars cs ≡ true → HasNoEnd (encodes cs)
all_encoded [] h = tt
all_encoded (c ∷ cs) h =
    let p = and_parts (scalar c) (scalars cs) h in
    no_end_both (encode c) (encodes cs) (encoded c p.0) (all_encoded cs p.1)

pub no_end : (s : List ℕ) → IsUtf8 s → HasNoEnd s
no_end s h = subst (λ (x : List ℕ). HasNoEnd x) h.1.1 (all_encoded h.0 h.1.0)

-- ---- the first end

abbrev pub Parts : Type 0
Parts = List ℕ × List ℕ

abbrev behind_byte : ℕ → Parts → Read Parts
behind_byte b s = Ok (b ∷ s.0, s.1)

pub ended_back : (s rest : List ℕ) → HasNoEnd s → ended_at ((s ++ text_end ∷ []) ++ rest) ≡ done (s, rest)
ended_back [] rest h = refl
ended_back (b ∷ s) rest h = rw (ne_eqb b text_end h.0, ended_back s rest h.1) refl

pub record IsEnded (y : Parts) (from : List ℕ) : Type 0 where
  pub none : HasNoEnd y.0
  pub carries : from ≡ (y.0 ++ text_end ∷ []) ++ y.1

ended_to : (from : List ℕ) (x y : Parts) → IsEnded x from → done x ≡ done y → IsEnded y from
ended_to from x y h e = subst (λ (p : Parts). IsEnded p from) (same x y e) h

ended_step : (b : ℕ) (bytes : List ℕ) (y : Parts) (d : Bool) → (b == text_end) ≡ d → ((z : Parts) → ended_at bytes ≡ done z → IsEnded z bytes)
    → cond {A = Read Parts} d (Ok ([], bytes)) (ended_at bytes ⇒ behind_byte b) ≡ done y → IsEnded y (b ∷ bytes)
ended_step b bytes y true t ih e =
    ended_to (b ∷ bytes) ([], bytes) y (record { none = tt; carries = ap (λ (x : ℕ). x ∷ bytes) (eqb-true b text_end t) }) e
ended_step b bytes y false t ih e =
    let k = bound (ended_at bytes) (behind_byte b) y e in
    let m = ih k.0 k.1 in
    ended_to (b ∷ bytes) (b ∷ k.0.0, k.0.1) y (record { none = (eqb-false b text_end t, m.none); carries = ap (λ (x : List ℕ). b ∷ x) m.carries }) k.2

pub ended_found : (from : List ℕ) (y : Parts) → ended_at from ≡ done y → IsEnded y from
ended_found [] y e = absurd (cc)
ended_found (b ∷ bytes) y e = ended_step b bytes y (b == text_end) refl (ended_found bytes) e

broken_step : (b : ℕ) (bytes : List ℕ) (c : Cause) (d : Bool) → (b == text_end) ≡ d → (ended_at bytes ≡ refused Parts c → HasNoEnd bytes × (c ≡ causes.Short))
    → cond {A = Read Parts} d (Ok ([], bytes)) (ended_at bytes ⇒ behind_byte b) ≡ refused Parts c → HasNoEnd (b ∷ bytes) × (c ≡ causes.Short)
broken_step b bytes c true t ih e = absurd (cc)
broken_step b bytes c false t ih e =
    let m = ih (before_last (ended_at bytes) (λ s. (b ∷ s.0, s.1)) c e) in
    ((eqb-false b text_end t, m.0), m.1)

pub ended_broken : (from : List ℕ) (c : Cause) → ended_at from ≡ refused Parts c → HasNoEnd from × (c ≡ causes.Short)
ended_broken [] c e = (tt, sym (same_cause {A = Parts} causes.Short c e))
ended_broken (b ∷ bytes) c e = broken_step b bytes c (b == text_end) refl (ended_broken bytes c) e

pub ended_refused : (from : List ℕ) → HasNoEnd from → ended_at from ≡ refused Parts causes.Short
ended_refused [] h = refl
ended_refused (b ∷ bytes) h = rw (ne_eqb b text_end h.0, ended_refused bytes h.1) refl

-- ---- by its place

pub ended_place : (bytes : List ℕ) (place : ℕ) → place < length bytes → ((k : ℕ) → k < place → get_or bytes k 0 ≢ text_end) → get_or bytes place 0 ≡ text_end
    → ended_at bytes ≡ done (take place bytes, drop (place + 1) bytes)
ended_place [] place within before is = absurd (omega arith)
ended_place (b ∷ bytes) zero within before is = let e : b ≡ text_end = is in rw e refl
ended_place (b ∷ bytes) (suc place) within before is =
    let next : suc place + 1 ≡ suc (place + 1) = omega arith in
    rw (next, ne_eqb b text_end (before 0 (omega arith)), ended_place bytes place (omega arith) (λ k lt. before (suc k) (omega arith)) is) refl

pub ended_nowhere : (bytes : List ℕ) → ((k : ℕ) → k < length bytes → get_or bytes k 0 ≢ text_end) → ended_at bytes ≡ refused Parts causes.Short
ended_nowhere [] none = refl
ended_nowhere (b ∷ bytes) none = rw (ne_eqb b text_end (none 0 (omega arith)), ended_nowhere bytes (λ k lt. none (suc k) (omega arith))) refl

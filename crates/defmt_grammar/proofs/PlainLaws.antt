-- Characters that are no braces.
use Rattle.std.proofs.Common.{◌≡◌, ◌<◌, ◌≤◌, ℕ, suc, zero, Bool, true, false, cond, eqb, ◌||◌, List, [], ◌∷◌, ◌++◌, length, get_or, take, drop, refl, sym, ap, arith, inl, inr, Bor}
use Rattle.std.specs.Str.{IsCharBoundary}
use Rattle.std.specs.List.{AllByRecursion}
use Rattle.std.proofs.lemmas.Bool.{eqb-true, ne_eqb}
use Rattle.std.proofs.lemmas.Bool.Decides.{nat_tests}
use Rattle.std.proofs.lemmas.Str.{IsCharBoundary-before_ascii}
use Rattle.defmt_grammar.specs.Param.{both_now}
use Rattle.defmt_grammar.specs.Step.{plain}
use Rattle.defmt_grammar.specs.Grammar.{IsPlain, IsBrace}

pub plain_test : (c : ℕ) → IsPlain c → (eqb c 123 || eqb c 125) ≡ false
plain_test c p = rw (ne_eqb c 123 p.0, ne_eqb c 125 p.1) refl

pub brace_test : (c : ℕ) → IsBrace c → (eqb c 123 || eqb c 125) ≡ true
brace_test c (inl e) = rw e refl
brace_test c (inr e) = rw e refl

test_brace : (c : ℕ) (a b : Bool) → eqb c 123 ≡ a → eqb c 125 ≡ b → (a || b) ≡ true → IsBrace c
test_brace c true b e f h = inl (eqb-true c 123 e)
test_brace c false true e f h = inr (eqb-true c 125 f)
test_brace c false false e f h = absurd cc

pub is_brace : (c : ℕ) → (eqb c 123 || eqb c 125) ≡ true → IsBrace c
is_brace c h = test_brace c (eqb c 123) (eqb c 125) refl refl h

test_plain : (c : ℕ) (a b : Bool) → eqb c 123 ≡ a → eqb c 125 ≡ b → (a || b) ≡ false → IsPlain c
test_plain c true b e f h = absurd cc
test_plain c false true e f h = absurd cc
test_plain c false false e f h = (λ same. let k : eqb c 123 ≡ true = grind (arith, nat_tests) in cc, λ same. let k : eqb c 125 ≡ true = grind (arith, nat_tests) in cc)

pub is_plain : (c : ℕ) → (eqb c 123 || eqb c 125) ≡ false → IsPlain c
is_plain c h = test_plain c (eqb c 123) (eqb c 125) refl refl h

plain_unless_by : (c : ℕ) (b : Bool) → (eqb c 123 || eqb c 125) ≡ b → ((eqb c 123 || eqb c 125) ≡ true → ⊥) → IsPlain c
plain_unless_by c true e n = absurd (n e)
plain_unless_by c false e n = is_plain c e

pub plain_unless : (c : ℕ) → ((eqb c 123 || eqb c 125) ≡ true → ⊥) → IsPlain c
plain_unless c n = plain_unless_by c (eqb c 123 || eqb c 125) refl n

plain_take : (text : List ℕ) (i : ℕ) → i ≤ length text → ((k : ℕ) → k < i → IsPlain (get_or text k 0)) → (i < length text → IsBrace (get_or text i 0)) → plain text ≡ (take i text, drop i text)
unfolding plain
plain_take [] zero le h n = refl
plain_take [] (suc i) le h n = absurd (omega arith)
plain_take (c ∷ cs) zero le h n = rw (brace_test c (n (omega arith))) refl
plain_take (c ∷ cs) (suc i) le h n =
    let rest : plain cs ≡ (take i cs, drop i cs) = plain_take cs i (omega arith) (λ k lt. h (suc k) (omega arith)) (λ lt. n (omega arith)) in
    rw (plain_test c (h 0 (omega arith)), rest) refl

pub plain_at : (text : List ℕ) (i : ℕ) (p : Bor (List ℕ) × Bor (List ℕ)) → i ≤ length text → ((k : ℕ) → k < i → IsPlain (get_or text k 0)) → (i < length text → IsBrace (get_or text i 0)) → p.0.now ≡ take i text → p.1.now ≡ drop i text → both_now p ≡ plain text
plain_at text i p le h n e f = rw (e, f) (sym (plain_take text i le h n))

pub brace_boundary : (text : List ℕ) (i : ℕ) → i < length text → IsBrace (get_or text i 0) → IsCharBoundary text i
brace_boundary text i lt (inl e) = IsCharBoundary-before_ascii text i lt (omega (arith, e))
brace_boundary text i lt (inr e) = IsCharBoundary-before_ascii text i lt (omega (arith, e))

abbrev split : Bool → ℕ → List ℕ → List ℕ × List ℕ
split b c cs = cond b ([], c ∷ cs) (c ∷ (plain cs).0, (plain cs).1)

-- what stands before the first brace is plain
plain_more : (c : ℕ) (cs : List ℕ) (b : Bool) → (eqb c 123 || eqb c 125) ≡ b → (cs ≡ (plain cs).0 ++ (plain cs).1) × AllByRecursion IsPlain (plain cs).0 → (c ∷ cs ≡ (split b c cs).0 ++ (split b c cs).1) × AllByRecursion IsPlain (split b c cs).0
plain_more c cs true e h = (refl, tt)
plain_more c cs false e h = (ap (λ (t : List ℕ). c ∷ t) h.0, (is_plain c e, h.1))

pub plain_found : (text : List ℕ) → (text ≡ (plain text).0 ++ (plain text).1) × AllByRecursion IsPlain (plain text).0
unfolding plain
plain_found [] = (refl, tt)
plain_found (c ∷ cs) = plain_more c cs (eqb c 123 || eqb c 125) refl (plain_found cs)

brace_case : (c : ℕ) (cs : List ℕ) (b : Bool) → (eqb c 123 || eqb c 125) ≡ b → length (split b c cs).0 ≡ 0 → (d : ℕ) × (more : List ℕ) × (c ∷ cs ≡ d ∷ more) × IsBrace d
brace_case c cs true e h = (c, cs, refl, is_brace c e)
brace_case c cs false e h = absurd (omega (arith, h))

pub starts_with_brace : (text : List ℕ) → length (plain text).0 ≡ 0 → 0 < length text → (c : ℕ) × (more : List ℕ) × (text ≡ c ∷ more) × IsBrace c
unfolding plain
starts_with_brace [] e some = absurd (omega arith)
starts_with_brace (c ∷ cs) e some = brace_case c cs (eqb c 123 || eqb c 125) refl e

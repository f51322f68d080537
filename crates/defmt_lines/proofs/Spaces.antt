-- A text cut at its first space.
use Rattle.std.proofs.Common.{◌≡◌, ◌≢◌, ◌<◌, ◌+◌, ℕ, zero, suc, false, eqb, List, [], ◌∷◌, length, get_or, take, drop, Some, None, refl, sym, ap, ◌∙◌, arith}
use Rattle.std.specs.Option.{option_map}
use Rattle.std.proofs.lemmas.Bool.Decides.{nat_tests}
use Rattle.defmt_grammar.specs.Cut.{cut}

-- no space stands there
abbrev pub AreNoSpaces : List ℕ → ℕ → Type 0
AreNoSpaces text count = (k : ℕ) → k < count → get_or text k 0 ≡ 32 → ⊥

cut_here : (b : ℕ) (text : List ℕ) → b ≡ 32 → cut 32 (b ∷ text) ≡ Some ([], text)
unfolding cut
cut_here b text is = grind (arith, nat_tests)

cut_later : (b : ℕ) (text : List ℕ) → b ≢ 32 → cut 32 (b ∷ text) ≡ option_map (λ p. (b ∷ p.0, p.1)) (cut 32 text)
unfolding cut
cut_later b text not = let e : eqb b 32 ≡ false = grind (arith, nat_tests) in rw e refl

pub cut_none : (text : List ℕ) → AreNoSpaces text (length text) → cut 32 text ≡ None
unfolding cut
cut_none [] lacks = refl
cut_none (b ∷ text) lacks =
    cut_later b text (lacks 0 (omega arith)) ∙ ap (option_map (λ p. (b ∷ p.0, p.1))) (cut_none text (λ k lt. lacks (suc k) (omega arith)))

pub cut_at : (text : List ℕ) (i : ℕ) → i < length text → AreNoSpaces text i → get_or text i 0 ≡ 32 → cut 32 text ≡ Some (take i text, drop (suc i) text)
cut_at [] i lt lacks is = absurd (omega arith)
cut_at (b ∷ text) zero lt lacks is = cut_here b text is
cut_at (b ∷ text) (suc i) lt lacks is =
    cut_later b text (lacks 0 (omega arith)) ∙ ap (option_map (λ p. (b ∷ p.0, p.1))) (cut_at text i (omega arith) (λ k l. lacks (suc k) (omega arith)) is)

-- the same, as the code cuts it
pub cut_given : (text front back : List ℕ) (i : ℕ) → i < length text → AreNoSpaces text i → get_or text i 0 ≡ 32 → front ≡ take i text → back ≡ drop (i + 1) text → Some (front, back) ≡ cut 32 text
cut_given text front back i lt lacks is f b =
    let step : i + 1 ≡ suc i = omega arith in
    let next : drop (i + 1) text ≡ drop (suc i) text = ap (λ (k : ℕ). drop k text) step in
    rw (f, b, next) (sym (cut_at text i lt lacks is))

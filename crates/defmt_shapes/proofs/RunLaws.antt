-- Runs of characters in front of a text.
use Rattle.std.proofs.Common.{◌≡◌, ◌≢◌, ◌<◌, ◌≤◌, ℕ, suc, zero, Bool, true, false, cond, ltb, eqb, List, [], ◌∷◌, ◌++◌, length, get_or, take, drop, refl, sym, ap, arith, Bor, add-one, inl, inr, Some, None}
use Rattle.std.specs.Char.{digit_value, is_ascii_alphanumeric}
use Rattle.std.specs.List.{list_all}
use Rattle.std.specs.Str.{IsUtf8, IsCharBoundary}
use Rattle.std.specs.Str.Parse.{AllDigits}
use Rattle.std.proofs.lemmas.Bool.{cases_lt, le-ltb, lt-leb, lt-ltb, ltb-true, eq-eqb, ne_eqb, both_ways, and_parts, or_from}
use Rattle.std.proofs.lemmas.Str.{IsCharBoundary-start, IsCharBoundary-after_ascii}
use Rattle.defmt_grammar.specs.Cut.{behind}
use Rattle.defmt_grammar.specs.Param.{both_now}
use Rattle.defmt_shapes.specs.declared.parts.Class.{Class}
use Rattle.defmt_shapes.specs.declared.parts.Class.TheVariants.{Decimal, Hexadecimal, Word, Numbers}
use Rattle.defmt_shapes.specs.Shape.{is_word}
use Rattle.defmt_shapes.specs.Runs.{in_class, run, first_ascii}

-- ---- classes hold ASCII alone

far_digit : (c : ℕ) → 128 ≤ c → digit_value c ≡ 36
far_digit c h = rw (le-ltb c 48 (omega arith), le-ltb c 58 (omega arith), le-ltb c 65 (omega arith), le-ltb c 91 (omega arith), le-ltb c 97 (omega arith), le-ltb c 123 (omega arith)) refl

far_word : (c : ℕ) → 128 ≤ c → is_word c ≡ false
far_word c h =
    or_from (is_ascii_alphanumeric c) (eqb c 95)
    (rw (lt-leb c 57 (omega arith), lt-leb c 90 (omega arith), lt-leb c 122 (omega arith)) (grind arith))
    (ne_eqb c 95 (λ e. omega arith))

far : (class : Class) (c : ℕ) → 128 ≤ c → in_class class c ≡ false
far Decimal c h = rw (far_digit c h) refl
far Hexadecimal c h = rw (far_digit c h) refl
far Word c h = far_word c h
far Numbers c h = or_from (eqb c 32) (ltb (digit_value c) 10) (ne_eqb c 32 (λ e. omega arith)) (rw (far_digit c h) refl)

pub class_ascii : (class : Class) (c : ℕ) → in_class class c ≡ true → c < 128
class_ascii class c h = elim (cases_lt c 128) [ inl lt ↦ lt | inr le ↦ absurd (both_ways (in_class class c) (far class c le) h) ]

pub run_boundary : (class : Class) (text : List ℕ) (i : ℕ) → IsUtf8 text → i ≤ length text → ((k : ℕ) → k < i → in_class class (get_or text k 0) ≡ true) → IsCharBoundary text i
run_boundary class text zero u le h = IsCharBoundary-start text u
run_boundary class text (suc i) u le h =
    let b = IsCharBoundary-after_ascii text i u (omega arith) (class_ascii class (get_or text i 0) (h i (omega arith))) in
    rw (← add-one i) b

-- ---- where a run ends

run_take : (test : ℕ → Bool) (text : List ℕ) (i : ℕ) → i ≤ length text → ((k : ℕ) → k < i → test (get_or text k 0) ≡ true) → (i < length text → test (get_or text i 0) ≡ false) → run test text ≡ (take i text, drop i text)
unfolding run
run_take test [] zero le h n = refl
run_take test [] (suc i) le h n = absurd (omega arith)
run_take test (c ∷ cs) zero le h n = rw (n (omega arith)) refl
run_take test (c ∷ cs) (suc i) le h n =
    let rest : run test cs ≡ (take i cs, drop i cs) = run_take test cs i (omega arith) (λ k lt. h (suc k) (omega arith)) (λ lt. n (omega arith)) in
    rw (h 0 (omega arith), rest) refl

pub run_at : (test : ℕ → Bool) (text : List ℕ) (i : ℕ) (p : Bor (List ℕ) × Bor (List ℕ)) → i ≤ length text → ((k : ℕ) → k < i → test (get_or text k 0) ≡ true) → (i < length text → test (get_or text i 0) ≡ false) → p.0.now ≡ take i text → p.1.now ≡ drop i text → both_now p ≡ run test text
run_at test text i p le h n e f = rw (e, f) (sym (run_take test text i le h n))

-- the text begins with no byte that passes
abbrev pub FailsThere : (ℕ → Bool) → List ℕ → Type 0
FailsThere test [] = Unit {0}
FailsThere test (c ∷ cs) = test c ≡ false

abbrev ran : (ℕ → Bool) → Bool → ℕ → List ℕ → List ℕ × List ℕ
ran test b c cs = cond b (c ∷ (run test cs).0, (run test cs).1) ([], c ∷ cs)

-- what a run is
pub record IsRun (test : ℕ → Bool) (text front rest : List ℕ) : Type 0 where
  pub text_is : text ≡ front ++ rest
  pub passes : list_all test front ≡ true
  pub ends : FailsThere test rest

run_more : (test : ℕ → Bool) (c : ℕ) (cs : List ℕ) (b : Bool) → test c ≡ b → IsRun test cs (run test cs).0 (run test cs).1 → IsRun test (c ∷ cs) (ran test b c cs).0 (ran test b c cs).1
run_more test c cs true e h = record { text_is = ap (λ (t : List ℕ). c ∷ t) h.text_is; passes = rw (e, h.passes) refl; ends = h.ends }
run_more test c cs false e h = record { text_is = refl; passes = refl; ends = e }

pub run_found : (test : ℕ → Bool) (text : List ℕ) → IsRun test text (run test text).0 (run test text).1
unfolding run
run_found test [] = record { text_is = refl; passes = refl; ends = tt }
run_found test (c ∷ cs) = run_more test c cs (test c) refl (run_found test cs)

run_stop : (test : ℕ → Bool) (rest : List ℕ) → FailsThere test rest → run test rest ≡ ([], rest)
unfolding run
run_stop test [] h = refl
run_stop test (c ∷ cs) h = rw h refl

pub run_again : (test : ℕ → Bool) (front rest : List ℕ) → list_all test front ≡ true → FailsThere test rest → run test (front ++ rest) ≡ (front, rest)
unfolding run
run_again test [] rest p s = run_stop test rest s
run_again test (c ∷ cs) rest p s = let k = and_parts (test c) (list_all test cs) p in rw (k.0, run_again test cs rest k.1 s) refl

-- ---- digits

pub digits_pass : (radix : ℕ) (ds : List ℕ) → AllDigits radix ds → list_all (λ c. ltb (digit_value c) radix) ds ≡ true
digits_pass radix [] h = refl
digits_pass radix (d ∷ ds) h = rw (lt-ltb (digit_value d) radix h.0, digits_pass radix ds h.1) refl

pub pass_digits : (radix : ℕ) (ds : List ℕ) → list_all (λ c. ltb (digit_value c) radix) ds ≡ true → AllDigits radix ds
pass_digits radix [] h = tt
pass_digits radix (d ∷ ds) h =
    let k = and_parts (ltb (digit_value d) radix) (list_all (λ c. ltb (digit_value c) radix) ds) h in
    (ltb-true (digit_value d) radix k.0, pass_digits radix ds k.1)

-- ---- the first byte

pub one_boundary : (text : List ℕ) (first : ℕ) → IsUtf8 text → 0 < length text → first ≡ get_or text 0 0 → first < 128 → IsCharBoundary text 1
one_boundary text first u some e small = IsCharBoundary-after_ascii text 0 u some (omega arith)

pub first_ascii_at : (text : List ℕ) (first : ℕ) (rest : List ℕ) → 0 < length text → first ≡ get_or text 0 0 → first < 128 → rest ≡ drop 1 text → Some (first, rest) ≡ first_ascii text
unfolding first_ascii
first_ascii_at [] first rest some e small d = absurd (omega arith)
first_ascii_at (c ∷ cs) first rest some e small d = rw (lt-ltb c 128 (omega arith), e, d) refl

pub first_ascii_none : (text : List ℕ) → (0 < length text → 128 ≤ get_or text 0 0) → None ≡ first_ascii text
unfolding first_ascii
first_ascii_none [] h = refl
first_ascii_none (c ∷ cs) h = let big : 128 ≤ c = h (omega arith) in rw (le-ltb c 128 big) refl

pub behind_at : (c : ℕ) (text rest : List ℕ) → 0 < length text → get_or text 0 0 ≡ c → rest ≡ drop 1 text → Some rest ≡ behind c text
unfolding behind
behind_at c [] rest some e d = absurd (omega arith)
behind_at c (x ∷ xs) rest some e d = rw (eq-eqb x c e, d) refl

pub behind_not : (c : ℕ) (text : List ℕ) → (0 < length text → get_or text 0 0 ≢ c) → None ≡ behind c text
unfolding behind
behind_not c [] h = refl
behind_not c (x ∷ xs) h = rw (ne_eqb x c (h (omega arith))) refl

pub run_hexadecimal : (text : List ℕ) (p : List ℕ × List ℕ) → p ≡ run (in_class Hexadecimal) text → AllDigits 16 p.0
run_hexadecimal text p e = pass_digits 16 p.0 (rw e (run_found (in_class Hexadecimal) text).passes)

-- the byte behind a front
pub get_at : (xs ys : List ℕ) (c : ℕ) → get_or (xs ++ c ∷ ys) (length xs) 0 ≡ c
get_at [] ys c = refl
get_at (x ∷ xs) ys c = get_at xs ys c

-- Escapes: what is read is spelled so, and what is spelled so is read.
use Rattle.std.proofs.Common.{◌≡◌, ◌≢◌, ◌<◌, ◌≤◌, ℕ, Bool, true, false, cond, ◌&&◌, ltb, leb, List, [], ◌∷◌, ◌++◌, length, refl, sym, ap, subst, ◌∙◌, arith, Option, Some, None, option_map, inl, inr, append_assoc}
use Rattle.std.specs.Char.{IsScalar}
use Rattle.std.specs.Str.Parse.{AllDigits, digits_value}
use Rattle.std.proofs.lemmas.Bool.{and_parts, cases_lt, ltb-true, leb-true, lt-ltb, le-leb, ne_eqb}
use Rattle.std.proofs.lemmas.Option.{same_Some, none-some}
use Rattle.defmt_grammar.specs.Cut.{behind}
use Rattle.defmt_grammar.proofs.Cuts.{behind_again, behind_found}
use Rattle.defmt_shapes.specs.declared.parts.Class.TheVariants.{Hexadecimal}
use Rattle.defmt_shapes.specs.Shape.{IsNumber, escaped, IsEscape}
use Rattle.defmt_shapes.specs.Runs.{in_class, run, either, first_ascii}
use Rattle.defmt_shapes.specs.Escapes.{scalar_of, closed_number, braced, number_escape, letter_escape, escape_of}
use Rattle.defmt_shapes.proofs.RunLaws.{run_found, run_again, digits_pass, pass_digits}
use Rattle.defmt_shapes.proofs.NumberLaws.{scalar_found, scalar_again}

-- ---- what follows a first character

pub behind_other : (c d : ℕ) (rest : List ℕ) → d ≢ c → behind c (d ∷ rest) ≡ None
unfolding behind
behind_other c d rest n = rw (ne_eqb d c n) refl

pub either_found : {A : Type 0} (o : Option (List ℕ)) (f : List ℕ → Option A) (x : A) → either o f None ≡ Some x → (rest : List ℕ) × (o ≡ Some rest) × (f rest ≡ Some x)
either_found None f x h = absurd cc
either_found (Some rest) f x h = (rest, refl, h)

pub mapped : {A B : Type 0} (o : Option A) (f : A → B) (y : B) → option_map f o ≡ Some y → (x : A) × (o ≡ Some x) × (f x ≡ y)
mapped None f y h = absurd cc
mapped (Some x) f y h = (x, refl, same_Some (f x) y h)

-- ---- escapes

far_letter : (letter : ℕ) → 128 ≤ letter → escaped letter ≡ None
far_letter letter h = rw (ne_eqb letter 110 (λ e. omega arith), ne_eqb letter 114 (λ e. omega arith), ne_eqb letter 116 (λ e. omega arith), ne_eqb letter 92 (λ e. omega arith), ne_eqb letter 34 (λ e. omega arith), ne_eqb letter 39 (λ e. omega arith)) refl

letter_small : (letter c : ℕ) → escaped letter ≡ Some c → letter < 128
letter_small letter c h = elim (cases_lt letter 128) [ inl lt ↦ lt | inr le ↦ absurd (none-some c (sym (far_letter letter le) ∙ h)) ]

letter_no_u : (letter c : ℕ) → escaped letter ≡ Some c → letter ≢ 117
letter_no_u letter c h e = none-some c (subst (λ (l : ℕ). escaped l ≡ Some c) e h)

first_again : (c : ℕ) (rest : List ℕ) → c < 128 → first_ascii (c ∷ rest) ≡ Some (c, rest)
unfolding first_ascii
first_again c rest small = rw (lt-ltb c 128 small) refl

first_test : (b : Bool) (c : ℕ) (cs : List ℕ) (p : ℕ × List ℕ) → cond b (Some (c, cs)) None ≡ Some p → c ∷ cs ≡ p.0 ∷ p.1
first_test true c cs p h = let e : (c, cs) ≡ p = same_Some (c, cs) p h in rw (← e) refl
first_test false c cs p h = absurd (none-some p h)

first_found : (text : List ℕ) (p : ℕ × List ℕ) → first_ascii text ≡ Some p → text ≡ p.0 ∷ p.1
unfolding first_ascii
first_found [] p h = absurd (none-some p h)
first_found (c ∷ cs) p h = first_test (ltb c 128) c cs p h

letter_again : (letter c : ℕ) (rest : List ℕ) → escaped letter ≡ Some c → escape_of (letter ∷ rest) ≡ Some (c, rest)
unfolding escape_of
letter_again letter c rest h = rw (behind_other 117 letter rest (letter_no_u letter c h), first_again letter rest (letter_small letter c h), h) refl

braced_again : (digits rest : List ℕ) (c : ℕ) → IsNumber 16 digits c → length digits ≤ 6 → IsScalar c → braced (digits, 125 ∷ rest) ≡ Some (c, rest)
braced_again digits rest c n few scalar = rw (lt-ltb 0 (length digits) n.some, le-leb (length digits) 6 few, behind_again 125 rest, n.value, scalar_again c scalar) refl

number_again : (digits rest : List ℕ) (c : ℕ) → IsNumber 16 digits c → length digits ≤ 6 → IsScalar c → escape_of (117 ∷ 123 ∷ (digits ++ 125 ∷ rest)) ≡ Some (c, rest)
unfolding escape_of number_escape
number_again digits rest c n few scalar =
    rw (behind_again 117 (123 ∷ (digits ++ 125 ∷ rest)), behind_again 123 (digits ++ 125 ∷ rest), run_again (in_class Hexadecimal) digits (125 ∷ rest) (digits_pass 16 digits n.all) refl)
    (braced_again digits rest c n few scalar)

-- an escape is read so
pub escape_again : (front rest : List ℕ) (c : ℕ) → IsEscape front c → (more : List ℕ) × (front ++ rest ≡ 92 ∷ more) × (escape_of more ≡ Some (c, rest))
escape_again front rest c (inl e) = (e.letter ∷ rest, ap (λ (t : List ℕ). t ++ rest) e.text_is, letter_again e.letter c rest e.stands_for)
escape_again front rest c (inr e) = (
  117 ∷ 123 ∷ (e.digits ++ 125 ∷ rest),
  ap (λ (t : List ℕ). t ++ rest) e.text_is ∙ ap (λ (t : List ℕ). 92 ∷ 117 ∷ 123 ∷ t) (append_assoc e.digits (125 ∷ []) rest),
  number_again e.digits rest c e.number e.few e.scalar,
)

pub guarded : {A : Type 0} (b : Bool) (o : Option A) (x : A) → cond b o None ≡ Some x → (b ≡ true) × (o ≡ Some x)
guarded true o x h = (refl, h)
guarded false o x h = absurd (none-some x h)

closed_found : (digits : List ℕ) (o : Option (List ℕ)) (p : ℕ × List ℕ) → closed_number digits o ≡ Some p → (o ≡ Some p.1) × (digits_value 16 digits ≡ p.0) × IsScalar p.0
closed_found digits None p h = absurd (none-some p h)
closed_found digits (Some rest) p h =
    let m = mapped (scalar_of (digits_value 16 digits)) (λ (c : ℕ). (c, rest)) p h in
    let s = scalar_found (digits_value 16 digits) m.0 m.1 in
    let first : m.0 ≡ p.0 = ap (λ (q : ℕ × List ℕ). q.0) m.2 in
    (ap (λ (q : ℕ × List ℕ). Some q.1) m.2, s.0 ∙ first, subst IsScalar (s.0 ∙ first) s.1)

braced_found : (more digits after : List ℕ) (p : ℕ × List ℕ) → more ≡ digits ++ after → AllDigits 16 digits → braced (digits, after) ≡ Some p → (front : List ℕ) × IsEscape front p.0 × (92 ∷ 117 ∷ 123 ∷ more ≡ front ++ p.1)
braced_found more digits after p e all h =
    let g = guarded (ltb 0 (length digits) && leb (length digits) 6) (closed_number digits (behind 125 after)) p h in
    let sizes = and_parts (ltb 0 (length digits)) (leb (length digits) 6) g.0 in
    let k = closed_found digits (behind 125 after) p g.1 in
    let tail : after ≡ 125 ∷ p.1 = behind_found 125 after p.1 k.0 in (
      92 ∷ 117 ∷ 123 ∷ (digits ++ 125 ∷ []),
      inr (record { digits = digits; number = record { some = ltb-true 0 (length digits) sizes.0; all = all; value = k.1 }; few = leb-true (length digits) 6 sizes.1; scalar = k.2; text_is = refl }),
      ap (λ (t : List ℕ). 92 ∷ 117 ∷ 123 ∷ t) (e ∙ ap (λ (t : List ℕ). digits ++ t) tail ∙ sym (append_assoc digits (125 ∷ []) p.1)),
    )

number_found : (more : List ℕ) (p : ℕ × List ℕ) → number_escape more ≡ Some p → (front : List ℕ) × IsEscape front p.0 × (92 ∷ 117 ∷ more ≡ front ++ p.1)
unfolding number_escape
number_found more p h =
    let k = either_found (behind 123 more) (λ (t : List ℕ). braced (run (in_class Hexadecimal) t)) p h in
    let r = run_found (in_class Hexadecimal) k.0 in
    let b = braced_found k.0 (run (in_class Hexadecimal) k.0).0 (run (in_class Hexadecimal) k.0).1 p r.text_is (pass_digits 16 (run (in_class Hexadecimal) k.0).0 r.passes) k.2 in
    (b.0, b.1, ap (λ (t : List ℕ). 92 ∷ 117 ∷ t) (behind_found 123 more k.0 k.1) ∙ b.2)

letter_found : (more : List ℕ) (o : Option (ℕ × List ℕ)) (p : ℕ × List ℕ) → first_ascii more ≡ o → letter_escape o ≡ Some p → (front : List ℕ) × IsEscape front p.0 × (92 ∷ more ≡ front ++ p.1)
letter_found more None p e h = absurd (none-some p h)
letter_found more (Some q) p e h =
    let m = mapped (escaped q.0) (λ (c : ℕ). (c, q.1)) p h in
    let first : m.0 ≡ p.0 = ap (λ (r : ℕ × List ℕ). r.0) m.2 in
    let rest : q.1 ≡ p.1 = ap (λ (r : ℕ × List ℕ). r.1) m.2 in (
      92 ∷ q.0 ∷ [],
      inl (record { letter = q.0; stands_for = m.1 ∙ ap (λ (c : ℕ). Some c) first; text_is = refl }),
      ap (λ (t : List ℕ). 92 ∷ t) (first_found more q e ∙ ap (λ (t : List ℕ). q.0 ∷ t) rest),
    )

escape_found_at : (more : List ℕ) (o : Option (List ℕ)) (p : ℕ × List ℕ) → behind 117 more ≡ o → either o number_escape (letter_escape (first_ascii more)) ≡ Some p → (front : List ℕ) × IsEscape front p.0 × (92 ∷ more ≡ front ++ p.1)
escape_found_at more None p e h = letter_found more (first_ascii more) p refl h
escape_found_at more (Some after) p e h =
    let k = number_found after p h in
    (k.0, k.1, ap (λ (t : List ℕ). 92 ∷ t) (behind_found 117 more after e) ∙ k.2)

-- what is read is an escape
pub escape_found : (more : List ℕ) (p : ℕ × List ℕ) → escape_of more ≡ Some p → (front : List ℕ) × IsEscape front p.0 × (92 ∷ more ≡ front ++ p.1)
unfolding escape_of
escape_found more p h = escape_found_at more (behind 117 more) p refl h

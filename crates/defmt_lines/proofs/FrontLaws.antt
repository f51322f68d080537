-- What stands in front of most statements.
use Rattle.std.proofs.Common.{◌≡◌, ◌<◌, ◌≤◌, ◌+◌, ◌++◌, ℕ, zero, suc, List, [], ◌∷◌, length, get_or, drop, Option, Some, refl, ap, ◌∙◌, arith}
use Rattle.std.specs.Prelude.{codes, unwrap_or}
use Rattle.std.specs.Fmt.{decimal}
use Rattle.std.proofs.lemmas.Fmt.{decimal_digit}
use Rattle.defmt_grammar.specs.Cut.{cut}
use Rattle.defmt_lines.specs.Line.{Line, act, other, act_of, field_and_rest, line_by_word, line_of_text}
use Rattle.defmt_lines.specs.Number.{is_digits, within, writer_of}
use Rattle.defmt_lines.specs.declared.form.Form.TheVariants as forms

abbrev Text : Type 0
Text = List ℕ

-- four characters and what follows them
pub four_parts : (text behind : Text) (a b c d : ℕ) → 4 ≤ length text → behind ≡ drop 4 text → get_or text 0 0 ≡ a → get_or text 1 0 ≡ b → get_or text 2 0 ≡ c → get_or text 3 0 ≡ d → text ≡ a ∷ b ∷ c ∷ d ∷ behind
four_parts [] behind a b c d le is p q r s = absurd (omega (arith, le))
four_parts (x ∷ []) behind a b c d le is p q r s = absurd (omega (arith, le))
four_parts (x ∷ y ∷ []) behind a b c d le is p q r s = absurd (omega (arith, le))
four_parts (x ∷ y ∷ z ∷ []) behind a b c d le is p q r s = absurd (omega (arith, le))
four_parts (x ∷ y ∷ z ∷ u ∷ more) behind a b c d le is p q r s = rw (is, ← p, ← q, ← r, ← s) refl

-- a statement of a writer of one digit
pub said : ℕ → Text → Option Line
said n behind = Some (act forms.Statement (Some n) (field_and_rest behind).0 (field_and_rest behind).1)

by_digit : (n : ℕ) (behind : Text) → n < 8 → said n behind ≡ line_by_word (119 ∷ 32 ∷ (48 + n) ∷ 32 ∷ behind)
unfolding said line_by_word cut act_of writer_of is_digits within
by_digit zero behind lt = refl
by_digit (suc zero) behind lt = refl
by_digit (suc (suc zero)) behind lt = refl
by_digit (suc (suc (suc zero))) behind lt = refl
by_digit (suc (suc (suc (suc zero)))) behind lt = refl
by_digit (suc (suc (suc (suc (suc zero))))) behind lt = refl
by_digit (suc (suc (suc (suc (suc (suc zero)))))) behind lt = refl
by_digit (suc (suc (suc (suc (suc (suc (suc zero))))))) behind lt = refl
by_digit (suc (suc (suc (suc (suc (suc (suc (suc n)))))))) behind lt = absurd (omega (arith, lt))

-- the text of a statement's front, whose digit stands there as its code
pub front_is : (behind : Text) (n : ℕ) → n < 8 → codes "w " ++ (decimal n ++ (codes " " ++ behind)) ≡ 119 ∷ 32 ∷ (48 + n) ∷ 32 ∷ behind
front_is behind n lt = ap (λ (digits : Text). codes "w " ++ (digits ++ (codes " " ++ behind))) (decimal_digit n (omega (arith, lt)))

pub statement_said : (text behind field rest : Text) (n : ℕ) → text ≡ codes "w " ++ (decimal n ++ (codes " " ++ behind)) → n < 8 → field ≡ (field_and_rest behind).0 → rest ≡ (field_and_rest behind).1
    → act forms.Statement (Some n) field rest ≡ line_of_text text
unfolding said
statement_said text behind field rest n is lt f r = rw (is ∙ front_is behind n lt, f, r) (ap (λ (o : Option Line). unwrap_or o other) (by_digit n behind lt))

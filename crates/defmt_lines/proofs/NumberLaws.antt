-- What is read as a number is one, and a number is read as it.
use Rattle.std.proofs.Common.{◌≡◌, ◌≤◌, ◌<◌, ◌&&◌, ℕ, Bool, true, false, cond, leb, not, List, [], ◌∷◌, length, Option, Some, None, refl, sym, ◌∙◌, ap, subst, arith}
use Rattle.std.specs.Str.Parse.{digits_value}
use Rattle.std.proofs.lemmas.Bool.{eqb-false, leb-true, lt-ltb}
use Rattle.std.proofs.lemmas.Bool.Decides.{nat_tests}
use Rattle.std.proofs.lemmas.Option.{same_Some}
use Rattle.defmt_grammar.specs.Cut.{IsDecimal}
use Rattle.defmt_lines.proofs.Numbers.{digits_parts}
use Rattle.defmt_lines.specs.Number.{HasNoLeadingZero, IsNumber, IsWriter, has_leading_zero, is_digits, number_within, within, writer_of}

leb_when : (m n : ℕ) → m ≤ n → leb m n ≡ true
leb_when m n le = grind (arith, nat_tests)

leb_unless : (m n : ℕ) → n < m → leb m n ≡ false
leb_unless m n lt = grind (arith, nat_tests)

lt_when : (m n : ℕ) → leb m n ≡ false → n < m
lt_when m n is = grind (arith, nat_tests)

-- ---- digits

digits_again : (text : List ℕ) (n : ℕ) → IsDecimal text n → is_digits text ≡ true
unfolding is_digits
digits_again text n d = rw (lt-ltb 0 (length text) d.some, d.digits) refl

digits_found : (text : List ℕ) → is_digits text ≡ true → IsDecimal text (digits_value 10 text)
digits_found text e = let p = digits_parts text e in record { some = p.0; digits = p.1; value = refl }

-- ---- a range

tests_found : (low high v n : ℕ) (a b : Bool) → leb low v ≡ a → leb v high ≡ b → cond (a && b) (Some v) None ≡ Some n → (v ≡ n) × (low ≤ v) × (v ≤ high)
tests_found low high v n true true p q e = (same_Some v n e, leb-true low v p, leb-true v high q)
tests_found low high v n true false p q e = absurd (cc e)
tests_found low high v n false b p q e = absurd (cc e)

within_found : (low high n : ℕ) (text : List ℕ) → within low high text ≡ Some n → (digits_value 10 text ≡ n) × (low ≤ digits_value 10 text) × (digits_value 10 text ≤ high)
unfolding within
within_found low high n text e = tests_found low high (digits_value 10 text) n (leb low (digits_value 10 text)) (leb (digits_value 10 text) high) refl refl e

within_again : (low high n : ℕ) (text : List ℕ) → digits_value 10 text ≡ n → low ≤ n → n ≤ high → within low high text ≡ Some n
unfolding within
within_again low high n text is least most =
    let low_test : leb low (digits_value 10 text) ≡ true = leb_when low (digits_value 10 text) (omega (arith, is, least)) in
    let high_test : leb (digits_value 10 text) high ≡ true = leb_when (digits_value 10 text) high (omega (arith, is, most)) in
    rw (low_test, high_test) (ap (λ (v : ℕ). let o : Option ℕ = Some v in o) is)

-- ---- the number of a writer

tests_above : (v high : ℕ) (a b : Bool) → leb 0 v ≡ a → leb v high ≡ b → cond (a && b) (Some v) None ≡ None → high < v
tests_above v high true true p q e = absurd (cc e)
tests_above v high true false p q e = lt_when v high q
tests_above v high false b p q e = absurd (omega (arith, lt_when 0 v p))

above_found : (text : List ℕ) → within 0 7 text ≡ None → 7 < digits_value 10 text
unfolding within
above_found text e = tests_above (digits_value 10 text) 7 (leb 0 (digits_value 10 text)) (leb (digits_value 10 text) 7) refl refl e

above_again : (text : List ℕ) → 7 < digits_value 10 text → within 0 7 text ≡ None
unfolding within
above_again text more =
    let low_test : leb 0 (digits_value 10 text) ≡ true = leb_when 0 (digits_value 10 text) (omega arith) in
    let high_test : leb (digits_value 10 text) 7 ≡ false = leb_unless (digits_value 10 text) 7 more in
    rw (low_test, high_test) refl

writer_by : (text : List ℕ) (writer : Option ℕ) → IsDecimal text (digits_value 10 text) → within 0 7 text ≡ writer → IsWriter text writer
writer_by text (Some n) d is =
    let w = within_found 0 7 n text is in (subst (λ (v : ℕ). IsDecimal text v) w.0 d, omega (arith, w.0, w.2))
writer_by text None d is = (digits_value 10 text, d, above_found text is)

writer_test : (b : Bool) (text : List ℕ) (writer : Option ℕ) → is_digits text ≡ b → cond b (Some (within 0 7 text)) None ≡ Some writer → IsWriter text writer
writer_test true text writer digits e = writer_by text writer (digits_found text digits) (same_Some (within 0 7 text) writer e)
writer_test false text writer digits e = absurd (cc e)

pub writer_found : (text : List ℕ) (writer : Option ℕ) → writer_of text ≡ Some writer → IsWriter text writer
unfolding writer_of
writer_found text writer e = writer_test (is_digits text) text writer refl e

pub writer_again : (text : List ℕ) (writer : Option ℕ) → IsWriter text writer → writer_of text ≡ Some writer
unfolding writer_of
writer_again text (Some n) (d, le) =
    rw (digits_again text n d) (ap (λ (o : Option ℕ). let p : Option (Option ℕ) = Some o in p) (within_again 0 7 n text d.value (omega arith) le))
writer_again text None (n, d, more) =
    rw (digits_again text n d) (ap (λ (o : Option ℕ). let p : Option (Option ℕ) = Some o in p) (above_again text (omega (arith, d.value, more))))

-- ---- the number of a setting

zero_found : (text : List ℕ) → has_leading_zero text ≡ false → HasNoLeadingZero text
unfolding has_leading_zero
zero_found [] e = tt
zero_found (c ∷ []) e = tt
zero_found (c ∷ d ∷ more) e = λ is. eqb-false c 48 e is

zero_again : (text : List ℕ) → HasNoLeadingZero text → has_leading_zero text ≡ false
unfolding has_leading_zero
zero_again [] h = refl
zero_again (c ∷ []) h = refl
zero_again (c ∷ d ∷ more) h = grind (arith, nat_tests)

number_test : (low high n : ℕ) (text : List ℕ) (a b : Bool) → is_digits text ≡ a → has_leading_zero text ≡ b → cond (a && not b) (within low high text) None ≡ Some n → IsNumber low high text n
number_test low high n text true false digits zero e =
    let w = within_found low high n text e in record {
      decimal = subst (λ (v : ℕ). IsDecimal text v) w.0 (digits_found text digits);
      plain = zero_found text zero;
      least = omega (arith, w.0, w.1);
      most = omega (arith, w.0, w.2);
    }
number_test low high n text true true digits zero e = absurd (cc e)
number_test low high n text false b digits zero e = absurd (cc e)

pub number_found : (low high n : ℕ) (text : List ℕ) → number_within low high text ≡ Some n → IsNumber low high text n
unfolding number_within
number_found low high n text e = number_test low high n text (is_digits text) (has_leading_zero text) refl refl e

pub number_again : (low high n : ℕ) (text : List ℕ) → IsNumber low high text n → number_within low high text ≡ Some n
unfolding number_within
number_again low high n text h =
    rw (digits_again text n h.decimal, zero_again text h.plain) (within_again low high n text h.decimal.value h.least h.most)

-- a number is one number
pub one_number : (low high m n : ℕ) (text : List ℕ) → IsNumber low high text m → IsNumber low high text n → m ≡ n
one_number low high m n text p q = sym p.decimal.value ∙ q.decimal.value

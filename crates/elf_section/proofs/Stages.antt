-- From row to row.
use Rattle.std.proofs.Common.{◌≡◌, ◌≤◌, ◌<◌, ◌+◌, inl, inr, ℕ, zero, suc, List, refl, sym, ap, subst, ◌∙◌, arith}
use Rattle.std.proofs.lemmas.Bool.{cases_lt}
use Rattle.byte_images.proofs.FirstLaws.{one_first_check}
use Rattle.elf_section.specs.Checks.{Check, is_elf, has_class, is_little, has_header, has_sections, has_entry_size, has_section_headers, has_names, has_section_name, has_defmt, has_symbols, has_table, has_plain_strings, has_strings, has_symbol_name, has_version, has_encoding, has_profile, place, Holds, refusal, Refusal, Passes, Refused, Passed}

-- ---- checks by their places

-- the check with this place
abbrev pub check_at : ℕ → ℕ → Check
check_at zero i = is_elf
check_at (suc zero) i = has_class
check_at (suc (suc zero)) i = is_little
check_at (suc (suc (suc zero))) i = has_header
check_at (suc (suc (suc (suc zero)))) i = has_sections
check_at (suc (suc (suc (suc (suc zero))))) i = has_entry_size
check_at (suc (suc (suc (suc (suc (suc zero)))))) i = has_section_headers
check_at (suc (suc (suc (suc (suc (suc (suc zero))))))) i = has_names
check_at (suc (suc (suc (suc (suc (suc (suc (suc zero)))))))) i = has_section_name i
check_at (suc (suc (suc (suc (suc (suc (suc (suc (suc zero))))))))) i = has_defmt
check_at (suc (suc (suc (suc (suc (suc (suc (suc (suc (suc zero)))))))))) i = has_symbols
check_at (suc (suc (suc (suc (suc (suc (suc (suc (suc (suc (suc zero))))))))))) i = has_table i
check_at (suc (suc (suc (suc (suc (suc (suc (suc (suc (suc (suc (suc zero)))))))))))) i = has_plain_strings i
check_at (suc (suc (suc (suc (suc (suc (suc (suc (suc (suc (suc (suc (suc zero))))))))))))) i = has_strings i
check_at (suc (suc (suc (suc (suc (suc (suc (suc (suc (suc (suc (suc (suc (suc zero)))))))))))))) i = has_symbol_name i
check_at (suc (suc (suc (suc (suc (suc (suc (suc (suc (suc (suc (suc (suc (suc (suc zero))))))))))))))) i = has_version
check_at (suc (suc (suc (suc (suc (suc (suc (suc (suc (suc (suc (suc (suc (suc (suc (suc zero)))))))))))))))) i = has_encoding
check_at (suc (suc (suc (suc (suc (suc (suc (suc (suc (suc (suc (suc (suc (suc (suc (suc (suc n))))))))))))))))) i = has_profile

pub check_there : (check : Check) → check_at (place check).row (place check).index ≡ check
check_there is_elf = refl
check_there has_class = refl
check_there is_little = refl
check_there has_header = refl
check_there has_sections = refl
check_there has_entry_size = refl
check_there has_section_headers = refl
check_there has_names = refl
check_there (has_section_name i) = refl
check_there has_defmt = refl
check_there has_symbols = refl
check_there (has_table i) = refl
check_there (has_plain_strings i) = refl
check_there (has_strings i) = refl
check_there (has_symbol_name i) = refl
check_there has_version = refl
check_there has_encoding = refl
check_there has_profile = refl

-- the row of a check, if its row is n
pub at_row : (check : Check) (n : ℕ) → (place check).row ≡ n → check_at n (place check).index ≡ check
at_row check n e = ap (λ (r : ℕ). check_at r (place check).index) (sym e) ∙ check_there check

-- two checks with one place are one
pub same_place : (a b : Check) → (place a).row ≡ (place b).row → (place a).index ≡ (place b).index → a ≡ b
same_place a b r i = sym (check_there a) ∙ ap (λ (n : ℕ). check_at n (place a).index) r ∙ ap (check_at (place b).row) i ∙ check_there b

-- ---- one row more

pub passed_none : (file : List ℕ) → Passed file 0
passed_none file = record { all = λ check l. absurd (omega arith) }

pub passed_more : (file : List ℕ) (n : ℕ) → Passed file n → ((i : ℕ) → Holds file (check_at n i)) → Passed file (n + 1)
passed_more file n p h = record {
  all = λ check l. elim (cases_lt (place check).row n) [
    | inl before ↦ p.all check before
    | inr le ↦ subst (Holds file) (at_row check n (omega arith)) (h (place check).index)
  ];
}

pub passed_fewer : (file : List ℕ) (m n : ℕ) → m ≤ n → Passed file n → Passed file m
passed_fewer file m n le p = record { all = λ check l. p.all check (omega arith) }

-- each row is below 18
below : (check : Check) → (place check).row < 18
below is_elf = omega arith
below has_class = omega arith
below is_little = omega arith
below has_header = omega arith
below has_sections = omega arith
below has_entry_size = omega arith
below has_section_headers = omega arith
below has_names = omega arith
below (has_section_name i) = omega arith
below has_defmt = omega arith
below has_symbols = omega arith
below (has_table i) = omega arith
below (has_plain_strings i) = omega arith
below (has_strings i) = omega arith
below (has_symbol_name i) = omega arith
below has_version = omega arith
below has_encoding = omega arith
below has_profile = omega arith

pub passes : (file : List ℕ) → Passed file 18 → Passes file
passes file p check = p.all check (below check)

-- ---- refusals

-- the first check of its row fails
pub refuse : (file : List ℕ) (check : Check) → Passed file (place check).row → (place check).index ≡ 0 → (Holds file check → ⊥) → Refused file (refusal file check)
refuse file check p zero_index fails = record {
  check = check;
  first = record {
    fails = fails;
    earlier = λ other b. elim b [ inl l ↦ p.all other l | inr same ↦ absurd (let l = same.1 in omega arith) ];
  };
  is = refl;
}

-- a check of a row fails, and those before it in the row hold
pub refuse_at : (file : List ℕ) (n i : ℕ) → Passed file n → (place (check_at n i)).row ≡ n → (place (check_at n i)).index ≡ i → ((j : ℕ) → j < i → Holds file (check_at n j)) → (Holds file (check_at n i) → ⊥) → Refused file (refusal file (check_at n i))
refuse_at file n i p row index before fails = record {
  check = check_at n i;
  first = record {
    fails = fails;
    earlier = λ other b. elim b [
      | inl l ↦ p.all other (omega (arith, l, row))
      | inr same ↦ subst (Holds file) (at_row other n (same.0 ∙ row)) (before (place other).index (let l = same.1 in omega (arith, l, index)))
    ];
  };
  is = refl;
}

-- ---- exactly one answer

pub one_refusal : (file : List ℕ) (f g : Refusal) → Refused file f → Refused file g → f ≡ g
one_refusal file f g a b = a.is ∙ ap (refusal file) (one_first_check same_place a.check b.check a.first b.first) ∙ sym b.is

pub never_both : (file : List ℕ) (f : Refusal) → Passes file → Refused file f → ⊥
never_both file f p r = r.first.fails (p r.check)

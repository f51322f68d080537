-- Texts that are looked through block by block.
use Rattle.std.proofs.Common.{◌≡◌, ◌≤◌, ◌+◌, ◌-◌, ◌==◌, ◌&&◌, ◌||◌, ℕ, Bool, true, false, not, List, [], ◌∷◌, ◌++◌, length, take, drop, refl, sym, ◌∙◌, ap, arith}
use Rattle.std.specs.List.{list_all}
use Rattle.std.specs.Prelude.{nat_le, nat_lt}
use Rattle.std.proofs.lemmas.Bool.Decides.{nat_tests}
use Rattle.std.proofs.lemmas.Bool.{and_parts, false≢true}
use Rattle.std.proofs.lemmas.List.{append_assoc, drop-append-le, length-append, take-append-drop}
use Rattle.std.proofs.lemmas.List.Folds.{list_all-append}
use Rattle.json.specs.Print.{escape}
use Rattle.defmt_forms.specs.Tamed.{is_bare, is_other, is_plain, is_printable, is_quiet}
use Rattle.defmt_forms.specs.Terminal.{tame}
use Rattle.defmt_forms.proofs.Runs.{all_bare, all_plain}

-- this much of a text is left, and where it is said so each byte in front passes the test, and each of the last sixteen
pub record Passed (test : ℕ → Bool) (text rest : List ℕ) (so : Bool) : Type 0 where
  pub front : List ℕ
  pub whole : text ≡ front ++ rest
  pub passed : so ≡ true → list_all test front ≡ true
  pub last : so ≡ true → list_all test (drop (length text - 16) text) ≡ true

both : (a b : Bool) → a ≡ true → b ≡ true → (a && b) ≡ true
both true b x y = y
both false b x y = x

module _ (test : ℕ → Bool) (text : List ℕ) where
  -- nothing of it is looked at but the last block
  pub passed_none : (last : List ℕ) (so : Bool) → last ≡ drop (length text - 16) text → so ≡ list_all test last → Passed test text text so
  passed_none last so is goes = record {
    front = [];
    whole = refl;
    passed = λ held. refl;
    last = λ held. ap (list_all test) (sym is) ∙ sym goes ∙ held;
  }

  -- one block more
  pub passed_more : (rest block behind : List ℕ) (so next : Bool) → Passed test text rest so → block ≡ take 16 rest → behind ≡ drop 16 rest
      → next ≡ (so && list_all test block) → Passed test text behind next
  passed_more rest block behind so next it block_is behind_is goes = record {
    front = it.front ++ block;
    whole = it.whole ∙ ap (λ (l : List ℕ). it.front ++ l) (sym (take-append-drop 16 rest) ∙ ap (λ (l : List ℕ). l ++ drop 16 rest) (sym block_is) ∙ ap (λ (l : List ℕ). block ++ l) (sym behind_is))
        ∙ sym (append_assoc it.front block behind);
    passed = λ held.
        let parts = and_parts so (list_all test block) (sym goes ∙ held) in
        list_all-append test it.front block ∙ both (list_all test it.front) (list_all test block) (it.passed parts.0) parts.1;
    last = λ held. it.last (and_parts so (list_all test block) (sym goes ∙ held)).0;
  }

  -- less than a block is left
  pub passed_all : (rest : List ℕ) (so : Bool) → 16 ≤ length text → length rest ≤ 16 → Passed test text rest so → so ≡ true → list_all test text ≡ true
  passed_all rest so long short it held =
      let n : ℕ = length text - 16 in
      let sum : length text ≡ length it.front + length rest = ap length it.whole ∙ length-append it.front rest in
      let at : drop n text ≡ drop n it.front ++ rest = ap (drop n) it.whole ∙ drop-append-le n it.front rest (omega (arith, sum, long, short)) in
      let left = (and_parts (list_all test (drop n it.front)) (list_all test rest) (sym (list_all-append test (drop n it.front) rest) ∙ ap (list_all test) (sym at) ∙ it.last held)).1 in
      ap (list_all test) it.whole ∙ list_all-append test it.front rest ∙ both (list_all test it.front) (list_all test rest) (it.passed held) left

  -- each front of a text that passes does, and what stands behind one
  parted : (count : ℕ) → list_all test text ≡ true → (list_all test (take count text) ≡ true) × (list_all test (drop count text) ≡ true)
  parted count h =
      and_parts (list_all test (take count text)) (list_all test (drop count text))
      (sym (list_all-append test (take count text) (drop count text)) ∙ ap (list_all test) (take-append-drop count text) ∙ h)

-- ---- texts in JSON

not_low : (byte : ℕ) → nat_le 32 byte ≡ true → not (nat_lt byte 32) ≡ true
not_low byte e = grind (arith, nat_tests)

-- no byte of a text needs an escape, where none is low, a quote or a backslash
pub bare_by : (text : List ℕ) → list_all (nat_le 32) text ≡ true → list_all (is_other 34) text ≡ true → list_all (is_other 92) text ≡ true
    → list_all is_bare text ≡ true
bare_by [] low quote slash = refl
bare_by (c ∷ cs) low quote slash =
    let l = and_parts (nat_le 32 c) (list_all (nat_le 32) cs) low in
    let q = and_parts (is_other 34 c) (list_all (is_other 34) cs) quote in
    let s = and_parts (is_other 92 c) (list_all (is_other 92) cs) slash in
    both (is_bare c) (list_all is_bare cs) (both (not (nat_lt c 32)) _ (not_low c l.0) (both (is_other 34 c) (is_other 92 c) q.0 s.0)) (bare_by cs l.1 q.1 s.1)

pub bare_front : (text : List ℕ) (count : ℕ) → list_all is_bare text ≡ true → escape (take count text) ≡ take count text
bare_front text count h = all_bare (take count text) (parted is_bare text count h).0

pub bare_rest : (text : List ℕ) (count : ℕ) → list_all is_bare text ≡ true → escape (drop count text) ≡ drop count text
bare_rest text count h = all_bare (drop count text) (parted is_bare text count h).1

-- ---- texts for a terminal

quiet_by : (low tab seven two : Bool) → (not low && (not seven && not two)) ≡ true → (not ((low && not tab) || seven) && not two) ≡ true
quiet_by false tab false false e = refl
quiet_by false tab false true e = e
quiet_by false tab true two e = e
quiet_by true tab seven two e = absurd (false≢true e)

quiet_is_plain : (byte : ℕ) → is_quiet byte ≡ true → is_plain byte ≡ true
quiet_is_plain byte e = quiet_by (nat_lt byte 32) (byte == 9 || byte == 10) (byte == 127) (byte == 194) e

quiet_are_plain : (text : List ℕ) → list_all is_quiet text ≡ true → list_all is_plain text ≡ true
quiet_are_plain [] h = refl
quiet_are_plain (c ∷ cs) h =
    let parts = and_parts (is_quiet c) (list_all is_quiet cs) h in
    both (is_plain c) (list_all is_plain cs) (quiet_is_plain c parts.0) (quiet_are_plain cs parts.1)

printable_is_quiet : (byte : ℕ) → is_printable byte ≡ true → is_quiet byte ≡ true
printable_is_quiet byte e = grind (arith, nat_tests)

pub printable_are_quiet : (text : List ℕ) → list_all is_printable text ≡ true → list_all is_quiet text ≡ true
printable_are_quiet [] h = refl
printable_are_quiet (c ∷ cs) h =
    let parts = and_parts (is_printable c) (list_all is_printable cs) h in
    both (is_quiet c) (list_all is_quiet cs) (printable_is_quiet c parts.0) (printable_are_quiet cs parts.1)

pub quiet_front : (text : List ℕ) (count : ℕ) → list_all is_quiet text ≡ true → tame (take count text) ≡ take count text
quiet_front text count h = all_plain (take count text) (quiet_are_plain (take count text) (parted is_quiet text count h).0)

pub quiet_rest : (text : List ℕ) (count : ℕ) → list_all is_quiet text ≡ true → tame (drop count text) ≡ drop count text
quiet_rest text count h = all_plain (drop count text) (quiet_are_plain (drop count text) (parted is_quiet text count h).1)

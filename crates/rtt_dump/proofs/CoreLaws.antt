-- The first check of a core file that doesn't hold, from its first flaw.
use Rattle.std.proofs.Common.{◌≡◌, ◌∙◌, ◌⊎◌, ℕ, zero, suc, ◌+◌, ◌*◌, ◌<◌, ◌≤◌, List, [], ◌∷◌, ◌++◌, length, refl, sym, ap, subst, arith, inl, inr}
use Rattle.std.specs.Prelude.{◌==◌, Option, Some, None, IfSome, slice_get, slice_index}
use Rattle.std.specs.Bool.{Decides}
use Rattle.std.specs.List.{flat_map}
use Rattle.std.proofs.lemmas.Bool.{cases_Bool, cases_lt, both_ways, or_cases, eqb-true, eq-eqb, leb-true, le-leb}
use Rattle.byte_images.specs.First.{Before, FirstToFail}
use Rattle.rtt_dump.specs.Checks.{CoreCheck, CoreHolds, HasAddresses, HasBytes, core_place, has_class, is_little, has_header, is_core, has_entry_len, has_program_headers, has_bytes, has_addresses}
use Rattle.rtt_dump.specs.Checks as checks
use Rattle.byte_images.specs.Elf.{class_of, header_len}
use Rattle.rtt_dump.specs.Elf.{entry_len, header, loaded}
use Rattle.rtt_dump.specs.Flaws.{Test, first_flaw, header_tests, holds, segment_tests, tests}
use Rattle.rtt_dump.specs.Flaws as test
use Rattle.rtt_dump.specs.declared.elf.ProgramHeader.{ProgramHeader}
use Rattle.rtt_dump.specs.declared.fault.Flaw.{Flaw}
use Rattle.rtt_dump.specs.declared.fault.Flaw.TheVariants as flaws
use Rattle.rtt_dump.proofs.FlawLemmas.{addresses_flaw, bytes_flaw, first_flaw_here, first_flaw_later, no_flaw}
use Rattle.rtt_dump.proofs.HeaderLemmas.{flaw_none, flaw_step, flaw_stop}

pub record IsFirstFlaw (file : List ℕ) (flaw : Flaw) : Type 0 where
  pub check : CoreCheck
  pub first : FirstToFail core_place (CoreHolds file) check
  pub is : flaw ≡ checks.flaw_of check

one_flaw : (o : Option Flaw) (a b : Flaw) → o ≡ Some a → o ≡ Some b → b ≡ a
one_flaw o a b left right = cc

refuted : (o : Option Flaw) (a : Flaw) → o ≡ None → o ≡ Some a → ⊥
refuted o a none some = absurd (cc)

-- ---- the header

-- its checks by number
abbrev numbered : ℕ → CoreCheck
numbered zero = has_class
numbered (suc zero) = is_little
numbered (suc (suc zero)) = has_header
numbered (suc (suc (suc zero))) = is_core
numbered (suc (suc (suc (suc zero)))) = has_entry_len
numbered (suc (suc (suc (suc (suc n))))) = has_program_headers

abbrev tested : ℕ → Test
tested zero = test.has_class
tested (suc zero) = test.is_little
tested (suc (suc zero)) = test.has_header
tested (suc (suc (suc zero))) = test.is_core
tested (suc (suc (suc (suc zero)))) = test.has_entry_len
tested (suc (suc (suc (suc (suc n))))) = test.has_program_headers

abbrev tests_from : ℕ → ℕ → List Test
tests_from n zero = []
tests_from n (suc m) = tested n ∷ tests_from (suc n) m

same_flaw : (n : ℕ) → test.flaw_of (tested n) ≡ checks.flaw_of (numbered n)
same_flaw zero = refl
same_flaw (suc zero) = refl
same_flaw (suc (suc zero)) = refl
same_flaw (suc (suc (suc zero))) = refl
same_flaw (suc (suc (suc (suc zero)))) = refl
same_flaw (suc (suc (suc (suc (suc n))))) = refl

class_decides : (file : List ℕ) → Decides (holds file test.has_class) (CoreHolds file has_class)
class_decides file = (
  λ is. elim (or_cases (slice_index file 4 == 1) (slice_index file 4 == 2) is) [
    | inl narrow ↦ inl (eqb-true (slice_index file 4) 1 narrow)
    | inr wide ↦ inr (eqb-true (slice_index file 4) 2 wide)
  ],
  λ has. elim has [ inl narrow ↦ rw narrow refl | inr wide ↦ rw wide refl ],
)

decides : (file : List ℕ) (n : ℕ) → Decides (holds file (tested n)) (CoreHolds file (numbered n))
decides file zero = class_decides file
decides file (suc zero) = (eqb-true (slice_index file 5) 1, eq-eqb (slice_index file 5) 1)
decides file (suc (suc zero)) = (leb-true (header_len (class_of file)) (length file), le-leb (header_len (class_of file)) (length file))
decides file (suc (suc (suc zero))) = (eqb-true (header file).kind 4, eq-eqb (header file).kind 4)
decides file (suc (suc (suc (suc zero)))) =
    (eqb-true (header file).entry_len (entry_len (class_of file)), eq-eqb (header file).entry_len (entry_len (class_of file)))
decides file (suc (suc (suc (suc (suc n))))) =
    let end = (header file).offset + (header file).count * entry_len (class_of file) in (leb-true end (length file), le-leb end (length file))

abbrev Holds_below : List ℕ → ℕ → Type 0
Holds_below file n = (k : ℕ) → k < n → CoreHolds file (numbered k)

next : (P : ℕ → Type 0) (n : ℕ) → ((k : ℕ) → k < n → P k) → P n → (k : ℕ) → k < suc n → P k
next P n below here k lt = elim (cases_lt k n) [
  | inl before ↦ below k before
  | inr behind ↦ let same : n ≡ k = omega arith in subst P same here
]

-- the checks before one of the header
before_header : (file : List ℕ) (n : ℕ) → n ≤ 5 → Holds_below file n → (other : CoreCheck) → Before (core_place other) (record { row = n; index = 0 }) → CoreHolds file other
before_header file n le below has_class before = below 0 (elim before [ inl above ↦ above | inr beside ↦ absurd (omega arith) ])
before_header file n le below is_little before = below 1 (elim before [ inl above ↦ above | inr beside ↦ absurd (omega arith) ])
before_header file n le below has_header before = below 2 (elim before [ inl above ↦ above | inr beside ↦ absurd (omega arith) ])
before_header file n le below is_core before = below 3 (elim before [ inl above ↦ above | inr beside ↦ absurd (omega arith) ])
before_header file n le below has_entry_len before = below 4 (elim before [ inl above ↦ above | inr beside ↦ absurd (omega arith) ])
before_header file n le below has_program_headers before = absurd (elim before [ inl above ↦ omega arith | inr beside ↦ omega arith ])
before_header file n le below (has_bytes m) before = absurd (elim before [ inl above ↦ omega arith | inr beside ↦ omega arith ])
before_header file n le below (has_addresses m) before = absurd (elim before [ inl above ↦ omega arith | inr beside ↦ omega arith ])

header_first : (file : List ℕ) (n : ℕ) → n ≤ 5 → Holds_below file n → (CoreHolds file (numbered n) → ⊥) → FirstToFail core_place (CoreHolds file) (numbered n)
header_first file zero le below fails = record { fails = fails; earlier = before_header file 0 le below }
header_first file (suc zero) le below fails = record { fails = fails; earlier = before_header file 1 le below }
header_first file (suc (suc zero)) le below fails = record { fails = fails; earlier = before_header file 2 le below }
header_first file (suc (suc (suc zero))) le below fails = record { fails = fails; earlier = before_header file 3 le below }
header_first file (suc (suc (suc (suc zero)))) le below fails = record { fails = fails; earlier = before_header file 4 le below }
header_first file (suc (suc (suc (suc (suc zero))))) le below fails = record { fails = fails; earlier = before_header file 5 le below }
header_first file (suc (suc (suc (suc (suc (suc n)))))) le below fails = absurd (omega arith)

first_of_header : (file : List ℕ) (n m : ℕ) (flaw : Flaw) → n + m ≤ 6 → Holds_below file n → first_flaw file (tests_from n m) ≡ Some flaw → IsFirstFlaw file flaw
first_of_header file n zero flaw le below is = absurd (refuted (first_flaw file []) flaw (flaw_none file) is)
first_of_header file n (suc m) flaw le below is = elim (cases_Bool (holds file (tested n))) [
  | inl here ↦ first_of_header file (suc n) m flaw (omega arith) (next (λ k. CoreHolds file (numbered k)) n below ((decides file n).0 here))
      (sym (flaw_step file (tested n) (tests_from (suc n) m) here) ∙ is)
  | inr none ↦ record {
    check = numbered n;
    first = header_first file n (omega arith) below (λ h. both_ways (holds file (tested n)) none ((decides file n).1 h));
    is = one_flaw (first_flaw file (tests_from n (suc m))) (test.flaw_of (tested n)) flaw (flaw_stop file (tested n) (tests_from (suc n) m) none) is ∙ same_flaw n;
  }
]

all_of_header : (file : List ℕ) (n m : ℕ) → Holds_below file n → first_flaw file (tests_from n m) ≡ None → Holds_below file (n + m)
all_of_header file n zero below is = let end : n ≡ n + 0 = omega arith in subst (λ k. Holds_below file k) end below
all_of_header file n (suc m) below is = elim (cases_Bool (holds file (tested n))) [
  | inl here ↦
      let end : suc n + m ≡ n + suc m = omega arith in
      subst (λ k. Holds_below file k) end
      (all_of_header file (suc n) m (next (λ k. CoreHolds file (numbered k)) n below ((decides file n).0 here)) (sym (flaw_step file (tested n) (tests_from (suc n) m) here) ∙ is))
  | inr none ↦ absurd (refuted (first_flaw file (tests_from n (suc m))) (test.flaw_of (tested n)) is (flaw_stop file (tested n) (tests_from (suc n) m) none))
]

-- ---- the segments

-- the segment number k, if there is one, passes its two checks
record IsGood (file : List ℕ) (ps : List ProgramHeader) (k : ℕ) : Type 0 where
  bytes : IfSome (slice_get ps k) (HasBytes file)
  addresses : IfSome (slice_get ps k) HasAddresses

good_here : (file : List ℕ) (p : ProgramHeader) (ps : List ProgramHeader) → HasBytes file p → HasAddresses p → IsGood file (p ∷ ps) 0
good_here file p ps bytes addresses = record { bytes = bytes; addresses = addresses }

good_later : (file : List ℕ) (p : ProgramHeader) (ps : List ProgramHeader) (k : ℕ) → IsGood file ps k → IsGood file (p ∷ ps) (suc k)
good_later file p ps k good = record { bytes = good.bytes; addresses = good.addresses }

-- what one segment's first flaw is
abbrev Fails : List ℕ → ProgramHeader → Flaw → Type 0
Fails file p flaw = ((flaw ≡ flaws.Bytes) × (HasBytes file p → ⊥)) ⊎ ((flaw ≡ flaws.Addresses) × HasBytes file p × (HasAddresses p → ⊥))

record IsBad (file : List ℕ) (p : ProgramHeader) : Type 0 where
  flaw : Flaw
  is : first_flaw file (segment_tests p) ≡ Some flaw
  fails : Fails file p flaw

segment_cases : (file : List ℕ) (p : ProgramHeader) → ((first_flaw file (segment_tests p) ≡ None) × HasBytes file p × HasAddresses p) ⊎ IsBad file p
segment_cases file p = elim (cases_lt (length file) (p.offset + p.size)) [
  | inl past ↦ inr (record { flaw = flaws.Bytes; is = bytes_flaw file p past; fails = inl (refl, λ h. omega arith) })
  | inr fits ↦ elim (cases_lt 4294967296 (p.address + p.size)) [
    | inl past ↦ inr (record { flaw = flaws.Addresses; is = addresses_flaw file p fits past; fails = inr (refl, fits, λ h. omega arith) })
    | inr ends ↦ inl (no_flaw file p fits ends, fits, omega arith)
  ]
]

all_good : (file : List ℕ) (ps : List ProgramHeader) → first_flaw file (flat_map segment_tests ps) ≡ None → (k : ℕ) → IsGood file ps k
all_good file [] is k = record { bytes = tt; addresses = tt }
all_good file (p ∷ ps) is zero = elim (segment_cases file p) [
  | inl passes ↦ good_here file p ps passes.1 passes.2
  | inr bad ↦ absurd (refuted (first_flaw file (segment_tests p ++ flat_map segment_tests ps)) bad.flaw is (first_flaw_here file (segment_tests p) (flat_map segment_tests ps) bad.flaw bad.is))
]
all_good file (p ∷ ps) is (suc k) = elim (segment_cases file p) [
  | inl passes ↦ good_later file p ps k (all_good file ps (sym (first_flaw_later file (segment_tests p) (flat_map segment_tests ps) passes.0) ∙ is) k)
  | inr bad ↦ absurd (refuted (first_flaw file (segment_tests p ++ flat_map segment_tests ps)) bad.flaw is (first_flaw_here file (segment_tests p) (flat_map segment_tests ps) bad.flaw bad.is))
]

-- the first segment that doesn't pass
record IsFirstBad (file : List ℕ) (ps : List ProgramHeader) (flaw : Flaw) : Type 0 where
  number : ℕ
  bad : ProgramHeader
  here : slice_get ps number ≡ Some bad
  fails : Fails file bad flaw
  earlier : (k : ℕ) → k < number → IsGood file ps k

earlier_too : (file : List ℕ) (p : ProgramHeader) (ps : List ProgramHeader) (m : ℕ) → IsGood file (p ∷ ps) 0 → ((k : ℕ) → k < m → IsGood file ps k)
    → (k : ℕ) → k < suc m → IsGood file (p ∷ ps) k
earlier_too file p ps m first later zero lt = first
earlier_too file p ps m first later (suc k) lt = good_later file p ps k (later k (omega arith))

first_bad : (file : List ℕ) (ps : List ProgramHeader) (flaw : Flaw) → first_flaw file (flat_map segment_tests ps) ≡ Some flaw → IsFirstBad file ps flaw
first_bad file [] flaw is = absurd (refuted (first_flaw file []) flaw (flaw_none file) is)
first_bad file (p ∷ ps) flaw is = elim (segment_cases file p) [
  | inl passes ↦
      let later = first_bad file ps flaw (sym (first_flaw_later file (segment_tests p) (flat_map segment_tests ps) passes.0) ∙ is) in
      record {
        number = suc later.number;
        bad = later.bad;
        here = later.here;
        fails = later.fails;
        earlier = earlier_too file p ps later.number (good_here file p ps passes.1 passes.2) later.earlier;
      }
  | inr bad ↦
      let same : flaw ≡ bad.flaw =
      one_flaw (first_flaw file (segment_tests p ++ flat_map segment_tests ps)) bad.flaw flaw (first_flaw_here file (segment_tests p) (flat_map segment_tests ps) bad.flaw bad.is) is in
      record {
        number = 0;
        bad = p;
        here = refl;
        fails = subst (λ f. Fails file p f) (sym same) bad.fails;
        earlier = λ k lt. absurd (omega arith);
      }
]

-- the checks before one of a segment
before_segment : (file : List ℕ) (n i index : ℕ) → i ≤ 1 → index ≡ 2 * n + i → Holds_below file 6 → ((k : ℕ) → k < n → IsGood file (loaded file) k)
    → (0 < i → CoreHolds file (has_bytes n)) → (other : CoreCheck) → Before (core_place other) (record { row = 6; index = index }) → CoreHolds file other
before_segment file n i index one is header earlier own has_class before = header 0 (omega arith)
before_segment file n i index one is header earlier own is_little before = header 1 (omega arith)
before_segment file n i index one is header earlier own has_header before = header 2 (omega arith)
before_segment file n i index one is header earlier own is_core before = header 3 (omega arith)
before_segment file n i index one is header earlier own has_entry_len before = header 4 (omega arith)
before_segment file n i index one is header earlier own has_program_headers before = header 5 (omega arith)
before_segment file n i index one is header earlier own (has_bytes m) before = elim before [
  | inl above ↦ absurd (omega arith)
  | inr beside ↦ elim (cases_lt m n) [
    | inl less ↦ (earlier m less).bytes
    | inr more ↦ let same : n ≡ m = omega (arith, beside) in subst (λ k. CoreHolds file (has_bytes k)) same (own (omega (arith, beside)))
  ]
]
before_segment file n i index one is header earlier own (has_addresses m) before = elim before [
  | inl above ↦ absurd (omega arith)
  | inr beside ↦ (earlier m (omega (arith, beside))).addresses
]

there : (o : Option ProgramHeader) (p : ProgramHeader) (P : ProgramHeader → Type 0) → o ≡ Some p → IfSome o P → P p
there o p P is h = subst (λ x. IfSome x P) is h

here : (o : Option ProgramHeader) (p : ProgramHeader) (P : ProgramHeader → Type 0) → o ≡ Some p → P p → IfSome o P
here o p P is h = subst (λ x. IfSome x P) (sym is) h

first_of_segments : (file : List ℕ) (flaw : Flaw) → Holds_below file 6 → IsFirstBad file (loaded file) flaw → IsFirstFlaw file flaw
first_of_segments file flaw header found =
    let n = found.number in
    let o = slice_get (loaded file) n in
    elim found.fails [
      | inl past ↦ record {
        check = has_bytes n;
        first = record {
          fails = λ h. past.1 (there o found.bad (HasBytes file) found.here h);
          earlier = before_segment file n 0 (2 * n) (omega arith) (omega arith) header found.earlier (λ lt. absurd (omega arith));
        };
        is = past.0;
      }
      | inr past ↦ record {
        check = has_addresses n;
        first = record {
          fails = λ h. past.2 (there o found.bad HasAddresses found.here h);
          earlier = before_segment file n 1 (2 * n + 1) (omega arith) refl header found.earlier (λ lt. here o found.bad (HasBytes file) found.here past.1);
        };
        is = past.0;
      }
    ]

-- ---- both

nothing_below : (file : List ℕ) → Holds_below file 0
nothing_below file k lt = absurd (omega arith)

one_of_all : (file : List ℕ) → Holds_below file 6 → ((k : ℕ) → IsGood file (loaded file) k) → (check : CoreCheck) → CoreHolds file check
one_of_all file header good has_class = header 0 (omega arith)
one_of_all file header good is_little = header 1 (omega arith)
one_of_all file header good has_header = header 2 (omega arith)
one_of_all file header good is_core = header 3 (omega arith)
one_of_all file header good has_entry_len = header 4 (omega arith)
one_of_all file header good has_program_headers = header 5 (omega arith)
one_of_all file header good (has_bytes n) = (good n).bytes
one_of_all file header good (has_addresses n) = (good n).addresses

pub core_first : (file : List ℕ) (flaw : Flaw) → first_flaw file (tests file) ≡ Some flaw → IsFirstFlaw file flaw
core_first file flaw is =
    let rest = flat_map segment_tests (loaded file) in
    elim (first_flaw file header_tests) as (λ o. first_flaw file header_tests ≡ o → IsFirstFlaw file flaw) [
      | Some f ↦ λ some.
          first_of_header file 0 6 flaw (omega arith) (nothing_below file)
          (some ∙ ap (λ x. Some x) (sym (one_flaw (first_flaw file (tests file)) f flaw (first_flaw_here file header_tests rest f some) is)))
      | None ↦ λ none.
          first_of_segments file flaw (all_of_header file 0 6 (nothing_below file) none)
          (first_bad file (loaded file) flaw (sym (first_flaw_later file header_tests rest none) ∙ is))
    ] refl

pub core_all : (file : List ℕ) → first_flaw file (tests file) ≡ None → (check : CoreCheck) → CoreHolds file check
core_all file is check =
    let rest = flat_map segment_tests (loaded file) in
    elim (first_flaw file header_tests) as (λ o. first_flaw file header_tests ≡ o → CoreHolds file check) [
      | Some f ↦ λ some. absurd (refuted (first_flaw file (tests file)) f is (first_flaw_here file header_tests rest f some))
      | None ↦ λ none. one_of_all file (all_of_header file 0 6 (nothing_below file) none)
          (all_good file (loaded file) (sym (first_flaw_later file header_tests rest none) ∙ is)) check
    ] refl

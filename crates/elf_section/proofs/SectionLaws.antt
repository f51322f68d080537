-- Sections and symbols lie in the file, and checks on them.
use Rattle.std.proofs.Common.{inl, inr, ◌≡◌, ◌≤◌, ◌<◌, ◌+◌, ◌*◌, ℕ, false, List, length, Option, Some, None, Bor, refl, sym, ap, subst, ◌∙◌, arith}
use Rattle.std.specs.Prelude.{IsSome, is_some}
use Rattle.std.specs.Option.{option_copied}
use Rattle.std.proofs.lemmas.Bool.{cases_lt}
use Rattle.byte_images.specs.Elf.{class_of}
use Rattle.elf_section.specs.File.{header, section, section_len, Fits, IsPlain, IsFirst, IsSymbols, HasSymbols, strings}
use Rattle.elf_section.specs.Checks.{refusal, Refused, Passed, IsTable}
use Rattle.elf_section.specs.Checks as check
use Rattle.byte_images.specs.declared.elf.Class.{Class}
use Rattle.byte_images.specs.declared.elf.Class.TheVariants.{Elf32, Elf64}
use Rattle.elf_section.specs.declared.file.Header.{Header}
use Rattle.elf_section.specs.declared.file.Section.{Section}
use Rattle.elf_section.proofs.Stages.{passed_more, refuse_at}

-- ---- places

place_fits : (cls : Class) (shoff i n len : ℕ) → i < n → shoff + n * section_len cls ≤ len → shoff + i * section_len cls + section_len cls ≤ len
place_fits Elf32 shoff i n len l h = omega arith
place_fits Elf64 shoff i n len l h = omega arith

pub section_fits : (file : List ℕ) (h : Header) (cls : Class) (len i : ℕ) → Passed file 7 → i < (header file).shnum → h ≡ header file → cls ≡ class_of file → len ≡ section_len cls → h.shoff + i * len + section_len cls ≤ length file
section_fits file h cls len i p l eh ec el =
    let a : h.shoff ≡ (header file).shoff = ap (λ (x : Header). x.shoff) eh in
    let b : section_len cls ≡ section_len (class_of file) = ap section_len ec in
    let m : i * len ≡ i * section_len (class_of file) = ap (λ (n : ℕ). i * n) (el ∙ b) in
    let all : (header file).shoff + (header file).shnum * section_len (class_of file) ≤ length file = p.all check.has_section_headers (omega arith) in
    let f = place_fits (class_of file) (header file).shoff i (header file).shnum (length file) l all in
    omega (arith, f)

pub names_fit : (file : List ℕ) (h : Header) (s : Section) → Passed file 8 → h ≡ header file → s ≡ section file h.shstrndx → Fits file s
names_fit file h s p eh es =
    let fits : Fits file (section file (header file).shstrndx) = (p.all check.has_names (omega arith)).1 in
    subst (Fits file) (sym (es ∙ ap (λ (x : Header). section file x.shstrndx) eh)) fits

-- ---- the first of some sections

pub one_first : (file : List ℕ) (Has : ℕ → Type 0) (i j : ℕ) → IsFirst file Has i → IsFirst file Has j → i ≡ j
one_first file Has i j a b = elim (cases_lt i j) [
  | inl l ↦ absurd (b.first i l a.has)
  | inr le ↦ elim (cases_lt j i) [ inl l ↦ absurd (a.first j l b.has) | inr ge ↦ omega arith ]
]

pub none_first : (file : List ℕ) (Has : ℕ → Type 0) (h : Header) (k : ℕ) → h ≡ header file → h.shnum ≤ k → ((j : ℕ) → j < k → Has j → ⊥) → (i : ℕ) × IsFirst file Has i → ⊥
none_first file Has h k e le none (i, first) =
    let same : h.shnum ≡ (header file).shnum = ap (λ (x : Header). x.shnum) e in
    let below = first.below in
    none i (omega arith) first.has

pub for_symbols : (file : List ℕ) (i : ℕ) (P : ℕ → Type 0) → IsSymbols file i → P i → (j : ℕ) → IsSymbols file j → P j
for_symbols file i P a p j b = subst P (one_first file (HasSymbols file) i j a b) p

pub none_text : (o : Option (Bor (List ℕ))) (m : Option (List ℕ)) → option_copied o ≡ m → is_some o ≡ false → IsSome m → ⊥
none_text None m e f s = let k : is_some m ≡ false = ap is_some (sym e) in absurd cc
none_text (Some x) m e f s = absurd cc

-- ---- the rows of the table

pub refuse_table : (file : List ℕ) (i : ℕ) → Passed file 11 → IsSymbols file i → (IsTable file i → ⊥) → Refused file (refusal file (check.has_table i))
refuse_table file i p s fails = refuse_at file 11 i p refl refl (λ j l t. absurd (s.first j l t.has)) (λ h. fails (h s))

passed_table : (file : List ℕ) (i : ℕ) → Passed file 11 → IsSymbols file i → IsTable file i → Passed file 12
passed_table file i p s t = passed_more file 11 p (λ j. for_symbols file i (IsTable file) s t j)

pub refuse_plain : (file : List ℕ) (i : ℕ) (u v : Section) → Passed file 11 → IsSymbols file i → IsTable file i → u ≡ section file i → v ≡ section file u.link → (IsPlain v → ⊥) → Refused file (refusal file (check.has_plain_strings i))
refuse_plain file i u v p s t eu ev fails =
    let e : v ≡ strings file i = ev ∙ ap (λ (x : Section). section file x.link) eu in
    refuse_at file 12 i (passed_table file i p s t) refl refl (λ j l r. absurd (s.first j l r.has)) (λ h. fails (subst IsPlain (sym e) (h s)))

passed_plain : (file : List ℕ) (i : ℕ) → Passed file 11 → IsSymbols file i → IsTable file i → IsPlain (strings file i) → Passed file 13
passed_plain file i p s t plain = passed_more file 12 (passed_table file i p s t) (λ j. for_symbols file i (λ k. IsPlain (strings file k)) s plain j)

pub refuse_strings : (file : List ℕ) (i : ℕ) (u v : Section) → Passed file 11 → IsSymbols file i → IsTable file i → u ≡ section file i → v ≡ section file u.link → IsPlain v → (Fits file v → ⊥) → Refused file (refusal file (check.has_strings i))
refuse_strings file i u v p s t eu ev plain fails =
    let e : v ≡ strings file i = ev ∙ ap (λ (x : Section). section file x.link) eu in
    refuse_at file 13 i (passed_plain file i p s t (subst IsPlain e plain)) refl refl (λ j l r. absurd (s.first j l r.has)) (λ h. fails (subst (Fits file) (sym e) (h s)))

pub passed_strings : (file : List ℕ) (i : ℕ) (u v : Section) → Passed file 11 → IsSymbols file i → IsTable file i → u ≡ section file i → v ≡ section file u.link → IsPlain v → Fits file v → Passed file 14
passed_strings file i u v p s t eu ev plain fits =
    let e : v ≡ strings file i = ev ∙ ap (λ (x : Section). section file x.link) eu in
    passed_more file 13 (passed_plain file i p s t (subst IsPlain e plain)) (λ j. for_symbols file i (λ k. Fits file (strings file k)) s (subst (Fits file) e fits) j)

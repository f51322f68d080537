-- The loaded segments, one program header after another.
use Rattle.std.proofs.Common.{◌≡◌, ◌∙◌, ◌<◌, ◌≤◌, ◌+◌, ◌-◌, ℕ, suc, Bool, true, false, cond, List, [], ◌∷◌, ◌++◌, map, sym, ap, subst, arith, append_assoc, append-nil}
use Rattle.std.specs.Prelude.{Some, None}
use Rattle.std.specs.List.{filter, flat_map, range_with_len}
use Rattle.rtt_dump.specs.Elf.{header, is_loaded, loaded, program_header}
use Rattle.rtt_dump.specs.Flaws.{first_flaw, segment_tests}
use Rattle.rtt_dump.specs.Segments.{span_of}
use Rattle.rtt_dump.specs.declared.elf.ProgramHeader.{ProgramHeader}
use Rattle.rtt_dump.specs.declared.fault.Flaw.{Flaw}
use Rattle.rtt_dump.specs.declared.spans.Span.{Span}
use Rattle.rtt_dump.proofs.FlawLemmas.{first_flaw_here, first_flaw_later}

-- those of the program headers from number k on, of n
abbrev pub loaded_from : List ℕ → ℕ → ℕ → List ProgramHeader
loaded_from file k n = filter is_loaded (map (program_header file) (range_with_len k (n - k)))

loaded_more : (file : List ℕ) (k n : ℕ) → k < n
    → loaded_from file k n ≡ cond {A = List ProgramHeader} (is_loaded (program_header file k)) (program_header file k ∷ loaded_from file (k + 1) n) (loaded_from file (k + 1) n)
loaded_more file k n below =
    let more : n - k ≡ suc (n - (k + 1)) = omega arith in
    ap (λ (m : ℕ). filter is_loaded (map (program_header file) (range_with_len k m))) more

pub loaded_all : (file : List ℕ) (n : ℕ) → n ≡ (header file).count → loaded_from file 0 n ≡ loaded file
loaded_all file n is =
    let all : n - 0 ≡ (header file).count = omega (arith, is) in
    ap (λ (m : ℕ). filter is_loaded (map (program_header file) (range_with_len 0 m))) all

loaded_none : (file : List ℕ) (k n : ℕ) → n ≤ k → loaded_from file k n ≡ []
loaded_none file k n past =
    let none : n - k ≡ 0 = omega arith in
    ap (λ (m : ℕ). filter is_loaded (map (program_header file) (range_with_len k m))) none

loaded_here : (file : List ℕ) (k n : ℕ) → k < n → is_loaded (program_header file k) ≡ true → loaded_from file k n ≡ program_header file k ∷ loaded_from file (k + 1) n
loaded_here file k n below taken =
    loaded_more file k n below ∙ ap (λ (b : Bool). cond {A = List ProgramHeader} b (program_header file k ∷ loaded_from file (k + 1) n) (loaded_from file (k + 1) n)) taken

loaded_other : (file : List ℕ) (k n : ℕ) → k < n → is_loaded (program_header file k) ≡ false → loaded_from file k n ≡ loaded_from file (k + 1) n
loaded_other file k n below passed =
    loaded_more file k n below ∙ ap (λ (b : Bool). cond {A = List ProgramHeader} b (program_header file k ∷ loaded_from file (k + 1) n) (loaded_from file (k + 1) n)) passed

-- the program headers below k were read, of n: no flaw was found, and these are the segments so far
pub record IsRead (file : List ℕ) (n k : ℕ) (found : List Span) : Type 0 where
  pub spans_are : found ++ map span_of (loaded_from file k n) ≡ map span_of (loaded file)
  pub flaw_is : first_flaw file (flat_map segment_tests (loaded_from file k n)) ≡ first_flaw file (flat_map segment_tests (loaded file))

pub read_none : (file : List ℕ) (n : ℕ) (found : List Span) → n ≡ (header file).count → found ≡ [] → IsRead file n 0 found
read_none file n found is none = record {
  spans_are = ap (λ (l : List Span). l ++ map span_of (loaded_from file 0 n)) none ∙ ap (map span_of) (loaded_all file n is);
  flaw_is = ap (λ (l : List ProgramHeader). first_flaw file (flat_map segment_tests l)) (loaded_all file n is);
}

pub read_other : (file : List ℕ) (n k : ℕ) (found : List Span) → k < n → is_loaded (program_header file k) ≡ false → IsRead file n k found → IsRead file n (k + 1) found
read_other file n k found below passed was = record {
  spans_are = ap (λ (l : List ProgramHeader). found ++ map span_of l) (sym (loaded_other file k n below passed)) ∙ was.spans_are;
  flaw_is = ap (λ (l : List ProgramHeader). first_flaw file (flat_map segment_tests l)) (sym (loaded_other file k n below passed)) ∙ was.flaw_is;
}

pub read_here : (file : List ℕ) (n k : ℕ) (found : List Span) → k < n → is_loaded (program_header file k) ≡ true
    → first_flaw file (segment_tests (program_header file k)) ≡ None → IsRead file n k found → IsRead file n (k + 1) (found ++ span_of (program_header file k) ∷ [])
read_here file n k found below taken none was =
    let p = program_header file k in
    let rest = loaded_from file (k + 1) n in
    record {
      spans_are = append_assoc found (span_of p ∷ []) (map span_of rest)
          ∙ ap (λ (l : List ProgramHeader). found ++ map span_of l) (sym (loaded_here file k n below taken)) ∙ was.spans_are;
      flaw_is = sym (first_flaw_later file (segment_tests p) (flat_map segment_tests rest) none)
          ∙ ap (λ (l : List ProgramHeader). first_flaw file (flat_map segment_tests l)) (sym (loaded_here file k n below taken)) ∙ was.flaw_is;
    }

pub read_flaw : (file : List ℕ) (n k : ℕ) (found : List Span) (flaw : Flaw) → k < n → is_loaded (program_header file k) ≡ true
    → first_flaw file (segment_tests (program_header file k)) ≡ Some flaw → IsRead file n k found → first_flaw file (flat_map segment_tests (loaded file)) ≡ Some flaw
read_flaw file n k found flaw below taken some was =
    let p = program_header file k in
    let rest = loaded_from file (k + 1) n in
    sym was.flaw_is ∙ ap (λ (l : List ProgramHeader). first_flaw file (flat_map segment_tests l)) (loaded_here file k n below taken)
    ∙ first_flaw_here file (segment_tests p) (flat_map segment_tests rest) flaw some

-- the same for a program header that was read

pub step_other : (file : List ℕ) (n k : ℕ) (found : List Span) (p : ProgramHeader) → k < n → p ≡ program_header file k → is_loaded p ≡ false → IsRead file n k found → IsRead file n (k + 1) found
step_other file n k found p below is passed was = read_other file n k found below (ap is_loaded (sym is) ∙ passed) was

pub step_here : (file : List ℕ) (n k : ℕ) (found more : List Span) (p : ProgramHeader) (span : Span) → k < n → p ≡ program_header file k → is_loaded p ≡ true
    → first_flaw file (segment_tests p) ≡ None → span ≡ span_of p → more ≡ found ++ span ∷ [] → IsRead file n k found → IsRead file n (k + 1) more
step_here file n k found more p span below is taken none at_span pushed was =
    let whole : more ≡ found ++ span_of (program_header file k) ∷ [] = pushed ∙ ap (λ (s : Span). found ++ s ∷ []) (at_span ∙ ap span_of is) in
    subst (λ (l : List Span). IsRead file n (k + 1) l) (sym whole)
    (read_here file n k found below (ap is_loaded (sym is) ∙ taken) (ap (λ (q : ProgramHeader). first_flaw file (segment_tests q)) (sym is) ∙ none) was)

pub step_flaw : (file : List ℕ) (n k : ℕ) (found : List Span) (p : ProgramHeader) (flaw : Flaw) → k < n → p ≡ program_header file k → is_loaded p ≡ true
    → first_flaw file (segment_tests p) ≡ Some flaw → IsRead file n k found → first_flaw file (flat_map segment_tests (loaded file)) ≡ Some flaw
step_flaw file n k found p flaw below is taken some was =
    read_flaw file n k found flaw below (ap is_loaded (sym is) ∙ taken) (ap (λ (q : ProgramHeader). first_flaw file (segment_tests q)) (sym is) ∙ some) was

pub read_all : (file : List ℕ) (n k : ℕ) (found : List Span) → n ≤ k → IsRead file n k found
    → (found ≡ map span_of (loaded file)) × (first_flaw file (flat_map segment_tests (loaded file)) ≡ None)
unfolding first_flaw
read_all file n k found past was = (
  sym (append-nil found) ∙ ap (λ (l : List ProgramHeader). found ++ map span_of l) (sym (loaded_none file k n past)) ∙ was.spans_are,
  sym was.flaw_is ∙ ap (λ (l : List ProgramHeader). first_flaw file (flat_map segment_tests l)) (loaded_none file k n past),
)

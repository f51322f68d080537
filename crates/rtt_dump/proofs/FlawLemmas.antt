-- The first check that doesn't hold, of two lists of checks, and refusals one after the other.
use Rattle.std.proofs.Common.{◌≡◌, ◌∙◌, ◌<◌, ◌≤◌, ◌+◌, ℕ, true, List, ◌++◌, length, refl, sym, ap, subst}
use Rattle.std.specs.Prelude.{not, Option, Some, None, option_map, Result, Ok, Err, IfErr, OnOk}
use Rattle.std.specs.List.{find, flat_map}
use Rattle.std.specs.Option.{option_or}
use Rattle.std.proofs.lemmas.List.Folds.{find-append}
use Rattle.std.proofs.lemmas.Bool.{le-leb, lt-leb}
use Rattle.rtt_dump.specs.Elf.{is_elf, loaded}
use Rattle.rtt_dump.specs.Faults.{IsFault, flawed}
use Rattle.rtt_dump.specs.Flaws.{Test, tests, file_refusal, first_flaw, flaw_of, header_tests, holds, segment_tests}
use Rattle.rtt_dump.specs.declared.fault.DumpFault.{DumpFault}
use Rattle.rtt_dump.specs.declared.fault.DumpFault.TheVariants.{Refused, Memory}
use Rattle.rtt_dump.specs.declared.elf.ProgramHeader.{ProgramHeader}
use Rattle.rtt_dump.specs.declared.fault.Flaw.{Flaw}
use Rattle.rtt_dump.specs.declared.fault.Flaw.TheVariants as flaws

option_map_or : (a b : Option Test) → option_map flaw_of (option_or a b) ≡ option_or (option_map flaw_of a) (option_map flaw_of b)
option_map_or None b = refl
option_map_or (Some x) b = refl

pub first_flaw-append : (file : List ℕ) (xs ys : List Test) → first_flaw file (xs ++ ys) ≡ option_or (first_flaw file xs) (first_flaw file ys)
unfolding first_flaw
first_flaw-append file xs ys =
    let fails = λ (check : Test). not (holds file check) in
    ap (option_map flaw_of) (find-append fails xs ys) ∙ option_map_or (find fails xs) (find fails ys)

pub first_flaw_later : (file : List ℕ) (xs ys : List Test) → first_flaw file xs ≡ None → first_flaw file (xs ++ ys) ≡ first_flaw file ys
first_flaw_later file xs ys none = first_flaw-append file xs ys ∙ ap (λ (o : Option Flaw). option_or o (first_flaw file ys)) none

pub first_flaw_here : (file : List ℕ) (xs ys : List Test) (flaw : Flaw) → first_flaw file xs ≡ Some flaw → first_flaw file (xs ++ ys) ≡ Some flaw
first_flaw_here file xs ys flaw some = first_flaw-append file xs ys ∙ ap (λ (o : Option Flaw). option_or o (first_flaw file ys)) some

-- the checks of one segment
pub bytes_flaw : (file : List ℕ) (p : ProgramHeader) → length file < p.offset + p.size → first_flaw file (segment_tests p) ≡ Some flaws.Bytes
unfolding first_flaw
bytes_flaw file p past = rw (lt-leb (p.offset + p.size) (length file) past) refl

pub addresses_flaw : (file : List ℕ) (p : ProgramHeader) → p.offset + p.size ≤ length file → 4294967296 < p.address + p.size → first_flaw file (segment_tests p) ≡ Some flaws.Addresses
unfolding first_flaw
addresses_flaw file p fits past = rw (le-leb (p.offset + p.size) (length file) fits, lt-leb (p.address + p.size) 4294967296 past) refl

pub no_flaw : (file : List ℕ) (p : ProgramHeader) → p.offset + p.size ≤ length file → p.address + p.size ≤ 4294967296 → first_flaw file (segment_tests p) ≡ None
unfolding first_flaw
no_flaw file p fits below = rw (le-leb (p.offset + p.size) (length file) fits, le-leb (p.address + p.size) 4294967296 below) refl

-- ---- refusals

pub fault_of_refusal : (o : Option DumpFault) (e : DumpFault) → o ≡ Some e → IsFault o e
fault_of_refusal o (Refused cause place) is = is
fault_of_refusal o Memory is = tt

pub fault_here : (x y : Option DumpFault) (e : DumpFault) → IsFault x e → IsFault (option_or x y) e
fault_here x y (Refused cause place) is = ap (λ (o : Option DumpFault). option_or o y) is
fault_here x y Memory is = tt

pub fault_later : (x y : Option DumpFault) (e : DumpFault) → x ≡ None → IsFault y e → IsFault (option_or x y) e
fault_later x y e none is = subst (λ (o : Option DumpFault). IsFault (option_or o y) e) (sym none) is

pub none_later : (x y : Option DumpFault) → x ≡ None → y ≡ None → option_or x y ≡ None
none_later x y none also = ap (λ (o : Option DumpFault). option_or o y) none ∙ also

-- the error that a `?` hands on
pub handed_on : {T : Type 0} (r : Result T DumpFault) (o : Option DumpFault) (e f : DumpFault) → r ≡ Err e → e ≡ f → IsFault o f → IfErr r (IsFault o)
handed_on {T} r o e f is same fault = subst (λ (x : Result T DumpFault). IfErr x (IsFault o)) (sym is) (subst (λ (x : DumpFault). IsFault o x) (sym same) fault)

-- a file that begins as an ELF file
pub core_refusal : (file : List ℕ) (base : ℕ) → is_elf file ≡ true → file_refusal file base ≡ option_map flawed (first_flaw file (tests file))
core_refusal file base is = rw is refl

pub core_flaw : (file : List ℕ) (base : ℕ) (flaw : Flaw) → is_elf file ≡ true → first_flaw file header_tests ≡ Some flaw → IsFault (file_refusal file base) (flawed flaw)
core_flaw file base flaw is some =
    core_refusal file base is ∙ ap (option_map flawed) (first_flaw_here file header_tests (flat_map segment_tests (loaded file)) flaw some)

segments_left : (file : List ℕ) (base : ℕ) → is_elf file ≡ true → first_flaw file header_tests ≡ None → file_refusal file base ≡ option_map flawed (first_flaw file (flat_map segment_tests (loaded file)))
segments_left file base is none =
    core_refusal file base is ∙ ap (option_map flawed) (first_flaw_later file header_tests (flat_map segment_tests (loaded file)) none)

pub core_passes : {T : Type 0} (r : Result T DumpFault) (file : List ℕ) (base : ℕ) → is_elf file ≡ true → first_flaw file header_tests ≡ None
    → OnOk r (first_flaw file (flat_map segment_tests (loaded file)) ≡ None) → OnOk r (file_refusal file base ≡ None)
core_passes (Ok value) file base is none passes = segments_left file base is none ∙ ap (option_map flawed) passes
core_passes (Err fault) file base is none passes = tt

pub core_refused : {T : Type 0} (r : Result T DumpFault) (file : List ℕ) (base : ℕ) → is_elf file ≡ true → first_flaw file header_tests ≡ None
    → IfErr r (IsFault (option_map flawed (first_flaw file (flat_map segment_tests (loaded file))))) → IfErr r (IsFault (file_refusal file base))
core_refused (Ok value) file base is none fault = tt
core_refused (Err e) file base is none fault = subst (λ (o : Option DumpFault). IsFault o e) (sym (segments_left file base is none)) fault

-- The symbol table, its names and its markers.
use Rattle.std.proofs.Common.{inl, inr, ◌≡◌, ◌≢◌, ◌≤◌, ◌<◌, ◌+◌, ◌*◌, ◌/◌, ℕ, Bool, true, false, not, List, length, Option, Some, None, Bor, bytes_eq, refl, sym, ap, subst, ◌∙◌, arith, MatchBool, get_or, ◌⊎◌, codes}
use Rattle.std.specs.Prelude.{IfSome, IsSome, is_some}
use Rattle.std.specs.Option.{option_copied}
use Rattle.std.proofs.lemmas.Bool.{cases_lt}
use Rattle.std.proofs.Math.ListN.{get_or-append}
use Rattle.std.proofs.lemmas.List.{append_cancel_left}
use Rattle.std.proofs.lemmas.Slice.Eq.{bytes_eq-Decides}
use Rattle.elf_section.specs.Bytes.{IsUnquoted, IsBehind, MaySay}
use Rattle.byte_images.specs.Elf.{class_of}
use Rattle.elf_section.specs.File.{header, section, symbol_len, Fits, IsSymbols, HasSymbols, strings, count, symbol, symbol_name}
use Rattle.defmt_intern.specs.declared.table.Profile.{Profile}
use Rattle.defmt_intern.specs.declared.table.Profile.TheVariants as profiles
use Rattle.elf_section.specs.Checks.{refusal, Refused, Passed, IsTable, Says, SaysIn, SaysAny, IsSaid, SaysOnly, HasMarker, SayProfile, SaysTwo, ProfileIs, profile_front, profile_word, SaysSome, Seen}
use Rattle.elf_section.specs.Checks as check
use Rattle.byte_images.specs.declared.elf.Class.{Class}
use Rattle.byte_images.specs.declared.elf.Class.TheVariants.{Elf32, Elf64}
use Rattle.elf_section.specs.declared.file.Section.{Section}
use Rattle.elf_section.specs.Table.{IsOpen}
use Rattle.elf_section.specs.declared.table.SymbolTable.{SymbolTable}
use Rattle.elf_section.specs.declared.file.RawSymbol.{RawSymbol}
use Rattle.elf_section.specs.File.{symbol_in}
use Rattle.elf_section.specs.Bytes.{text_at}
use Rattle.elf_section.proofs.SectionLaws.{one_first, for_symbols}
use Rattle.elf_section.proofs.StringLaws.{first_is}
use Rattle.elf_section.proofs.BytesLaws.{one_unquoted}
use Rattle.elf_section.proofs.Stages.{passed_more, refuse_at}

table_fits : (file : List ℕ) (i : ℕ) → Passed file 14 → IsSymbols file i → IsTable file i
table_fits file i p s = p.all (check.has_table i) (omega arith) s

symbol_place : (cls : Class) (offset k size len : ℕ) → k < size / symbol_len cls → offset + size ≤ len → offset + k * symbol_len cls + symbol_len cls ≤ len
symbol_place Elf32 offset k size len l h = omega arith
symbol_place Elf64 offset k size len l h = omega arith

pub open_fits : (file : List ℕ) (t : SymbolTable) (len k : ℕ) → IsOpen file t → k < t.count → len ≡ symbol_len t.class → t.offset + k * len + symbol_len t.class ≤ length file
open_fits file t len k o l el =
    let a = o.offset_is in
    let n = o.count_is in
    let b : symbol_len t.class ≡ symbol_len (class_of file) = ap symbol_len o.class_is in
    let m : k * len ≡ k * symbol_len (class_of file) = ap (λ (n : ℕ). k * n) (el ∙ b) in
    let f = symbol_place (class_of file) (section file t.number).offset k (section file t.number).size (length file) (omega (arith, l, n)) (table_fits file t.number o.passed o.symbols).fits in
    omega (arith, f, a, b, m)

pub open_symbol : (file : List ℕ) (t : SymbolTable) (len k : ℕ) → IsOpen file t → len ≡ symbol_len t.class → symbol_in t.class (t.offset + k * len) file ≡ symbol file t.number k
open_symbol file t len k o el =
    ap (λ (n : ℕ). symbol_in t.class (t.offset + k * n) file) el
    ∙ ap (λ (n : ℕ). symbol_in t.class (n + k * symbol_len t.class) file) o.offset_is
    ∙ ap (λ (c : Class). symbol_in c ((section file t.number).offset + k * symbol_len c) file) o.class_is

open_text : (file : List ℕ) (t : SymbolTable) (k : ℕ) (r : RawSymbol) → IsOpen file t → r ≡ symbol file t.number k → text_at r.name t.strings ≡ symbol_name file t.number k
open_text file t k r o er = ap (λ (x : RawSymbol). text_at x.name t.strings) er ∙ ap (text_at (symbol file t.number k).name) o.strings_are

pub open_has : (file : List ℕ) (t : SymbolTable) (k : ℕ) (r : RawSymbol) (b : Bool) → IsOpen file t → r ≡ symbol file t.number k → b ≡ is_some (text_at r.name t.strings) → b ≡ is_some (symbol_name file t.number k)
open_has file t k r b o er eb = eb ∙ ap is_some (open_text file t k r o er)

pub open_first : (file : List ℕ) (t : SymbolTable) (k : ℕ) (r : RawSymbol) (b : ℕ) → IsOpen file t → r ≡ symbol file t.number k → b ≡ get_or t.strings r.name 0 → IfSome (symbol_name file t.number k) (λ name. b ≡ get_or name 0 0)
open_first file t k r b o er eb = first_is r.name b t.strings (symbol_name file t.number k) eb (open_text file t k r o er)

pub open_name : (file : List ℕ) (t : SymbolTable) (k : ℕ) (r : RawSymbol) (o : Option (Bor (List ℕ))) → IsOpen file t → r ≡ symbol file t.number k → option_copied o ≡ text_at r.name t.strings → option_copied o ≡ symbol_name file t.number k
open_name file t k r o p er eo = eo ∙ open_text file t k r p er

few : (cls : Class) (offset size len : ℕ) → offset + size ≤ len → size / symbol_len cls ≤ len
few Elf32 offset size len h = omega arith
few Elf64 offset size len h = omega arith

count_bound : (file : List ℕ) (i : ℕ) → Passed file 14 → IsSymbols file i → count file i ≤ length file
count_bound file i p s = few (class_of file) (section file i).offset (section file i).size (length file) (table_fits file i p s).fits

pub open_count : (file : List ℕ) (t : SymbolTable) → IsOpen file t → t.count ≤ length file
open_count file t o = let a = o.count_is in let b = count_bound file t.number o.passed o.symbols in omega (arith, a, b)

pub link_below : (file : List ℕ) (i : ℕ) (s : Section) → Passed file 14 → IsSymbols file i → s ≡ section file i → s.link < (header file).shnum
link_below file i s p is e = subst (λ (x : Section). x.link < (header file).shnum) (sym e) (table_fits file i p is).link

pub strings_fit : (file : List ℕ) (i : ℕ) (s t : Section) → Passed file 14 → IsSymbols file i → s ≡ section file i → t ≡ section file s.link → Fits file t
strings_fit file i s t p is e f =
    let fits : Fits file (strings file i) = p.all (check.has_strings i) (omega arith) is in
    subst (Fits file) (sym (f ∙ ap (λ (x : Section). section file x.link) e)) fits

-- ---- the names of symbols

pub refuse_symbol_name : (file : List ℕ) (i k : ℕ) → Passed file 14 → IsSymbols file i → 0 < k → k < count file i → ((j : ℕ) → 0 < j → j < k → IsSome (symbol_name file i j)) → false ≡ is_some (symbol_name file i k) → Refused file (refusal file (check.has_symbol_name k))
refuse_symbol_name file i k p s above below before fails =
    refuse_at file 14 k p refl refl
    (λ j l n t a b. subst (λ (m : ℕ). IsSome (symbol_name file m j)) (one_first file (HasSymbols file) i n s t) (before j a l))
    (λ h. let there = h i s above below in absurd cc)

pub passed_symbol_names : (file : List ℕ) (i : ℕ) → Passed file 14 → IsSymbols file i → ((k : ℕ) → 0 < k → k < count file i → IsSome (symbol_name file i k)) → Passed file 15
passed_symbol_names file i p s h = passed_more file 14 p (λ k j t above. for_symbols file i (λ n. k < count file n → IsSome (symbol_name file n k)) s (h k above) j t)

-- ---- markers

one_rest : (file : List ℕ) (i : ℕ) (front : List ℕ) (k : ℕ) (a b : List ℕ) → Says file i front k a → Says file i front k b → a ≡ b
one_rest file i front k a b x y =
    let name : Some x.name ≡ Some y.name = sym x.name_is ∙ y.name_is in
    let same : x.name ≡ y.name = cc in
    let inner : x.inner ≡ y.inner = one_unquoted x.name x.inner y.inner x.unquoted (subst (λ (n : List ℕ). IsUnquoted n y.inner) (sym same) y.unquoted) in
    append_cancel_left front a b (sym x.says ∙ inner ∙ y.says)

pub says_by : (file : List ℕ) (i k : ℕ) (front name inner : List ℕ) (r : Option (Bor (List ℕ))) → 0 < k → k < count file i → symbol_name file i k ≡ Some name → IsUnquoted name inner → IsBehind inner front r → SaysIn file i front k r
says_by file i k front name inner None above below e u h = λ rest s.
    let found : Some name ≡ Some s.name = sym e ∙ s.name_is in
    let same : s.name ≡ name = cc in
    h rest (one_unquoted name inner s.inner u (subst (λ (n : List ℕ). IsUnquoted n s.inner) same s.unquoted) ∙ s.says)
says_by file i k front name inner (Some rest) above below e u h = record { above = above; below = below; name = name; name_is = e; inner = inner; unquoted = u; says = h }

-- a name that begins otherwise doesn't say it
says_not_at : (file : List ℕ) (i k first : ℕ) (front rest : List ℕ) → IfSome (symbol_name file i k) (λ name. first ≡ get_or name 0 0) → MaySay first front false → Says file i front k rest → ⊥
says_not_at file i k first front rest h m s =
    let here : first ≡ get_or s.name 0 0 = subst (λ (o : Option (List ℕ)). IfSome o (λ name. first ≡ get_or name 0 0)) s.name_is h in
    elim s.unquoted [
      | inl quoted ↦ m.1 (here ∙ ap (λ (t : List ℕ). get_or t 0 0) quoted)
      | inr plain ↦ m.2 (here ∙ ap (λ (t : List ℕ). get_or t 0 0) (sym plain.0 ∙ s.says) ∙ get_or-append front rest 0 0 m.0)
    ]

pub says_not : (file : List ℕ) (i k first : ℕ) (front : List ℕ) (may : Bool) → IfSome (symbol_name file i k) (λ name. first ≡ get_or name 0 0) → MaySay first front may → may ≡ false → (rest : List ℕ) → Says file i front k rest → ⊥
says_not file i k first front true h m e rest s = absurd cc
says_not file i k first front false h m e rest s = says_not_at file i k first front rest h m s

pub seen_same : (file : List ℕ) (i : ℕ) (front value : List ℕ) (k : ℕ) (seen : Bool) (rest : List ℕ) → Seen file i front value k seen → Says file i front k rest → rest ≡ value → Seen file i front value (k + 1) true
seen_same file i front value k seen rest s says e = record {
  every = λ j r l t. elim (cases_lt j k) [
    | inl before ↦ s.every j r before t
    | inr le ↦ let here : j ≡ k = omega arith in one_rest file i front k r rest (subst (λ (n : ℕ). Says file i front n r) here t) says ∙ e
  ];
  some = (k, subst (Says file i front k) e says);
}

some_more : (file : List ℕ) (i : ℕ) (front value : List ℕ) (k : ℕ) (seen : Bool) → SaysSome file i front value k seen → ((rest : List ℕ) → Says file i front k rest → ⊥) → SaysSome file i front value (k + 1) seen
some_more file i front value k true s none = s
some_more file i front value k false s none = λ j r l t. elim (cases_lt j k) [ inl before ↦ s j r before t | inr le ↦ none r (subst (λ (n : ℕ). Says file i front n r) (let here : j ≡ k = omega arith in here) t) ]

pub seen_none : (file : List ℕ) (i : ℕ) (front value : List ℕ) (k : ℕ) (seen : Bool) → Seen file i front value k seen → ((rest : List ℕ) → Says file i front k rest → ⊥) → Seen file i front value (k + 1) seen
seen_none file i front value k seen s none = record {
  every = λ j r l t. elim (cases_lt j k) [ inl before ↦ s.every j r before t | inr le ↦ absurd (none r (subst (λ (n : ℕ). Says file i front n r) (let here : j ≡ k = omega arith in here) t)) ];
  some = some_more file i front value k seen s.some none;
}

pub marker_by_seen : (file : List ℕ) (i : ℕ) (front value : List ℕ) (k : ℕ) (seen : Bool) → count file i ≤ k → Seen file i front value k seen → MatchBool seen (HasMarker file i front value) (HasMarker file i front value → ⊥)
marker_by_seen file i front value k true le s = record { number = s.some.0; some = s.some.1; every = λ j r t. let below = t.below in s.every j r (omega arith) t }
marker_by_seen file i front value k false le s = λ m. let below = m.some.below in s.some m.number value (omega arith) m.some

pub no_marker : (file : List ℕ) (i : ℕ) (front value : List ℕ) (k : ℕ) (rest : List ℕ) → Says file i front k rest → rest ≢ value → HasMarker file i front value → ⊥
no_marker file i front value k rest s n m = n (m.every k rest s)

same_by : (a b : List ℕ) (t : Bool) → bytes_eq a b ≡ t → false ≡ not t → a ≡ b
same_by a b true e f = (bytes_eq-Decides a b).0 e
same_by a b false e f = absurd cc

pub same_bytes : (a b : List ℕ) → false ≡ not (bytes_eq a b) → a ≡ b
same_bytes a b e = same_by a b (bytes_eq a b) refl e

-- ---- the profile

-- no symbol up to this one says the front
pub none_more : (file : List ℕ) (i : ℕ) (front : List ℕ) (k : ℕ) → ((j : ℕ) → j < k → SaysAny file i front j → ⊥) → (SaysAny file i front k → ⊥) → (j : ℕ) → j < k + 1 → SaysAny file i front j → ⊥
none_more file i front k before here j l any = elim (cases_lt j k) [
  | inl less ↦ before j less any
  | inr le ↦ here (subst (SaysAny file i front) (let same : j ≡ k = omega arith in same) any)
]

pub only_marked : (file : List ℕ) (i : ℕ) (front value : List ℕ) → IsSaid file i front → SaysOnly file i front value → HasMarker file i front value
only_marked file i front value said only = record {
  number = said.0;
  some = subst (Says file i front said.0) (only.every said.0 said.1.0 said.1.1) said.1.1;
  every = only.every;
}

-- what is told of the symbols holds of the file
pub holds_of : (file : List ℕ) (i : ℕ) (profile : Profile) → SayProfile file i (Some profile) → SaysOnly file i profile_front (profile_word profiles.One) ⊎ SaysOnly file i profile_front (profile_word profiles.Two)
holds_of file i profiles.One said = inl said
holds_of file i profiles.Two said = inr (record { every = said.every })

pub holds_not : (file : List ℕ) (i : ℕ) → SayProfile file i None → SaysOnly file i profile_front (profile_word profiles.One) ⊎ SaysOnly file i profile_front (profile_word profiles.Two) → ⊥
holds_not file i said (inl one) = said.0 one
holds_not file i said (inr two) = said.1 two

-- where each symbol says 1, none says 2
pub one_not_two : (file : List ℕ) (i : ℕ) → IsSymbols file i → SaysOnly file i profile_front (profile_word profiles.One) → SaysTwo file → ⊥
one_not_two file i s only two =
    let same : two.0 ≡ i = one_first file (HasSymbols file) two.0 i two.2 s in
    let here : Says file i profile_front two.1 (codes "2") = subst (λ (n : ℕ). Says file n profile_front two.1 (codes "2")) same two.3 in
    let e : codes "2" ≡ codes "1" = only.every two.1 (codes "2") here in
    let n : 50 ≡ 49 = ap (λ (t : List ℕ). get_or t 0 0) e in
    absurd (omega (arith, n))

pub profile_of : (file : List ℕ) (i : ℕ) (profile : Profile) → IsSymbols file i → SayProfile file i (Some profile) → ProfileIs file profile
profile_of file i profiles.One s said = one_not_two file i s said
profile_of file i profiles.Two s said = (i, said.number, s, said.some)

pub passed_profile : (file : List ℕ) (i : ℕ) (profile : Profile) → Passed file 17 → IsSymbols file i → SayProfile file i (Some profile) → Passed file 18
passed_profile file i profile p s said =
    passed_more file 17 p (λ _ j t. for_symbols file i (λ n. SaysOnly file n profile_front (profile_word profiles.One) ⊎ SaysOnly file n profile_front (profile_word profiles.Two)) s (holds_of file i profile said) j t)

-- What is written is read back: symbols, texts and checks.
use Rattle.std.proofs.Common.{◌≡◌, ◌≤◌, ◌<◌, ◌+◌, ◌-◌, ◌*◌, ◌/◌, ◌%◌, ◌^◌, ◌⊎◌, inl, inr, ℕ, zero, suc, eqb, ◌&&◌, cond, Bool, true, false, List, [], ◌∷◌, ◌++◌, length, take, drop, get_or, Option, Some, refl, sym, ap, subst, ◌∙◌, arith, append_assoc, length-append, codes, bit_and, map, unwrap_or}
use Rattle.std.specs.Prelude.{IsSome, is_some, slice_get}
use Rattle.std.specs.List.{All, filter}
use Rattle.std.proofs.lemmas.List.Elements.{All-weaker, All-head, All-tail}
use Rattle.elf_section.specs.Bytes.{text_at, to_zero, IsUnquoted}
use Rattle.byte_images.specs.Elf.{class_of, header_len}
use Rattle.elf_section.specs.File.{header, section, Fits, contents, section_name, strings, count, symbol, symbol_in, symbol_name, symbol_len, section_len, IsDefmt, IsSymbols, HasSymbols, HasDefmtName, IsPlain}
use Rattle.defmt_intern.specs.declared.table.Profile.{Profile}
use Rattle.defmt_intern.specs.declared.table.Profile.TheVariants as profiles
use Rattle.elf_section.specs.Checks.{is_elf, has_class, is_little, has_header, has_sections, has_entry_size, has_section_headers, has_names, has_section_name, has_defmt, has_symbols, has_table, has_plain_strings, has_strings, has_symbol_name, has_version, has_encoding, has_profile, Passes, IsTable, Says, SaysOnly, SaysTwo, HasMarker, ProfileIs, version_front, encoding_front, profile_front, profile_word}
use Rattle.elf_section.specs.Listed.{Lists, Carries, is_braced, numbers, is_listed, symbol_of}
use Rattle.elf_section.specs.Written.{Row, listed, listed_all, marked, rows, symbol_bytes, entries, names, ended, version_name, encoding_name, profile_name, symbol_table, string_table, section_names, table_len, strings_len, names_at, sections_at, section_headers, written, IsWritable, AreBraced, braced, KeepsMarker, KeepsMarkers}
use Rattle.byte_images.specs.declared.elf.Class.{Class}
use Rattle.byte_images.specs.declared.elf.Class.TheVariants.{Elf32}
use Rattle.elf_section.specs.declared.file.Header.{Header}
use Rattle.elf_section.specs.declared.file.Section.{Section}
use Rattle.elf_section.specs.declared.file.RawSymbol.{RawSymbol}
use Rattle.elf_section.specs.Symbol.{PlainSymbol}
use Rattle.elf_section.proofs.FieldLaws.{length_symbol, symbol_written, NoZero, text_there, part_there}
use Rattle.elf_section.proofs.ReadBack.{F, H, Z, regroup3, length_header, length_table, length_strings, class_is, header_is, section_0, section_1, section_2, section_3, section_4, length_F as length_of, whole}
use Rattle.elf_section.proofs.SectionLaws.{for_symbols}
use Rattle.elf_section.proofs.TableLaws.{one_not_two}
use Rattle.elf_section.proofs.Rows.{AreWritable, rows_writable, RowsKeep, version_kept, encoding_kept, profile_kept, plain_unquoted, itself}
use Rattle.elf_section.proofs.WritingLaws.{at_get}

-- ---- symbol p of the list

regroup : (f b m r : List ℕ) → f ++ ((b ++ m) ++ r) ≡ f ++ (b ++ (m ++ r))
regroup f b m r = ap (λ (t : List ℕ). f ++ t) (append_assoc b m r)

entry_written : (front back : List ℕ) (n at : ℕ) (xs : List Row) (p : ℕ) (s : Row) → length front ≡ n → slice_get xs p ≡ Some s → at + length (names (take p xs)) < 2 ^ 32 → s.value < 2 ^ 32 → s.section < 2 ^ 16
    → symbol_in Elf32 (n + p * 16) (front ++ (entries at xs ++ back)) ≡ record { name = at + length (names (take p xs)); value = s.value; section = s.section }
entry_written front back n at [] p s en e small sv ss = absurd cc
entry_written front back n at (x ∷ xs) zero s en e small sv ss =
    let same : x ≡ s = cc in
    let n0 : n + 0 * 16 ≡ n = omega arith in
    let at0 : at ≡ at + 0 = omega arith in
    let value : x.value ≡ s.value = ap (λ (y : Row). y.value) same in
    let place : x.section ≡ s.section = ap (λ (y : Row). y.section) same in
    ap (λ (m : ℕ). symbol_in Elf32 m (front ++ (entries at (x ∷ xs) ++ back))) n0
    ∙ ap (symbol_in Elf32 n) (regroup front (symbol_bytes at x.value 16 x.section) (entries (at + length x.name + 1) xs) back)
    ∙ symbol_written front (entries (at + length x.name + 1) xs ++ back) n at x.value 16 x.section en (omega arith) (omega (arith, value, sv)) (omega (arith, place, ss))
    ∙ (λ i. record { name = at0 i; value = value i; section = place i })
entry_written front back n at (x ∷ xs) (suc p) s en e small sv ss =
    let b : List ℕ = symbol_bytes at x.value 16 x.section in
    let len = length_symbol at x.value 16 x.section in
    let both = length-append front b in
    let place : n + suc p * 16 ≡ (n + 16) + p * 16 = omega arith in
    let l = length-append (ended x) (names (take p xs)) in
    let l' = length-append x.name (0 ∷ []) in
    let name : at + length x.name + 1 + length (names (take p xs)) ≡ at + length (names (take (suc p) (x ∷ xs))) = omega (arith, l, l') in
    ap (λ (m : ℕ). symbol_in Elf32 m (front ++ (entries at (x ∷ xs) ++ back))) place
    ∙ ap (symbol_in Elf32 (n + 16 + p * 16)) (regroup front b (entries (at + length x.name + 1) xs) back ∙ sym (append_assoc front b (entries (at + length x.name + 1) xs ++ back)))
    ∙ entry_written (front ++ b) back (n + 16) (at + length x.name + 1) xs p s (omega (arith, both, len, en)) e (omega (arith, name, small)) sv ss
    ∙ (λ i. record { name = name i; value = s.value; section = s.section })

-- ---- texts

names_split : (xs : List Row) (p : ℕ) (s : Row) → slice_get xs p ≡ Some s → names xs ≡ names (take p xs) ++ (s.name ++ 0 ∷ names (drop (suc p) xs))
names_split [] p s e = absurd cc
names_split (x ∷ xs) zero s e = let same : x ≡ s = cc in ap (λ (y : Row). ended y ++ names xs) same ∙ append_assoc s.name (0 ∷ []) (names xs)
names_split (x ∷ xs) (suc p) s e = ap (λ (t : List ℕ). ended x ++ t) (names_split xs p s e) ∙ sym (append_assoc (ended x) (names (take p xs)) (s.name ++ 0 ∷ names (drop (suc p) xs)))

strings_split : (xs : List Row) (p : ℕ) (s : Row) → slice_get xs p ≡ Some s → string_table xs ≡ (0 ∷ names (take p xs)) ++ (s.name ++ 0 ∷ names (drop (suc p) xs))
strings_split xs p s e = ap (λ (t : List ℕ). 0 ∷ t) (names_split xs p s e)

text_of_symbol : (xs : List Row) (p : ℕ) (s : Row) → slice_get xs p ≡ Some s → NoZero s.name → text_at (1 + length (names (take p xs))) (string_table xs) ≡ Some s.name
text_of_symbol xs p s e h =
    ap (text_at (1 + length (names (take p xs)))) (strings_split xs p s e)
    ∙ text_there (0 ∷ names (take p xs)) s.name (names (drop (suc p) xs)) (1 + length (names (take p xs))) (omega arith) h

name_0 : text_at 0 section_names ≡ Some []
unfolding text_at to_zero
name_0 = refl

name_1 : text_at 1 section_names ≡ Some (codes ".defmt")
unfolding text_at to_zero
name_1 = refl

name_2 : text_at 8 section_names ≡ Some (codes ".symtab")
unfolding text_at to_zero
name_2 = refl

name_3 : text_at 16 section_names ≡ Some (codes ".strtab")
unfolding text_at to_zero
name_3 = refl

name_4 : text_at 24 section_names ≡ Some (codes ".shstrtab")
unfolding text_at to_zero
name_4 = refl

behind_null : (h a e r : List ℕ) → h ++ ((a ++ e) ++ r) ≡ (h ++ a) ++ (e ++ r)
behind_null h a e r = simp append_assoc

there : (xs : List Row) (p : ℕ) → p < length xs → (s : Row) × (slice_get xs p ≡ Some s)
there [] p l = absurd (omega arith)
there (x ∷ xs) zero l = (x, refl)
there (x ∷ xs) (suc p) l = there xs p (omega arith)

names_below : (xs : List Row) (p : ℕ) (s : Row) → slice_get xs p ≡ Some s → length (names (take p xs)) ≤ length (names xs)
names_below xs p s e =
    let a = ap length (names_split xs p s e) in
    let b = length-append (names (take p xs)) (s.name ++ 0 ∷ names (drop (suc p) xs)) in
    omega (arith, a, b)

abbrev symbols_from : List ℕ → List ℕ → List PlainSymbol
symbols_from file ks = map (symbol_of file 2) (filter (is_listed file 1 2) ks)

-- the symbols of the rows in section 1 whose names begin with `{`
abbrev is_in : Row → Bool
is_in r = eqb r.section 1 && is_braced r.name

abbrev plain_row : Row → PlainSymbol
plain_row r = record { name = r.name; value = r.value }

abbrev symbols_in : List Row → List PlainSymbol
symbols_in rs = map plain_row (filter is_in rs)

module _ (xs : List Row) (w : AreWritable xs) where
  -- the strings and the names of sections
  strings_are : contents (F xs w) (section (F xs w) 3) ≡ string_table xs
  strings_are =
      ap (contents (F xs w)) (section_3 xs w)
      ∙ ap (λ (t : List ℕ). take (strings_len xs) (drop (52 + table_len xs) t)) (sym (append_assoc (H xs w) (symbol_table xs) (string_table xs ++ (section_names ++ (Z xs w ++ section_headers xs)))))
      ∙ part_there (H xs w ++ symbol_table xs) (string_table xs) (section_names ++ (Z xs w ++ section_headers xs)) (52 + table_len xs) (strings_len xs)
      (let a = length-append (H xs w) (symbol_table xs) in let b = length_header (sections_at xs) in let c = length_table xs in omega (arith, a, b, c)) (length_strings xs)

  names_are : contents (F xs w) (section (F xs w) 4) ≡ section_names
  names_are =
      ap (contents (F xs w)) (section_4 xs w)
      ∙ ap (λ (t : List ℕ). take 34 (drop (names_at xs) t)) (regroup3 (H xs w) (symbol_table xs) (string_table xs) (section_names ++ (Z xs w ++ section_headers xs)))
      ∙ part_there (H xs w ++ (symbol_table xs ++ string_table xs)) section_names (Z xs w ++ section_headers xs) (names_at xs) 34
      (let a = length-append (H xs w) (symbol_table xs ++ string_table xs) in let d = length-append (symbol_table xs) (string_table xs) in let b = length_header (sections_at xs) in let c = length_table xs in let e = length_strings xs in omega (arith, a, b, c, d, e)) refl

  -- a section's name, where its sh_name is n
  named : (i n : ℕ) (s : Section) (text : List ℕ) → section (F xs w) i ≡ s → s.name ≡ n → text_at n section_names ≡ Some text → section_name (F xs w) i ≡ Some text
  named i n s text e en et =
      ap (λ (h : Header). text_at (section (F xs w) i).name (contents (F xs w) (section (F xs w) h.shstrndx))) (header_is xs w)
      ∙ ap (text_at (section (F xs w) i).name) names_are
      ∙ ap (λ (x : Section). text_at x.name section_names) e ∙ ap (λ (m : ℕ). text_at m section_names) en ∙ et

  -- symbol k of the file
  symbol_at : (k : ℕ) → symbol (F xs w) 2 k ≡ symbol_in Elf32 (52 + k * 16) (F xs w)
  symbol_at k =
      ap (λ (s : Section). symbol_in (class_of (F xs w)) (s.offset + k * symbol_len (class_of (F xs w))) (F xs w)) (section_2 xs w)
      ∙ ap (λ (c : Class). symbol_in c (52 + k * symbol_len c) (F xs w)) (class_is xs w)

  count_is : count (F xs w) 2 ≡ 1 + length xs
  count_is =
      ap (λ (s : Section). s.size / symbol_len (class_of (F xs w))) (section_2 xs w)
      ∙ ap (λ (c : Class). table_len xs / symbol_len c) (class_is xs w) ∙ (let k : table_len xs / 16 ≡ 1 + length xs = omega arith in k)

  abbrev sb0 : List ℕ
  sb0 = symbol_bytes 0 0 0 0

  abbrev R : List ℕ
  R = string_table xs ++ (section_names ++ (Z xs w ++ section_headers xs))

  -- row p is symbol 1 + p
  symbol_row : (p : ℕ) (s : Row) → slice_get xs p ≡ Some s → symbol (F xs w) 2 (1 + p) ≡ record { name = 1 + length (names (take p xs)); value = s.value; section = s.section }
  symbol_row p s e =
      let each = w.each p s e in
      symbol_at (1 + p) ∙ ap (λ (n : ℕ). symbol_in Elf32 n (F xs w)) (let k : 52 + (1 + p) * 16 ≡ 68 + p * 16 = omega arith in k)
      ∙ ap (symbol_in Elf32 (68 + p * 16)) (behind_null (H xs w) sb0 (entries 1 xs) R)
      ∙ entry_written (H xs w ++ sb0) R 68 1 xs p s
      (let a = length-append (H xs w) sb0 in let b = length_header (sections_at xs) in let c = length_symbol 0 0 0 0 in omega (arith, a, b, c))
      e (let b = names_below xs p s e in let f = w.short in omega (arith, b, f)) (let v = each.small in omega (arith, v)) (let v = each.in_sections in omega (arith, v))

  text_of : (k n : ℕ) (text : List ℕ) → (symbol (F xs w) 2 k).name ≡ n → text_at n (string_table xs) ≡ Some text → symbol_name (F xs w) 2 k ≡ Some text
  text_of k n text en et =
      ap (λ (s : Section). text_at (symbol (F xs w) 2 k).name (contents (F xs w) (section (F xs w) s.link))) (section_2 xs w)
      ∙ ap (text_at (symbol (F xs w) 2 k).name) strings_are ∙ ap (λ (m : ℕ). text_at m (string_table xs)) en ∙ et

  text_row : (p : ℕ) (s : Row) → slice_get xs p ≡ Some s → symbol_name (F xs w) 2 (1 + p) ≡ Some s.name
  text_row p s e = text_of (1 + p) (1 + length (names (take p xs))) s.name (ap (λ (r : RawSymbol). r.name) (symbol_row p s e)) (text_of_symbol xs p s e (w.each p s e).no_zero)

  -- ---- the two sections that count

  is_below : (i : ℕ) → i < 5 → i < (header (F xs w)).shnum
  is_below i l = let n : (header (F xs w)).shnum ≡ 5 = ap (λ (h : Header). h.shnum) (header_is xs w) in omega (arith, n)

  named_0 : section_name (F xs w) 0 ≡ Some []
  named_0 = named 0 0 _ [] (section_0 xs w) refl name_0

  not_defmt : (j : ℕ) → j < 1 → HasDefmtName (F xs w) j → ⊥
  not_defmt zero l h = let e : Some [] ≡ Some (codes ".defmt") = sym named_0 ∙ h in absurd cc
  not_defmt (suc j) l h = absurd (omega arith)

  defmt_1 : IsDefmt (F xs w) 1
  defmt_1 = record { below = is_below 1 (omega arith); has = named 1 1 _ (codes ".defmt") (section_1 xs w) refl name_1; first = not_defmt }

  kind_0 : HasSymbols (F xs w) 0 → ⊥
  kind_0 h = let k : (section (F xs w) 0).kind ≡ 0 = ap (λ (s : Section). s.kind) (section_0 xs w) in let e = h.0 in absurd (omega (arith, k, e))

  kind_1 : HasSymbols (F xs w) 1 → ⊥
  kind_1 h = let k : (section (F xs w) 1).kind ≡ 1 = ap (λ (s : Section). s.kind) (section_1 xs w) in let e = h.0 in absurd (omega (arith, k, e))

  no_symbols : (j : ℕ) → j < 2 → HasSymbols (F xs w) j → ⊥
  no_symbols zero l h = kind_0 h
  no_symbols (suc zero) l h = kind_1 h
  no_symbols (suc (suc j)) l h = absurd (omega arith)

  symbols_2 : IsSymbols (F xs w) 2
  symbols_2 = record {
    below = is_below 2 (omega arith);
    has = (ap (λ (s : Section). s.kind) (section_2 xs w), ap (λ (s : Section). bit_and s.flags 0x800) (section_2 xs w));
    first = no_symbols;
  }

  -- ---- the markers

  row_at : (k : ℕ) → 0 < k → k < 1 + length xs → (p : ℕ) × (s : Row) × (k ≡ 1 + p) × (slice_get xs p ≡ Some s)
  row_at k above below = let t = there xs (k - 1) (omega arith) in (k - 1, t.0, omega arith, t.1)

  -- what the symbols say behind a front that all rows keep
  said : (front value : List ℕ) → RowsKeep front value xs → (k : ℕ) (rest : List ℕ) → Says (F xs w) 2 front k rest → rest ≡ value
  said front value kept k rest s =
      let x = row_at k s.above (let b = s.below in omega (arith, b, count_is)) in
      let found : Some s.name ≡ Some x.1.name = sym s.name_is ∙ ap (symbol_name (F xs w) 2) x.2 ∙ text_row x.0 x.1 x.3 in
      let same : s.name ≡ x.1.name = cc in
      kept x.0 x.1 x.3 s.inner rest (subst (λ (t : List ℕ). IsUnquoted t s.inner) same s.unquoted) s.says

  -- row p says its name
  says_row : (p : ℕ) (s : Row) (front value : List ℕ) → slice_get xs p ≡ Some s → s.name ≡ front ++ value → get_or s.name 0 0 ≡ 95 → Says (F xs w) 2 front (1 + p) value
  says_row p s front value e is begins = record {
    above = omega arith;
    below = (let l = (at_get xs p s e).0 in omega (arith, l, count_is));
    name = s.name;
    name_is = text_row p s e;
    inner = s.name;
    unquoted = itself s.name (λ q. absurd (omega (arith, begins, q)));
    says = is;
  }

  pub marker_there : (p : ℕ) (s : Row) (front value : List ℕ) → slice_get xs p ≡ Some s → s.name ≡ front ++ value → get_or s.name 0 0 ≡ 95 → RowsKeep front value xs → HasMarker (F xs w) 2 front value
  marker_there p s front value e is begins kept = record { number = 1 + p; some = says_row p s front value e is begins; every = said front value kept }

  pub said_only : (front value : List ℕ) → RowsKeep front value xs → SaysOnly (F xs w) 2 front value
  said_only front value kept = record { every = said front value kept }

  -- ---- the checks

  names_there : (i : ℕ) → i < (header (F xs w)).shnum → IsSome (section_name (F xs w) i)
  names_there zero l = ap is_some named_0
  names_there (suc zero) l = ap is_some (named 1 1 _ (codes ".defmt") (section_1 xs w) refl name_1)
  names_there (suc (suc zero)) l = ap is_some (named 2 8 _ (codes ".symtab") (section_2 xs w) refl name_2)
  names_there (suc (suc (suc zero))) l = ap is_some (named 3 16 _ (codes ".strtab") (section_3 xs w) refl name_3)
  names_there (suc (suc (suc (suc zero)))) l = ap is_some (named 4 24 _ (codes ".shstrtab") (section_4 xs w) refl name_4)
  names_there (suc (suc (suc (suc (suc i))))) l = absurd (let n : (header (F xs w)).shnum ≡ 5 = ap (λ (h : Header). h.shnum) (header_is xs w) in omega (arith, n, l))

  symbol_names_there : (k : ℕ) → 0 < k → k < count (F xs w) 2 → IsSome (symbol_name (F xs w) 2 k)
  symbol_names_there k above below =
      let x = row_at k above (omega (arith, below, count_is)) in
      ap is_some (ap (symbol_name (F xs w) 2) x.2 ∙ text_row x.0 x.1 x.3)

  strings_at : strings (F xs w) 2 ≡ section (F xs w) 3
  strings_at = ap (λ (s : Section). section (F xs w) s.link) (section_2 xs w)

  table_there : IsTable (F xs w) 2
  table_there = record {
    entry_size = ap (λ (s : Section). s.entry_size) (section_2 xs w) ∙ ap symbol_len (sym (class_is xs w));
    whole = ap (λ (s : Section). s.size % symbol_len (class_of (F xs w))) (section_2 xs w) ∙ ap (λ (c : Class). table_len xs % symbol_len c) (class_is xs w) ∙ (let k : table_len xs % 16 ≡ 0 = omega arith in k);
    fits = subst (λ (s : Section). s.offset + s.size ≤ length (F xs w)) (sym (section_2 xs w)) (omega (arith, length_of xs w));
    link = subst (λ (s : Section). s.link < (header (F xs w)).shnum) (sym (section_2 xs w)) (is_below 3 (omega arith));
    linked = ap (λ (s : Section). s.kind) (strings_at ∙ section_3 xs w);
  }

  strings_fit : Fits (F xs w) (strings (F xs w) 2)
  strings_fit = subst (λ (s : Section). s.offset + s.size ≤ length (F xs w)) (sym (strings_at ∙ section_3 xs w)) (omega (arith, length_of xs w))

  abbrev pub Keeps : Type 0
  Keeps = HasMarker (F xs w) 2 version_front (codes "4") × HasMarker (F xs w) 2 encoding_front (codes "rzcobs") × (SaysOnly (F xs w) 2 profile_front (codes "1") ⊎ SaysOnly (F xs w) 2 profile_front (codes "2"))

  written_passes : Keeps → Passes (F xs w)
  written_passes keeps is_elf = (omega (arith, length_of xs w), refl)
  written_passes keeps has_class = inl refl
  written_passes keeps is_little = refl
  written_passes keeps has_header = subst (λ (c : Class). header_len c ≤ length (F xs w)) (sym (class_is xs w)) (omega (arith, length_of xs w))
  written_passes keeps has_sections = is_below 0 (omega arith)
  written_passes keeps has_entry_size = ap (λ (h : Header). h.shentsize) (header_is xs w) ∙ ap section_len (sym (class_is xs w))
  written_passes keeps has_section_headers =
      subst (λ (h : Header). h.shoff + h.shnum * section_len (class_of (F xs w)) ≤ length (F xs w)) (sym (header_is xs w))
      (subst (λ (c : Class). sections_at xs + 5 * section_len c ≤ length (F xs w)) (sym (class_is xs w)) (omega (arith, length_of xs w)))
  written_passes keeps has_names = (
    subst (λ (h : Header). h.shstrndx < h.shnum) (sym (header_is xs w)) (omega arith),
    subst (λ (h : Header). Fits (F xs w) (section (F xs w) h.shstrndx)) (sym (header_is xs w)) (subst (λ (s : Section). s.offset + s.size ≤ length (F xs w)) (sym (section_4 xs w)) (omega (arith, length_of xs w))),
  )
  written_passes keeps (has_section_name i) = names_there i
  written_passes keeps has_defmt = (1, defmt_1)
  written_passes keeps has_symbols = (2, symbols_2)
  written_passes keeps (has_table i) = for_symbols (F xs w) 2 (IsTable (F xs w)) symbols_2 table_there i
  written_passes keeps (has_plain_strings i) = for_symbols (F xs w) 2 (λ j. IsPlain (strings (F xs w) j)) symbols_2 (ap (λ (s : Section). bit_and s.flags 0x800) (strings_at ∙ section_3 xs w)) i
  written_passes keeps (has_strings i) = for_symbols (F xs w) 2 (λ j. Fits (F xs w) (strings (F xs w) j)) symbols_2 strings_fit i
  written_passes keeps (has_symbol_name k) = λ i s above. for_symbols (F xs w) 2 (λ j. k < count (F xs w) j → IsSome (symbol_name (F xs w) j k)) symbols_2 (symbol_names_there k above) i s
  written_passes keeps has_version = λ i s. for_symbols (F xs w) 2 (λ j. HasMarker (F xs w) j version_front (codes "4")) symbols_2 keeps.0 i s
  written_passes keeps has_encoding = λ i s. for_symbols (F xs w) 2 (λ j. HasMarker (F xs w) j encoding_front (codes "rzcobs")) symbols_2 keeps.1 i s
  written_passes keeps has_profile = λ i s. for_symbols (F xs w) 2 (λ j. SaysOnly (F xs w) j profile_front (codes "1") ⊎ SaysOnly (F xs w) j profile_front (codes "2")) symbols_2 keeps.2 i s

  pub says_two : (p : ℕ) (s : Row) → slice_get xs p ≡ Some s → s.name ≡ profile_front ++ codes "2" → get_or s.name 0 0 ≡ 95 → SaysTwo (F xs w)
  says_two p s e is begins = (2, 1 + p, symbols_2, says_row p s profile_front (codes "2") e is begins)

  pub never_two : RowsKeep profile_front (codes "1") xs → SaysTwo (F xs w) → ⊥
  never_two kept = one_not_two (F xs w) 2 symbols_2 (said_only profile_front (codes "1") kept)

  -- ---- the list

  listed_row : (p : ℕ) (s : Row) → slice_get xs p ≡ Some s → is_listed (F xs w) 1 2 (1 + p) ≡ is_in s
  listed_row p s e =
      ap (λ (r : RawSymbol). eqb r.section 1 && is_braced (unwrap_or (symbol_name (F xs w) 2 (1 + p)) [])) (symbol_row p s e)
      ∙ ap (λ (o : Option (List ℕ)). eqb s.section 1 && is_braced (unwrap_or o [])) (text_row p s e)

  symbol_of_row : (p : ℕ) (s : Row) → slice_get xs p ≡ Some s → symbol_of (F xs w) 2 (1 + p) ≡ plain_row s
  symbol_of_row p s e = λ i. record { name = ap (λ (o : Option (List ℕ)). unwrap_or o []) (text_row p s e) i; value = ap (λ (r : RawSymbol). r.value) (symbol_row p s e) i }

  with_one : (k : ℕ) (ks : List ℕ) → is_listed (F xs w) 1 2 k ≡ true → symbols_from (F xs w) (k ∷ ks) ≡ symbol_of (F xs w) 2 k ∷ symbols_from (F xs w) ks
  with_one k ks e = ap (λ (b : Bool). map (symbol_of (F xs w) 2) (cond {A = List ℕ} b (k ∷ filter (is_listed (F xs w) 1 2) ks) (filter (is_listed (F xs w) 1 2) ks))) e

  without_one : (k : ℕ) (ks : List ℕ) → is_listed (F xs w) 1 2 k ≡ false → symbols_from (F xs w) (k ∷ ks) ≡ symbols_from (F xs w) ks
  without_one k ks e = ap (λ (b : Bool). map (symbol_of (F xs w) 2) (cond {A = List ℕ} b (k ∷ filter (is_listed (F xs w) 1 2) ks) (filter (is_listed (F xs w) 1 2) ks))) e

  step : (y : Row) (k : ℕ) (ks : List ℕ) (ys : List Row) (b : Bool) → is_listed (F xs w) 1 2 k ≡ b → is_in y ≡ b → symbol_of (F xs w) 2 k ≡ plain_row y → symbols_from (F xs w) ks ≡ symbols_in ys → symbols_from (F xs w) (k ∷ ks) ≡ symbols_in (y ∷ ys)
  step y k ks ys true listed begins is more =
      with_one k ks listed ∙ ap (λ (s : PlainSymbol). s ∷ symbols_from (F xs w) ks) is ∙ ap (λ (t : List PlainSymbol). plain_row y ∷ t) more
      ∙ sym (ap (λ (b : Bool). map plain_row (cond {A = List Row} b (y ∷ filter is_in ys) (filter is_in ys))) begins)
  step y k ks ys false listed begins is more =
      without_one k ks listed ∙ more ∙ sym (ap (λ (b : Bool). map plain_row (cond {A = List Row} b (y ∷ filter is_in ys) (filter is_in ys))) begins)

  all_listed : (ys : List Row) (p : ℕ) → ((q : ℕ) (y : Row) → slice_get ys q ≡ Some y → slice_get xs (p + q) ≡ Some y) → symbols_from (F xs w) (numbers (1 + p) (length ys)) ≡ symbols_in ys
  unfolding numbers
  all_listed [] p h = refl
  all_listed (y ∷ ys) p h =
      let here : slice_get xs p ≡ Some y = subst (λ (n : ℕ). slice_get xs n ≡ Some y) (let k : p + 0 ≡ p = omega arith in k) (h 0 y refl) in
      let next : 1 + p + 1 ≡ 1 + (p + 1) = omega arith in
      step y (1 + p) (numbers (1 + p + 1) (length ys)) ys (is_in y) (listed_row p y here) refl (symbol_of_row p y here)
      (ap (λ (n : ℕ). symbols_from (F xs w) (numbers n (length ys))) next
      ∙ all_listed ys (p + 1) (λ q z e. subst (λ (n : ℕ). slice_get xs n ≡ Some z) (let k : p + suc q ≡ p + 1 + q = omega arith in k) (h (suc q) z e)))

  pub lists_rows : Keeps → Lists (F xs w) (symbols_in xs)
  lists_rows keeps = record {
    passes = written_passes keeps;
    defmt = 1;
    is_defmt = defmt_1;
    table = 2;
    is_table = symbols_2;
    are = sym (
        ap (λ (n : ℕ). symbols_from (F xs w) (numbers 1 n)) (let k : count (F xs w) 2 - 1 ≡ length xs = omega (arith, count_is) in k)
        ∙ all_listed xs 0 (λ q y e. subst (λ (n : ℕ). slice_get xs n ≡ Some y) (let k : q ≡ 0 + q = omega arith in k) e));
  }

-- ---- the markers and the list

one_more : (b : Bool) (s : PlainSymbol) (rs : List Row) (ss : List PlainSymbol) → map plain_row rs ≡ ss → map plain_row (cond {A = List Row} b (listed s ∷ rs) rs) ≡ cond {A = List PlainSymbol} b (s ∷ ss) ss
one_more true s rs ss e = ap (λ (t : List PlainSymbol). s ∷ t) e
one_more false s rs ss e = e

of_list : (xs : List PlainSymbol) → symbols_in (listed_all xs) ≡ braced xs
of_list [] = refl
of_list (x ∷ xs) = one_more (is_braced x.name) x (filter is_in (listed_all xs)) (braced xs) (of_list xs)

of_rows : (profile : Profile) (xs : List PlainSymbol) → symbols_in (rows profile xs) ≡ braced xs
of_rows profiles.One xs = of_list xs
of_rows profiles.Two xs = of_list xs

-- the first rows
first_row : (profile : Profile) (xs : List PlainSymbol) → slice_get (rows profile xs) 0 ≡ Some (marked version_name)
first_row profiles.One xs = refl
first_row profiles.Two xs = refl

second_row : (profile : Profile) (xs : List PlainSymbol) → slice_get (rows profile xs) 1 ≡ Some (marked encoding_name)
second_row profiles.One xs = refl
second_row profiles.Two xs = refl

says_profile : (profile : Profile) (xs : List PlainSymbol) (w : AreWritable (rows profile xs)) → KeepsMarkers profile xs → ProfileIs (F (rows profile xs) w) profile
says_profile profiles.One xs w keeps = never_two (rows profiles.One xs) w (profile_kept profiles.One xs keeps)
says_profile profiles.Two xs w keeps = says_two (rows profiles.Two xs) w 2 (marked profile_name) refl refl refl

by_profile : (profile : Profile) (file : List ℕ) → SaysOnly file 2 profile_front (profile_word profile) → SaysOnly file 2 profile_front (codes "1") ⊎ SaysOnly file 2 profile_front (codes "2")
by_profile profiles.One file only = inl only
by_profile profiles.Two file only = inr only

keeps_by : (profile : Profile) (xs : List PlainSymbol) (w : AreWritable (rows profile xs)) → KeepsMarkers profile xs → Keeps (rows profile xs) w
keeps_by profile xs w keeps = (
  marker_there (rows profile xs) w 0 (marked version_name) version_front (codes "4") (first_row profile xs) refl refl (version_kept profile xs keeps),
  marker_there (rows profile xs) w 1 (marked encoding_name) encoding_front (codes "rzcobs") (second_row profile xs) refl refl (encoding_kept profile xs keeps),
  by_profile profile (F (rows profile xs) w) (said_only (rows profile xs) w profile_front (profile_word profile) (profile_kept profile xs keeps)),
)

pub written_is_read : (profile : Profile) (xs : List PlainSymbol) → IsWritable xs → KeepsMarkers profile xs → Carries (written profile xs) (braced xs) profile
written_is_read profile xs writable keeps =
    let rs : List Row = rows profile xs in
    let w : AreWritable rs = rows_writable profile xs writable in
    let lists : Lists (F rs w) (braced xs) = subst (Lists (F rs w)) (of_rows profile xs) (lists_rows rs w (keeps_by profile xs w keeps)) in
    subst (λ (f : List ℕ). Carries f (braced xs) profile) (sym (whole rs w)) (lists, says_profile profile xs w keeps)

-- ---- names that begin with `{`

-- such a name is no marker
no_marker : (name front inner rest value : List ℕ) → get_or name 0 0 ≡ 123 → ((r : List ℕ) → get_or (front ++ r) 0 0 ≡ 95) → IsUnquoted name inner → inner ≡ front ++ rest → rest ≡ value
no_marker name front inner rest value brace begins u e =
    let plain : inner ≡ name = plain_unquoted name inner (λ q. absurd (omega (arith, brace, q))) u in
    let first : get_or name 0 0 ≡ 95 = ap (λ (t : List ℕ). get_or t 0 0) (sym plain ∙ e) ∙ begins rest in
    absurd (omega (arith, brace, first))

none_marked : (front value : List ℕ) → ((r : List ℕ) → get_or (front ++ r) 0 0 ≡ 95) → (xs : List PlainSymbol) → AreBraced xs → All (λ s. KeepsMarker front value s.name) xs
none_marked front value begins xs h = All-weaker (λ s. get_or s.name 0 0 ≡ 123) (λ s. KeepsMarker front value s.name) (λ s brace inner rest u e. no_marker s.name front inner rest value brace begins u e) xs h

pub braced_keep : (profile : Profile) (xs : List PlainSymbol) → AreBraced xs → KeepsMarkers profile xs
braced_keep profile xs h = record {
  version = none_marked version_front (codes "4") (λ r. refl) xs h;
  encoding = none_marked encoding_front (codes "rzcobs") (λ r. refl) xs h;
  profile = none_marked profile_front (profile_word profile) (λ r. refl) xs h;
}

pub braced_all : (xs : List PlainSymbol) → AreBraced xs → braced xs ≡ xs
braced_all [] h = refl
braced_all (x ∷ xs) h =
    let first : is_braced x.name ≡ true = ap (λ (b : ℕ). eqb b 123) (All-head (λ s. get_or s.name 0 0 ≡ 123) x xs h) in
    ap (λ (b : Bool). cond {A = List PlainSymbol} b (x ∷ braced xs) (braced xs)) first ∙ ap (λ (t : List PlainSymbol). x ∷ t) (braced_all xs (All-tail (λ s. get_or s.name 0 0 ≡ 123) x xs h))

-- What is written is read back: fields and sections.
use Rattle.std.proofs.Common.{◌≡◌, ◌≤◌, ◌<◌, ◌+◌, ◌*◌, ◌^◌, ℕ, List, [], ◌∷◌, ◌++◌, length, replicate, refl, sym, ap, ◌∙◌, arith, append_assoc, length-append}
use Rattle.std.proofs.lemmas.List.{length-replicate, append-nil}
use Rattle.byte_images.specs.Fields.{number}
use Rattle.byte_images.proofs.FieldLaws.{number_behind, number_front}
use Rattle.byte_images.specs.Elf.{class_of}
use Rattle.elf_section.specs.File.{section_len, header_in, header, section, section_in}
use Rattle.elf_section.specs.Written.{half, word, header_bytes, symbol_bytes, section_bytes, entries, symbol_table, string_table, section_names, padding_len, table_len, strings_len, names_at, sections_at, section_headers, written_rows, Row}
use Rattle.byte_images.specs.declared.elf.Class.{Class}
use Rattle.byte_images.specs.declared.elf.Class.TheVariants.{Elf32}
use Rattle.elf_section.specs.declared.file.Header.{Header}
use Rattle.elf_section.proofs.WritingLaws.{regroup4}
use Rattle.elf_section.proofs.Rows.{AreWritable}
use Rattle.elf_section.proofs.FieldLaws.{length_half, number_word, number_half, length_section, section_written, length_symbol, skip, skip_half, length_more, number_last_half}

half_more : (x : ℕ) (rest : List ℕ) (n : ℕ) → length rest ≡ n → length (half x ++ rest) ≡ 2 + n
half_more x rest n e = let a = length-append (half x) rest in let b = length_half x in omega (arith, a, b, e)

abbrev ident : List ℕ
ident = 0x7f ∷ 0x45 ∷ 0x4c ∷ 0x46 ∷ 1 ∷ 1 ∷ 1 ∷ 0 ∷ 0 ∷ 0 ∷ 0 ∷ 0 ∷ 0 ∷ 0 ∷ 0 ∷ 0 ∷ []

abbrev tail_of : ℕ → List ℕ
tail_of so = half 2 ++ (half 40 ++ (word 1 ++ (word 0 ++ (word 0 ++ (word so ++ (word 0 ++ (half 52 ++ (half 0 ++ (half 0 ++ (half 40 ++ (half 5 ++ half 4)))))))))))

length_tail : (so : ℕ) → length (tail_of so) ≡ 36
length_tail so = half_more 2 _ 34 (half_more 40 _ 32 (length_more 1 _ 28 (length_more 0 _ 24 (length_more 0 _ 20 (length_more so _ 16 (length_more 0 _ 12 (half_more 52 _ 10 (half_more 0 _ 8 (half_more 0 _ 6 (half_more 40 _ 4 (half_more 5 _ 2 (length_half 4))))))))))))

pub length_header : (so : ℕ) → length (header_bytes so) ≡ 52
length_header so = length-append ident (tail_of so) ∙ ap (λ (n : ℕ). 16 + n) (length_tail so)

length_entries : (at : ℕ) (xs : List Row) → length (entries at xs) ≡ 16 * length xs
length_entries at [] = refl
length_entries at (x ∷ xs) =
    let a = length-append (symbol_bytes at x.value 16 x.section) (entries (at + length x.name + 1) xs) in
    let b = length_symbol at x.value 16 x.section in
    let c = length_entries (at + length x.name + 1) xs in
    omega (arith, a, b, c)

pub length_table : (xs : List Row) → length (symbol_table xs) ≡ table_len xs
length_table xs =
    let a = length-append (symbol_bytes 0 0 0 0) (entries 1 xs) in
    let b = length_symbol 0 0 0 0 in
    let c = length_entries 1 xs in
    omega (arith, a, b, c)

pub length_strings : (xs : List Row) → length (string_table xs) ≡ strings_len xs
length_strings xs = omega arith

-- ---- the header of a file that begins with these bytes

pub header_of_bytes : (so : ℕ) (back : List ℕ) → so < 2 ^ 32 → header_in Elf32 (header_bytes so ++ back) ≡ record { shoff = so; shentsize = 40; shnum = 5; shstrndx = 4 }
unfolding header_in
header_of_bytes so back h =
    let len = length_header so in
    let field : (at size : ℕ) → 16 + at + size ≤ 52 → number (16 + at) size (header_bytes so ++ back) ≡ number at size (tail_of so) = λ at size l. number_front (16 + at) size (header_bytes so) back (omega (arith, len, l)) ∙ number_behind ident (tail_of so) 16 at size refl in
    let a : number 32 4 (header_bytes so ++ back) ≡ so = field 16 4 (omega arith) ∙ skip_half 2 14 4 _ ∙ skip_half 40 12 4 _ ∙ skip 1 8 4 _ ∙ skip 0 4 4 _ ∙ skip 0 0 4 _ ∙ number_word so _ h in
    let b : number 46 2 (header_bytes so ++ back) ≡ 40 = field 30 2 (omega arith) ∙ skip_half 2 28 2 _ ∙ skip_half 40 26 2 _ ∙ skip 1 22 2 _ ∙ skip 0 18 2 _ ∙ skip 0 14 2 _ ∙ skip so 10 2 _ ∙ skip 0 6 2 _ ∙ skip_half 52 4 2 _ ∙ skip_half 0 2 2 _ ∙ skip_half 0 0 2 _ ∙ number_half 40 _ (omega arith) in
    let c : number 48 2 (header_bytes so ++ back) ≡ 5 = field 32 2 (omega arith) ∙ skip_half 2 30 2 _ ∙ skip_half 40 28 2 _ ∙ skip 1 24 2 _ ∙ skip 0 20 2 _ ∙ skip 0 16 2 _ ∙ skip so 12 2 _ ∙ skip 0 8 2 _ ∙ skip_half 52 6 2 _ ∙ skip_half 0 4 2 _ ∙ skip_half 0 2 2 _ ∙ skip_half 40 0 2 _ ∙ number_half 5 _ (omega arith) in
    let d : number 50 2 (header_bytes so ++ back) ≡ 4 = field 34 2 (omega arith) ∙ skip_half 2 32 2 _ ∙ skip_half 40 30 2 _ ∙ skip 1 26 2 _ ∙ skip 0 22 2 _ ∙ skip 0 18 2 _ ∙ skip so 14 2 _ ∙ skip 0 10 2 _ ∙ skip_half 52 8 2 _ ∙ skip_half 0 6 2 _ ∙ skip_half 0 4 2 _ ∙ skip_half 40 2 2 _ ∙ skip_half 5 0 2 _ ∙ number_last_half 4 (omega arith) in
    λ i. record { shoff = a i; shentsize = b i; shnum = c i; shstrndx = d i }

class_of_bytes : (so : ℕ) (back : List ℕ) → class_of (header_bytes so ++ back) ≡ Elf32
unfolding class_of
class_of_bytes so back = refl

pub regroup3 : (a b c d : List ℕ) → a ++ (b ++ (c ++ d)) ≡ (a ++ (b ++ c)) ++ d
regroup3 a b c d = simp append_assoc

last4 : (a b c d e : List ℕ) → a ++ (b ++ (c ++ (d ++ e))) ≡ (a ++ (b ++ (c ++ d))) ++ (e ++ [])
last4 a b c d e = simp (append_assoc, append-nil)

-- ---- the five sections

module _ (xs : List Row) (w : AreWritable xs) where
  so : ℕ
  so = sections_at xs

  abbrev pub H : List ℕ
  H = header_bytes (sections_at xs)

  abbrev pub Z : List ℕ
  Z = replicate (padding_len (names_at xs + 34)) 0

  abbrev pub F : List ℕ
  F = H ++ (symbol_table xs ++ (string_table xs ++ (section_names ++ (Z ++ section_headers xs))))

  pub whole : written_rows xs ≡ F
  unfolding written_rows
  whole = refl

  small : sections_at xs < 2 ^ 32
  small = let a = w.few in let b = w.short in omega arith

  pub class_is : class_of F ≡ Elf32
  class_is = class_of_bytes (sections_at xs) _

  pub header_is : header F ≡ record { shoff = sections_at xs; shentsize = 40; shnum = 5; shstrndx = 4 }
  header_is = ap (λ (c : Class). header_in c F) class_is ∙ header_of_bytes (sections_at xs) _ small

  abbrev P : List ℕ
  P = H ++ (symbol_table xs ++ (string_table xs ++ (section_names ++ Z)))

  length_P : length P ≡ sections_at xs
  length_P =
      let a = length-append H (symbol_table xs ++ (string_table xs ++ (section_names ++ Z))) in
      let b = length-append (symbol_table xs) (string_table xs ++ (section_names ++ Z)) in
      let c = length-append (string_table xs) (section_names ++ Z) in
      let d = length-append section_names Z in
      let e = length_header (sections_at xs) in
      let f = length_table xs in
      let g = length_strings xs in
      let h = length-replicate {A = ℕ} (padding_len (names_at xs + 34)) 0 in
      omega (arith, a, b, c, d, e, f, g, h)

  split : F ≡ P ++ section_headers xs
  split = sym (regroup4 H (symbol_table xs) (string_table xs) section_names Z (section_headers xs))

  -- section i, read at its place
  at_place : (i : ℕ) → section F i ≡ section_in Elf32 (sections_at xs + i * 40) F
  at_place i =
      ap (λ (h : Header). section_in (class_of F) (h.shoff + i * section_len (class_of F)) F) header_is
      ∙ ap (λ (c : Class). section_in c (sections_at xs + i * section_len c) F) class_is

  block : (i : ℕ) (front back : List ℕ) (name kind offset size link info align entry_size : ℕ) → section_headers xs ≡ front ++ (section_bytes name kind offset size link info align entry_size ++ back) → length front ≡ i * 40
      → name < 2 ^ 32 → kind < 2 ^ 32 → offset < 2 ^ 32 → size < 2 ^ 32 → link < 2 ^ 32 → entry_size < 2 ^ 32
      → section F i ≡ record { name = name; kind = kind; flags = 0; offset = offset; size = size; link = link; entry_size = entry_size }
  block i front back name kind offset size link info align entry_size e l hn hk ho hs hl he =
      let parts : F ≡ (P ++ front) ++ (section_bytes name kind offset size link info align entry_size ++ back) =
      split ∙ ap (λ (x : List ℕ). P ++ x) e ∙ sym (append_assoc P front (section_bytes name kind offset size link info align entry_size ++ back)) in
      let len : length (P ++ front) ≡ sections_at xs + i * 40 = (let a = length-append P front in let b = length_P in omega (arith, a, b, l)) in
      at_place i ∙ ap (section_in Elf32 (sections_at xs + i * 40)) parts
      ∙ section_written (P ++ front) back (sections_at xs + i * 40) name kind offset size link info align entry_size len hn hk ho hs hl he

  abbrev B0 : List ℕ
  B0 = section_bytes 0 0 0 0 0 0 0 0

  abbrev B1 : List ℕ
  B1 = section_bytes 1 1 52 0 0 0 1 0

  abbrev B2 : List ℕ
  B2 = section_bytes 8 2 52 (table_len xs) 3 1 4 16

  abbrev B3 : List ℕ
  B3 = section_bytes 16 3 (52 + table_len xs) (strings_len xs) 0 0 1 0

  abbrev B4 : List ℕ
  B4 = section_bytes 24 3 (names_at xs) 34 0 0 1 0

  pub section_0 : section F 0 ≡ record { name = 0; kind = 0; flags = 0; offset = 0; size = 0; link = 0; entry_size = 0 }
  section_0 = block 0 [] (B1 ++ (B2 ++ (B3 ++ B4))) 0 0 0 0 0 0 0 0 refl refl (omega arith) (omega arith) (omega arith) (omega arith) (omega arith) (omega arith)

  pub section_1 : section F 1 ≡ record { name = 1; kind = 1; flags = 0; offset = 52; size = 0; link = 0; entry_size = 0 }
  section_1 = block 1 B0 (B2 ++ (B3 ++ B4)) 1 1 52 0 0 0 1 0 refl (length_section 0 0 0 0 0 0 0 0) (omega arith) (omega arith) (omega arith) (omega arith) (omega arith) (omega arith)

  pub section_2 : section F 2 ≡ record { name = 8; kind = 2; flags = 0; offset = 52; size = table_len xs; link = 3; entry_size = 16 }
  section_2 = block 2 (B0 ++ B1) (B3 ++ B4) 8 2 52 (table_len xs) 3 1 4 16 (sym (append_assoc B0 B1 (B2 ++ (B3 ++ B4))))
      (let a = length-append B0 B1 in let b = length_section 0 0 0 0 0 0 0 0 in let c = length_section 1 1 52 0 0 0 1 0 in omega (arith, a, b, c))
      (omega arith) (omega arith) (omega arith) (let f = w.few in omega arith) (omega arith) (omega arith)

  pub section_3 : section F 3 ≡ record { name = 16; kind = 3; flags = 0; offset = 52 + table_len xs; size = strings_len xs; link = 0; entry_size = 0 }
  section_3 = block 3 (B0 ++ (B1 ++ B2)) B4 16 3 (52 + table_len xs) (strings_len xs) 0 0 1 0 (regroup3 B0 B1 B2 (B3 ++ B4))
      (let a = length-append B0 (B1 ++ B2) in let d = length-append B1 B2 in let b = length_section 0 0 0 0 0 0 0 0 in let c = length_section 1 1 52 0 0 0 1 0 in let e = length_section 8 2 52 (table_len xs) 3 1 4 16 in omega (arith, a, b, c, d, e))
      (omega arith) (omega arith) (let f = w.few in omega arith) (let f = w.short in omega arith) (omega arith) (omega arith)

  pub section_4 : section F 4 ≡ record { name = 24; kind = 3; flags = 0; offset = names_at xs; size = 34; link = 0; entry_size = 0 }
  section_4 = block 4 (B0 ++ (B1 ++ (B2 ++ B3))) [] 24 3 (names_at xs) 34 0 0 1 0 (last4 B0 B1 B2 B3 B4)
      (let a = length-append B0 (B1 ++ (B2 ++ B3)) in let d = length-append B1 (B2 ++ B3) in let g = length-append B2 B3 in let b = length_section 0 0 0 0 0 0 0 0 in let c = length_section 1 1 52 0 0 0 1 0 in let e = length_section 8 2 52 (table_len xs) 3 1 4 16 in let h = length_section 16 3 (52 + table_len xs) (strings_len xs) 0 0 1 0 in omega (arith, a, b, c, d, e, g, h))
      (omega arith) (omega arith) (let f = w.few in let g = w.short in omega arith) (omega arith) (omega arith) (omega arith)

  length_X : length (section_headers xs) ≡ 200
  length_X =
      let a = length-append B0 (B1 ++ (B2 ++ (B3 ++ B4))) in
      let b = length-append B1 (B2 ++ (B3 ++ B4)) in
      let c = length-append B2 (B3 ++ B4) in
      let d = length-append B3 B4 in
      let e = length_section 0 0 0 0 0 0 0 0 in
      let f = length_section 1 1 52 0 0 0 1 0 in
      let g = length_section 8 2 52 (table_len xs) 3 1 4 16 in
      let h = length_section 16 3 (52 + table_len xs) (strings_len xs) 0 0 1 0 in
      let k = length_section 24 3 (names_at xs) 34 0 0 1 0 in
      omega (arith, a, b, c, d, e, f, g, h, k)

  pub length_F : length F ≡ sections_at xs + 200
  length_F = let a = ap length split in let b = length-append P (section_headers xs) in let c = length_P in let d = length_X in omega (arith, a, b, c, d)

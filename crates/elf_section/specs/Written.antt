-- The file that is written: ELF32, its parts one after the other (ELF gABI, "ELF Header", "Sections", "Symbol Table").
use Rattle.std.specs.Prelude.{◌≡◌, ◌≤◌, ◌+◌, ◌*◌, ◌-◌, ◌%◌, ℕ, List, [], ◌∷◌, ◌++◌, length, codes, map, replicate, slice_index, ◌≢◌, ◌^◌}
use Rattle.std.specs.List.{flat_map, filter, sum_by, All}
use Rattle.byteorder.specs.Endian.{little_bytes}
use Rattle.defmt_intern.specs.declared.table.Profile.{Profile}
use Rattle.defmt_intern.specs.declared.table.Profile.TheVariants as profiles
use Rattle.elf_section.specs.Bytes.{IsUnquoted}
use Rattle.elf_section.specs.Checks.{version_front, encoding_front, profile_front, profile_word}
use Rattle.elf_section.specs.Listed.{is_braced}
use Rattle.elf_section.specs.Symbol.{PlainSymbol}

-- a number in two or four bytes
unfoldable pub half : ℕ → List ℕ
half n = little_bytes 2 n

unfoldable pub word : ℕ → List ℕ
word n = little_bytes 4 n

-- ---- the rows of the symbol table behind the null symbol

pub record Row : Type 0 where
  pub name : List ℕ
  pub value : ℕ
  pub section : ℕ

-- a symbol of the list lies in `.defmt`, which is section 1
abbrev pub listed : PlainSymbol → Row
listed s = record { name = s.name; value = s.value; section = 1 }

abbrev pub listed_all : List PlainSymbol → List Row
listed_all symbols = map listed symbols

-- a marker has the value 1 and lies in no section (SHN_ABS)
abbrev pub marked : List ℕ → Row
marked name = record { name = name; value = 1; section = 0xfff1 }

abbrev pub version_name : List ℕ
version_name = codes "_defmt_version_ = 4"

abbrev pub encoding_name : List ℕ
encoding_name = codes "_defmt_encoding_ = rzcobs"

abbrev pub profile_name : List ℕ
profile_name = codes "_defmt_profile_ = 2"

-- the first profile has no marker of its own
abbrev pub markers : Profile → List Row
markers profiles.One = marked version_name ∷ marked encoding_name ∷ []
markers profiles.Two = marked version_name ∷ marked encoding_name ∷ marked profile_name ∷ []

-- the markers, and then the list
abbrev pub rows : Profile → List PlainSymbol → List Row
rows profile symbols = markers profile ++ listed_all symbols

-- ---- the parts of the file

abbrev pub ended : Row → List ℕ
ended r = r.name ++ 0 ∷ []

-- the names of rows, each with a zero
abbrev pub names : List Row → List ℕ
names rs = flat_map ended rs

abbrev pub header_bytes : ℕ → List ℕ
header_bytes shoff =
    (0x7f ∷ 0x45 ∷ 0x4c ∷ 0x46 ∷ 1 ∷ 1 ∷ 1 ∷ 0 ∷ 0 ∷ 0 ∷ 0 ∷ 0 ∷ 0 ∷ 0 ∷ 0 ∷ 0 ∷ [])
    ++ (half 2 ++ (half 40 ++ (word 1 ++ (word 0 ++ (word 0 ++ (word shoff ++ (word 0 ++ (half 52
    ++ (half 0 ++ (half 0 ++ (half 40 ++ (half 5 ++ half 4))))))))))))

-- one entry of the symbol table
abbrev pub symbol_bytes : ℕ → ℕ → ℕ → ℕ → List ℕ
symbol_bytes name value info section =
    word name ++ (word value ++ (word 0 ++ (info ∷ 0 ∷ half section)))

-- the entries of rows, of which the first name stands at this place of the strings
abbrev pub entries : ℕ → List Row → List ℕ
entries at [] = []
entries at (r ∷ more) =
    symbol_bytes at r.value 16 r.section ++ entries (at + length r.name + 1) more

abbrev pub symbol_table : List Row → List ℕ
symbol_table rs = symbol_bytes 0 0 0 0 ++ entries 1 rs

abbrev pub string_table : List Row → List ℕ
string_table rs = 0 ∷ names rs

abbrev pub section_names : List ℕ
section_names =
    0 ∷ (codes ".defmt" ++ 0 ∷ (codes ".symtab" ++ 0 ∷ (codes ".strtab"
    ++ 0 ∷ (codes ".shstrtab" ++ 0 ∷ []))))

-- ---- places and sizes

abbrev pub table_len : List Row → ℕ
table_len rs = 16 + 16 * length rs

abbrev pub strings_len : List Row → ℕ
strings_len rs = 1 + length (names rs)

abbrev pub names_at : List Row → ℕ
names_at rs = 52 + table_len rs + strings_len rs

-- zeros up to a multiple of 4
abbrev pub padding_len : ℕ → ℕ
padding_len n = (4 - n % 4) % 4

abbrev pub sections_at : List Row → ℕ
sections_at rs = names_at rs + 34 + padding_len (names_at rs + 34)

abbrev pub section_bytes : ℕ → ℕ → ℕ → ℕ → ℕ → ℕ → ℕ → ℕ → List ℕ
section_bytes name kind offset size link info align entry_size =
    word name ++ (word kind ++ (word 0 ++ (word 0 ++ (word offset ++ (word size ++ (word link
    ++ (word info ++ (word align ++ word entry_size))))))))

-- the section headers for so many rows and so many bytes of strings
abbrev pub headers_for : ℕ → ℕ → List ℕ
headers_for count strings =
    section_bytes 0 0 0 0 0 0 0 0
    ++ (section_bytes 1 1 52 0 0 0 1 0
    ++ (section_bytes 8 2 52 (16 + 16 * count) 3 1 4 16
    ++ (section_bytes 16 3 (52 + (16 + 16 * count)) strings 0 0 1 0
    ++ section_bytes 24 3 (52 + (16 + 16 * count) + strings) 34 0 0 1 0)))

abbrev pub section_headers : List Row → List ℕ
section_headers rs = headers_for (length rs) (strings_len rs)

-- the file: header, symbols, strings, names of sections, zeros, section headers
unfoldable pub written_rows : List Row → List ℕ
written_rows rs =
    header_bytes (sections_at rs)
    ++ (symbol_table rs
    ++ (string_table rs
    ++ (section_names
    ++ (replicate (padding_len (names_at rs + 34)) 0
    ++ section_headers rs))))

abbrev pub written : Profile → List PlainSymbol → List ℕ
written profile symbols = written_rows (rows profile symbols)

-- what can be written
pub record IsWritable (symbols : List PlainSymbol) : Type 0 where
  pub few : length symbols ≤ 65536
  pub small : All (λ s. s.value ≤ 65535) symbols
  pub no_zero : All (λ s. All (λ b. b ≢ 0) s.name) symbols
  pub short : sum_by (λ s. length s.name) symbols ≤ 2 ^ 30

-- each name begins with `{`
abbrev pub AreBraced : List PlainSymbol → Type 0
AreBraced symbols = All (λ s. slice_index s.name 0 ≡ 123) symbols

-- those whose names begin with `{`
abbrev pub braced : List PlainSymbol → List PlainSymbol
braced symbols = filter (λ s. is_braced s.name) symbols

-- if the name begins as this marker, it has this value
abbrev pub KeepsMarker : List ℕ → List ℕ → List ℕ → Type 0
KeepsMarker front value name =
    (inner rest : List ℕ) → IsUnquoted name inner → inner ≡ front ++ rest → rest ≡ value

-- no name of the list speaks of another version, encoding or profile
pub record KeepsMarkers (p : Profile) (symbols : List PlainSymbol) : Type 0 where
  pub version : All (λ s. KeepsMarker version_front (codes "4") s.name) symbols
  pub encoding : All (λ s. KeepsMarker encoding_front (codes "rzcobs") s.name) symbols
  pub profile : All (λ s. KeepsMarker profile_front (profile_word p) s.name) symbols

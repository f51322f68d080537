-- The checks of a file in their order, and the refusal of each.
-- Fields and types are those of the ELF gABI; the markers of the version and the encoding are defmt's (defmt book, "Interning"),
-- that of the profile is this project's own.
use Rattle.std.specs.Prelude.{◌≡◌, ◌≤◌, ◌<◌, ◌+◌, ◌*◌, ◌%◌, ◌⊎◌, ℕ, List, [], ◌∷◌, ◌++◌, length, take, slice_index, Option, Some, None, IsSome, codes, Result, Ok, Err, ⊤, Bool, true, false}
use Rattle.std.specs.Borrow.{Bor}
use Rattle.byte_images.specs.First.{Place, FirstToFail}
use Rattle.defmt_intern.specs.declared.table.Profile.{Profile}
use Rattle.defmt_intern.specs.declared.table.Profile.TheVariants as profiles
use Rattle.elf_section.specs.Bytes.{IsUnquoted}
use Rattle.byte_images.specs.Elf.{header_len, class_of}
use Rattle.elf_section.specs.File.{section_len, symbol_len, header, section, Fits, section_name, IsPlain, IsDefmt, IsSymbols, strings, count, symbol_name}
use Rattle.elf_section.specs.declared.fault.Part.{Part}
use Rattle.elf_section.specs.declared.fault.Part.TheVariants as parts
use Rattle.elf_section.specs.declared.fault.Fault.{Fault}
use Rattle.elf_section.specs.declared.fault.Cause.{Cause}
use Rattle.elf_section.specs.declared.fault.Cause.TheVariants.{Magic, Class as WrongClass, Order, Bounds, NoSection, NoSymbols, Version as WrongVersion, Encoding as WrongEncoding, Profile as WrongProfile}

-- i is the number of the section of the symbols, k that of a symbol
pub data Check : Type 0 where
  is_elf : Check
  has_class : Check
  is_little : Check
  has_header : Check
  has_sections : Check
  has_entry_size : Check
  has_section_headers : Check
  has_names : Check
  has_section_name : ℕ → Check
  has_defmt : Check
  has_symbols : Check
  has_table : ℕ → Check
  has_plain_strings : ℕ → Check
  has_strings : ℕ → Check
  has_symbol_name : ℕ → Check
  has_version : Check
  has_encoding : Check
  has_profile : Check

abbrev pub place : Check → Place
place is_elf = record { row = 0; index = 0 }
place has_class = record { row = 1; index = 0 }
place is_little = record { row = 2; index = 0 }
place has_header = record { row = 3; index = 0 }
place has_sections = record { row = 4; index = 0 }
place has_entry_size = record { row = 5; index = 0 }
place has_section_headers = record { row = 6; index = 0 }
place has_names = record { row = 7; index = 0 }
place (has_section_name i) = record { row = 8; index = i }
place has_defmt = record { row = 9; index = 0 }
place has_symbols = record { row = 10; index = 0 }
place (has_table i) = record { row = 11; index = i }
place (has_plain_strings i) = record { row = 12; index = i }
place (has_strings i) = record { row = 13; index = i }
place (has_symbol_name k) = record { row = 14; index = k }
place has_version = record { row = 15; index = 0 }
place has_encoding = record { row = 16; index = 0 }
place has_profile = record { row = 17; index = 0 }

-- what a symbol table must have
pub record IsTable (file : List ℕ) (i : ℕ) : Type 0 where
  pub entry_size : (section file i).entry_size ≡ symbol_len (class_of file)
  pub whole : (section file i).size % symbol_len (class_of file) ≡ 0
  pub fits : Fits file (section file i)
  pub link : (section file i).link < (header file).shnum
  pub linked : (strings file i).kind ≡ 3

-- symbol k says `front` and then this rest
pub record Says (file : List ℕ) (i : ℕ) (front : List ℕ) (k : ℕ) (rest : List ℕ) : Type 0 where
  pub above : 0 < k
  pub below : k < count file i
  pub name : List ℕ
  pub name_is : symbol_name file i k ≡ Some name
  pub inner : List ℕ
  pub unquoted : IsUnquoted name inner
  pub says : inner ≡ front ++ rest

-- what symbol k says behind `front`
abbrev pub SaysIn : List ℕ → ℕ → List ℕ → ℕ → Option (Bor (List ℕ)) → Type 0
SaysIn file i front k None = (rest : List ℕ) → Says file i front k rest → ⊥
SaysIn file i front k (Some rest) = Says file i front k rest.now

-- some symbol says it, and every one that says `front` says this rest
pub record HasMarker (file : List ℕ) (i : ℕ) (front value : List ℕ) : Type 0 where
  pub number : ℕ
  pub some : Says file i front number value
  pub every : (k : ℕ) (rest : List ℕ) → Says file i front k rest → rest ≡ value

-- every symbol that says `front` says this rest; there may be none
pub record SaysOnly (file : List ℕ) (i : ℕ) (front value : List ℕ) : Type 0 where
  pub every : (k : ℕ) (rest : List ℕ) → Says file i front k rest → rest ≡ value

-- how the names of the markers begin
abbrev pub version_front : List ℕ
version_front = codes "_defmt_version_ = "

abbrev pub encoding_front : List ℕ
encoding_front = codes "_defmt_encoding_ = "

abbrev pub profile_front : List ℕ
profile_front = codes "_defmt_profile_ = "

-- what stands behind the last
abbrev pub profile_word : Profile → List ℕ
profile_word profiles.One = codes "1"
profile_word profiles.Two = codes "2"

abbrev pub Holds : List ℕ → Check → Type 0
Holds file is_elf = (16 ≤ length file) × (take 4 file ≡ 0x7f ∷ 0x45 ∷ 0x4c ∷ 0x46 ∷ [])
Holds file has_class = (slice_index file 4 ≡ 1) ⊎ (slice_index file 4 ≡ 2)
Holds file is_little = slice_index file 5 ≡ 1
Holds file has_header = header_len (class_of file) ≤ length file
Holds file has_sections = 0 < (header file).shnum
Holds file has_entry_size = (header file).shentsize ≡ section_len (class_of file)
Holds file has_section_headers =
    (header file).shoff + (header file).shnum * section_len (class_of file) ≤ length file
Holds file has_names =
    ((header file).shstrndx < (header file).shnum) × Fits file (section file (header file).shstrndx)
Holds file (has_section_name i) = i < (header file).shnum → IsSome (section_name file i)
Holds file has_defmt = (i : ℕ) × IsDefmt file i
Holds file has_symbols = (i : ℕ) × IsSymbols file i
Holds file (has_table i) = IsSymbols file i → IsTable file i
Holds file (has_plain_strings i) = IsSymbols file i → IsPlain (strings file i)
Holds file (has_strings i) = IsSymbols file i → Fits file (strings file i)
Holds file (has_symbol_name k) =
    (i : ℕ) → IsSymbols file i → 0 < k → k < count file i → IsSome (symbol_name file i k)
Holds file has_version = (i : ℕ) → IsSymbols file i → HasMarker file i version_front (codes "4")
Holds file has_encoding =
    (i : ℕ) → IsSymbols file i → HasMarker file i encoding_front (codes "rzcobs")
Holds file has_profile = (i : ℕ) → IsSymbols file i
    → SaysOnly file i profile_front (profile_word profiles.One)
    ⊎ SaysOnly file i profile_front (profile_word profiles.Two)

-- some symbol says the second profile
abbrev pub SaysTwo : List ℕ → Type 0
SaysTwo file =
    (i : ℕ) × (k : ℕ) × IsSymbols file i × Says file i profile_front k (profile_word profiles.Two)

-- the profile that a file says: the second where some symbol says so, else the first
abbrev pub ProfileIs : List ℕ → Profile → Type 0
ProfileIs file profiles.One = SaysTwo file → ⊥
ProfileIs file profiles.Two = SaysTwo file

-- a refusal as it is answered
pub record Refusal : Type 0 where
  pub cause : ℕ
  pub part : Part
  pub place : ℕ

abbrev pub number_of : Cause → ℕ
number_of Magic = 1
number_of WrongClass = 2
number_of Order = 3
number_of Bounds = 4
number_of NoSection = 5
number_of NoSymbols = 6
number_of WrongVersion = 7
number_of WrongEncoding = 8
number_of WrongProfile = 9

abbrev pub refusal_of : Fault → Refusal
refusal_of fault = record { cause = number_of fault.cause; part = fault.part; place = fault.place }

-- a refusal with no place
abbrev pub because : Cause → Refusal
because cause = record { cause = number_of cause; part = parts.Nothing; place = 0 }

-- a part that isn't where it ought to be
abbrev pub outside : Part → ℕ → Refusal
outside part place = record { cause = number_of Bounds; part = part; place = place }

abbrev pub refusal : List ℕ → Check → Refusal
refusal file is_elf = because Magic
refusal file has_class = because WrongClass
refusal file is_little = because Order
refusal file has_header = outside parts.Header 0
refusal file has_sections = because NoSection
refusal file has_entry_size = outside parts.Header 1
refusal file has_section_headers = outside parts.Sections 0
refusal file has_names = outside parts.Names (header file).shstrndx
refusal file (has_section_name i) = outside parts.SectionName i
refusal file has_defmt = because NoSection
refusal file has_symbols = because NoSymbols
refusal file (has_table i) = outside parts.Symbols i
refusal file (has_plain_strings i) = because NoSymbols
refusal file (has_strings i) = outside parts.Strings (section file i).link
refusal file (has_symbol_name k) = outside parts.SymbolName k
refusal file has_version = because WrongVersion
refusal file has_encoding = because WrongEncoding
refusal file has_profile = because WrongProfile

-- no check refuses the file
abbrev pub Passes : List ℕ → Type 0
Passes file = (check : Check) → Holds file check

-- the file is refused by the first check that doesn't hold
pub record Refused (file : List ℕ) (answer : Refusal) : Type 0 where
  pub check : Check
  pub first : FirstToFail place (Holds file) check
  pub is : answer ≡ refusal file check

-- the checks of the rows below n hold
pub record Passed (file : List ℕ) (n : ℕ) : Type 0 where
  pub all : (check : Check) → (place check).row < n → Holds file check

-- the checks below row n hold, or the file is refused
abbrev pub Goes : List ℕ → ℕ → Result ⊤ Fault → Type 0
Goes file n (Ok done) = Passed file n
Goes file n (Err fault) = Refused file (refusal_of fault)

-- all checks hold and the file says this profile, or the file is refused
abbrev pub Tells : List ℕ → Result Profile Fault → Type 0
Tells file (Ok profile) = Passed file 18 × ProfileIs file profile
Tells file (Err fault) = Refused file (refusal_of fault)

-- a number of which this holds, or the file is refused
abbrev pub Finds : List ℕ → (ℕ → Type 0) → Result ℕ Fault → Type 0
Finds file Has (Ok i) = Has i
Finds file Has (Err fault) = Refused file (refusal_of fault)

-- ---- for private clauses

-- symbol k says something behind `front`
abbrev pub SaysAny : List ℕ → ℕ → List ℕ → ℕ → Type 0
SaysAny file i front k = (rest : List ℕ) × Says file i front k rest

-- some symbol does
abbrev pub IsSaid : List ℕ → ℕ → List ℕ → Type 0
IsSaid file i front = (k : ℕ) × SaysAny file i front k

-- the profile that the symbols say, or that they say what no file may
abbrev pub SayProfile : List ℕ → ℕ → Option Profile → Type 0
SayProfile file i None =
    (SaysOnly file i profile_front (profile_word profiles.One) → ⊥)
    × (SaysOnly file i profile_front (profile_word profiles.Two) → ⊥)
SayProfile file i (Some profiles.One) = SaysOnly file i profile_front (profile_word profiles.One)
SayProfile file i (Some profiles.Two) = HasMarker file i profile_front (profile_word profiles.Two)

-- whether one of the symbols below n says it
abbrev pub SaysSome : List ℕ → ℕ → List ℕ → List ℕ → ℕ → Bool → Type 0
SaysSome file i front value n true = (k : ℕ) × Says file i front k value
SaysSome file i front value n false = (k : ℕ) (rest : List ℕ) → k < n → Says file i front k rest → ⊥

-- the symbols below n say `front` with this value alone
pub record Seen (file : List ℕ) (i : ℕ) (front value : List ℕ) (n : ℕ) (seen : Bool) : Type 0 where
  pub every : (k : ℕ) (rest : List ℕ) → k < n → Says file i front k rest → rest ≡ value
  pub some : SaysSome file i front value n seen

-- The symbols of `.defmt` (ELF gABI, "Symbol Table"; defmt book, "Interning").
use Rattle.std.specs.Prelude.{◌≡◌, ℕ, zero, suc, ◌+◌, ◌-◌, List, [], ◌∷◌, ◌==◌, ◌&&◌, slice_index, unwrap_or, Bool, true, false, Option, Some, None, Result, Ok, Err, map, Vec}
use Rattle.std.specs.Global.{Global}
use Rattle.std.specs.List.{filter}
use Rattle.defmt_intern.specs.declared.table.Profile.{Profile}
use Rattle.elf_section.specs.File.{IsDefmt, IsSymbols, count, symbol, symbol_name}
use Rattle.elf_section.specs.Checks.{Passes, Refused, Refusal, ProfileIs}
use Rattle.elf_section.specs.Symbol.{PlainSymbol, plain_all, plain_ref, plain_refs}
use Rattle.elf_section.specs.declared.fault.ElfFault.{ElfFault}
use Rattle.elf_section.specs.declared.fault.ElfFault.TheVariants as faults
use Rattle.elf_section.specs.declared.symbols.Listing.{Listing}
use Rattle.elf_section.specs.declared.symbols.Symbol.{Symbol}
use Rattle.elf_section.specs.declared.symbols.SymbolRef.{SymbolRef}

-- n numbers from this one on
unfoldable pub numbers : ℕ → ℕ → List ℕ
numbers from zero = []
numbers from (suc n) = from ∷ numbers (from + 1) n

-- the name begins with `{`
abbrev pub is_braced : List ℕ → Bool
is_braced name = slice_index name 0 == 123

-- the symbol k of the table in section i lies in section d, and its name begins with `{`
abbrev pub is_listed : List ℕ → ℕ → ℕ → ℕ → Bool
is_listed file d i k =
    ((symbol file i k).section == d) && is_braced (unwrap_or (symbol_name file i k) [])

abbrev pub symbol_of : List ℕ → ℕ → ℕ → PlainSymbol
symbol_of file i k =
    record { name = unwrap_or (symbol_name file i k) []; value = (symbol file i k).value }

-- those of the symbols below n, but for symbol 0, in their order
abbrev pub symbols_below : List ℕ → ℕ → ℕ → ℕ → List PlainSymbol
symbols_below file d i n = map (symbol_of file i) (filter (is_listed file d i) (numbers 1 (n - 1)))

-- the file passes, and these are the symbols of its section `.defmt`
pub record Lists (file : List ℕ) (symbols : List PlainSymbol) : Type 0 where
  pub passes : Passes file
  pub defmt : ℕ
  pub is_defmt : IsDefmt file defmt
  pub table : ℕ
  pub is_table : IsSymbols file table
  pub are : symbols ≡ symbols_below file defmt table (count file table)

-- the file passes and says this profile
abbrev pub HasProfile : List ℕ → Profile → Type 0
HasProfile file profile = Passes file × ProfileIs file profile

-- the file lists these symbols and says this profile
abbrev pub Carries : List ℕ → List PlainSymbol → Profile → Type 0
Carries file symbols profile = Lists file symbols × ProfileIs file profile

-- the symbols, the first refusal, or want of memory
abbrev pub ReadsSymbols : List ℕ → Result (Vec Symbol Global) ElfFault → Type 0
ReadsSymbols file (Ok v) = Lists file (plain_all v.items)
ReadsSymbols file (Err (faults.Refused cause part place)) =
    Refused file (record { cause = cause; part = part; place = place })
ReadsSymbols file (Err faults.Memory) = Unit {0}

-- these symbols, unless memory runs out
abbrev pub GivesOnly : Result (Vec Symbol Global) ElfFault → List PlainSymbol → Type 0
GivesOnly (Ok v) symbols = plain_all v.items ≡ symbols
GivesOnly (Err (faults.Refused cause part place)) symbols = ⊥
GivesOnly (Err faults.Memory) symbols = Unit {0}

-- the profile, the first refusal, or want of memory
abbrev pub ReadsProfile : List ℕ → Result Profile ElfFault → Type 0
ReadsProfile file (Ok profile) = HasProfile file profile
ReadsProfile file (Err (faults.Refused cause part place)) =
    Refused file (record { cause = cause; part = part; place = place })
ReadsProfile file (Err faults.Memory) = Unit {0}

-- this profile, unless memory runs out
abbrev pub TellsOnly : Result Profile ElfFault → Profile → Type 0
TellsOnly (Ok told) profile = told ≡ profile
TellsOnly (Err (faults.Refused cause part place)) profile = ⊥
TellsOnly (Err faults.Memory) profile = Unit {0}

-- symbols and profile, the first refusal, or want of memory
abbrev pub ReadsListing : List ℕ → Result Listing ElfFault → Type 0
ReadsListing file (Ok listing) = Carries file (plain_refs listing.symbols.items) listing.profile
ReadsListing file (Err (faults.Refused cause part place)) =
    Refused file (record { cause = cause; part = part; place = place })
ReadsListing file (Err faults.Memory) = Unit {0}

-- these symbols and this profile, unless memory runs out
abbrev pub ListsOnly : Result Listing ElfFault → List PlainSymbol → Profile → Type 0
ListsOnly (Ok listing) symbols profile =
    (plain_refs listing.symbols.items ≡ symbols) × (listing.profile ≡ profile)
ListsOnly (Err (faults.Refused cause part place)) symbols profile = ⊥
ListsOnly (Err faults.Memory) symbols profile = Unit {0}

-- this refusal, unless memory runs out
abbrev pub RefusesOnly : {A : Type 0} → Result A ElfFault → Refusal → Type 0
RefusesOnly (Ok found) refusal = ⊥
RefusesOnly (Err (faults.Refused cause part place)) refusal =
    refusal ≡ record { cause = cause; part = part; place = place }
RefusesOnly (Err faults.Memory) refusal = Unit {0}

-- ---- for private clauses

-- symbol k of the table in section i where it lies in section d and its name begins with `{`
abbrev pub ListsAt : List ℕ → ℕ → ℕ → ℕ → Option SymbolRef → Type 0
ListsAt file d i k None = is_listed file d i k ≡ false
ListsAt file d i k (Some s) = (is_listed file d i k ≡ true) × (plain_ref s ≡ symbol_of file i k)

-- what the checks so far have found, the first refusal, or want of memory
abbrev pub Gets : {T : Type 0} → List ℕ → (T → Type 0) → Result T ElfFault → Type 0
Gets file Has (Ok found) = Has found
Gets file Has (Err (faults.Refused cause part place)) =
    Refused file (record { cause = cause; part = part; place = place })
Gets file Has (Err faults.Memory) = Unit {0}

-- A file lists one list of symbols and says one profile, or has one refusal.
use Rattle.std.proofs.Common.{◌≡◌, ℕ, List, Result, Ok, Err, Vec, refl, sym, ap, ◌∙◌}
use Rattle.std.specs.Global.{Global}
use Rattle.elf_section.specs.File.{HasDefmtName, HasSymbols, count}
use Rattle.defmt_intern.specs.declared.table.Profile.{Profile}
use Rattle.defmt_intern.specs.declared.table.Profile.TheVariants as profiles
use Rattle.elf_section.specs.Checks.{Refusal, Refused, ProfileIs}
use Rattle.elf_section.specs.Listed.{Lists, HasProfile, Carries, symbols_below, ReadsSymbols, ReadsProfile, ReadsListing, GivesOnly, TellsOnly, ListsOnly, RefusesOnly}
use Rattle.elf_section.specs.Symbol.{PlainSymbol, plain_all, plain_refs}
use Rattle.elf_section.specs.declared.symbols.Listing.{Listing}
use Rattle.elf_section.specs.declared.symbols.Symbol.{Symbol}
use Rattle.elf_section.specs.declared.fault.ElfFault.{ElfFault}
use Rattle.elf_section.specs.declared.fault.ElfFault.TheVariants as faults
use Rattle.elf_section.proofs.SectionLaws.{one_first}
use Rattle.elf_section.proofs.Stages.{one_refusal, never_both}

pub one_list : (file : List ℕ) (xs ys : List PlainSymbol) → Lists file xs → Lists file ys → xs ≡ ys
one_list file xs ys a b =
    let d : a.defmt ≡ b.defmt = one_first file (HasDefmtName file) a.defmt b.defmt a.is_defmt b.is_defmt in
    let t : a.table ≡ b.table = one_first file (HasSymbols file) a.table b.table a.is_table b.is_table in
    a.are ∙ ap (λ (i : ℕ). symbols_below file i a.table (count file a.table)) d ∙ ap (λ (i : ℕ). symbols_below file b.defmt i (count file i)) t ∙ sym b.are

pub gives_only : (file : List ℕ) (r : Result (Vec Symbol Global) ElfFault) (symbols : List PlainSymbol) → ReadsSymbols file r → Lists file symbols → GivesOnly r symbols
gives_only file (Ok v) symbols h l = one_list file (plain_all v.items) symbols h l
gives_only file (Err (faults.Refused cause part place)) symbols h l = never_both file (record { cause = cause; part = part; place = place }) l.passes h
gives_only file (Err faults.Memory) symbols h l = tt

pub refuses_only : (file : List ℕ) (r : Result (Vec Symbol Global) ElfFault) (fault : Refusal) → ReadsSymbols file r → Refused file fault → RefusesOnly r fault
refuses_only file (Ok v) fault h f = never_both file fault h.passes f
refuses_only file (Err (faults.Refused cause part place)) fault h f = one_refusal file fault (record { cause = cause; part = part; place = place }) f h
refuses_only file (Err faults.Memory) fault h f = tt

-- ---- the profile

pub one_profile : (file : List ℕ) (p q : Profile) → ProfileIs file p → ProfileIs file q → p ≡ q
one_profile file profiles.One profiles.One a b = refl
one_profile file profiles.One profiles.Two a b = absurd (a b)
one_profile file profiles.Two profiles.One a b = absurd (b a)
one_profile file profiles.Two profiles.Two a b = refl

pub tells_only : (file : List ℕ) (r : Result Profile ElfFault) (profile : Profile) → ReadsProfile file r → HasProfile file profile → TellsOnly r profile
tells_only file (Ok told) profile h p = one_profile file told profile h.1 p.1
tells_only file (Err (faults.Refused cause part place)) profile h p = never_both file (record { cause = cause; part = part; place = place }) p.0 h
tells_only file (Err faults.Memory) profile h p = tt

pub profile_refused : (file : List ℕ) (r : Result Profile ElfFault) (fault : Refusal) → ReadsProfile file r → Refused file fault → RefusesOnly r fault
profile_refused file (Ok told) fault h f = never_both file fault h.0 f
profile_refused file (Err (faults.Refused cause part place)) fault h f = one_refusal file fault (record { cause = cause; part = part; place = place }) f h
profile_refused file (Err faults.Memory) fault h f = tt

-- ---- both

pub lists_only : (file : List ℕ) (r : Result Listing ElfFault) (symbols : List PlainSymbol) (profile : Profile) → ReadsListing file r → Carries file symbols profile → ListsOnly r symbols profile
lists_only file (Ok listing) symbols profile h l = (one_list file (plain_refs listing.symbols.items) symbols h.0 l.0, one_profile file listing.profile profile h.1 l.1)
lists_only file (Err (faults.Refused cause part place)) symbols profile h l = never_both file (record { cause = cause; part = part; place = place }) l.0.passes h
lists_only file (Err faults.Memory) symbols profile h l = tt

pub listing_refused : (file : List ℕ) (r : Result Listing ElfFault) (fault : Refusal) → ReadsListing file r → Refused file fault → RefusesOnly r fault
listing_refused file (Ok listing) fault h f = never_both file fault h.0.passes f
listing_refused file (Err (faults.Refused cause part place)) fault h f = one_refusal file fault (record { cause = cause; part = part; place = place }) f h
listing_refused file (Err faults.Memory) fault h f = tt

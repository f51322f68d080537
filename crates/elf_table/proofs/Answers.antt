-- A file names one table, or has one refusal.
use Rattle.std.proofs.Common.{◌≡◌, ℕ, List, Result, Ok, Err, sym, ap, subst, ◌∙◌}
use Rattle.defmt_grammar.specs.declared.language.Language.{Language}
use Rattle.defmt_intern.specs.Entries.{Map}
use Rattle.defmt_intern.specs.declared.table.Profile.{Profile}
use Rattle.defmt_intern.specs.declared.table.Table.{Table}
use Rattle.elf_section.specs.Checks.{Refused, ProfileIs}
use Rattle.elf_section.specs.Checks.{Refusal}
use Rattle.elf_section.specs.Symbol.{PlainSymbol}
use Rattle.elf_section.proofs.Stages.{one_refusal, never_both}
use Rattle.elf_section.proofs.ReadLaws.{one_list, one_profile}
use Rattle.elf_table.specs.declared.fault.LoadFault.{LoadFault}
use Rattle.elf_table.specs.declared.fault.LoadFault.TheVariants as faults
use Rattle.elf_table.specs.Names.{IsTableOf, NamesRefused, NamesTable, SymbolRefused, ReadsTable, AnswersOnly, Makes, place, cause_of, NameCheck}
use Rattle.elf_table.proofs.TableLaws.{one_table, one_check, made_all}
use Rattle.elf_section.specs.Listed.{Carries}

abbrev elf : Refusal → Result Table LoadFault
elf f = Err (faults.Elf f.cause f.part f.place)

abbrev names : ℕ → ℕ → Result Table LoadFault
names c p = Err (faults.Names c p)

-- tables of the same entries and the same profile are one
same_table : (a b : Table) → a.entries ≡ b.entries → a.profile ≡ b.profile → a ≡ b
same_table a b e p = λ i. record { entries = e i; profile = p i }

-- the two refusals of one list are one
one_name_refusal : (language : Language) (symbols : List PlainSymbol) (c d p q : ℕ) → NamesRefused language symbols c p → NamesRefused language symbols d q → (c ≡ d) × (p ≡ q)
one_name_refusal language symbols c d p q x y =
    let e : x.check ≡ y.check = one_check language symbols x.check y.check x.first y.first in
    (x.cause_is ∙ ap cause_of e ∙ sym y.cause_is, x.symbol_is ∙ ap (λ (k : NameCheck). (place k).row) e ∙ sym y.symbol_is)

no_refusal : (language : Language) (symbols : List PlainSymbol) (table : Map) (c p : ℕ) → IsTableOf language symbols table → NamesRefused language symbols c p → ⊥
no_refusal language symbols table c p t r = r.first.fails (t.passes r.check)

pub names_only : (language : Language) (file : List ℕ) (r : Result Table LoadFault) (table : Table) → ReadsTable language file r → NamesTable language file table → AnswersOnly r (Ok table)
names_only language file (Ok one) table h n =
    ap Ok (same_table one table
    (one_table language n.symbols one.entries table.entries (subst (λ (s : List PlainSymbol). IsTableOf language s one.entries) (one_list file h.symbols n.symbols h.lists n.lists) h.table_of) n.table_of)
    (one_profile file one.profile table.profile h.profile n.profile))
names_only language file (Err (faults.Elf cause part place')) table h n = absurd (never_both file (record { cause = cause; part = part; place = place' }) n.lists.passes h)
names_only language file (Err (faults.Names cause symbol)) table h n =
    absurd (no_refusal language n.symbols table.entries cause symbol n.table_of (subst (λ (s : List PlainSymbol). NamesRefused language s cause symbol) (one_list file h.symbols n.symbols h.lists n.lists) h.refused))
names_only language file (Err faults.Memory) table h n = tt

pub elf_only : (language : Language) (file : List ℕ) (r : Result Table LoadFault) (fault : Refusal) → ReadsTable language file r → Refused file fault → AnswersOnly r (Err (faults.Elf fault.cause fault.part fault.place))
elf_only language file (Ok one) fault h f = absurd (never_both file fault h.lists.passes f)
elf_only language file (Err (faults.Elf cause part place')) fault h f = ap (λ (g : Refusal). elf g) (one_refusal file (record { cause = cause; part = part; place = place' }) fault h f)
elf_only language file (Err (faults.Names cause symbol)) fault h f = absurd (never_both file fault h.lists.passes f)
elf_only language file (Err faults.Memory) fault h f = tt

pub symbol_only : (language : Language) (file : List ℕ) (r : Result Table LoadFault) (c p : ℕ) → ReadsTable language file r → SymbolRefused language file c p → AnswersOnly r (Err (faults.Names c p))
symbol_only language file (Ok one) c p h f = absurd (no_refusal language f.symbols one.entries c p (subst (λ (s : List PlainSymbol). IsTableOf language s one.entries) (one_list file h.symbols f.symbols h.lists f.lists) h.table_of) f.refused)
symbol_only language file (Err (faults.Elf cause part place')) c p h f = absurd (never_both file (record { cause = cause; part = part; place = place' }) f.lists.passes h)
symbol_only language file (Err (faults.Names cause symbol)) c p h f =
    let same = one_name_refusal language f.symbols cause c symbol p (subst (λ (s : List PlainSymbol). NamesRefused language s cause symbol) (one_list file h.symbols f.symbols h.lists f.lists) h.refused) f.refused in
    ap (λ (n : ℕ). names n symbol) same.0 ∙ ap (names c) same.1
symbol_only language file (Err faults.Memory) c p h f = tt

pub reads_by_making : (language : Language) (file : List ℕ) (symbols : List PlainSymbol) (profile : Profile) (r : Result Table LoadFault) → Carries file symbols profile → Makes language symbols profile r → ReadsTable language file r
reads_by_making language file symbols profile (Ok table) l m = record { symbols = symbols; lists = l.0; table_of = made_all language symbols table.entries m.0; profile = subst (ProfileIs file) (sym m.1) l.1 }
reads_by_making language file symbols profile (Err (faults.Elf cause part place')) l m = absurd m
reads_by_making language file symbols profile (Err (faults.Names cause symbol)) l m = record { symbols = symbols; lists = l.0; refused = m }
reads_by_making language file symbols profile (Err faults.Memory) l m = tt

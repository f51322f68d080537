-- What the full language reads beside the base language.
use Rattle.std.proofs.Common.{◌≡◌, ℕ, List, Option, None, Some, inl, inr, refl, sym, subst, ◌∙◌, arith}
use Rattle.std.specs.Prelude.{slice_get}
use Rattle.defmt_grammar.specs.declared.language.Language.TheVariants.{Base, Full}
use Rattle.defmt_intern.specs.declared.entry.Entry.{Entry}
use Rattle.defmt_intern.specs.declared.table.Table.{Table}
use Rattle.defmt_intern.specs.Entries.{Map}
use Rattle.defmt_intern.specs.Name.{Names}
use Rattle.elf_section.specs.Symbol.{PlainSymbol}
use Rattle.elf_table.specs.Names.{At, NameCheck, has_entry, is_small, is_single, is_short, is_one_stamp, cause_of, Holds, IsTableOf, NamesRefused, NamesTable, in_full}
use Rattle.elf_table.specs.Said.{IsUnread, Says, unread}
use Rattle.elf_table.proofs.TableLaws.{same_there}

-- ---- no name refuses

by_slot : (symbols : List PlainSymbol) (p : ℕ) (o : Option PlainSymbol) → slice_get symbols p ≡ o → (Holds Full symbols (has_entry p) → ⊥) → ⊥
by_slot symbols p None e fails = fails (λ s at. absurd (let k : None ≡ Some s = sym e ∙ at in cc))
by_slot symbols p (Some s) e fails =
    let none : IsUnread s.name = λ f names. fails (λ t at. (f, inl (subst (λ (u : PlainSymbol). Names u.name f) (same_there (slice_get symbols p) s t e at) names))) in
    fails (λ t at. (unread, inr (subst (λ (u : PlainSymbol). IsUnread u.name) (same_there (slice_get symbols p) s t e at) none, refl)))

not_the_name : (symbols : List PlainSymbol) (check : NameCheck) → 3 ≡ cause_of check → (Holds Full symbols check → ⊥) → ⊥
not_the_name symbols (has_entry p) e fails = by_slot symbols p (slice_get symbols p) refl fails
not_the_name symbols (is_small p) e fails = absurd (omega (arith, e))
not_the_name symbols (is_single p) e fails = absurd (omega (arith, e))
not_the_name symbols (is_short p) e fails = absurd (omega (arith, e))
not_the_name symbols (is_one_stamp p) e fails = absurd (omega (arith, e))

pub never_refused : (symbols : List PlainSymbol) (symbol : ℕ) → NamesRefused Full symbols 3 symbol → ⊥
never_refused symbols symbol r = not_the_name symbols r.check r.cause_is r.first.fails

-- ---- what is named in the base language

module _ (symbols : List PlainSymbol) (table : Map) (of : IsTableOf Base symbols table) where
  -- each of its names can be read
  named : (p : ℕ) (s : PlainSymbol) (e : Entry) → At symbols p s → Says Full s.name e → Names s.name e
  named p s e at (inl names) = names
  named p s e at (inr none) = let f = of.passes (has_entry p) s at in absurd (none.0 f.0 f.1)

  holds : (check : NameCheck) → Holds Full symbols check
  holds (has_entry p) = λ s at. let f = of.passes (has_entry p) s at in (f.0, inl f.1)
  holds (is_small p) = of.passes (is_small p)
  holds (is_single p) = of.passes (is_single p)
  holds (is_short p) = λ s e at said. of.passes (is_short p) s e at (named p s e at said)
  holds (is_one_stamp p) = λ s e at said is q t f l at' said'.
      of.passes (is_one_stamp p) s e at (named p s e at said) is q t f l at' (named q t f at' said')

  listed_in_full : IsTableOf Full symbols (record { language = Full; entries = table.entries })
  listed_in_full = record {
    spoken = refl;
    passes = holds;
    each = λ p s e at said. of.each p s e at (named p s e at said);
    only = λ i e h. let o = of.only i e h in (o.0, o.1, o.2, o.3, inl o.4);
  }

pub named_in_full : (file : List ℕ) (table : Table) → NamesTable Base file table → NamesTable Full file (in_full table)
named_in_full file table n = record {
  symbols = n.symbols;
  lists = n.lists;
  table_of = listed_in_full n.symbols table.entries n.table_of;
  profile = n.profile;
}

-- What a name says in a table of a language.
use Rattle.std.proofs.Common.{◌≡◌, ℕ, List, inl, inr, sym, ◌∙◌}
use Rattle.defmt_grammar.specs.declared.language.Language.{Language}
use Rattle.defmt_grammar.specs.declared.language.Language.TheVariants.{Base, Full}
use Rattle.defmt_intern.specs.declared.entry.Entry.{Entry}
use Rattle.defmt_intern.specs.Name.{Names}
use Rattle.defmt_intern.proofs.NameLaws.{one_name}
use Rattle.elf_table.specs.Said.{Says}

-- the entry that it is, in each language
pub names_say : (language : Language) (name : List ℕ) (e : Entry) → Names name e → Says language name e
names_say Base name e names = names
names_say Full name e names = inl names

-- one entry
pub one_said : (language : Language) (name : List ℕ) (e f : Entry) → Says language name e → Says language name f → e ≡ f
one_said Base name e f a b = one_name name e f a b
one_said Full name e f (inl a) (inl b) = one_name name e f a b
one_said Full name e f (inl a) (inr b) = absurd (b.0 e a)
one_said Full name e f (inr a) (inl b) = absurd (a.0 f b)
one_said Full name e f (inr a) (inr b) = a.1 ∙ sym b.1

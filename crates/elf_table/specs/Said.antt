-- What a symbol's name says in a table of a language (defmt book, "Interning").
use Rattle.std.specs.Prelude.{◌≡◌, ◌⊎◌, ℕ, List, []}
use Rattle.defmt_grammar.specs.declared.language.Language.{Language}
use Rattle.defmt_grammar.specs.declared.language.Language.TheVariants.{Base, Full}
use Rattle.defmt_intern.specs.declared.entry.Entry.{Entry}
use Rattle.defmt_intern.specs.declared.entry.Tag.TheVariants.{Other}
use Rattle.defmt_intern.specs.Name.{Names}

-- the name can't be read as an entry
abbrev pub IsUnread : List ℕ → Type 0
IsUnread name = (e : Entry) → Names name e → ⊥

-- what stands for such a name: an entry that isn't supported
abbrev pub unread : Entry
unread = record { tag = Other []; «package» = []; text = []; disambiguator = [] }

-- the entry that the name says; a name that can't be read says none, but in the full language `unread`
abbrev pub Says : Language → List ℕ → Entry → Type 0
Says Base name entry = Names name entry
Says Full name entry = Names name entry ⊎ (IsUnread name × (entry ≡ unread))

-- The levels of tags and of words. The defmt book, "Logging levels".
use Rattle.std.specs.Prelude.{ℕ, List, [], ◌∷◌, Option, Some, None}
use Rattle.defmt_grammar.specs.Kind.{at_word}
use Rattle.defmt_hooks.specs.Spelling.{word_of}
use Rattle.defmt_hooks.specs.declared.level.Floor.TheVariants.{At}
use Rattle.defmt_hooks.specs.declared.level.Level.{Level}
use Rattle.defmt_hooks.specs.declared.level.Level.TheVariants as levels
use Rattle.defmt_intern.specs.declared.entry.Tag.{Tag}
use Rattle.defmt_intern.specs.declared.entry.Tag.TheVariants as tags

-- the level of a tag, where it is one: println has none
abbrev pub level_of : Tag → Option Level
level_of tags.Trace = Some levels.Trace
level_of tags.Debug = Some levels.Debug
level_of tags.Info = Some levels.Info
level_of tags.Warn = Some levels.Warn
level_of tags.Error = Some levels.Error
level_of tag = None

-- the level that a word names
abbrev pub level_named : List ℕ → Option Level
level_named word = at_word word (
    (word_of (At levels.Trace), levels.Trace) ∷ (word_of (At levels.Debug), levels.Debug)
    ∷ (word_of (At levels.Info), levels.Info) ∷ (word_of (At levels.Warn), levels.Warn)
    ∷ (word_of (At levels.Error), levels.Error) ∷ [])

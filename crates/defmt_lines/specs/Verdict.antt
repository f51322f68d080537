-- Whether a text may stand in an `s` line: it is read strictly as a format string of the script's language, one of `|` variant by variant (defmt book,
-- "Interning"), and an interned string isn't read.
use Rattle.std.specs.Prelude.{◌≡◌, ◌≤◌, ◌<◌, ◌⊎◌, ℕ, List, [], ◌∷◌, length, Option, Some, None}
use Rattle.defmt_grammar.specs.Grammar.{Spells, IsRefused}
use Rattle.defmt_grammar.specs.Language.{strict_of}
use Rattle.defmt_grammar.specs.declared.language.Language.{Language}
use Rattle.defmt_grammar.specs.declared.piece.Piece.{Piece}
use Rattle.defmt_intern.specs.Body.{variants}
use Rattle.defmt_intern.specs.declared.entry.Tag.{Tag}
use Rattle.defmt_intern.specs.declared.entry.Tag.TheVariants as tags

-- A verdict is None where the text is taken, or the number of what is wrong with it.

-- Each of the texts spells pieces, or the first that doesn't gives the number of its fault.
abbrev pub JudgesForms : Language → List (List ℕ) → Option ℕ → Type 0
JudgesForms language [] verdict = verdict ≡ None
JudgesForms language (text ∷ more) verdict =
    ((pieces : List Piece) × Spells text (strict_of language) pieces
    × JudgesForms language more verdict)
    ⊎ ((number : ℕ) × (at : ℕ) × IsRefused text (strict_of language) number at
    × (verdict ≡ Some number))

-- more than 255 variants are refused before any is read
abbrev pub JudgesVariants : Language → List (List ℕ) → Option ℕ → Type 0
JudgesVariants language forms verdict =
    ((255 < length forms) × (verdict ≡ Some 0))
    ⊎ ((length forms ≤ 255) × JudgesForms language forms verdict)

abbrev pub JudgesBody : Language → Tag → List ℕ → Option ℕ → Type 0
JudgesBody language tags.Interned text verdict = verdict ≡ None
JudgesBody language tags.Prim text verdict = JudgesVariants language (variants text) verdict
JudgesBody language tags.Derived text verdict = JudgesVariants language (variants text) verdict
JudgesBody language tags.Write text verdict = JudgesVariants language (variants text) verdict
JudgesBody language tag text verdict = JudgesForms language (text ∷ []) verdict

-- a text of more than 4,096 bytes is refused whatever it says
unfoldable pub Judges : Language → Tag → List ℕ → Option ℕ → Type 0
Judges language tag text verdict =
    ((4096 < length text) × (verdict ≡ Some 0))
    ⊎ ((length text ≤ 4096) × JudgesBody language tag text verdict)

-- What parsing answers.
use Rattle.std.specs.Prelude.{◌≡◌, ℕ, List, Result, Ok, Err}
use Rattle.defmt_grammar.specs.declared.fault.Mode.{Mode}
use Rattle.defmt_grammar.specs.declared.fault.GrammarFault.{GrammarFault}
use Rattle.defmt_grammar.specs.declared.fault.GrammarFault.TheVariants.{Memory, Refused}
use Rattle.defmt_grammar.specs.declared.piece.Piece.{Piece}
use Rattle.defmt_grammar.specs.declared.pieces.Pieces.{Pieces}
use Rattle.defmt_grammar.specs.Grammar.{Spells, IsRefused}

-- pieces that the text spells, its first fault, or want of memory
abbrev pub Parses : List ℕ → Mode → Result Pieces GrammarFault → Type 0
Parses text mode (Ok ps) = Spells text mode ps
Parses text mode (Err Memory) = Unit {0}
Parses text mode (Err (Refused number at)) = IsRefused text mode number at

-- these pieces, unless memory runs out
abbrev pub GivesOnly : Result Pieces GrammarFault → List Piece → Type 0
GivesOnly (Ok qs) ps = qs ≡ ps
GivesOnly (Err Memory) ps = Unit {0}
GivesOnly (Err (Refused number at)) ps = ⊥

-- this refusal, unless memory runs out
abbrev pub RefusesOnly : Result Pieces GrammarFault → ℕ → ℕ → Type 0
RefusesOnly (Ok qs) number at = ⊥
RefusesOnly (Err Memory) number at = Unit {0}
RefusesOnly (Err (Refused n a)) number at = (n ≡ number) × (a ≡ at)

-- What reading a text gives.
use Rattle.std.specs.Prelude.{◌≡◌, ◌≤◌, ℕ, List, [], ◌∷◌, ◌++◌, length, map, Result, Ok, Err, ◌==◌, if◌then◌else◌}
use Rattle.std.specs.Str.{IsUtf8}
use Rattle.std.specs.Global.{Vec}
use Rattle.defmt_grammar.specs.Fault.{cause_number}
use Rattle.defmt_grammar.specs.declared.fault.Cause.{Cause}
use Rattle.defmt_grammar.specs.declared.fault.Mode.{Mode}
use Rattle.defmt_grammar.specs.declared.fault.GrammarFault.{GrammarFault}
use Rattle.defmt_grammar.specs.declared.fault.GrammarFault.TheVariants.{Memory, Refused}
use Rattle.defmt_grammar.specs.declared.piece.Piece.{Piece}
use Rattle.defmt_grammar.specs.declared.piece.Piece.TheVariants as pieces
use Rattle.defmt_grammar.specs.declared.piece.Use.{Use}
use Rattle.defmt_grammar.specs.Grammar.{Token, char, SpellsTokens, joined, uses_of, HasFirstFault}

-- all of the text is these tokens
pub record IsRead (text : List ℕ) (mode : Mode) (ps : List Piece) (uses : List Use) : Type 0 where
  pub tokens : List Token
  pub after : ℕ
  pub spelled : SpellsTokens mode (length text) 0 text tokens after []
  pub joins : joined tokens ≡ ps
  pub uses_are : uses_of tokens ≡ uses

abbrev pub ReadsWhole : List ℕ → Mode → Result (Vec Piece × Vec Use) GrammarFault → Type 0
ReadsWhole text mode (Ok r) = IsRead text mode r.0.items r.1.items
ReadsWhole text mode (Err Memory) = Unit {0}
ReadsWhole text mode (Err (Refused number at)) = (cause : Cause) × HasFirstFault text mode cause at × (number ≡ cause_number cause)

-- the characters so far as a piece, where there are any
abbrev pub flushed : List ℕ → List Piece
flushed cs = if length cs == 0 then [] else pieces.Literal cs ∷ []

-- how far a reader has come
pub record Progress (text : List ℕ) (mode : Mode) (ps : List Piece) (uses : List Use) (literal : List ℕ) (next : ℕ) (rest : List ℕ) : Type 0 where
  pub tokens : List Token
  pub spelled : SpellsTokens mode (length text) 0 text tokens next rest
  pub joins : (us : List Token) → joined (tokens ++ us) ≡ ps ++ joined (map char literal ++ us)
  pub uses_are : (us : List Token) → uses_of (tokens ++ us) ≡ uses ++ uses_of us
  pub few : next ≤ 16
  pub shorter : length rest ≤ length text
  pub utf8 : IsUtf8 rest

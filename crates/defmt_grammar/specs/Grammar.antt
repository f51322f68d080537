-- The grammar of format strings. The defmt book, "Hints" and "Bitfields", and the crate defmt-parser.
use Rattle.std.specs.Prelude.{◌≡◌, ◌≢◌, ◌<◌, ◌+◌, ◌-◌, ℕ, List, [], ◌∷◌, ◌++◌, length, Some, None, ◌⊎◌, slice_get}
use Rattle.defmt_grammar.specs.Fault.{cause_number}
use Rattle.defmt_grammar.specs.Cut.{behind, Lacks}
use Rattle.defmt_grammar.specs.Param.{SpellsParam, HasParamFault}
use Rattle.defmt_grammar.specs.declared.fault.Cause.{Cause}
use Rattle.defmt_grammar.specs.declared.fault.Cause.TheVariants as causes
use Rattle.defmt_grammar.specs.declared.fault.Fault.{Fault}
use Rattle.defmt_grammar.specs.declared.fault.Mode.{Mode}
use Rattle.defmt_grammar.specs.declared.kind.Kind.{Kind}
use Rattle.defmt_grammar.specs.declared.kind.Kind.TheVariants.{Bits}
use Rattle.defmt_grammar.specs.declared.param.Param.{Param}
use Rattle.defmt_grammar.specs.declared.piece.Piece.{Piece}
use Rattle.defmt_grammar.specs.declared.piece.Piece.TheVariants as pieces
use Rattle.defmt_grammar.specs.declared.piece.Use.{Use}

-- ---- a text as tokens

-- a character that stands for itself or is a doubled brace, or a parameter with the place of its brace
pub data Token : Type 0 where
  char : ℕ → Token
  hole : ℕ → Param → Token

-- a character other than a brace
abbrev pub IsPlain : ℕ → Type 0
IsPlain c = (c ≢ 123) × (c ≢ 125)

abbrev pub IsBrace : ℕ → Type 0
IsBrace c = (c ≡ 123) ⊎ (c ≡ 125)

-- `{`, an inside with neither `{` in front nor `}` anywhere, `}`
pub record IsHole (text inside rest : List ℕ) : Type 0 where
  pub text_is : text ≡ 123 ∷ (inside ++ 125 ∷ rest)
  pub no_open : behind 123 inside ≡ None
  pub no_close : Lacks 125 inside

-- The text begins with this token; the rest follows. size is that of the whole text, next the
-- first position that isn't written, and after the one behind the token.
abbrev pub SpellsToken : Mode → ℕ → ℕ → List ℕ → Token → ℕ → List ℕ → Type 0
SpellsToken mode size next text (char c) after rest = (after ≡ next) × ((IsPlain c × (text ≡ c ∷ rest)) ⊎ (IsBrace c × (text ≡ c ∷ c ∷ rest)))
SpellsToken mode size next text (hole at param) after rest = (inside : List ℕ) × IsHole text inside rest × SpellsParam mode next inside param after × (at ≡ size - length text)

-- these tokens, one after another
abbrev pub SpellsTokens : Mode → ℕ → ℕ → List ℕ → List Token → ℕ → List ℕ → Type 0
SpellsTokens mode size next text [] after rest = (after ≡ next) × (text ≡ rest)
SpellsTokens mode size next text (t ∷ ts) after rest = (n : ℕ) × (more : List ℕ) × SpellsToken mode size next text t n more × SpellsTokens mode size n more ts after rest

-- neighbouring characters form one literal piece
abbrev pub with_char : ℕ → List Piece → List Piece
with_char c [] = pieces.Literal (c ∷ []) ∷ []
with_char c (pieces.Literal cs ∷ ps) = pieces.Literal (c ∷ cs) ∷ ps
with_char c (pieces.Param p ∷ ps) = pieces.Literal (c ∷ []) ∷ pieces.Param p ∷ ps

abbrev pub joined : List Token → List Piece
joined [] = []
joined (char c ∷ ts) = with_char c (joined ts)
joined (hole at param ∷ ts) = pieces.Param param ∷ joined ts

-- the parameters, with the places of their braces
abbrev pub uses_of : List Token → List Use
uses_of [] = []
uses_of (char c ∷ ts) = uses_of ts
uses_of (hole at param ∷ ts) = record { at = at; param = param } ∷ uses_of ts

-- ---- positions

abbrev pub IsBits : Kind → Type 0
IsBits (Bits lo hi) = Unit {0}
IsBits kind = ⊥

-- the use u stands for the same position as v, with another kind
pub record Clash (u v : Use) : Type 0 where
  pub position : u.param.position ≡ v.param.position
  pub kind : u.param.kind ≢ v.param.kind
  pub no_bits : IsBits u.param.kind → IsBits v.param.kind → ⊥

-- no use clashes with an earlier one
abbrev pub NoClash : List Use → Type 0
NoClash uses = (i j : ℕ) (u v : Use) → j < i → slice_get uses i ≡ Some u → slice_get uses j ≡ Some v → Clash v u → ⊥

-- the first use that clashes with an earlier one is at this place
pub record FirstClash (uses : List Use) (at : ℕ) : Type 0 where
  pub index : ℕ
  pub use_there : Use
  pub there : slice_get uses index ≡ Some use_there
  pub earlier : ℕ
  pub use_earlier : Use
  pub earlier_there : slice_get uses earlier ≡ Some use_earlier
  pub before : earlier < index
  pub clash : Clash use_earlier use_there
  pub first : (i j : ℕ) (u v : Use) → i < index → j < i → slice_get uses i ≡ Some u → slice_get uses j ≡ Some v → Clash v u → ⊥
  pub place : at ≡ use_there.at

-- the position occurs
abbrev pub Occurs : List Use → ℕ → Type 0
Occurs uses position = (i : ℕ) × (u : Use) × (slice_get uses i ≡ Some u) × (u.param.position ≡ position)

-- some position below the limit doesn't occur
abbrev pub LacksBelow : List Use → ℕ → Type 0
LacksBelow uses limit = (position : ℕ) × (position < limit) × (Occurs uses position → ⊥)

abbrev pub HasBelow : List Use → ℕ → Type 0
HasBelow uses limit = (position : ℕ) → position < limit → Occurs uses position

-- every position from 0 to the greatest occurs
abbrev pub NoGap : List Use → Type 0
NoGap uses = (i : ℕ) (u : Use) → slice_get uses i ≡ Some u → HasBelow uses u.param.position

-- a position below one that occurs doesn't
abbrev pub HasGap : List Use → Type 0
HasGap uses = (i : ℕ) × (u : Use) × (slice_get uses i ≡ Some u) × LacksBelow uses u.param.position

-- ---- texts

-- the text spells these pieces
pub record Spells (text : List ℕ) (mode : Mode) (ps : List Piece) : Type 0 where
  pub tokens : List Token
  pub after : ℕ
  pub spelled : SpellsTokens mode (length text) 0 text tokens after []
  pub joins : joined tokens ≡ ps
  pub no_clash : NoClash (uses_of tokens)
  pub no_gap : NoGap (uses_of tokens)

-- what stands in a token's place is none; at counts from there
abbrev pub HasTokenFault : Mode → ℕ → List ℕ → Fault → Type 0
HasTokenFault mode next text fault =
    -- a `{` with no `}` after it
    ((more : List ℕ) × (text ≡ 123 ∷ more) × (behind 123 more ≡ None) × Lacks 125 more × (fault ≡ record { cause = causes.Brace; at = 0 }))
    -- a `}` that is neither an end nor doubled
    ⊎ (((more : List ℕ) × (text ≡ 125 ∷ more) × (behind 125 more ≡ None) × (fault ≡ record { cause = causes.Brace; at = 0 }))
    -- a parameter with a fault
    ⊎ ((inside : List ℕ) × (rest : List ℕ) × IsHole text inside rest × HasParamFault mode next inside fault))

-- the first fault from left to right
pub record HasFirstFault (text : List ℕ) (mode : Mode) (cause : Cause) (at : ℕ) : Type 0 where
  pub tokens : List Token
  pub after : ℕ
  pub rest : List ℕ
  pub spelled : SpellsTokens mode (length text) 0 text tokens after rest
  pub fault : Fault
  pub has : HasTokenFault mode after rest fault
  pub cause_is : cause ≡ fault.cause
  pub place : at ≡ length text - length rest + fault.at

-- where there is none, the first conflict
pub record HasConflict (text : List ℕ) (mode : Mode) (cause : Cause) (at : ℕ) : Type 0 where
  pub tokens : List Token
  pub after : ℕ
  pub spelled : SpellsTokens mode (length text) 0 text tokens after []
  pub clash : FirstClash (uses_of tokens) at
  pub cause_is : cause ≡ causes.Conflict

-- and then a gap
pub record HasGapFault (text : List ℕ) (mode : Mode) (cause : Cause) (at : ℕ) : Type 0 where
  pub tokens : List Token
  pub after : ℕ
  pub spelled : SpellsTokens mode (length text) 0 text tokens after []
  pub no_clash : NoClash (uses_of tokens)
  pub gap : HasGap (uses_of tokens)
  pub cause_is : cause ≡ causes.Gap
  pub place : at ≡ length text

-- why the text spells nothing, and where
abbrev pub HasFault : List ℕ → Mode → Cause → ℕ → Type 0
HasFault text mode cause at = HasFirstFault text mode cause at ⊎ (HasConflict text mode cause at ⊎ HasGapFault text mode cause at)

-- a refusal of the text gives this number and this place
abbrev pub IsRefused : List ℕ → Mode → ℕ → ℕ → Type 0
IsRefused text mode number at = (cause : Cause) × HasFault text mode cause at × (number ≡ cause_number cause)

-- a refusal has one cause and one place
pub record SameFault (c d : Cause) (a b : ℕ) : Type 0 where
  pub cause : c ≡ d
  pub place : a ≡ b

-- some text spells these
abbrev pub AreSpelled : List Piece → Type 0
AreSpelled ps = (text : List ℕ) × (mode : Mode) × Spells text mode ps

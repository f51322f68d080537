-- Parameters. The crate defmt-parser, `Parameter`.
use Rattle.std.specs.Prelude.{◌≡◌, ◌≢◌, ◌≤◌, ◌<◌, ◌+◌, ◌-◌, ℕ, List, [], ◌∷◌, ◌++◌, length, Option, Some, None, Result, Ok, Err, nat_lt, nat_le, is_some, unwrap_or, Bool, true, false, ◌&&◌, ◌⊎◌, ◌==◌, if◌then◌else◌}
use Rattle.std.specs.Option.{option_copied}
use Rattle.std.specs.Char.{is_ascii_digit}
use Rattle.std.specs.Str.{all_ascii_digits}
use Rattle.std.specs.Borrow.{Bor}
use Rattle.defmt_grammar.specs.Cut.{cut, behind, lead, number_of, IsDecimal, Lacks}
use Rattle.defmt_grammar.specs.Kind.{kind_of, SpellsKind, HasKindFault}
use Rattle.defmt_grammar.specs.Hint.{hint_of, SpellsHint}
use Rattle.defmt_grammar.specs.declared.fault.Cause.{Cause}
use Rattle.defmt_grammar.specs.declared.fault.Cause.TheVariants as causes
use Rattle.defmt_grammar.specs.declared.fault.Fault.{Fault}
use Rattle.defmt_grammar.specs.declared.fault.Mode.{Mode}
use Rattle.defmt_grammar.specs.declared.language.Language.{Language}
use Rattle.defmt_grammar.specs.Language.{language_of, is_lenient}
use Rattle.defmt_grammar.specs.declared.kind.Kind.{Kind}
use Rattle.defmt_grammar.specs.declared.kind.Kind.TheVariants.{Format}
use Rattle.defmt_grammar.specs.declared.kind.KindFault.{KindFault}
use Rattle.defmt_grammar.specs.declared.kind.KindFault.TheVariants as kind_faults
use Rattle.defmt_grammar.specs.declared.hint.Hint.{Hint}
use Rattle.defmt_grammar.specs.declared.hint.Hint.TheVariants.{Plain}
use Rattle.defmt_grammar.specs.declared.param.Param.{Param}
use Rattle.defmt_grammar.specs.declared.param.Written.{Written}

-- ---- the grammar of what stands between braces

-- the three parts of a parameter as they are written
pub record Parts : Type 0 where
  pub digits : List ℕ
  pub kind : Option (List ℕ)
  pub hint : Option (List ℕ)

-- a kind with its `=`, and a hint with its `:`
abbrev pub kind_part : Option (List ℕ) → List ℕ
kind_part None = []
kind_part (Some text) = 61 ∷ text

abbrev pub hint_part : Option (List ℕ) → List ℕ
hint_part None = []
hint_part (Some text) = 58 ∷ text

abbrev pub KindLacksColon : Option (List ℕ) → Type 0
KindLacksColon None = Unit {0}
KindLacksColon (Some text) = Lacks 58 text

abbrev pub HasLeadingZero : List ℕ → Type 0
HasLeadingZero digits = (d : ℕ) × (more : List ℕ) × (digits ≡ 48 ∷ d ∷ more)

-- position, `=` and kind, `:` and hint
pub record Writes (inside : List ℕ) (p : Parts) : Type 0 where
  pub digits : all_ascii_digits p.digits ≡ true
  pub no_leading_zero : HasLeadingZero p.digits → ⊥
  pub kind : KindLacksColon p.kind
  pub text : inside ≡ p.digits ++ (kind_part p.kind ++ hint_part p.hint)

-- the position that the digits write, or the next that isn't written
abbrev pub IsPosition : ℕ → List ℕ → ℕ → Type 0
IsPosition next [] position = position ≡ next
IsPosition next (d ∷ ds) position = IsDecimal (d ∷ ds) position

-- the next position that isn't written, after this parameter
abbrev pub next_number : ℕ → List ℕ → ℕ
next_number next [] = next + 1
next_number next (d ∷ ds) = next

-- no kind is Format
abbrev pub SpellsKindPart : Language → Option (List ℕ) → Kind → Type 0
SpellsKindPart language None kind = kind ≡ Format
SpellsKindPart language (Some text) kind = SpellsKind language text kind

abbrev pub SpellsNoHint : Language → List ℕ → Type 0
SpellsNoHint language text = (hint : Hint) → SpellsHint language text hint → ⊥

-- no hint is Plain; leniently, so is one that isn't known
abbrev pub SpellsHintPart : Mode → Option (List ℕ) → Hint → Type 0
SpellsHintPart mode None hint = hint ≡ Plain
SpellsHintPart mode (Some text) hint = SpellsHint (language_of mode) text hint ⊎ ((is_lenient mode ≡ true) × SpellsNoHint (language_of mode) text × (hint ≡ Plain))

-- what stands between the braces spells the parameter
pub record SpellsParam (mode : Mode) (next : ℕ) (inside : List ℕ) (param : Param) (after : ℕ) : Type 0 where
  pub parts : Parts
  pub writes : Writes inside parts
  pub position : IsPosition next parts.digits param.position
  pub few : param.position ≤ 15
  pub kind : SpellsKindPart (language_of mode) parts.kind param.kind
  pub hint : SpellsHintPart mode parts.hint param.hint
  pub after_is : after ≡ next_number next parts.digits

-- ---- its faults; places count from the brace

abbrev pub cause_of : KindFault → Cause
cause_of kind_faults.Unknown = causes.Kind
cause_of kind_faults.Range = causes.Range
cause_of kind_faults.Float = causes.Float

-- the first digit of several is 0
pub record HasZeroFault (inside : List ℕ) (fault : Fault) : Type 0 where
  pub digits : List ℕ
  pub rest : List ℕ
  pub are_digits : all_ascii_digits digits ≡ true
  pub zero : HasLeadingZero digits
  pub text : inside ≡ digits ++ rest
  pub is : fault ≡ record { cause = causes.Brace; at = 1 }

-- a character after the position that is neither `=` nor `:`
pub record HasCharFault (inside : List ℕ) (fault : Fault) : Type 0 where
  pub digits : List ℕ
  pub char : ℕ
  pub rest : List ℕ
  pub are_digits : all_ascii_digits digits ≡ true
  pub no_leading_zero : HasLeadingZero digits → ⊥
  pub no_digit : is_ascii_digit char ≡ false
  pub no_kind : char ≢ 61
  pub no_hint : char ≢ 58
  pub text : inside ≡ digits ++ char ∷ rest
  pub is : fault ≡ record { cause = causes.Brace; at = 1 + length digits }

-- a position above 15
pub record HasManyFault (next : ℕ) (inside : List ℕ) (fault : Fault) : Type 0 where
  pub parts : Parts
  pub writes : Writes inside parts
  pub number : ℕ
  pub position : IsPosition next parts.digits number
  pub many : 15 < number
  pub is : fault ≡ record { cause = causes.Many; at = 0 }

-- a kind text with a fault
pub record HasKindTextFault (mode : Mode) (next : ℕ) (inside : List ℕ) (fault : Fault) : Type 0 where
  pub parts : Parts
  pub writes : Writes inside parts
  pub number : ℕ
  pub position : IsPosition next parts.digits number
  pub few : number ≤ 15
  pub text : List ℕ
  pub kind : parts.kind ≡ Some text
  pub kind_fault : KindFault
  pub has : HasKindFault (language_of mode) text kind_fault
  pub is : fault ≡ record { cause = cause_of kind_fault; at = 2 + length parts.digits }

-- strictly, a hint text that spells none
pub record HasHintTextFault (mode : Mode) (next : ℕ) (inside : List ℕ) (fault : Fault) : Type 0 where
  pub parts : Parts
  pub writes : Writes inside parts
  pub number : ℕ
  pub position : IsPosition next parts.digits number
  pub few : number ≤ 15
  pub kind : Kind
  pub spells_kind : SpellsKindPart (language_of mode) parts.kind kind
  pub text : List ℕ
  pub hint : parts.hint ≡ Some text
  pub none : SpellsNoHint (language_of mode) text
  pub strict : is_lenient mode ≡ false
  pub is : fault ≡ record { cause = causes.Hint; at = 2 + length parts.digits + length (kind_part parts.kind) }

-- the first fault of a parameter; each states that those in front of it don't stand
abbrev pub HasParamFault : Mode → ℕ → List ℕ → Fault → Type 0
HasParamFault mode next inside fault = HasZeroFault inside fault ⊎ (HasCharFault inside fault ⊎ (HasManyFault next inside fault ⊎ (HasKindTextFault mode next inside fault ⊎ HasHintTextFault mode next inside fault)))

-- ---- reading, as the code does it, on lists

infixl 10 ◌>>=◌
abbrev pub ◌>>=◌ : {A B : Type 0} → Result A Fault → (A → Result B Fault) → Result B Fault
(Ok x) >>= f = f x
(Err e) >>= f = Err e

abbrev pub both_now : Bor (List ℕ) × Bor (List ℕ) → List ℕ × List ℕ
both_now p = (p.0.now, p.1.now)

abbrev pub viewed : {A B : Type 0} → (A → B) → Result A Fault → Result B Fault
viewed view (Ok x) = Ok (view x)
viewed view (Err e) = Err e

abbrev pub view_written : Written → Parts
view_written w = record { digits = w.digits.now; kind = option_copied w.kind; hint = option_copied w.hint }

abbrev pub with_hint : List ℕ → List ℕ → Option (List ℕ × List ℕ) → Parts
with_hint digits more None = record { digits = digits; kind = Some more; hint = None }
with_hint digits more (Some p) = record { digits = digits; kind = Some p.0; hint = Some p.1 }

abbrev pub with_no_kind : List ℕ → List ℕ → Option (List ℕ) → Result Parts Fault
with_no_kind digits rest None = if length rest == 0 then Ok (record { digits = digits; kind = None; hint = None }) else Err (record { cause = causes.Brace; at = 1 + length digits })
with_no_kind digits rest (Some hint) = Ok (record { digits = digits; kind = None; hint = Some hint })

abbrev pub with_kind : List ℕ → List ℕ → Option (List ℕ) → Result Parts Fault
with_kind digits rest None = with_no_kind digits rest (behind 58 rest)
with_kind digits rest (Some more) = Ok (with_hint digits more (cut 58 more))

abbrev pub has_leading_zero : List ℕ → Bool
has_leading_zero digits = nat_lt 1 (length digits) && is_some (behind 48 digits)

unfoldable pub parts_after : List ℕ × List ℕ → Result Parts Fault
parts_after d = if has_leading_zero d.0 then Err (record { cause = causes.Brace; at = 1 }) else with_kind d.0 d.1 (behind 61 d.1)

unfoldable pub written_of : List ℕ → Result Parts Fault
written_of inside = parts_after (lead inside)

abbrev pub few_of : ℕ → Result ℕ Fault
few_of n = if nat_le n 15 then Ok n else Err (record { cause = causes.Many; at = 0 })

unfoldable pub position_of : ℕ → List ℕ → Result ℕ Fault
position_of next digits = few_of (if length digits == 0 then next else unwrap_or (number_of digits) 0)

abbrev pub kind_at : ℕ → Result Kind KindFault → Result Kind Fault
kind_at at (Ok kind) = Ok kind
kind_at at (Err fault) = Err (record { cause = cause_of fault; at = at })

abbrev pub kind_part_of : Language → Option (List ℕ) → ℕ → Result Kind Fault
kind_part_of language None at = Ok Format
kind_part_of language (Some text) at = kind_at at (kind_of language text)

abbrev pub hint_at : Mode → ℕ → Option Hint → Result Hint Fault
hint_at mode at (Some hint) = Ok hint
hint_at mode at None = if is_lenient mode then Ok Plain else Err (record { cause = causes.Hint; at = at })

abbrev pub hint_part_of : Mode → Option (List ℕ) → ℕ → Result Hint Fault
hint_part_of mode None at = Ok Plain
hint_part_of mode (Some text) at = hint_at mode at (hint_of (language_of mode) text)

abbrev pub hint_len : Option (List ℕ) → ℕ
hint_len None = 0
hint_len (Some text) = length text

unfoldable pub param_of : Mode → ℕ → List ℕ → Result (Param × ℕ) Fault
param_of mode next inside = do
  w ← written_of inside
  position ← position_of next w.digits
  kind ← kind_part_of (language_of mode) w.kind (length w.digits + 2)
  hint ← hint_part_of mode w.hint (length inside + 1 - hint_len w.hint)
  Ok (record { position = position; kind = kind; hint = hint }, (if length w.digits == 0 then next + 1 else next))

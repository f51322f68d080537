-- Reading what stands between brackets, on lists.
use Rattle.std.specs.Prelude.{◌≡◌, ℕ, List, [], ◌∷◌, ◌++◌, Option, Some, None, Result, Ok, Err, option_map}
use Rattle.std.specs.Borrow.{Bor}
use Rattle.dl_io.specs.declared.fault.Memory.{Memory}
use Rattle.defmt_grammar.specs.Cut.{behind, parts_of, skip_spaces}
use Rattle.defmt_grammar.specs.declared.language.Language.{Language}
use Rattle.defmt_shapes.specs.declared.scan.Bracket.{Bracket}
use Rattle.defmt_shapes.specs.declared.scan.Bracket.TheVariants.{Round, Square, Angle}
use Rattle.defmt_shapes.specs.declared.scan.Place.{Place}
use Rattle.defmt_shapes.specs.declared.scan.Place.TheVariants.{Before, After}
use Rattle.defmt_shapes.specs.declared.scan.Step.{Step}
use Rattle.defmt_shapes.specs.declared.scan.Step.TheVariants.{Begin, End, Open, Close}
use Rattle.defmt_shapes.specs.Shape.{Shapes, Items, AreCalls, SpellsShapes, SpellsItems, EndsThere, StartsThere}
use Rattle.defmt_shapes.specs.Runs.{either}
use Rattle.defmt_shapes.specs.Leads.{Lead, IsLeadIn, item_of}
use Rattle.defmt_shapes.specs.Leads as leads

-- ---- what may stand between brackets

abbrev pub closing : Bracket → ℕ
closing Round = 41
closing Square = 93
closing Angle = 62

-- values, or elements, all of them or those behind one
abbrev pub MayStand : Language → Bracket → Place → List ℕ → Type 0
MayStand language Round Before text = (ss : Shapes) × SpellsShapes language text ss
MayStand language Round After text = (ss : Shapes) × EndsThere text × SpellsShapes language text ss
MayStand language Square Before text = (items : Items) × StartsThere text
    × SpellsItems language text items
MayStand language Square After text = (items : Items) × EndsThere text
    × SpellsItems language text items
MayStand language Angle Before text = (ss : Shapes) × AreCalls ss × SpellsShapes language text ss
MayStand language Angle After text = (ss : Shapes) × AreCalls ss × EndsThere text
    × SpellsShapes language text ss

-- what the bracket that was opened before the text encloses, and what follows it
pub record Encloses (language : Language) (bracket : Bracket)
    (text inside rest : List ℕ) : Type 0 where
  pub stands : MayStand language bracket Before inside
  pub text_is : text ≡ inside ++ closing bracket ∷ rest

-- the text up to the bracket that closes the one opened before it, and behind that
abbrev pub IsEnclosed : Language → Bracket → List ℕ → Option (List ℕ × List ℕ) → Type 0
IsEnclosed language bracket text None = (inside rest : List ℕ)
    → Encloses language bracket text inside rest → ⊥
IsEnclosed language bracket text (Some p) = Encloses language bracket text p.0 p.1

abbrev pub FindsClosing : Language → Bracket → List ℕ → Result (Option (Bor (List ℕ)
    × Bor (List ℕ))) Memory
    → Type 0
FindsClosing language bracket text (Ok o) = IsEnclosed language bracket text (parts_of o)
FindsClosing language bracket text (Err e) = Unit {0}

-- ---- one step

abbrev pub step_rest : Option (Step × Bor (List ℕ)) → Option (Step × List ℕ)
step_rest o = option_map (λ p. (p.0, p.1.now)) o

abbrev pub step_of_lead : Lead → Step
step_of_lead (leads.decimal digits) = End
step_of_lead (leads.hexadecimal digits) = End
step_of_lead (leads.negative digits) = End
step_of_lead (leads.flag b) = End
step_of_lead (leads.character c) = End
step_of_lead (leads.quoted inside) = End
step_of_lead (leads.interned name) = End
step_of_lead (leads.bytes digits) = End
step_of_lead leads.empty = End
step_of_lead (leads.float text) = End
step_of_lead (leads.call name mark) = Open Round
step_of_lead (leads.sequence name) = Open Square
step_of_lead leads.nodes = Open Angle

abbrev pub lead_step : Option (Lead × List ℕ) → Option (Step × List ℕ)
lead_step o = option_map (λ p. (step_of_lead p.0, p.1)) o

-- of a Format value
abbrev pub call_of_lead : Lead → List ℕ → Option (Step × List ℕ)
call_of_lead (leads.call name mark) rest = Some (Open Round, rest)
call_of_lead lead rest = None

abbrev pub call_step : Option (Lead × List ℕ) → Option (Step × List ℕ)
call_step None = None
call_step (Some p) = call_of_lead p.0 p.1

-- behind a value or an element
abbrev pub after_step : Bracket → List ℕ → Option (Step × List ℕ)
after_step bracket text =
    either (behind (closing bracket) text) (λ rest. Some (Close, rest))
    (either (behind 32 text) (λ rest. Some (Begin, skip_spaces rest)) None)

abbrev pub item_step : Option (Option (List ℕ) × List ℕ) → Option (Step × List ℕ)
item_step o = option_map (λ p. (Open Round, p.1)) o

abbrev pub IsValueStep : Language → List ℕ → Option (Step × List ℕ) → Option (Step × List ℕ)
    → Type 0
IsValueStep language text None o = (l : Option (Lead × List ℕ)) × IsLeadIn language text l
    × (o ≡ lead_step l)
IsValueStep language text (Some p) o = o ≡ Some p

abbrev pub IsCallStep : Language → List ℕ → Option (Step × List ℕ) → Option (Step × List ℕ) → Type 0
IsCallStep language text None o = (l : Option (Lead × List ℕ)) × IsLeadIn language text l
    × (o ≡ call_step l)
IsCallStep language text (Some p) o = o ≡ Some p

-- what a text goes on with, inside this bracket at this place
abbrev pub IsStep : Language → Bracket → Place → List ℕ → Option (Step × List ℕ) → Type 0
IsStep language Round Before text o = IsValueStep language text (after_step Round text) o
IsStep language Round After text o = o ≡ after_step Round text
IsStep language Square Before text o = o ≡ item_step (item_of text)
IsStep language Square After text o = o ≡ after_step Square text
IsStep language Angle Before text o = IsCallStep language text (after_step Angle text) o
IsStep language Angle After text o = o ≡ after_step Angle text

-- ---- the way so far

-- what still has to follow so that the text is enclosed: each open bracket has to be closed
abbrev pub Ends : Language → Bracket → List ℕ → List Bracket → List ℕ → Type 0
Ends language first text [] rest = (inside : List ℕ) × Encloses language first text inside rest
Ends language first text (b ∷ bs) rest = (inside after : List ℕ)
    → rest ≡ inside ++ closing b ∷ after
    → MayStand language b After inside → Ends language first text bs after

-- the same where a value may begin
abbrev pub Awaits : Language → Bracket → List ℕ → Bracket → List Bracket → Place → List ℕ → Type 0
Awaits language first text b bs place rest = (inside after : List ℕ)
    → rest ≡ inside ++ closing b ∷ after
    → MayStand language b place inside → Ends language first text bs after

-- what does follow where the text is enclosed with this behind it
abbrev pub Leaves : Language → List Bracket → List ℕ → List ℕ → Type 0
Leaves language [] rest end = rest ≡ end
Leaves language (b ∷ bs) rest end = (inside : List ℕ) × (after : List ℕ)
    × (rest ≡ inside ++ closing b ∷ after) × MayStand language b After inside
    × Leaves language bs after end

pub record LeavesAt (language : Language) (b : Bracket) (bs : List Bracket) (place : Place)
    (rest end : List ℕ) : Type 0 where
  pub inside : List ℕ
  pub after : List ℕ
  pub rest_is : rest ≡ inside ++ closing b ∷ after
  pub stands : MayStand language b place inside
  pub outer : Leaves language bs after end

-- how far a reader has come
pub record InBrackets (language : Language) (first : Bracket) (text : List ℕ) (b : Bracket)
    (bs : List Bracket)
    (place : Place) (rest : List ℕ) : Type 0 where
  pub sound : Awaits language first text b bs place rest
  pub complete : (inside end : List ℕ) → Encloses language first text inside end
      → LeavesAt language b bs place rest end

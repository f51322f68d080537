-- What the plans of a table's strings say.
use Rattle.std.specs.Prelude.{◌≡◌, ℕ, codes, Bool, true, false, List, [], ◌∷◌, ◌++◌, length, Option, Some, None}
use Rattle.defmt_grammar.specs.declared.piece.Piece.{Piece}
use Rattle.defmt_grammar.specs.declared.piece.Piece.TheVariants.{Literal}
use Rattle.defmt_intern.specs.Body.{body_of}
use Rattle.defmt_intern.specs.Stamp.{stamp_of}
use Rattle.defmt_intern.specs.Table.{Map}
use Rattle.defmt_intern.specs.declared.entry.Entry.{Entry}
use Rattle.defmt_intern.specs.declared.parsed.Parsed.TheVariants.{One}
use Rattle.defmt_values.specs.Entries.{look, is_logged}
use Rattle.defmt_eager.specs.Line.{level_text, stamp_space}
use Rattle.defmt_plan.specs.Steps.{AreSteps, number_step}
use Rattle.defmt_plan.specs.declared.plan.Plan.{Plan}
use Rattle.defmt_plan.specs.declared.plan.StampPlan.{StampPlan}
use Rattle.defmt_plan.specs.declared.plan.StampPlan.TheVariants as stamps
use Rattle.defmt_plan.specs.declared.steps.Step.{Step}

-- the entry at an index stands for the pieces that the steps are
pub record AreStepsOf (t : Map) (index : ℕ) (steps : List Step) : Type 0 where
  pub entry : Entry
  pub there : look t index ≡ Some entry
  pub pieces : List Piece
  pub body : body_of t.language entry ≡ One pieces
  pub steps_are : AreSteps pieces pieces steps

-- a space in front of a level where there is a stamp
abbrev pub space_if : Bool → List ℕ
space_if true = codes " "
space_if false = []

-- pieces behind a literal, where there is one
abbrev pub led : Option (List ℕ) → List Piece → List Piece
led None ps = ps
led (Some text) ps = Literal text ∷ ps

abbrev pub lead_text : Option (List ℕ) → List ℕ
lead_text None = []
lead_text (Some text) = text

-- these pieces begin with this literal, which is appended
pub record Leads (pieces rest : List Piece) (old new : List ℕ) : Type 0 where
  pub lead : Option (List ℕ)
  pub pieces_are : pieces ≡ led lead rest
  pub text : new ≡ old ++ lead_text lead

-- what stands between the stamp's text and the rest of a statement of a level: the level, and the literal that its text begins
-- with; without a level there is neither
abbrev pub IsFront : Map → Option (List ℕ) → Option (List ℕ) → Option (List ℕ) → Type 0
IsFront t None lead front = (lead ≡ None) × (front ≡ None)
IsFront t (Some level) lead front =
    front ≡ Some (stamp_space (stamp_of t) ++ ((level ++ codes " ") ++ lead_text lead))

pub record HasFront (t : Map) (level : Option (List ℕ)) (pieces : List Piece)
    (front : Option (List ℕ)) (rest : List Piece) : Type 0 where
  pub lead : Option (List ℕ)
  pub pieces_are : pieces ≡ led lead rest
  pub front_is : IsFront t level lead front

-- how many bytes a level has in a line, with the spaces round it
abbrev pub level_size : Option ℕ → Option (List ℕ) → ℕ
level_size at None = 0
level_size at (Some level) = length (stamp_space at ++ (level ++ codes " "))

-- a statement of a level or of println: what stands in front of the rest of its text, and the pieces of that
pub record IsPlanIn (t : Map) (plan : Plan) : Type 0 where
  pub entry : Entry
  pub there : look t plan.index ≡ Some entry
  pub pieces : List Piece
  pub body : body_of t.language entry ≡ One pieces
  pub logged : is_logged entry.tag ≡ true
  pub rest : List Piece
  pub own : HasFront t (level_text entry.tag) pieces plan.front rest
  pub named : plan.named ≡ level_size (stamp_of t) (level_text entry.tag)
  pub steps_are : AreSteps pieces rest plan.steps.items

abbrev pub ArePlansIn : Map → List Plan → Type 0
ArePlansIn t [] = Unit {0}
ArePlansIn t (plan ∷ plans) = IsPlanIn t plan × ArePlansIn t plans

pub record AreStampSteps (t : Map) (steps : List Step) : Type 0 where
  pub index : ℕ
  pub is : stamp_of t ≡ Some index
  pub own : AreStepsOf t index steps

-- that there is no stamp, or the pieces of the stamp; of one that isn't usual nothing is said
abbrev pub SaysStamp : Map → StampPlan → Type 0
SaysStamp t stamps.Missing = stamp_of t ≡ None
SaysStamp t (stamps.Number size hint) = AreStampSteps t (number_step size hint ∷ [])
SaysStamp t (stamps.Steps steps) = AreStampSteps t steps.items
SaysStamp t stamps.Unusual = Unit {0}

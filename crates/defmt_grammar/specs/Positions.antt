-- A table of what positions are used for.
use Rattle.std.specs.Prelude.{◌≡◌, ◌≢◌, ◌≤◌, ◌<◌, ◌+◌, ◌^◌, ℕ, min, max, List, [], ◌∷◌, map, length, Option, Some, None, ◌⊎◌, slice_get}
use Rattle.std.specs.List.{AllByRecursion}
use Rattle.defmt_grammar.specs.declared.kind.Kind.{Kind}
use Rattle.defmt_grammar.specs.declared.kind.Kind.TheVariants as kinds
use Rattle.defmt_grammar.specs.declared.hint.Hint.{Hint}
use Rattle.defmt_grammar.specs.declared.hint.Hint.TheVariants as hints
use Rattle.defmt_grammar.specs.declared.param.Param.{Param}
use Rattle.defmt_grammar.specs.declared.piece.Use.{Use}
use Rattle.defmt_grammar.specs.declared.positions.Held.{Held}
use Rattle.defmt_grammar.specs.declared.slot.Slot.{Slot}
use Rattle.defmt_grammar.specs.declared.slot.Slot.TheVariants.{One}
use Rattle.defmt_grammar.specs.Grammar.{IsBits, NoClash}
use Rattle.defmt_grammar.specs.Slots.{kinds_at, least_start, greatest_end, window}

-- ---- what is within its range

abbrev pub KindFits : Kind → Type 0
KindFits (kinds.ByteArray n) = n ≤ 65535
KindFits (kinds.FormatArray n) = n ≤ 65535
KindFits (kinds.Bits lo hi) = (lo < hi) × (hi ≤ 128)
KindFits kind = Unit {0}

abbrev pub HintFits : Hint → Type 0
HintFits (hints.Radix base alt width) = width ≤ 255
HintFits (hints.Pad width) = (1 ≤ width) × (width ≤ 255)
HintFits hint = Unit {0}

pub record Fits (p : Param) : Type 0 where
  pub few : p.position ≤ 15
  pub kind : KindFits p.kind
  pub hint : HintFits p.hint

abbrev pub AllFit : List Use → Type 0
AllFit uses = AllByRecursion (λ u. Fits u.param) uses

abbrev pub param_of_use : Use → Param
param_of_use u = u.param

abbrev pub params_in : List Use → List Param
params_in uses = map param_of_use uses

-- ---- kinds of one position

-- from the lower start to the higher end
abbrev pub span_of : Kind → Kind → Option Kind
span_of (kinds.Bits lo hi) (kinds.Bits low high) = Some (kinds.Bits (min lo low) (max hi high))
span_of first second = None

-- two kinds that don't go together
abbrev pub Apart : Kind → Kind → Type 0
Apart first second = (first ≢ second) × (IsBits first → IsBits second → ⊥)

-- the kind of both
abbrev pub IsJoined : Kind → Kind → Kind → Type 0
IsJoined first second kind = (span_of first second ≡ Some kind) ⊎ ((first ≡ second) × (kind ≡ first))

abbrev pub AllAre : Kind → List Kind → Type 0
AllAre kind ks = AllByRecursion (λ k. k ≡ kind) ks

-- bit fields, from the least start to the greatest end
pub record IsSpan (lo hi : ℕ) (ks : List Kind) : Type 0 where
  pub bits : AllByRecursion IsBits ks
  pub start : lo ≡ least_start ks
  pub end : hi ≡ greatest_end ks
  pub ordered : lo < hi
  pub within : hi ≤ 128

abbrev pub IsJoint : Kind → List Kind → Type 0
IsJoint (kinds.Bits lo hi) ks = IsSpan lo hi ks
IsJoint kind ks = AllAre kind ks

-- what is held of a position that is used for these kinds
pub record Holds (held : Held) (ks : List Kind) : Type 0 where
  pub some : 0 < length ks
  pub uses : held.uses ≡ length ks
  pub kind : IsJoint held.kind ks

abbrev pub EntryIs : Option Held → List Kind → Type 0
EntryIs None ks = ks ≡ []
EntryIs (Some held) ks = Holds held ks

-- ---- one use more

abbrev pub ClashesWith : Option Held → Kind → Type 0
ClashesWith None kind = ⊥
ClashesWith (Some held) kind = Apart held.kind kind

abbrev pub HoldsMore : Option Held → Kind → Held → Type 0
HoldsMore None kind more = more ≡ record { kind = kind; uses = 1 }
HoldsMore (Some held) kind more = IsJoined held.kind kind more.kind × (more.uses ≡ held.uses + 1)

abbrev pub CountFits : Option Held → Type 0
CountFits None = Unit {0}
CountFits (Some held) = held.uses + 1 < 2 ^ 64

-- ---- tables

-- each entry is what its position is used for
abbrev pub IsTable : List (Option Held) → List Param → Type 0
IsTable table params = (position : ℕ) (entry : Option Held) → slice_get table position ≡ Some entry → EntryIs entry (kinds_at position params)

pub record IsTableOf (table : List (Option Held)) (uses : List Use) : Type 0 where
  pub entries : IsTable table (params_in uses)
  pub size : length table ≡ 16
  pub no_clash : NoClash uses

-- the entries in front of the first that isn't used
unfoldable pub front : List (Option Held) → List Held
front [] = []
front (None ∷ table) = []
front (Some held ∷ table) = held ∷ front table

abbrev pub count_of : Held → ℕ
count_of held = held.uses

-- the slot of a position that is held
abbrev pub slot_for : Kind → Slot
slot_for (kinds.Bits lo hi) = window lo hi
slot_for kind = One kind

abbrev pub held_slot : Held → Slot
held_slot held = slot_for held.kind

pub record IsFront (table : List (Option Held)) (ss : List Slot) (ns : List ℕ) : Type 0 where
  pub slots : ss ≡ map held_slot (front table)
  pub counts : ns ≡ map count_of (front table)

-- some entry from this position on is used
abbrev pub UsedFrom : List (Option Held) → ℕ → Type 0
UsedFrom table from = (position : ℕ) × (held : Held) × (from ≤ position) × (slice_get table position ≡ Some (Some held))

abbrev pub UnusedFrom : List (Option Held) → ℕ → Type 0
UnusedFrom table from = (position : ℕ) (held : Held) → from ≤ position → slice_get table position ≡ Some (Some held) → ⊥

abbrev pub BitsFit : Kind → Type 0
BitsFit (kinds.Bits lo hi) = (lo < hi) × (hi ≤ 128)
BitsFit kind = Unit {0}

-- the bit fields that are held are within their range
abbrev pub HeldFit : List (Option Held) → Type 0
HeldFit table = (position : ℕ) (held : Held) → slice_get table position ≡ Some (Some held) → BitsFit held.kind

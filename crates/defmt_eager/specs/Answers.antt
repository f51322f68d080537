-- What the calls answer.
use Rattle.std.specs.Prelude.{◌≡◌, ◌≤◌, ◌<◌, ◌⊎◌, ℕ, ◌+◌, List, [], ◌++◌, Bool, codes, length, Option, Some, None, Result, Ok, Err, if◌then◌else◌}
use Rattle.std.specs.Str.{IsUtf8}
use Rattle.defmt_eager.specs.Line.{printed_limit, stamp_text, front_text, front_sizes, eager_line, IsLong, IsWide}
use Rattle.defmt_eager.specs.Show.{eager_text, show_val}
use Rattle.defmt_eager.specs.declared.eager.EagerFault.{EagerFault}
use Rattle.defmt_eager.specs.declared.eager.EagerFault.TheVariants.{Wide, Memory}
use Rattle.defmt_eager.specs.declared.front.Front.{Front}
use Rattle.defmt_grammar.specs.declared.hint.Hint.{Hint}
use Rattle.defmt_grammar.specs.declared.hint.Hint.TheVariants as hints
use Rattle.defmt_grammar.specs.declared.kind.Kind.{Kind}
use Rattle.defmt_grammar.specs.declared.text.Text.{Text}
use Rattle.defmt_hints.specs.Written.{Full, Kept, Written}
use Rattle.defmt_intern.specs.Table.{Map}
use Rattle.defmt_values.specs.Plain.{Val, Vals, no_vals, val}

-- the text of a statement, which is within the limit; that it isn't; or want of memory
abbrev pub GivesText : Result Text EagerFault → Map → ℕ → Vals → Type 0
GivesText (Ok out) t index vs = (out ≡ eager_text t index vs) × (length out ≤ printed_limit)
GivesText (Err Wide) t index vs = IsLong (eager_text t index vs)
GivesText (Err Memory) t index vs = Unit {0}

-- the line of a statement, of which both texts are within the limit; that one isn't; or want of memory
abbrev pub GivesLine : Result Text EagerFault → Map → Vals → ℕ → Vals → Type 0
GivesLine (Ok out) t stamp index vs =
    (out ≡ eager_line t stamp index vs) × (IsWide t stamp index vs → ⊥)
GivesLine (Err Wide) t stamp index vs = IsWide t stamp index vs
GivesLine (Err Memory) t stamp index vs = Unit {0}

-- the same, with what stands in front of the statement's text
abbrev pub GivesParted : Result (Front × Text) EagerFault → Map → Vals → ℕ → Vals → Type 0
GivesParted (Ok told) t stamp index vs =
    (told.0 ≡ front_sizes t stamp index) × GivesLine (Ok told.1) t stamp index vs
GivesParted (Err fault) t stamp index vs = GivesLine (Err fault) t stamp index vs

-- ---- texts at a place of a buffer

-- the text stands there, and is UTF-8
pub record Placed (old : List ℕ) (at : ℕ) (new : List ℕ) (end : ℕ) (text : List ℕ) : Type 0 where
  pub written : Written old at new end text
  pub utf8 : IsUtf8 text

-- the text is written up to the place that is answered, or it doesn't fit
abbrev pub Puts : Option ℕ → List ℕ → ℕ → List ℕ → List ℕ → Type 0
Puts (Some end) old at new text = Placed old at new end text
Puts None old at new text = Full old at new text

-- the text stands there and nothing is wide
pub record PlacedNarrow (wide : Type 0) (old : List ℕ) (at : ℕ) (new : List ℕ) (end : ℕ)
    (text : List ℕ) : Type 0 where
  pub placed : Placed old at new end text
  pub narrow : wide → ⊥

-- something is wide or the text doesn't fit; what stands in front of the place is as before
pub record Unplaced (wide : Type 0) (old : List ℕ) (at : ℕ) (new text : List ℕ) : Type 0 where
  pub kept : Kept old at new
  pub cause : wide ⊎ (length old < at + length text)

abbrev pub PutsNarrow : Type 0 → Option ℕ → List ℕ → ℕ → List ℕ → List ℕ → Type 0
PutsNarrow wide (Some end) old at new text = PlacedNarrow wide old at new end text
PutsNarrow wide None old at new text = Unplaced wide old at new text

-- the line of a statement is written up to the place that is answered and both its texts are within the limit; or one
-- isn't, or the line doesn't fit
abbrev pub PutsLine : Option ℕ → Map → Vals → ℕ → Vals → List ℕ → ℕ → List ℕ → Type 0
PutsLine end t stamp index vs old at new =
    PutsNarrow (IsWide t stamp index vs) end old at new (eager_line t stamp index vs)

-- the same, with what stands in front of the statement's text
abbrev pub PutsParted : Option (Front × ℕ) → Map → Vals → ℕ → Vals → List ℕ → ℕ → List ℕ → Type 0
PutsParted (Some told) t stamp index vs old at new =
    (told.0 ≡ front_sizes t stamp index) × PutsLine (Some told.1) t stamp index vs old at new
PutsParted None t stamp index vs old at new = PutsLine None t stamp index vs old at new

-- ---- parts

-- the text is appended, and is within the limit; that it isn't; or want of memory
abbrev pub Shows : Result (Unit {0}) EagerFault → List ℕ → List ℕ → List ℕ → Type 0
Shows (Ok u) old new text = (new ≡ old ++ text) × (length text ≤ printed_limit)
Shows (Err Wide) old new text = IsLong text
Shows (Err Memory) old new text = Unit {0}

-- what stands in front of a statement's text, where the stamp's text is within the limit
abbrev pub GivesFront : Result Text EagerFault → Map → Option ℕ → Vals → Option (List ℕ) → Type 0
GivesFront (Ok out) t at stamp level = (out ≡ front_text t at stamp level)
    × (length (stamp_text t at stamp) ≤ printed_limit)
GivesFront (Err Wide) t at stamp level = IsLong (stamp_text t at stamp)
GivesFront (Err Memory) t at stamp level = Unit {0}

-- what parts an element from the one before it
abbrev pub comma : Bool → List ℕ
comma first = if first then [] else codes ", "

-- more bytes than a number, a truth value or a character has under a hint: 300, and the zeros of a width
abbrev pub most_bytes : Hint → ℕ
most_bytes (hints.Radix base alt width) = 300 + width
most_bytes (hints.Pad width) = 300 + width
most_bytes hint = 300

-- the text of the value has at most so many bytes, under each hint whose width has one byte
abbrev pub HasAtMost : Map → Val → ℕ → Type 0
HasAtMost t v n =
    (kind : Kind) (hint : Hint) → most_bytes hint ≤ 555 → length (show_val t v kind hint) ≤ n

-- the same of each of these values
abbrev pub HaveAtMost : Map → Vals → ℕ → Type 0
HaveAtMost t no_vals n = Unit {0}
HaveAtMost t (val v vs) n = HasAtMost t v n × HaveAtMost t vs n

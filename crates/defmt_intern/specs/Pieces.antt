-- The pieces that a text spells, as a function on texts (defmt book, "Formatting parameters").
use Rattle.std.specs.Prelude.{◌-◌, ◌==◌, ◌&&◌, ◌||◌, ℕ, zero, suc, Bool, true, false, List, [], ◌∷◌, ◌++◌, length, map, Option, Some, None, option_map, option_and_then, Result, Ok, Err, if◌then◌else◌}
use Rattle.std.specs.List.{list_all, list_any}
use Rattle.defmt_grammar.specs.declared.fault.Fault.{Fault}
use Rattle.defmt_grammar.specs.declared.fault.Mode.{Mode}
use Rattle.defmt_grammar.specs.declared.kind.FloatSize.{FloatSize}
use Rattle.defmt_grammar.specs.declared.kind.FloatSize.TheVariants as floats
use Rattle.defmt_grammar.specs.declared.kind.IntSize.{IntSize}
use Rattle.defmt_grammar.specs.declared.kind.IntSize.TheVariants as sizes
use Rattle.defmt_grammar.specs.declared.kind.Kind.{Kind}
use Rattle.defmt_grammar.specs.declared.kind.Kind.TheVariants as kinds
use Rattle.defmt_grammar.specs.declared.piece.Piece.{Piece}
use Rattle.defmt_grammar.specs.declared.piece.Use.{Use}
use Rattle.defmt_grammar.specs.Grammar.{Token, char, hole, joined, uses_of}
use Rattle.defmt_grammar.specs.Step.{Read, run, hole as hole_step, step_of}

-- ---- tokens

-- the tokens of a step at this place of the text
abbrev pub step_tokens : ℕ → Read → List Token
step_tokens at (run cs) = map char cs
step_tokens at (hole_step param after) = hole at param ∷ []

-- the first position that isn't written, behind a step
abbrev pub next_behind : ℕ → Read → ℕ
next_behind next (run cs) = next
next_behind next (hole_step param after) = after

-- the tokens of a step, and those of what follows it
abbrev pub with_more : ℕ → ℕ → (ℕ → List ℕ → Option (List Token)) → Result (Read × List ℕ) Fault
    → Option (List Token)
with_more at next more (Ok p) =
    option_map (λ ts. step_tokens at p.0 ++ ts) (more (next_behind next p.0) p.1)
with_more at next more (Err fault) = None

-- the tokens of all that is left of a text of this size, by at most so many steps; none where a step has a fault
unfoldable pub tokens_by : ℕ → Mode → ℕ → ℕ → List ℕ → Option (List Token)
tokens_by most mode size next [] = Some []
tokens_by zero mode size next (c ∷ cs) = None
tokens_by (suc most) mode size next (c ∷ cs) =
    with_more (size - length (c ∷ cs)) next (λ n rest. tokens_by most mode size n rest)
    (step_of mode next (c ∷ cs))

-- ---- positions

abbrev pub is_size : IntSize → IntSize → Bool
is_size sizes.W8 sizes.W8 = true
is_size sizes.W16 sizes.W16 = true
is_size sizes.W32 sizes.W32 = true
is_size sizes.W64 sizes.W64 = true
is_size sizes.W128 sizes.W128 = true
is_size sizes.Native sizes.Native = true
is_size s t = false

abbrev pub is_float_size : FloatSize → FloatSize → Bool
is_float_size floats.W32 floats.W32 = true
is_float_size floats.W64 floats.W64 = true
is_float_size s t = false

-- two kinds are the same
abbrev pub is_kind : Kind → Kind → Bool
is_kind (kinds.Uint s) (kinds.Uint t) = is_size s t
is_kind (kinds.Int s) (kinds.Int t) = is_size s t
is_kind kinds.Bool kinds.Bool = true
is_kind kinds.Char kinds.Char = true
is_kind kinds.Str kinds.Str = true
is_kind kinds.Istr kinds.Istr = true
is_kind kinds.Bytes kinds.Bytes = true
is_kind (kinds.ByteArray m) (kinds.ByteArray n) = m == n
is_kind kinds.Format kinds.Format = true
is_kind kinds.FormatSlice kinds.FormatSlice = true
is_kind (kinds.FormatArray m) (kinds.FormatArray n) = m == n
is_kind (kinds.Bits lo hi) (kinds.Bits low high) = lo == low && hi == high
is_kind (kinds.Float s) (kinds.Float t) = is_float_size s t
is_kind kinds.Debug kinds.Debug = true
is_kind kinds.Display kinds.Display = true
is_kind kinds.Sequence kinds.Sequence = true
is_kind k l = false

abbrev pub is_bits : Kind → Bool
is_bits (kinds.Bits lo hi) = true
is_bits kind = false

-- kinds that one position can have: the same, or bit fields
abbrev pub go_together : Kind → Kind → Bool
go_together k l = is_kind k l || (is_bits k && is_bits l)

abbrev pub agree : Use → Use → Bool
agree u v =
    if u.param.position == v.param.position then go_together u.param.kind v.param.kind else true

-- each two uses of one position agree
abbrev pub all_agree : List Use → Bool
all_agree [] = true
all_agree (u ∷ us) = list_all (λ v. agree u v) us && all_agree us

abbrev pub occurs : List Use → ℕ → Bool
occurs uses position = list_any (λ u. u.param.position == position) uses

abbrev pub all_occur : List Use → ℕ → Bool
all_occur uses zero = true
all_occur uses (suc n) = occurs uses n && all_occur uses n

-- each position below one that is used is used
abbrev pub is_gapless : List Use → Bool
is_gapless uses = list_all (λ u. all_occur uses u.param.position) uses

-- ---- pieces

abbrev pub pieces_by : List Token → Option (List Piece)
pieces_by ts = if all_agree (uses_of ts) && is_gapless (uses_of ts) then Some (joined ts) else None

-- the pieces that a text spells, None where it spells none
unfoldable pub pieces_of : Mode → List ℕ → Option (List Piece)
pieces_of mode text =
    option_and_then (λ ts. pieces_by ts) (tokens_by (length text) mode (length text) 0 text)

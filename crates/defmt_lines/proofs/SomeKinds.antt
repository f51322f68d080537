-- Kinds are alike or aren't, and go together or don't.
use Rattle.std.proofs.Common.{◌≡◌, ◌≢◌, ◌+◌, ◌⊎◌, inl, inr, ℕ, Option, Some, None, refl, sym, ap, ◌∙◌}
use Rattle.std.specs.Prelude.{◌==◌, if◌then◌else◌}
use Rattle.std.proofs.lemmas.Bool.{cases_eq}
use Rattle.defmt_grammar.specs.declared.kind.IntSize.{IntSize}
use Rattle.defmt_grammar.specs.declared.kind.IntSize.TheVariants.{W8, W16, W32, W64, W128, Native}
use Rattle.defmt_grammar.specs.declared.kind.FloatSize.{FloatSize}
use Rattle.defmt_grammar.specs.declared.kind.FloatSize.TheVariants as floats
use Rattle.defmt_grammar.specs.declared.kind.Kind.{Kind}
use Rattle.defmt_grammar.specs.declared.kind.Kind.TheVariants as kinds
use Rattle.defmt_grammar.specs.declared.positions.Held.{Held}
use Rattle.defmt_grammar.specs.Grammar.{IsBits}
use Rattle.defmt_grammar.specs.Positions.{Apart, ClashesWith, HoldsMore, IsJoined, span_of}

-- ---- kinds by numbers, and back

size_number : IntSize → ℕ
size_number W8 = 0
size_number W16 = 1
size_number W32 = 2
size_number W64 = 3
size_number W128 = 4
size_number Native = 5

size_of : ℕ → IntSize
size_of n = if n == 0 then W8 else if n == 1 then W16 else if n == 2 then W32 else if n == 3 then W64 else if n == 4 then W128 else Native

size_back : (s : IntSize) → size_of (size_number s) ≡ s
unfolding size_of size_number
size_back W8 = refl
size_back W16 = refl
size_back W32 = refl
size_back W64 = refl
size_back W128 = refl
size_back Native = refl

float_number : FloatSize → ℕ
float_number floats.W32 = 0
float_number floats.W64 = 1

float_of : ℕ → FloatSize
float_of n = if n == 0 then floats.W32 else floats.W64

float_back : (s : FloatSize) → float_of (float_number s) ≡ s
unfolding float_of float_number
float_back floats.W32 = refl
float_back floats.W64 = refl

-- a kind's own number, and the two that it holds
number : Kind → ℕ
number (kinds.Uint size) = 0
number (kinds.Int size) = 1
number kinds.Bool = 2
number kinds.Char = 3
number kinds.Str = 4
number kinds.Istr = 5
number kinds.Bytes = 6
number (kinds.ByteArray n) = 7
number kinds.Format = 8
number kinds.FormatSlice = 9
number (kinds.FormatArray n) = 10
number (kinds.Bits lo hi) = 11
number (kinds.Float size) = 12
number kinds.Debug = 13
number kinds.Display = 14
number kinds.Sequence = 15

first : Kind → ℕ
first (kinds.Uint size) = size_number size
first (kinds.Int size) = size_number size
first (kinds.ByteArray n) = n
first (kinds.FormatArray n) = n
first (kinds.Bits lo hi) = lo
first (kinds.Float size) = float_number size
first kind = 0

second : Kind → ℕ
second (kinds.Bits lo hi) = hi
second kind = 0

kind_of : ℕ → ℕ → ℕ → Kind
kind_of n a b =
    if n == 0 then kinds.Uint (size_of a) else
    if n == 1 then kinds.Int (size_of a) else
    if n == 2 then kinds.Bool else
    if n == 3 then kinds.Char else
    if n == 4 then kinds.Str else
    if n == 5 then kinds.Istr else
    if n == 6 then kinds.Bytes else
    if n == 7 then kinds.ByteArray a else
    if n == 8 then kinds.Format else
    if n == 9 then kinds.FormatSlice else
    if n == 10 then kinds.FormatArray a else
    if n == 11 then kinds.Bits a b else
    if n == 12 then kinds.Float (float_of a) else
    if n == 13 then kinds.Debug else
    if n == 14 then kinds.Display else kinds.Sequence

kind_back : (k : Kind) → kind_of (number k) (first k) (second k) ≡ k
unfolding kind_of number first second
kind_back (kinds.Uint size) = ap (λ (s : IntSize). kinds.Uint s) (size_back size)
kind_back (kinds.Int size) = ap (λ (s : IntSize). kinds.Int s) (size_back size)
kind_back kinds.Bool = refl
kind_back kinds.Char = refl
kind_back kinds.Str = refl
kind_back kinds.Istr = refl
kind_back kinds.Bytes = refl
kind_back (kinds.ByteArray n) = refl
kind_back kinds.Format = refl
kind_back kinds.FormatSlice = refl
kind_back (kinds.FormatArray n) = refl
kind_back (kinds.Bits lo hi) = refl
kind_back (kinds.Float size) = ap (λ (s : FloatSize). kinds.Float s) (float_back size)
kind_back kinds.Debug = refl
kind_back kinds.Display = refl
kind_back kinds.Sequence = refl

same_kind : (a b : Kind) → (a ≡ b) ⊎ (a ≢ b)
same_kind a b = elim (cases_eq (number a) (number b)) [
  | inr other ↦ inr (λ e. other (ap number e))
  | inl n ↦ elim (cases_eq (first a) (first b)) [
    | inr other ↦ inr (λ e. other (ap first e))
    | inl x ↦ elim (cases_eq (second a) (second b)) [
      | inr other ↦ inr (λ e. other (ap second e))
      | inl y ↦ inl (sym (kind_back a) ∙ ap (λ (m : ℕ). kind_of m (first a) (second a)) n ∙ ap (λ (m : ℕ). kind_of (number b) m (second a)) x ∙ ap (λ (m : ℕ). kind_of (number b) (first b) m) y ∙ kind_back b)
    ]
  ]
]

-- ---- kinds of one position

both_bits : (a b : Kind) → IsBits a → IsBits b → span_of a b ≡ None → ⊥
both_bits (kinds.Bits lo hi) (kinds.Bits low high) x y e = absurd cc
both_bits (kinds.Bits lo hi) b x y e = y
both_bits a b x y e = x

joined_at : (a b : Kind) (o : Option Kind) → span_of a b ≡ o → ((kind : Kind) × IsJoined a b kind) ⊎ Apart a b
joined_at a b (Some kind) e = inl (kind, inl e)
joined_at a b None e = elim (same_kind a b) [
  | inl same ↦ inl (a, inr (same, refl))
  | inr other ↦ inr (other, λ x y. both_bits a b x y e)
]

-- one use more goes together with what is held, or it clashes
pub use_joins : (held : Option Held) (kind : Kind) → ((more : Held) × HoldsMore held kind more) ⊎ ClashesWith held kind
use_joins None kind = inl (record { kind = kind; uses = 1 }, refl)
use_joins (Some held) kind = elim (joined_at held.kind kind (span_of held.kind kind) refl) [
  | inl j ↦ inl (record { kind = j.0; uses = held.uses + 1 }, (j.1, refl))
  | inr apart ↦ inr apart
]

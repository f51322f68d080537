-- Kind texts. The defmt book, "Type hints" and "Bitfields".
use Rattle.std.specs.Prelude.{◌≡◌, ℕ, List, [], ◌∷◌, ◌++◌, codes, Option, Some, None, if◌then◌else◌}
use Rattle.std.specs.Str.{bytes_eq}
use Rattle.std.specs.Prelude.{Bool as Truth, false, Result, Ok, Err, option_and_then, option_map, nat_lt, nat_le, ◌&&◌, ◌||◌, ◌⊎◌, ◌==◌, length}
use Rattle.defmt_grammar.specs.Cut.{cut, behind, strip, skip_spaces, number_of, AreSpaces, IsDecimal}
use Rattle.defmt_grammar.specs.declared.language.Language.{Language}
use Rattle.defmt_grammar.specs.declared.language.Language.TheVariants.{Base, Full}
use Rattle.defmt_grammar.specs.declared.kind.KindFault.{KindFault}
use Rattle.defmt_grammar.specs.declared.kind.KindFault.TheVariants.{Unknown, Range, Float}
use Rattle.defmt_grammar.specs.declared.kind.Kind.{Kind}
use Rattle.defmt_grammar.specs.declared.kind.Kind.TheVariants.{ByteArray, FormatArray, Bits, Uint, Int, Bool, Char, Str, Istr, Bytes, Format, FormatSlice, Float as FloatKind, Debug, Display, Sequence}
use Rattle.defmt_grammar.specs.declared.kind.IntSize.TheVariants.{W8, W16, W32, W64, W128, Native}
use Rattle.defmt_grammar.specs.declared.kind.FloatSize.TheVariants as floats

-- the words that stand for a kind in both languages
abbrev pub base_kind_names : List (List ℕ × Kind)
base_kind_names =
    (codes "u8", Uint W8) ∷ (codes "u16", Uint W16) ∷ (codes "u32", Uint W32) ∷ (codes "u64", Uint W64) ∷ (codes "u128", Uint W128) ∷ (codes "usize", Uint Native)
    ∷ (codes "i8", Int W8) ∷ (codes "i16", Int W16) ∷ (codes "i32", Int W32) ∷ (codes "i64", Int W64) ∷ (codes "i128", Int W128) ∷ (codes "isize", Int Native)
    ∷ (codes "bool", Bool) ∷ (codes "char", Char) ∷ (codes "str", Str) ∷ (codes "istr", Istr)
    ∷ (codes "[u8]", Bytes) ∷ (codes "?", Format) ∷ (codes "[?]", FormatSlice) ∷ []

-- the words of the full language alone
abbrev pub full_kind_names : Language → List (List ℕ × Kind)
full_kind_names Base = []
full_kind_names Full =
    (codes "f32", FloatKind floats.W32) ∷ (codes "f64", FloatKind floats.W64)
    ∷ (codes "__internal_Debug", Debug) ∷ (codes "__internal_Display", Display) ∷ (codes "__internal_FormatSequence", Sequence) ∷ []

-- the words that stand for a kind
abbrev pub kind_names : Language → List (List ℕ × Kind)
kind_names language = base_kind_names ++ full_kind_names language

-- what a table has at a word
abbrev pub at_word : {A : Type 0} → List ℕ → List (List ℕ × A) → Option A
at_word text [] = None
at_word text (e ∷ es) = if bytes_eq text e.0 then Some e.1 else at_word text es

abbrev pub named_kind : Language → List ℕ → Option Kind
named_kind language text = at_word text (kind_names language)

-- ---- the grammar of kind texts

-- what a kind text says, with numbers of any size
pub data KindShape : Type 0 where
  named : Kind → KindShape
  float : KindShape
  array : ℕ → KindShape
  format_array : ℕ → KindShape
  bits : ℕ → ℕ → KindShape

-- front, spaces, digits, ]
abbrev pub IsCounted : List ℕ → List ℕ → ℕ → Type 0
IsCounted front text n = (spaces : List ℕ) × (digits : List ℕ) × AreSpaces spaces × IsDecimal digits n × (text ≡ front ++ (spaces ++ (digits ++ codes "]")))

-- the name of a floating-point kind, which the base language leaves out
abbrev pub IsLeftOut : Language → List ℕ → Type 0
IsLeftOut Base text = (text ≡ codes "f32") ⊎ (text ≡ codes "f64")
IsLeftOut Full text = ⊥

-- the text spells this
abbrev pub SpellsShape : Language → List ℕ → KindShape → Type 0
SpellsShape language text (named kind) = named_kind language text ≡ Some kind
SpellsShape language text float = IsLeftOut language text
SpellsShape language text (array n) = IsCounted (codes "[u8;") text n
SpellsShape language text (format_array n) = IsCounted (codes "[?;") text n
SpellsShape language text (bits lo hi) = (low : List ℕ) × (high : List ℕ) × IsDecimal low lo × IsDecimal high hi × (text ≡ low ++ (codes ".." ++ high))

-- a length of at most 65,535
abbrev pub array_len : ℕ → Result ℕ KindFault
array_len n = if nat_le n 65535 then Ok n else Err Range

-- the kind, where the numbers are in range and it isn't left out
abbrev pub kind_in_range : KindShape → Result Kind KindFault
kind_in_range (named kind) = Ok kind
kind_in_range float = Err Float
kind_in_range (array n) = if nat_le n 65535 then Ok (ByteArray n) else Err Range
kind_in_range (format_array n) = if nat_le n 65535 then Ok (FormatArray n) else Err Range
kind_in_range (bits lo hi) = if nat_lt lo hi && nat_le hi 128 then Ok (Bits lo hi) else Err Range

-- the text spells this kind, or has this fault
abbrev pub SpellsKind : Language → List ℕ → Kind → Type 0
SpellsKind language text kind = (shape : KindShape) × SpellsShape language text shape × (kind_in_range shape ≡ Ok kind)

abbrev pub HasKindFault : Language → List ℕ → KindFault → Type 0
HasKindFault language text Unknown = (shape : KindShape) → SpellsShape language text shape → ⊥
HasKindFault language text Range = (shape : KindShape) × SpellsShape language text shape × (kind_in_range shape ≡ Err Range)
HasKindFault language text Float = (shape : KindShape) × SpellsShape language text shape × (kind_in_range shape ≡ Err Float)

-- ---- reading, as the code does it, on lists

infixl 10 ◌>>=◌
abbrev pub ◌>>=◌ : {A B : Type 0} → Option A → (A → Option B) → Option B
o >>= f = option_and_then f o

infixl 9 ◌or◌
abbrev pub ◌or◌ : {A : Type 0} → Option A → Option A → Option A
None or p = p
(Some x) or p = Some x

unfoldable pub count_of : List ℕ → List ℕ → Option ℕ
count_of front text = do
  rest ← strip front text
  parts ← cut 93 rest
  if length parts.1 == 0 then number_of (skip_spaces parts.0) else None

unfoldable pub bits_of : List ℕ → Option (ℕ × ℕ)
bits_of text = do
  parts ← cut 46 text
  lo ← number_of parts.0
  rest ← behind 46 parts.1
  hi ← number_of rest
  Some (lo, hi)

abbrev pub is_left_out : Language → List ℕ → Truth
is_left_out Base text = bytes_eq text (codes "f32") || bytes_eq text (codes "f64")
is_left_out Full text = false

unfoldable pub shape_of : Language → List ℕ → Option KindShape
shape_of language text = option_map named (named_kind language text) or (if is_left_out language text then Some float else None)
    or option_map array (count_of (codes "[u8;") text) or option_map format_array (count_of (codes "[?;") text) or option_map (λ p. bits p.0 p.1) (bits_of text)

abbrev pub kind_read : Option KindShape → Result Kind KindFault
kind_read None = Err Unknown
kind_read (Some shape) = kind_in_range shape

unfoldable pub kind_of : Language → List ℕ → Result Kind KindFault
kind_of language text = kind_read (shape_of language text)

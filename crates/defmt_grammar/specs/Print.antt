-- The canonical spelling of pieces: every position and kind is written, each hint in its shortest form.
use Rattle.std.specs.Prelude.{ℕ, List, [], ◌∷◌, ◌++◌, codes, Bool, if◌then◌else◌, ◌==◌, ◌||◌}
use Rattle.std.specs.Fmt.{decimal}
use Rattle.defmt_grammar.specs.Hint.{letter_of, alt_mark, iso_name, clock_name}
use Rattle.defmt_grammar.specs.declared.kind.Kind.{Kind}
use Rattle.defmt_grammar.specs.declared.kind.Kind.TheVariants.{ByteArray, FormatArray, Bits, Uint, Int, Bool as BoolKind, Char, Str, Istr, Bytes, Format, FormatSlice, Float, Debug as DebugKind, Display, Sequence}
use Rattle.defmt_grammar.specs.declared.kind.IntSize.TheVariants.{W8, W16, W32, W64, W128, Native}
use Rattle.defmt_grammar.specs.declared.kind.FloatSize.TheVariants as floats
use Rattle.defmt_grammar.specs.declared.hint.Base.{Base}
use Rattle.defmt_grammar.specs.declared.hint.Hint.{Hint}
use Rattle.defmt_grammar.specs.declared.hint.Hint.TheVariants.{Plain, Debug, Radix, Ascii, Micros, Millis, Iso, Clock, Pad}
use Rattle.defmt_grammar.specs.Language.{strict_of, language_of}
use Rattle.defmt_grammar.specs.declared.fault.Mode.{Mode}
use Rattle.defmt_grammar.specs.declared.param.Param.{Param}
use Rattle.defmt_grammar.specs.declared.piece.Piece.{Piece}
use Rattle.defmt_grammar.specs.declared.piece.Piece.TheVariants as pieces

-- the word of a kind, where it has one
abbrev pub kind_name : Kind → List ℕ
kind_name (Uint W8) = codes "u8"
kind_name (Uint W16) = codes "u16"
kind_name (Uint W32) = codes "u32"
kind_name (Uint W64) = codes "u64"
kind_name (Uint W128) = codes "u128"
kind_name (Uint Native) = codes "usize"
kind_name (Int W8) = codes "i8"
kind_name (Int W16) = codes "i16"
kind_name (Int W32) = codes "i32"
kind_name (Int W64) = codes "i64"
kind_name (Int W128) = codes "i128"
kind_name (Int Native) = codes "isize"
kind_name BoolKind = codes "bool"
kind_name Char = codes "char"
kind_name Str = codes "str"
kind_name Istr = codes "istr"
kind_name Bytes = codes "[u8]"
kind_name Format = codes "?"
kind_name FormatSlice = codes "[?]"
kind_name (Float floats.W32) = codes "f32"
kind_name (Float floats.W64) = codes "f64"
kind_name DebugKind = codes "__internal_Debug"
kind_name Display = codes "__internal_Display"
kind_name Sequence = codes "__internal_FormatSequence"
kind_name (ByteArray n) = []
kind_name (FormatArray n) = []
kind_name (Bits lo hi) = []

-- a kind, with one space after a semicolon
abbrev pub kind_text : Kind → List ℕ
kind_text (ByteArray n) = codes "[u8; " ++ decimal n ++ codes "]"
kind_text (FormatArray n) = codes "[?; " ++ decimal n ++ codes "]"
kind_text (Bits lo hi) = decimal lo ++ codes ".." ++ decimal hi
kind_text kind = kind_name kind

-- a width, or nothing where it is 0
abbrev pub width_text : ℕ → List ℕ
width_text width = if width == 0 then [] else codes "0" ++ decimal width

abbrev pub radix_text : Base → Bool → ℕ → List ℕ
radix_text base alt width = alt_mark alt ++ width_text width ++ letter_of base ∷ []

-- the shortest form, with the colon in front
abbrev pub hint_text : Hint → List ℕ
hint_text Plain = []
hint_text Debug = codes ":?"
hint_text Ascii = codes ":a"
hint_text Micros = codes ":us"
hint_text Millis = codes ":ms"
hint_text (Radix base alt width) = codes ":" ++ radix_text base alt width
hint_text (Iso unit) = codes ":" ++ iso_name unit
hint_text (Clock unit) = codes ":" ++ clock_name unit
hint_text (Pad width) = codes ":0" ++ decimal width

-- a parameter with all of its parts
abbrev pub param_text : Param → List ℕ
param_text p = codes "{" ++ decimal p.position ++ codes "=" ++ kind_text p.kind ++ hint_text p.hint ++ codes "}"

-- the mode in which the spelling of what was read in a mode reads back: the strict one of its language
abbrev pub back : Mode → Mode
back mode = strict_of (language_of mode)

-- a literal with its braces doubled
abbrev pub doubled : List ℕ → List ℕ
doubled [] = []
doubled (c ∷ cs) = if c == 123 || c == 125 then c ∷ c ∷ doubled cs else c ∷ doubled cs

abbrev pub piece_text : Piece → List ℕ
piece_text (pieces.Literal cs) = doubled cs
piece_text (pieces.Param p) = param_text p

-- the spelling of pieces
abbrev pub printed : List Piece → List ℕ
printed [] = []
printed (p ∷ ps) = piece_text p ++ printed ps

-- Hint texts. The defmt book, "Display hints".
use Rattle.std.specs.Prelude.{◌≡◌, ◌≤◌, ℕ, List, [], ◌∷◌, ◌++◌, length, codes, Option, Some, None, option_map, nat_lt, nat_le, Bool, true, false, ◌||◌, ◌⊎◌, ◌==◌, is_some, if◌then◌else◌}
use Rattle.std.specs.Borrow.{Bor}
use Rattle.defmt_grammar.specs.Cut.{behind, before, number_of, IsDecimal}
use Rattle.defmt_grammar.specs.Kind.{at_word, ◌>>=◌, ◌or◌}
use Rattle.defmt_grammar.specs.declared.language.Language.{Language}
use Rattle.defmt_grammar.specs.declared.language.Language.TheVariants as languages
use Rattle.defmt_grammar.specs.declared.hint.Base.{Base}
use Rattle.defmt_grammar.specs.declared.hint.Base.TheVariants.{Hex, HexUpper, Binary, Octal}
use Rattle.defmt_grammar.specs.declared.hint.Hint.{Hint}
use Rattle.defmt_grammar.specs.declared.hint.Hint.TheVariants.{Plain, Debug, Radix, Ascii, Micros, Millis, Iso, Clock, Pad}
use Rattle.defmt_grammar.specs.declared.hint.IsoUnit.{IsoUnit}
use Rattle.defmt_grammar.specs.declared.hint.IsoUnit.TheVariants as iso
use Rattle.defmt_grammar.specs.declared.hint.ClockUnit.{ClockUnit}
use Rattle.defmt_grammar.specs.declared.hint.ClockUnit.TheVariants as clock

-- ---- the grammar

-- x, X, b or o
abbrev pub letter_of : Base → ℕ
letter_of Hex = 120
letter_of HexUpper = 88
letter_of Binary = 98
letter_of Octal = 111

-- `0` and one to three digits, of which the first isn't `0`
abbrev pub IsFill : List ℕ → ℕ → Type 0
IsFill text width = (digits : List ℕ) × (text ≡ 48 ∷ digits) × (behind 48 digits ≡ None) × (length digits ≤ 3) × IsDecimal digits width × (width ≤ 255)

-- the same, or nothing
abbrev pub IsWidth : List ℕ → ℕ → Type 0
IsWidth text width = ((text ≡ []) × (width ≡ 0)) ⊎ IsFill text width

abbrev pub alt_mark : Bool → List ℕ
alt_mark alt = if alt then codes "#" else []

-- the words of dates and of clocks
abbrev pub iso_name : IsoUnit → List ℕ
iso_name iso.Seconds = codes "iso8601s"
iso_name iso.Millis = codes "iso8601ms"

abbrev pub clock_name : ClockUnit → List ℕ
clock_name clock.Seconds = codes "ts"
clock_name clock.Millis = codes "tms"
clock_name clock.Micros = codes "tus"

-- the text spells this hint
abbrev pub SpellsHint : Language → List ℕ → Hint → Type 0
SpellsHint language text Plain = text ≡ []
SpellsHint language text Debug = text ≡ codes "?"
SpellsHint language text Ascii = text ≡ codes "a"
SpellsHint language text Micros = text ≡ codes "us"
SpellsHint language text Millis = text ≡ codes "ms"
SpellsHint language text (Radix base alt width) = (mark : List ℕ) × IsWidth mark width × (text ≡ alt_mark alt ++ (mark ++ letter_of base ∷ []))
SpellsHint language text (Iso unit) = (language ≡ languages.Full) × (text ≡ iso_name unit)
SpellsHint language text (Clock unit) = (language ≡ languages.Full) × (text ≡ clock_name unit)
SpellsHint language text (Pad width) = (language ≡ languages.Full) × IsFill text width

-- ---- reading, as the code does it, on lists

abbrev pub hint_names : List (List ℕ × Hint)
hint_names = (codes "", Plain) ∷ (codes "?", Debug) ∷ (codes "a", Ascii) ∷ (codes "us", Micros) ∷ (codes "ms", Millis) ∷ []

abbrev pub full_hint_names : List (List ℕ × Hint)
full_hint_names = (codes "iso8601s", Iso iso.Seconds) ∷ (codes "iso8601ms", Iso iso.Millis) ∷ (codes "ts", Clock clock.Seconds) ∷ (codes "tms", Clock clock.Millis) ∷ (codes "tus", Clock clock.Micros) ∷ []

abbrev pub named_hint : List ℕ → Option Hint
named_hint text = at_word text hint_names

unfoldable pub fill_of : List ℕ → Option ℕ
fill_of text = do
  digits ← behind 48 text
  if is_some (behind 48 digits) || nat_lt 3 (length digits) then None else (do
    width ← number_of digits
    if nat_le width 255 then Some width else None)

unfoldable pub width_of : List ℕ → Option ℕ
width_of text = if length text == 0 then Some 0 else fill_of text

abbrev pub before_base : Option (Bor (List ℕ) × Base) → Option (List ℕ × Base)
before_base o = option_map (λ p. (p.0.now, p.1)) o

abbrev pub with_base : Base → Option (List ℕ) → Option (List ℕ × Base)
with_base base o = option_map (λ width. (width, base)) o

unfoldable pub base_of : List ℕ → Option (List ℕ × Base)
base_of text = with_base Hex (before 120 text) or with_base HexUpper (before 88 text) or with_base Binary (before 98 text) or with_base Octal (before 111 text)

abbrev pub radix_at : Bool → List ℕ → Option Hint
radix_at alt text = do
  base ← base_of text
  width ← width_of base.0
  Some (Radix base.1 alt width)

abbrev pub radix_from : List ℕ → Option (List ℕ) → Option Hint
radix_from text None = radix_at false text
radix_from text (Some rest) = radix_at true rest

unfoldable pub radix_of : List ℕ → Option Hint
radix_of text = radix_from text (behind 35 text)

-- the hint of a text of the full language alone
unfoldable pub full_hint : Language → List ℕ → Option Hint
full_hint languages.Base text = None
full_hint languages.Full text = at_word text full_hint_names or option_map Pad (fill_of text)

unfoldable pub hint_of : Language → List ℕ → Option Hint
hint_of language text = named_hint text or radix_of text or full_hint language text

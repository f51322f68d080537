-- What the texts of arguments spell, without any table. The language Full has spellings that Base
-- has not.
-- A text is the list of its bytes in UTF-8.
-- Each character with a meaning of its own is ASCII, so it is one byte, and no byte of another
-- character is below 128.
use Rattle.std.specs.Prelude.{◌≡◌, ◌≢◌, ◌⊎◌, ◌<◌, ◌≤◌, ◌+◌, ◌*◌, ℕ, Bool, true, false, ◌&&◌, ◌||◌, ◌==◌, nat_le, if◌then◌else◌, List, [], ◌∷◌, ◌++◌, length, codes, Option, Some, None, encode_utf8, encode_utf8_all}
use Rattle.std.specs.Char.{IsScalar, digit_value, is_ascii_alphabetic, is_ascii_alphanumeric}
use Rattle.std.specs.List.{list_all}
use Rattle.std.specs.Str.Parse.{AllDigits, digits_value}
use Rattle.defmt_grammar.specs.Cut.{AreSpaces}
use Rattle.defmt_grammar.specs.Param.{HasLeadingZero}
use Rattle.defmt_grammar.specs.declared.language.Language.{Language}
use Rattle.defmt_grammar.specs.declared.language.Language.TheVariants.{Base, Full}

mutual
  -- what the text of one value says; numbers are of any size, and a negative one is given without its sign
  pub data Shape : Type 0 where
    decimal : ℕ → Shape
    hexadecimal : ℕ → Shape
    negative : ℕ → Shape
    flag : Bool → Shape
    character : ℕ → Shape
    quoted : List ℕ → Shape
    interned : List ℕ → Shape
    bytes : List ℕ → Shape
    call : List ℕ → Option ℕ → Shapes → Shape
    empty : Shape
    sequence : List ℕ → Items → Shape
    -- a float with a point or an exponent, or one that is no number, by its text
    float : List ℕ → Shape
    -- Format values between `<` and `>`
    nodes : Shapes → Shape

  -- values, one after another
  pub data Shapes : Type 0 where
    no_shapes : Shapes
    shape : Shape → Shapes → Shapes

  -- the elements of a list: each has a variant or none, and values
  pub data Items : Type 0 where
    no_items : Items
    item : Option ℕ → Shapes → Items → Items

-- ---- numbers and names

-- digits of this radix, at least one, and the number that they stand for; letters stand for themselves in either case
pub record IsNumber (radix : ℕ) (digits : List ℕ) (n : ℕ) : Type 0 where
  pub some : 0 < length digits
  pub all : AllDigits radix digits
  pub value : digits_value radix digits ≡ n

-- decimal digits, of which the first of several isn't `0`
pub record IsVariant (digits : List ℕ) (v : ℕ) : Type 0 where
  pub number : IsNumber 10 digits v
  pub no_leading_zero : HasLeadingZero digits → ⊥

-- a letter, a digit or `_`
abbrev pub is_word : ℕ → Bool
is_word c = is_ascii_alphanumeric c || c == 95

-- a letter, and at most 31 letters, digits and `_`
abbrev pub is_name : List ℕ → Bool
is_name [] = false
is_name (c ∷ cs) = is_ascii_alphabetic c && list_all is_word cs && nat_le (length cs) 31

abbrev pub IsName : List ℕ → Type 0
IsName name = is_name name ≡ true

-- `true` or `false`
abbrev pub flag_word : Bool → List ℕ
flag_word true = codes "true"
flag_word false = codes "false"

-- pairs of hexadecimal digits, one for each byte
abbrev pub SpellsBytes : List ℕ → List ℕ → Type 0
SpellsBytes text [] = text ≡ []
SpellsBytes text (b ∷ bs) =
    (high : ℕ) × (low : ℕ) × (rest : List ℕ) × (digit_value high < 16) × (digit_value low < 16)
    × (b ≡ 16 * digit_value high + digit_value low) × SpellsBytes rest bs
    × (text ≡ high ∷ low ∷ rest)

-- ---- floats

abbrev pub IsFull : Language → Type 0
IsFull Base = ⊥
IsFull Full = Unit {0}

abbrev pub AreDigits : List ℕ → Type 0
AreDigits ds = (0 < length ds) × AllDigits 10 ds

-- `.` and digits
abbrev pub IsFraction : List ℕ → Type 0
IsFraction text = (ds : List ℕ) × AreDigits ds × (text ≡ 46 ∷ ds)

-- `-`, `+` or nothing
abbrev pub IsSign : List ℕ → Type 0
IsSign sign = (sign ≡ []) ⊎ ((sign ≡ codes "-") ⊎ (sign ≡ codes "+"))

-- `e`, a sign or none, and digits
abbrev pub IsExponent : List ℕ → Type 0
IsExponent text =
    (sign : List ℕ) × (ds : List ℕ) × IsSign sign × AreDigits ds × (text ≡ 101 ∷ (sign ++ ds))

-- a fraction, an exponent, or both
abbrev pub IsScale : List ℕ → Type 0
IsScale text = IsFraction text ⊎ (IsExponent text
    ⊎ ((fraction : List ℕ) × (exponent : List ℕ) × IsFraction fraction × IsExponent exponent
    × (text ≡ fraction ++ exponent)))

-- digits and what scales them
abbrev pub IsScaled : List ℕ → Type 0
IsScaled text = (whole : List ℕ) × (scale : List ℕ) × AreDigits whole × IsScale scale
    × (text ≡ whole ++ scale)

abbrev pub IsUnsigned : List ℕ → Type 0
IsUnsigned text = IsScaled text ⊎ (text ≡ codes "inf")

-- a decimal number with a fraction or an exponent, `inf`, one of these behind `-`, or `NaN`
abbrev pub IsFloat : List ℕ → Type 0
IsFloat text = (text ≡ codes "NaN")
    ⊎ (IsUnsigned text ⊎ ((rest : List ℕ) × IsUnsigned rest × (text ≡ 45 ∷ rest)))

-- ---- characters and texts in quotes

-- what a letter behind `\` stands for: newline, carriage return, tab, `\`, `"` and `'`
abbrev pub escaped : ℕ → Option ℕ
escaped c =
    if c == 110 then Some 10 else
    if c == 114 then Some 13 else
    if c == 116 then Some 9 else
    if c == 92 then Some 92 else
    if c == 34 then Some 34 else
    if c == 39 then Some 39 else None

-- `\` and a letter
pub record IsLetterEscape (text : List ℕ) (c : ℕ) : Type 0 where
  pub letter : ℕ
  pub stands_for : escaped letter ≡ Some c
  pub text_is : text ≡ 92 ∷ letter ∷ []

-- `\u{`, one to six hexadecimal digits that name a character, `}`
pub record IsNumberEscape (text : List ℕ) (c : ℕ) : Type 0 where
  pub digits : List ℕ
  pub number : IsNumber 16 digits c
  pub few : length digits ≤ 6
  pub scalar : IsScalar c
  pub text_is : text ≡ 92 ∷ 117 ∷ 123 ∷ (digits ++ 125 ∷ [])

-- the text is an escape that stands for the character
abbrev pub IsEscape : List ℕ → ℕ → Type 0
IsEscape text c = IsLetterEscape text c ⊎ IsNumberEscape text c

-- one character other than `\` and the quote round it, or an escape
abbrev pub SpellsCharacter : ℕ → List ℕ → ℕ → Type 0
SpellsCharacter quote text c =
    (IsScalar c × (c ≢ quote) × (c ≢ 92) × (text ≡ encode_utf8 c)) ⊎ IsEscape text c

-- characters, one after another
abbrev pub SpellsCharacters : ℕ → List ℕ → List ℕ → Type 0
SpellsCharacters quote text [] = text ≡ []
SpellsCharacters quote text (c ∷ cs) = (front : List ℕ) × (rest : List ℕ)
    × SpellsCharacter quote front c × SpellsCharacters quote rest cs × (text ≡ front ++ rest)

-- what stands between double quotes stands for these bytes
abbrev pub SpellsQuoted : List ℕ → List ℕ → Type 0
SpellsQuoted text s = (cs : List ℕ) × SpellsCharacters 34 text cs × (encode_utf8_all cs ≡ s)

-- ---- values

-- what follows a value or an element: nothing, or a space
abbrev pub EndsThere : List ℕ → Type 0
EndsThere [] = Unit {0}
EndsThere (c ∷ cs) = c ≡ 32

-- there is something, and no space in front
abbrev pub StartsThere : List ℕ → Type 0
StartsThere [] = ⊥
StartsThere (c ∷ cs) = c ≢ 32

-- the variant in front of an element's `(`
abbrev pub IsItemMark : List ℕ → Option ℕ → Type 0
IsItemMark text None = text ≡ []
IsItemMark text (Some v) = IsVariant text v

-- the variant behind a name
abbrev pub IsCallMark : List ℕ → Option ℕ → Type 0
IsCallMark text None = text ≡ []
IsCallMark text (Some v) = (digits : List ℕ) × IsVariant digits v × (text ≡ 58 ∷ digits)

abbrev pub IsCall : Shape → Type 0
IsCall (call name variant ss) = Unit {0}
IsCall s = ⊥

abbrev pub AreCalls : Shapes → Type 0
AreCalls no_shapes = Unit {0}
AreCalls (shape s ss) = IsCall s × AreCalls ss

abbrev mutual
  -- the whole text spells the value
  pub SpellsShape : Language → List ℕ → Shape → Type 0
  SpellsShape language text (decimal n) = IsNumber 10 text n
  SpellsShape language text (hexadecimal n) =
      (digits : List ℕ) × IsNumber 16 digits n × (text ≡ 48 ∷ 120 ∷ digits)
  SpellsShape language text (negative n) = (digits : List ℕ) × IsNumber 10 digits n
      × (text ≡ 45 ∷ digits)
  SpellsShape language text (flag b) = text ≡ flag_word b
  SpellsShape language text (character c) =
      (inside : List ℕ) × SpellsCharacter 39 inside c × (text ≡ 39 ∷ (inside ++ 39 ∷ []))
  SpellsShape language text (quoted s) =
      (inside : List ℕ) × SpellsQuoted inside s × (text ≡ 34 ∷ (inside ++ 34 ∷ []))
  SpellsShape language text (interned name) = IsName name × (text ≡ 64 ∷ name)
  SpellsShape language text (bytes bs) = (digits : List ℕ) × SpellsBytes digits bs
      × (text ≡ 35 ∷ digits)
  SpellsShape language text (call name variant shapes) =
      (mark : List ℕ) × (inside : List ℕ) × IsName name × IsCallMark mark variant
      × SpellsShapes language inside shapes × (text ≡ name ++ (mark ++ 40 ∷ (inside ++ 41 ∷ [])))
  SpellsShape language text empty = text ≡ 91 ∷ 93 ∷ []
  SpellsShape language text (sequence name items) =
      (inside : List ℕ) × IsName name × StartsThere inside × SpellsItems language inside items
      × (text ≡ name ++ 91 ∷ (inside ++ 93 ∷ []))
  SpellsShape language text (float t) = IsFull language × IsFloat t × (text ≡ t)
  SpellsShape language text (nodes ss) =
      (inside : List ℕ) × IsFull language × AreCalls ss × SpellsShapes language inside ss
      × (text ≡ 60 ∷ (inside ++ 62 ∷ []))

  -- values parted by one or more spaces, with spaces at both ends passed over
  pub SpellsShapes : Language → List ℕ → Shapes → Type 0
  SpellsShapes language text no_shapes = AreSpaces text
  SpellsShapes language text (shape s ss) =
      (spaces : List ℕ) × (front : List ℕ) × (rest : List ℕ) × AreSpaces spaces
      × SpellsShape language front s × EndsThere rest × SpellsShapes language rest ss
      × (text ≡ spaces ++ (front ++ rest))

  -- elements parted by one or more spaces; a list has no space next to its brackets and at least one
  -- element, so its text also starts with one
  pub SpellsItems : Language → List ℕ → Items → Type 0
  SpellsItems language text no_items = text ≡ []
  SpellsItems language text (item variant ss more) =
      (spaces : List ℕ) × (mark : List ℕ) × (inside : List ℕ) × (rest : List ℕ) × AreSpaces spaces
      × IsItemMark mark variant × SpellsShapes language inside ss × EndsThere rest
      × SpellsItems language rest more
      × (text ≡ spaces ++ (mark ++ 40 ∷ (inside ++ 41 ∷ rest)))

-- The text begins with this value, and the rest follows. A value's text runs to the next space outside
-- all brackets and quotes, or to the end. A spelled text has its brackets and quotes in pairs and no space
-- outside them, so to ask that it ends at a space or at the end says the same.
pub record HeadShape (language : Language) (text : List ℕ) (s : Shape)
    (rest : List ℕ) : Type 0 where
  pub front : List ℕ
  pub spelled : SpellsShape language front s
  pub ends : EndsThere rest
  pub text_is : text ≡ front ++ rest

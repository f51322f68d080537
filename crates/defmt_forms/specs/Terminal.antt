-- Lines with colors, for a terminal (ECMA-48, Select Graphic Rendition).
use Rattle.std.specs.Prelude.{◌≡◌, ◌/◌, ◌%◌, ◌==◌, ◌&&◌, ◌||◌, ℕ, Bool, false, not, nat_lt, nat_le, List, [], ◌∷◌, ◌++◌, codes, Option, Some, None, option_map, if◌then◌else◌}
use Rattle.std.specs.Char.{digit_char}
use Rattle.defmt_forms.specs.Names.{level_gap, level_name, place_part}
use Rattle.defmt_hooks.specs.declared.level.Level.{Level}
use Rattle.defmt_hooks.specs.declared.level.Level.TheVariants.{Trace, Debug, Info, Warn, Error}

-- ---- characters that could steer the terminal

-- the lower-case hexadecimal digits of a number below 256
abbrev pub hexadecimal : ℕ → List ℕ
hexadecimal number = if nat_lt number 16 then digit_char number ∷ [] else digit_char (number / 16) ∷ digit_char (number % 16) ∷ []

-- what stands for such a character: its number
abbrev pub tamed : ℕ → List ℕ
tamed number = codes "\\u{" ++ (hexadecimal number ++ codes "}")

-- of ASCII: all below the space but newline and tab, and 7f
abbrev pub is_control : ℕ → Bool
is_control byte = (nat_lt byte 32 && not (byte == 9 || byte == 10)) || byte == 127

-- of the characters 80 to 9f, whose UTF-8 is c2 and their number, these two bytes
abbrev pub is_upper_control : ℕ → ℕ → Bool
is_upper_control lead byte = lead == 194 && (nat_le 128 byte && nat_le byte 159)

abbrev pub tame_byte : ℕ → List ℕ
tame_byte byte = if is_control byte then tamed byte else byte ∷ []

-- a text, given in UTF-8, in which each character of Unicode's category Cc but newline and tab is written as its number
unfoldable pub tame : List ℕ → List ℕ
tame [] = []
tame (byte ∷ []) = tame_byte byte
tame (lead ∷ byte ∷ rest) =
    if is_upper_control lead byte then tamed byte ++ tame rest else tame_byte lead ++ tame (byte ∷ rest)

-- no control character but newline and tab stands in a text
abbrev pub HasNoControls : List ℕ → Type 0
HasNoControls [] = Unit {0}
HasNoControls (byte ∷ []) = is_control byte ≡ false
HasNoControls (lead ∷ byte ∷ rest) =
    (is_control lead ≡ false) × (is_upper_control lead byte ≡ false) × HasNoControls (byte ∷ rest)

-- ---- colors

-- a text in this color, and the colors as before behind it
abbrev pub painted : List ℕ → List ℕ → List ℕ
painted color text = 27 ∷ (codes "[" ++ (color ++ (codes "m" ++ (text ++ 27 ∷ codes "[0m"))))

abbrev pub level_color : Level → List ℕ
level_color Trace = codes "2"
level_color Debug = codes "36"
level_color Info = codes "32"
level_color Warn = codes "33"
level_color Error = codes "31"

-- what is no statement, in red, and what tells of missing frames, in yellow
abbrev pub alarm : List ℕ → List ℕ
alarm text = painted (codes "31") text

abbrev pub warning : List ℕ → List ℕ
warning text = painted (codes "33") text

abbrev pub stamp_part : Option (List ℕ) → List ℕ
stamp_part None = []
stamp_part (Some stamp) = tame stamp ++ codes " "

abbrev pub level_part : Option Level → List ℕ
level_part None = []
level_part (Some level) = painted (level_color level) (level_name level) ++ level_gap level

-- a statement by its stamp, its level, its own text and its place
abbrev pub color_line : Option (List ℕ) → Option Level → List ℕ → Option (List ℕ) → List ℕ
color_line stamp level own place = stamp_part stamp ++ (level_part level ++ (tame own ++ place_part (option_map tame place)))

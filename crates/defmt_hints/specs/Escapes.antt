-- Quoted text and byte text, as Rust's debug formatting writes strings and byte strings, with fewer escapes. A text is
-- seen as its UTF-8 bytes: whatever is escaped in it is ASCII, and so a byte of its own.
use Rattle.std.specs.Prelude.{ℕ, List, [], ◌∷◌, ◌++◌, Option, Some, None, unwrap_or, codes, nat_le, false, ◌||◌, ◌&&◌, is_some, ◌==◌, if◌then◌else◌}
use Rattle.std.specs.List.{flat_map}
use Rattle.defmt_hints.specs.Digits.{number_text, zero_filled}

-- the escape of a byte between two of these quotes: the backslash, the quote itself, newline, carriage return and tab
-- have one
unfoldable pub escape_of : ℕ → ℕ → Option (List ℕ)
escape_of quote c =
    if c == 92 || c == quote then Some (92 ∷ c ∷ []) else
    if c == 10 then Some (codes "\\n") else
    if c == 13 then Some (codes "\\r") else
    if c == 9 then Some (codes "\\t") else None

-- every other byte stands for itself
abbrev pub escaped : ℕ → ℕ → List ℕ
escaped quote c = unwrap_or (escape_of quote c) (c ∷ [])

-- a text between two quotes
unfoldable pub quoted_text : ℕ → List ℕ → List ℕ
quoted_text quote text = quote ∷ (flat_map (escaped quote) text ++ quote ∷ [])

-- the escape of a byte in a byte text: beside those between `"` every byte outside 20 to 7e (hexadecimal) has one, a
-- backslash, `x` and two lower-case digits
unfoldable pub byte_escape_of : ℕ → Option (List ℕ)
byte_escape_of c =
    if is_some (escape_of 34 c) then escape_of 34 c else
    if nat_le 32 c && nat_le c 126 then None else Some (codes "\\x" ++ zero_filled 2 (number_text 16 false c))

abbrev pub byte_escaped : ℕ → List ℕ
byte_escaped c = unwrap_or (byte_escape_of c) (c ∷ [])

-- bytes as `b"..."`
unfoldable pub byte_text : List ℕ → List ℕ
byte_text bytes = codes "b\"" ++ (flat_map byte_escaped bytes ++ codes "\"")

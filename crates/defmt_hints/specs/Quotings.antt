-- Texts between quotes, in one for the three of them: characters, texts and bytes. Clauses of private functions alone cite these
-- definitions; public ones cite quoted_text and byte_text.
use Rattle.std.specs.Prelude.{ℕ, codes, List, [], ◌∷◌, ◌++◌, Option, unwrap_or}
use Rattle.std.specs.List.{flat_map}
use Rattle.defmt_hints.specs.Escapes.{escape_of, byte_escape_of}
use Rattle.defmt_hints.specs.declared.quoted.Quoting.{Quoting}
use Rattle.defmt_hints.specs.declared.quoted.Quoting.TheVariants as quotings

abbrev pub escape_in : Quoting → ℕ → Option (List ℕ)
escape_in quotings.Character c = escape_of 39 c
escape_in quotings.Text c = escape_of 34 c
escape_in quotings.Bytes c = byte_escape_of c

-- each byte by its escape, or as it is
abbrev pub by_escapes : (ℕ → Option (List ℕ)) → ℕ → List ℕ
by_escapes escape c = unwrap_or (escape c) (c ∷ [])

abbrev pub opening : Quoting → List ℕ
opening quotings.Character = codes "'"
opening quotings.Text = codes "\""
opening quotings.Bytes = codes "b\""

abbrev pub closing : Quoting → List ℕ
closing quotings.Character = codes "'"
closing quotings.Text = codes "\""
closing quotings.Bytes = codes "\""

abbrev pub quoted_in : Quoting → List ℕ → List ℕ
quoted_in quoting text = opening quoting ++ (flat_map (by_escapes (escape_in quoting)) text ++ closing quoting)

-- What an entry's text stands for (defmt book, "Formatting parameters"; variants after defmt's derived enums).
use Rattle.std.specs.Prelude.{◌≡◌, ◌≢◌, ◌++◌, ℕ, List, [], ◌∷◌, length, Option, Some, None, option_map, option_and_then, nat_le, ◌==◌, if◌then◌else◌}
use Rattle.std.specs.Borrow.{Bor}
use Rattle.std.specs.List.{AllByRecursion}
use Rattle.defmt_grammar.specs.Language.{lenient_of}
use Rattle.defmt_grammar.specs.declared.fault.Mode.{Mode}
use Rattle.defmt_grammar.specs.declared.language.Language.{Language}
use Rattle.defmt_grammar.specs.declared.piece.Piece.{Piece}
use Rattle.defmt_intern.specs.declared.entry.Tag.{Tag}
use Rattle.defmt_intern.specs.declared.entry.Tag.TheVariants as tags
use Rattle.defmt_intern.specs.declared.entry.Entry.{Entry}
use Rattle.defmt_intern.specs.declared.parsed.Parsed.{Parsed}
use Rattle.defmt_intern.specs.declared.parsed.Parsed.TheVariants as bodies
use Rattle.defmt_intern.specs.Pieces.{pieces_of}

-- a character in front of the first variant
abbrev pub with_char : ℕ → List (List ℕ) → List (List ℕ)
with_char c [] = (c ∷ []) ∷ []
with_char c (v ∷ vs) = (c ∷ v) ∷ vs

-- a text cut at each `|`
unfoldable pub variants : List ℕ → List (List ℕ)
variants [] = [] ∷ []
variants (c ∷ cs) = if c == 124 then [] ∷ variants cs else with_char c (variants cs)

-- the pieces of each variant, None where one is refused
abbrev pub forms_of : Mode → List (List ℕ) → Option (List (List Piece))
forms_of mode [] = Some []
forms_of mode (v ∷ vs) =
    option_and_then (λ ps. option_map (λ more. ps ∷ more) (forms_of mode vs)) (pieces_of mode v)

abbrev pub one_body : Option (List Piece) → Parsed
one_body None = bodies.Unsupported
one_body (Some ps) = bodies.One ps

abbrev pub forms_body : Option (List (List Piece)) → Parsed
forms_body None = bodies.Unsupported
forms_body (Some forms) = bodies.Variants forms

-- one variant is the text itself; of more there are 2 to 255
unfoldable pub cut_body : Mode → List (List ℕ) → Parsed
cut_body mode [] = bodies.Unsupported
cut_body mode (v ∷ []) = one_body (pieces_of mode v)
cut_body mode (v ∷ w ∷ vs) =
    if nat_le (length (v ∷ w ∷ vs)) 255 then forms_body (forms_of mode (v ∷ w ∷ vs))
    else bodies.Unsupported

-- texts of primitives, derived types and `write!` are cut; interned strings aren't parsed
abbrev pub body_by : Mode → Tag → List ℕ → Parsed
body_by mode tags.Prim text = cut_body mode (variants text)
body_by mode tags.Derived text = cut_body mode (variants text)
body_by mode tags.Write text = cut_body mode (variants text)
body_by mode tags.Interned text = bodies.Raw
body_by mode (tags.Other name) text = bodies.Unsupported
body_by mode tag text = one_body (pieces_of mode text)

abbrev pub body_in : Language → Tag → List ℕ → Parsed
body_in language tag text = body_by (lenient_of language) tag text

-- the lenient reading of the entry's text in this language
abbrev pub body_of : Language → Entry → Parsed
body_of language entry = body_in language entry.tag entry.text

-- ---- for private clauses

abbrev pub HasNoBar : List ℕ → Type 0
HasNoBar text = AllByRecursion (λ c. c ≢ 124) text

-- the text has no `|`, or what stands before and after its first
abbrev pub StartsWith : List ℕ → Option (Bor (List ℕ) × Bor (List ℕ)) → Type 0
StartsWith text None = HasNoBar text
StartsWith text (Some p) = (text ≡ p.0.now ++ 124 ∷ p.1.now) × HasNoBar p.0.now

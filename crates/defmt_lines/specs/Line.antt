-- What one line of a script says.
use Rattle.std.specs.Prelude.{◌≡◌, ◌==◌, ℕ, Bool, true, false, List, [], ◌∷◌, length, codes, Option, Some, None, if◌then◌else◌, option_and_then, option_map, unwrap_or}
use Rattle.std.specs.Str.{IsUtf8, is_utf8}
use Rattle.defmt_grammar.specs.Cut.{cut}
use Rattle.defmt_grammar.specs.Kind.{at_word}
use Rattle.defmt_intern.specs.declared.entry.Tag.{Tag}
use Rattle.defmt_intern.specs.declared.entry.Tag.TheVariants as tags
use Rattle.defmt_lines.specs.Fields.{Begins, AreFields, IsFieldAndRest}
use Rattle.defmt_lines.specs.Form.{form_of, setting, action, shape_of}
use Rattle.defmt_lines.specs.Number.{IsWriter, writer_of}
use Rattle.defmt_lines.specs.declared.form.Form.{Form}
use Rattle.defmt_lines.specs.declared.form.Form.TheVariants as forms

-- It is passed over; has a form of settings, and these words; gives the table a string with this name, tag and text; has a form of what
-- writers do, and this writer, field and rest; or says none of it. A writer is None where its number is above 7.
pub data Line : Type 0 where
  blank : Line
  head : Form → List (List ℕ) → Line
  entry : List ℕ → Tag → List ℕ → Line
  act : Form → Option ℕ → List ℕ → List ℕ → Line
  other : Line

-- nothing, or the character `#` and anything
abbrev pub IsPassedOver : List ℕ → Type 0
IsPassedOver [] = Unit {0}
IsPassedOver (b ∷ bytes) = b ≡ 35

-- the first word of a line of this form, a space, and the rest
pub record HasForm (text : List ℕ) (form : Form) (rest : List ℕ) : Type 0 where
  pub word : List ℕ
  pub begins : Begins text word rest
  pub form_is : form_of word ≡ Some form

-- the tags that the strings of a script may have
abbrev pub tag_of : List ℕ → Option Tag
tag_of word = at_word word (
    (codes "defmt_trace", tags.Trace) ∷ (codes "defmt_debug", tags.Debug)
    ∷ (codes "defmt_info", tags.Info) ∷ (codes "defmt_warn", tags.Warn)
    ∷ (codes "defmt_error", tags.Error) ∷ (codes "defmt_println", tags.Println)
    ∷ (codes "defmt_prim", tags.Prim) ∷ (codes "defmt_derived", tags.Derived)
    ∷ (codes "defmt_write", tags.Write) ∷ (codes "defmt_str", tags.Interned) ∷ [])

-- `NAME TAG TEXT`
pub record IsString (rest name : List ℕ) (tag : Tag) (text : List ℕ) : Type 0 where
  pub word : List ℕ
  pub behind : List ℕ
  pub named : Begins rest name behind
  pub tagged : IsFieldAndRest behind word text
  pub tag_is : tag_of word ≡ Some tag

-- `WRITER`, a field and the rest of the line
pub record IsAction (rest : List ℕ) (writer : Option ℕ) (field more : List ℕ) : Type 0 where
  pub digits : List ℕ
  pub behind : List ℕ
  pub first : Begins rest digits behind
  pub follows : IsFieldAndRest behind field more
  pub writer_is : IsWriter digits writer

-- The text is a line that says this.
abbrev pub Spells : List ℕ → Line → Type 0
Spells text blank = IsPassedOver text
Spells text (head form words) = (rest : List ℕ) × HasForm text form rest
    × (shape_of form ≡ setting (length words)) × AreFields rest words
Spells text (entry name tag body) =
    (rest : List ℕ) × HasForm text forms.Entry rest × IsString rest name tag body
Spells text (act form writer field more) = (rest : List ℕ) × HasForm text form rest
    × (shape_of form ≡ action) × IsAction rest writer field more
Spells text other = ⊥

-- What a line says. One that isn't UTF-8 or has none of the forms is `other`.
abbrev pub Says : List ℕ → Line → Type 0
Says bytes other = IsUtf8 bytes → (line : Line) → Spells bytes line → ⊥
Says bytes line = IsUtf8 bytes × Spells bytes line

-- the tags that strings have
abbrev pub is_string_tag : Tag → Bool
is_string_tag tags.Timestamp = false
is_string_tag (tags.Other name) = false
is_string_tag tag = true

-- ---- reading, as the code does it, on lists

abbrev pub is_blank : List ℕ → Bool
is_blank [] = true
is_blank (b ∷ bytes) = b == 35

abbrev pub alone : List ℕ → Option (List ℕ × List ℕ) → Option (List ℕ)
alone text None = Some text
alone text (Some p) = None

-- the text, where it is one field
unfoldable pub one_field : List ℕ → Option (List ℕ)
one_field text = alone text (cut 32 text)

-- the two fields of a text that has no more
unfoldable pub two_fields : List ℕ → Option (List ℕ × List ℕ)
two_fields text =
    option_and_then (λ p. option_map (λ last. (p.0, last)) (one_field p.1)) (cut 32 text)

abbrev pub or_all : List ℕ → Option (List ℕ × List ℕ) → List ℕ × List ℕ
or_all text None = (text, [])
or_all text (Some p) = p

-- a field and what follows it
unfoldable pub field_and_rest : List ℕ → List ℕ × List ℕ
field_and_rest text = or_all text (cut 32 text)

-- a setting's one word, and its two
abbrev pub one_word : Form → List ℕ → Option Line
one_word form rest = option_map (λ word. head form (word ∷ [])) (one_field rest)

abbrev pub two_words : Form → List ℕ → Option Line
two_words form rest = option_map (λ p. head form (p.0 ∷ p.1 ∷ [])) (two_fields rest)

unfoldable pub entry_of : List ℕ → Option Line
entry_of text =
    option_and_then
    (λ p. option_map (λ tag. entry p.0 tag (field_and_rest p.1).1)
    (tag_of (field_and_rest p.1).0))
    (cut 32 text)

unfoldable pub act_of : Form → List ℕ → Option Line
act_of form text =
    option_and_then
    (λ p. option_map (λ writer. act form writer (field_and_rest p.1).0 (field_and_rest p.1).1)
    (writer_of p.0))
    (cut 32 text)

-- what the rest of a line says behind its first word
abbrev pub by_form : Form → List ℕ → Option Line
by_form forms.Language rest = one_word forms.Language rest
by_form forms.Ring rest = one_word forms.Ring rest
by_form forms.Mode rest = one_word forms.Mode rest
by_form forms.Reader rest = one_word forms.Reader rest
by_form forms.Stamp rest = two_words forms.Stamp rest
by_form forms.Profile rest = one_word forms.Profile rest
by_form forms.Order rest = two_words forms.Order rest
by_form forms.Entry rest = entry_of rest
by_form forms.Statement rest = act_of forms.Statement rest
by_form forms.Say rest = act_of forms.Say rest

unfoldable pub line_by_word : List ℕ → Option Line
line_by_word text =
    option_and_then (λ p. option_and_then (λ form. by_form form p.1) (form_of p.0)) (cut 32 text)

abbrev pub line_of_text : List ℕ → Line
line_of_text text = if is_blank text then blank else unwrap_or (line_by_word text) other

-- the bytes, where these are UTF-8
abbrev pub text_of : List ℕ → Option (List ℕ)
text_of bytes = if is_utf8 bytes then Some bytes else None

abbrev pub line_of_known : Option (List ℕ) → Line
line_of_known (Some text) = line_of_text text
line_of_known None = other

unfoldable pub line_of : List ℕ → Line
line_of bytes = line_of_known (text_of bytes)

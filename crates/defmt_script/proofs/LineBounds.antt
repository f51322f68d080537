-- What the bytes of a line say of what it tells: how long a text is, which tag and which writer.
use Rattle.std.proofs.Common.{◌≡◌, ◌≤◌, ◌<◌, inl, inr, ℕ, Bool, true, false, cond, List, [], ◌∷◌, Option, Some, None, refl, sym, ◌∙◌, ap, arith, length, length-append}
use Rattle.std.specs.Prelude.{codes, unwrap_or}
use Rattle.std.specs.List.{AllByRecursion}
use Rattle.std.specs.Str.{IsUtf8, bytes_eq}
use Rattle.std.proofs.lemmas.Option.{same_Some}
use Rattle.defmt_grammar.specs.Kind.{at_word}
use Rattle.defmt_intern.specs.declared.entry.Tag.{Tag}
use Rattle.defmt_intern.specs.declared.entry.Tag.TheVariants as tags
use Rattle.defmt_lines.specs.Fields.{Begins, IsFieldAndRest}
use Rattle.defmt_lines.specs.Line.{Line, blank, head, entry, act, other, HasForm, IsString, Says, is_string_tag, tag_of}
use Rattle.defmt_lines.specs.Number.{IsWriter}
use Rattle.defmt_lines.specs.declared.form.Form.TheVariants as forms
use Rattle.defmt_script.proofs.Behind.{action_text}

-- ---- what a line says

-- A string's text has at most so many bytes, and its tag is a string's; a writer's number is below 8, and what stands behind its field is a text.
abbrev pub Bounds : ℕ → Line → Type 0
Bounds n (entry name tag text) = (length text ≤ n) × (is_string_tag tag ≡ true)
Bounds n (act form writer field more) = (unwrap_or writer 0 < 8) × IsUtf8 more
Bounds n line = Unit {0}

begins_len : (text field rest : List ℕ) → Begins text field rest → length rest ≤ length text
begins_len text field rest b = omega (arith, ap length b.parted, length-append field (32 ∷ rest))

rest_len : (text field rest : List ℕ) → IsFieldAndRest text field rest → length rest ≤ length text
rest_len text field rest (inl b) = begins_len text field rest b
rest_len text field rest (inr (same, bare, none)) = omega (arith, ap length none)

word_tag : (b : Bool) (x tag : Tag) (o : Option Tag) → is_string_tag x ≡ true → (o ≡ Some tag → is_string_tag tag ≡ true) → cond b (Some x) o ≡ Some tag → is_string_tag tag ≡ true
word_tag true x tag o string more is = ap is_string_tag (sym (same_Some x tag is)) ∙ string
word_tag false x tag o string more is = more is

words_tag : (text : List ℕ) (es : List (List ℕ × Tag)) (tag : Tag) → AllByRecursion (λ e. is_string_tag e.1 ≡ true) es → at_word text es ≡ Some tag → is_string_tag tag ≡ true
words_tag text [] tag all is = absurd (cc is)
words_tag text (e ∷ es) tag all is = word_tag (bytes_eq text e.0) e.1 tag (at_word text es) all.0 (words_tag text es tag all.1) is

abbrev tag_words : List (List ℕ × Tag)
tag_words =
    (codes "defmt_trace", tags.Trace) ∷ (codes "defmt_debug", tags.Debug) ∷ (codes "defmt_info", tags.Info) ∷ (codes "defmt_warn", tags.Warn)
    ∷ (codes "defmt_error", tags.Error) ∷ (codes "defmt_println", tags.Println) ∷ (codes "defmt_prim", tags.Prim) ∷ (codes "defmt_derived", tags.Derived)
    ∷ (codes "defmt_write", tags.Write) ∷ (codes "defmt_str", tags.Interned) ∷ []

string_tag : (word : List ℕ) (tag : Tag) → tag_of word ≡ Some tag → is_string_tag tag ≡ true
string_tag word tag is = words_tag word tag_words tag (refl, (refl, (refl, (refl, (refl, (refl, (refl, (refl, (refl, (refl, tt)))))))))) is

string_bounds : (text rest name : List ℕ) (tag : Tag) (body : List ℕ) → HasForm text forms.Entry rest → IsString rest name tag body → (length body ≤ length text) × (is_string_tag tag ≡ true)
string_bounds text rest name tag body h s =
    (omega (arith, begins_len text h.word rest h.begins, begins_len rest name s.behind s.named, rest_len s.behind s.word body s.tagged), string_tag s.word tag s.tag_is)

writer_small : (digits : List ℕ) (writer : Option ℕ) → IsWriter digits writer → unwrap_or writer 0 < 8
writer_small digits (Some n) is = omega (arith, is.1)
writer_small digits None is = omega arith

pub line_bounds : (bytes : List ℕ) (line : Line) → Says bytes line → Bounds (length bytes) line
line_bounds bytes blank says = tt
line_bounds bytes (head form words) says = tt
line_bounds bytes (entry name tag text) says = string_bounds bytes says.1.0 name tag text says.1.1 says.1.2
line_bounds bytes (act form writer field more) says = (
  writer_small says.1.3.digits writer says.1.3.writer_is,
  action_text bytes says.1.0 says.1.1.word says.1.3.digits says.1.3.behind field more says.1.1.begins says.1.3.first says.1.3.follows says.0,
)
line_bounds bytes other says = tt

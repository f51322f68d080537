-- What is read of a line is what it says, and it says nothing else.
use Rattle.std.proofs.Common.{◌≡◌, ◌++◌, ℕ, Bool, true, false, cond, eqb, [], ◌∷◌, Option, Some, None, refl, sym, ◌∙◌, ap, subst}
use Rattle.std.specs.Prelude.{unwrap_or}
use Rattle.std.specs.Str.{IsUtf8, is_utf8}
use Rattle.std.proofs.lemmas.Bool.{eqb-true}
use Rattle.std.proofs.lemmas.Str.{IsUtf8-from_is_utf8, is_utf8-from_IsUtf8}
use Rattle.defmt_lines.specs.Form.{form_of}
use Rattle.defmt_lines.specs.Line.{Line, blank, head, entry, act, other, HasForm, IsPassedOver, Says, Spells, by_form, is_blank, line_of, line_of_known, line_of_text, line_by_word}
use Rattle.defmt_lines.specs.declared.form.Form.{Form}
use Rattle.defmt_lines.specs.declared.form.Form.TheVariants as forms
use Rattle.defmt_lines.proofs.LineFound.{Text, line_by_word_found}
use Rattle.defmt_lines.proofs.LineAgain.{action_again, entry_again, head_again, line_by_word_again}

-- ---- lines that are passed over

passed_found : (text : Text) → is_blank text ≡ true → IsPassedOver text
passed_found [] e = tt
passed_found (b ∷ bytes) e = eqb-true b 35 e

passed_again : (text : Text) → IsPassedOver text → is_blank text ≡ true
passed_again [] h = refl
passed_again (b ∷ bytes) h = ap (λ (x : ℕ). is_blank (x ∷ bytes)) h

-- no first word begins with the character `#`
comment_by : (t : Bool) (b : ℕ) (word : Text) (form : Form) → eqb b 35 ≡ t → form_of (b ∷ word) ≡ Some form → t ≡ false
comment_by false b word form e is = refl
comment_by true b word form e is =
    let here : form_of (35 ∷ word) ≡ Some form = subst (λ (x : ℕ). form_of (x ∷ word) ≡ Some form) (eqb-true b 35 e) is in
    let clash : None ≡ Some form = here in absurd (cc clash)

no_comment : (word rest : Text) (form : Form) → form_of word ≡ Some form → is_blank (word ++ 32 ∷ rest) ≡ false
no_comment [] rest form is = refl
no_comment (b ∷ word) rest form is = comment_by (eqb b 35) b word form refl is

not_blank : (text rest : Text) (form : Form) → HasForm text form rest → is_blank text ≡ false
not_blank text rest form h = ap is_blank h.begins.parted ∙ no_comment h.word rest form h.form_is

-- ---- a line

by_rest : (text rest : Text) (form : Form) (line : Line) → HasForm text form rest → by_form form rest ≡ Some line → line_of_text text ≡ line
by_rest text rest form line h e =
    let said : line_by_word text ≡ Some line = line_by_word_again text rest form h ∙ e in rw (not_blank text rest form h, said) refl

spelled : (text : Text) (line : Line) → Spells text line → line_of_text text ≡ line
spelled text blank s = rw (passed_again text s) refl
spelled text (head form words) s = by_rest text s.0 form (head form words) s.1 (head_again form words s.0 s.2 s.3)
spelled text (entry name tag body) s = by_rest text s.0 forms.Entry (entry name tag body) s.1 (entry_again s.0 name tag body s.2)
spelled text (act form writer field more) s = by_rest text s.0 form (act form writer field more) s.1 (action_again form s.0 writer field more s.2 s.3)
spelled text other s = absurd s

never_other : (text : Text) (line : Line) → Spells text line → line ≡ other → ⊥
never_other text blank s is = absurd (cc is)
never_other text (head form words) s is = absurd (cc is)
never_other text (entry name tag body) s is = absurd (cc is)
never_other text (act form writer field more) s is = absurd (cc is)
never_other text other s is = s

-- a text without a form spells nothing
nothing_spelled : (text : Text) (line : Line) → is_blank text ≡ false → line_by_word text ≡ None → Spells text line → ⊥
nothing_spelled text line e f s =
    let none : line_of_text text ≡ other = rw (e, f) refl in never_other text line s (sym (spelled text line s) ∙ none)

formed : (text : Text) (line : Line) → IsUtf8 text → Spells text line → Says text line
formed text blank utf8 s = (utf8, s)
formed text (head form words) utf8 s = (utf8, s)
formed text (entry name tag body) utf8 s = (utf8, s)
formed text (act form writer field more) utf8 s = (utf8, s)
formed text other utf8 s = absurd s

text_by : (text : Text) (b : Bool) (o : Option Line) → is_blank text ≡ b → line_by_word text ≡ o → IsUtf8 text → Says text (cond b blank (unwrap_or o other))
text_by text true o e f utf8 = (utf8, passed_found text e)
text_by text false (Some line) e f utf8 = formed text line utf8 (line_by_word_found text line f)
text_by text false None e f utf8 = λ _ line s. nothing_spelled text line e f s

pub text_found : (text : Text) → IsUtf8 text → Says text (line_of_text text)
text_found text utf8 = text_by text (is_blank text) (line_by_word text) refl refl utf8

known_by : (bytes : Text) (b : Bool) → is_utf8 bytes ≡ b → Says bytes (line_of_known (cond b (Some bytes) None))
known_by bytes true e = text_found bytes (IsUtf8-from_is_utf8 bytes e)
known_by bytes false e = λ utf8 line s. let clash : true ≡ false = sym (is_utf8-from_IsUtf8 bytes utf8) ∙ e in absurd (cc clash)

-- what is read is what the line says
pub line_found : (bytes : Text) → Says bytes (line_of bytes)
unfolding line_of
line_found bytes = known_by bytes (is_utf8 bytes) refl

known_again : (bytes : Text) (b : Bool) (line : Line) → b ≡ true → Spells bytes line → line_of_known (cond b (Some bytes) None) ≡ line
known_again bytes true line e s = spelled bytes line s
known_again bytes false line e s = absurd (cc e)

formed_again : (bytes : Text) (line : Line) → IsUtf8 bytes → Spells bytes line → line_of bytes ≡ line
unfolding line_of
formed_again bytes line utf8 s = known_again bytes (is_utf8 bytes) line (is_utf8-from_IsUtf8 bytes utf8) s

other_again : (bytes : Text) (line : Line) → Says bytes line → Says bytes other → line ≡ other
other_again bytes blank says none = absurd (none says.0 blank says.1)
other_again bytes (head form words) says none = absurd (none says.0 (head form words) says.1)
other_again bytes (entry name tag body) says none = absurd (none says.0 (entry name tag body) says.1)
other_again bytes (act form writer field more) says none = absurd (none says.0 (act form writer field more) says.1)
other_again bytes other says none = refl

-- what the line says is read
pub line_again : (bytes : Text) (line : Line) → Says bytes line → line_of bytes ≡ line
line_again bytes blank says = formed_again bytes blank says.0 says.1
line_again bytes (head form words) says = formed_again bytes (head form words) says.0 says.1
line_again bytes (entry name tag body) says = formed_again bytes (entry name tag body) says.0 says.1
line_again bytes (act form writer field more) says = formed_again bytes (act form writer field more) says.0 says.1
line_again bytes other says = other_again bytes (line_of bytes) (line_found bytes) says

pub one_line : (bytes : Text) (line more : Line) → Says bytes line → Says bytes more → line ≡ more
one_line bytes line more p q = sym (line_again bytes line p) ∙ line_again bytes more q

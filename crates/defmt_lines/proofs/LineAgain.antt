-- What a line with a first word spells is read there.
use Rattle.std.proofs.Common.{◌≡◌, inl, inr, ℕ, List, [], ◌∷◌, length, Option, Some, refl, sym, ◌∙◌, ap, arith}
use Rattle.defmt_grammar.proofs.Cuts.{cut-lacks, cut_again}
use Rattle.defmt_intern.specs.declared.entry.Tag.{Tag}
use Rattle.defmt_lines.proofs.NumberLaws.{writer_again}
use Rattle.defmt_lines.specs.Fields.{AreFields, IsFieldAndRest}
use Rattle.defmt_lines.specs.Form.{Shape, action, setting, shape_of, string}
use Rattle.defmt_lines.specs.Line.{head, entry, act, HasForm, IsAction, IsString, act_of, by_form, entry_of, field_and_rest, one_field, one_word, two_fields, two_words, line_by_word}
use Rattle.defmt_lines.specs.declared.form.Form.{Form}
use Rattle.defmt_lines.specs.declared.form.Form.TheVariants as forms
use Rattle.defmt_lines.proofs.LineFound.{Text}

one_again : (text field : Text) → AreFields text (field ∷ []) → one_field text ≡ Some field
unfolding one_field
one_again text field (same, bare) = ap one_field same ∙ rw (cut-lacks 32 field bare) refl

two_again : (text first last : Text) → AreFields text (first ∷ last ∷ []) → two_fields text ≡ Some (first, last)
unfolding two_fields
two_again text first last (rest, begins, are) =
    ap two_fields begins.parted ∙ rw (cut_again 32 first rest begins.bare, one_again rest last are) refl

rest_again : (text field rest : Text) → IsFieldAndRest text field rest → field_and_rest text ≡ (field, rest)
unfolding field_and_rest
rest_again text field rest (inl begins) = ap field_and_rest begins.parted ∙ rw (cut_again 32 field rest begins.bare) refl
rest_again text field rest (inr (same, bare, none)) =
    let all : field_and_rest field ≡ (field, []) = rw (cut-lacks 32 field bare) refl in
    ap field_and_rest same ∙ all ∙ ap (λ (r : Text). (field, r)) (sym none)

count : Shape → ℕ
count (setting n) = n
count string = 0
count action = 0

one_word_again : (form : Form) (rest word : Text) → AreFields rest (word ∷ []) → one_word form rest ≡ Some (head form (word ∷ []))
one_word_again form rest word are = rw (one_again rest word are) refl

two_words_again : (form : Form) (rest first last : Text) → AreFields rest (first ∷ last ∷ []) → two_words form rest ≡ Some (head form (first ∷ last ∷ []))
two_words_again form rest first last are = rw (two_again rest first last are) refl

-- another number of words
other_count : (form : Form) (n m : ℕ) → shape_of form ≡ setting n → shape_of form ≡ setting m → n ≡ m
unfolding count
other_count form n m p q = ap count (sym p ∙ q)

pub head_again : (form : Form) (words : List Text) (rest : Text) → shape_of form ≡ setting (length words) → AreFields rest words → by_form form rest ≡ Some (head form words)
head_again form [] rest is are = absurd are
head_again forms.Language (word ∷ []) rest is are = one_word_again forms.Language rest word are
head_again forms.Ring (word ∷ []) rest is are = one_word_again forms.Ring rest word are
head_again forms.Mode (word ∷ []) rest is are = one_word_again forms.Mode rest word are
head_again forms.Reader (word ∷ []) rest is are = one_word_again forms.Reader rest word are
head_again forms.Stamp (word ∷ []) rest is are = absurd (omega (arith, other_count forms.Stamp 2 (length (word ∷ [])) refl is))
head_again forms.Profile (word ∷ []) rest is are = one_word_again forms.Profile rest word are
head_again forms.Order (word ∷ []) rest is are = absurd (omega (arith, other_count forms.Order 2 (length (word ∷ [])) refl is))
head_again forms.Entry (word ∷ []) rest is are = absurd (cc is)
head_again forms.Statement (word ∷ []) rest is are = absurd (cc is)
head_again forms.Say (word ∷ []) rest is are = absurd (cc is)
head_again forms.Language (word ∷ next ∷ more) rest is are = absurd (omega (arith, other_count forms.Language 1 (length (word ∷ next ∷ more)) refl is))
head_again forms.Ring (word ∷ next ∷ more) rest is are = absurd (omega (arith, other_count forms.Ring 1 (length (word ∷ next ∷ more)) refl is))
head_again forms.Mode (word ∷ next ∷ more) rest is are = absurd (omega (arith, other_count forms.Mode 1 (length (word ∷ next ∷ more)) refl is))
head_again forms.Reader (word ∷ next ∷ more) rest is are = absurd (omega (arith, other_count forms.Reader 1 (length (word ∷ next ∷ more)) refl is))
head_again forms.Profile (word ∷ next ∷ more) rest is are = absurd (omega (arith, other_count forms.Profile 1 (length (word ∷ next ∷ more)) refl is))
head_again forms.Stamp (first ∷ last ∷ []) rest is are = two_words_again forms.Stamp rest first last are
head_again forms.Stamp (first ∷ last ∷ next ∷ more) rest is are = absurd (omega (arith, other_count forms.Stamp 2 (length (first ∷ last ∷ next ∷ more)) refl is))
head_again forms.Order (first ∷ last ∷ []) rest is are = two_words_again forms.Order rest first last are
head_again forms.Order (first ∷ last ∷ next ∷ more) rest is are = absurd (omega (arith, other_count forms.Order 2 (length (first ∷ last ∷ next ∷ more)) refl is))
head_again forms.Entry (word ∷ next ∷ more) rest is are = absurd (cc is)
head_again forms.Statement (word ∷ next ∷ more) rest is are = absurd (cc is)
head_again forms.Say (word ∷ next ∷ more) rest is are = absurd (cc is)

pub entry_again : (rest name : Text) (tag : Tag) (body : Text) → IsString rest name tag body → entry_of rest ≡ Some (entry name tag body)
unfolding entry_of
entry_again rest name tag body s =
    ap entry_of s.named.parted ∙ rw (cut_again 32 name s.behind s.named.bare, rest_again s.behind s.word body s.tagged, s.tag_is) refl

act_again : (form : Form) (rest : Text) (writer : Option ℕ) (field more : Text) → IsAction rest writer field more → act_of form rest ≡ Some (act form writer field more)
unfolding act_of
act_again form rest writer field more s =
    ap (act_of form) s.first.parted
    ∙ rw (cut_again 32 s.digits s.behind s.first.bare, rest_again s.behind field more s.follows, writer_again s.digits writer s.writer_is) refl

pub action_again : (form : Form) (rest : Text) (writer : Option ℕ) (field more : Text) → shape_of form ≡ action → IsAction rest writer field more → by_form form rest ≡ Some (act form writer field more)
action_again forms.Language rest writer field more is s = absurd (cc is)
action_again forms.Ring rest writer field more is s = absurd (cc is)
action_again forms.Mode rest writer field more is s = absurd (cc is)
action_again forms.Reader rest writer field more is s = absurd (cc is)
action_again forms.Stamp rest writer field more is s = absurd (cc is)
action_again forms.Profile rest writer field more is s = absurd (cc is)
action_again forms.Order rest writer field more is s = absurd (cc is)
action_again forms.Entry rest writer field more is s = absurd (cc is)
action_again forms.Statement rest writer field more is s = act_again forms.Statement rest writer field more s
action_again forms.Say rest writer field more is s = act_again forms.Say rest writer field more s

pub line_by_word_again : (text rest : Text) (form : Form) → HasForm text form rest → line_by_word text ≡ by_form form rest
unfolding line_by_word
line_by_word_again text rest form h = ap line_by_word h.begins.parted ∙ rw (cut_again 32 h.word rest h.begins.bare, h.form_is) refl

-- What is read of a line with a first word is spelled there.
use Rattle.std.proofs.Common.{◌≡◌, inl, inr, ℕ, Bool, true, false, cond, eqb, List, [], ◌∷◌, length, Option, Some, None, refl, sym, subst, option_map}
use Rattle.std.specs.Prelude.{option_and_then}
use Rattle.std.proofs.lemmas.Option.{same_Some}
use Rattle.defmt_grammar.specs.Cut.{Lacks, cut}
use Rattle.defmt_grammar.proofs.Cuts.{cut_found}
use Rattle.defmt_grammar.proofs.KindLaws.{bind_some, map_some}
use Rattle.defmt_intern.specs.declared.entry.Tag.{Tag}
use Rattle.defmt_lines.proofs.NumberLaws.{writer_found}
use Rattle.defmt_lines.specs.Fields.{AreFields, Begins, IsFieldAndRest}
use Rattle.defmt_lines.specs.Form.{action, form_of, setting, shape_of}
use Rattle.defmt_lines.specs.Line.{Line, blank, head, entry, act, other, HasForm, IsAction, IsString, Spells, act_of, alone, by_form, entry_of, field_and_rest, one_field, one_word, or_all, tag_of, two_fields, two_words, line_by_word}
use Rattle.defmt_lines.specs.Number.{writer_of}
use Rattle.defmt_lines.specs.declared.form.Form.{Form}
use Rattle.defmt_lines.specs.declared.form.Form.TheVariants as forms

abbrev pub Text : Type 0
Text = List ℕ

-- ---- fields that are read

-- where a text isn't cut it has no space
missing_by : (c x : ℕ) (xs : Text) (b : Bool) (o : Option (Text × Text)) → eqb x c ≡ b → (o ≡ None → Lacks c xs)
    → cond {A = Option (Text × Text)} b (Some ([], xs)) (option_map (λ (r : Text × Text). (x ∷ r.0, r.1)) o) ≡ None → Lacks c (x ∷ xs)
missing_by c x xs true o e f h = absurd cc
missing_by c x xs false None e f h = (e, f refl)
missing_by c x xs false (Some q) e f h = absurd cc

cut_missing : (c : ℕ) (xs : Text) → cut c xs ≡ None → Lacks c xs
unfolding cut
cut_missing c [] h = tt
cut_missing c (x ∷ xs) h = missing_by c x xs (eqb x c) (cut c xs) refl (cut_missing c xs) h

cut_begins : (text : Text) (p : Text × Text) → cut 32 text ≡ Some p → Begins text p.0 p.1
cut_begins text p e = let f = cut_found 32 text p e in record { parted = f.0; bare = f.1 }

one_by : (text : Text) (o : Option (Text × Text)) (field : Text) → cut 32 text ≡ o → alone text o ≡ Some field → AreFields text (field ∷ [])
one_by text None field is e =
    let same : text ≡ field = same_Some text field e in (same, subst (λ (l : Text). Lacks 32 l) same (cut_missing 32 text is))
one_by text (Some p) field is e = absurd (cc e)

one_found : (text field : Text) → one_field text ≡ Some field → AreFields text (field ∷ [])
unfolding one_field
one_found text field e = one_by text (cut 32 text) field refl e

two_found : (text : Text) (p : Text × Text) → two_fields text ≡ Some p → AreFields text (p.0 ∷ p.1 ∷ [])
unfolding two_fields
two_found text p e =
    let a = bind_some (cut 32 text) (λ (q : Text × Text). option_map (λ (last : Text). (q.0, last)) (one_field q.1)) p e in
    let b = map_some (λ (last : Text). (a.0.0, last)) (one_field a.0.1) p a.2 in
    subst (λ (q : Text × Text). AreFields text (q.0 ∷ q.1 ∷ [])) b.2 (a.0.1, cut_begins text a.0 a.1, one_found a.0.1 b.0 b.1)

rest_by : (text : Text) (o : Option (Text × Text)) → cut 32 text ≡ o → IsFieldAndRest text (or_all text o).0 (or_all text o).1
rest_by text None e = inr (refl, cut_missing 32 text e, refl)
rest_by text (Some p) e = inl (cut_begins text p e)

rest_found : (text : Text) → IsFieldAndRest text (field_and_rest text).0 (field_and_rest text).1
unfolding field_and_rest
rest_found text = rest_by text (cut 32 text) refl

-- ---- what is read behind the first word

-- what stands behind the first word of a line of this form says this
abbrev SpellsRest : Form → Text → Line → Type 0
SpellsRest form rest blank = ⊥
SpellsRest form rest (head one words) = (one ≡ form) × (shape_of form ≡ setting (length words)) × AreFields rest words
SpellsRest form rest (entry name tag text) = (form ≡ forms.Entry) × IsString rest name tag text
SpellsRest form rest (act one writer field more) = (one ≡ form) × (shape_of form ≡ action) × IsAction rest writer field more
SpellsRest form rest other = ⊥

one_word_found : (form : Form) (rest : Text) (line : Line) → shape_of form ≡ setting 1 → one_word form rest ≡ Some line → SpellsRest form rest line
one_word_found form rest line is e =
    let k = map_some (λ (word : Text). head form (word ∷ [])) (one_field rest) line e in
    subst (λ (l : Line). SpellsRest form rest l) k.2 (refl, is, one_found rest k.0 k.1)

two_words_found : (form : Form) (rest : Text) (line : Line) → shape_of form ≡ setting 2 → two_words form rest ≡ Some line → SpellsRest form rest line
two_words_found form rest line is e =
    let k = map_some (λ (p : Text × Text). head form (p.0 ∷ p.1 ∷ [])) (two_fields rest) line e in
    subst (λ (l : Line). SpellsRest form rest l) k.2 (refl, is, two_found rest k.0 k.1)

entry_found : (rest : Text) (line : Line) → entry_of rest ≡ Some line → SpellsRest forms.Entry rest line
unfolding entry_of
entry_found rest line e =
    let a = bind_some (cut 32 rest) (λ (p : Text × Text). option_map (λ (tag : Tag). entry p.0 tag (field_and_rest p.1).1) (tag_of (field_and_rest p.1).0)) line e in
    let b = map_some (λ (tag : Tag). entry a.0.0 tag (field_and_rest a.0.1).1) (tag_of (field_and_rest a.0.1).0) line a.2 in
    let spelled : IsString rest a.0.0 b.0 (field_and_rest a.0.1).1 = record {
      word = (field_and_rest a.0.1).0;
      behind = a.0.1;
      named = cut_begins rest a.0 a.1;
      tagged = rest_found a.0.1;
      tag_is = b.1;
    } in
    subst (λ (l : Line). SpellsRest forms.Entry rest l) b.2 (refl, spelled)

act_found : (form : Form) (rest : Text) (line : Line) → shape_of form ≡ action → act_of form rest ≡ Some line → SpellsRest form rest line
unfolding act_of
act_found form rest line is e =
    let a = bind_some (cut 32 rest) (λ (p : Text × Text). option_map (λ (writer : Option ℕ). act form writer (field_and_rest p.1).0 (field_and_rest p.1).1) (writer_of p.0)) line e in
    let b = map_some (λ (writer : Option ℕ). act form writer (field_and_rest a.0.1).0 (field_and_rest a.0.1).1) (writer_of a.0.0) line a.2 in
    let spelled : IsAction rest b.0 (field_and_rest a.0.1).0 (field_and_rest a.0.1).1 = record {
      digits = a.0.0;
      behind = a.0.1;
      first = cut_begins rest a.0 a.1;
      follows = rest_found a.0.1;
      writer_is = writer_found a.0.0 b.0 b.1;
    } in
    subst (λ (l : Line). SpellsRest form rest l) b.2 (refl, is, spelled)

rest_said : (form : Form) (rest : Text) (line : Line) → by_form form rest ≡ Some line → SpellsRest form rest line
rest_said forms.Language rest line e = one_word_found forms.Language rest line refl e
rest_said forms.Ring rest line e = one_word_found forms.Ring rest line refl e
rest_said forms.Mode rest line e = one_word_found forms.Mode rest line refl e
rest_said forms.Reader rest line e = one_word_found forms.Reader rest line refl e
rest_said forms.Stamp rest line e = two_words_found forms.Stamp rest line refl e
rest_said forms.Profile rest line e = one_word_found forms.Profile rest line refl e
rest_said forms.Order rest line e = two_words_found forms.Order rest line refl e
rest_said forms.Entry rest line e = entry_found rest line e
rest_said forms.Statement rest line e = act_found forms.Statement rest line refl e
rest_said forms.Say rest line e = act_found forms.Say rest line refl e

whole : (text rest : Text) (form : Form) (line : Line) → HasForm text form rest → SpellsRest form rest line → Spells text line
whole text rest form blank h s = absurd s
whole text rest form (head one words) h s = subst (λ (f : Form). Spells text (head f words)) (sym s.0) (rest, h, s.1, s.2)
whole text rest form (entry name tag body) h s = (rest, subst (λ (f : Form). HasForm text f rest) s.0 h, s.1)
whole text rest form (act one writer field more) h s = subst (λ (f : Form). Spells text (act f writer field more)) (sym s.0) (rest, h, s.1, s.2)
whole text rest form other h s = absurd s

pub line_by_word_found : (text : Text) (line : Line) → line_by_word text ≡ Some line → Spells text line
unfolding line_by_word
line_by_word_found text line e =
    let a = bind_some (cut 32 text) (λ (p : Text × Text). option_and_then (λ (form : Form). by_form form p.1) (form_of p.0)) line e in
    let b = bind_some (form_of a.0.0) (λ (form : Form). by_form form a.0.1) line a.2 in
    whole text a.0.1 b.0 line (record { word = a.0.0; begins = cut_begins text a.0 a.1; form_is = b.1 }) (rest_said b.0 a.0.1 line b.2)

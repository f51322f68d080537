-- Lines of which a reporter says before it sees their text what is printed.
use Rattle.std.proofs.Common.{◌≡◌, ◌∙◌, ◌==◌, ◌++◌, ℕ, Bool, true, false, List, [], ◌∷◌, Option, cond, refl, ap}
use Rattle.std.specs.FinMap as map
use Rattle.std.specs.Ordering.{nat_cmp}
use Rattle.std.proofs.lemmas.List.{append-nil}
use Rattle.defmt_decode.specs.Event.{line_with}
use Rattle.defmt_forms.specs.Names.{place_part}
use Rattle.defmt_places.specs.Places.{Map as PlaceMap}
use Rattle.defmt_plan.specs.declared.message.Origin.{Origin}
use Rattle.defmt_recording.specs.Output.{ended, gap_before, gap_between}
use Rattle.defmt_recording.specs.Styled.{IsWhole, Look, is_printed, prints_index, report_text, shown_text, statement_text, styled_gap, styled_line, styled_text, text_in_form}
use Rattle.defmt_words.specs.declared.style.Form.{Form}
use Rattle.defmt_words.specs.declared.style.Form.TheVariants.{Plain}

module _ (l : Look) (last : Option ℕ) (origin : Origin) (text : List ℕ) where
  -- what is printed of such a line, by what it depends on
  abbrev line_by : ℕ → Bool → Form → PlaceMap → List ℕ
  line_by gap shown form places =
      cond {A = List ℕ} (gap == 0) [] (ended (report_text form gap)) ++ cond {A = List ℕ} shown (ended (text_in_form form l.table places origin.index origin.parts text)) []

  line_is : styled_line l last (line_with origin text) ≡ line_by (gap_between last origin.place) (prints_index l.style.only l.table origin.index) l.style.form l.places
  unfolding styled_line styled_gap shown_text is_printed styled_text gap_before
  line_is = refl

  -- of one that is printed and in front of which none is missing
  pub shown_line : gap_between last origin.place ≡ 0 → prints_index l.style.only l.table origin.index ≡ true
      → styled_line l last (line_with origin text) ≡ ended (statement_text l.style l.table l.places origin.index origin.parts text)
  shown_line gap shown =
      line_is
      ∙ ap (λ (n : ℕ). line_by n (prints_index l.style.only l.table origin.index) l.style.form l.places) gap
      ∙ ap (λ (b : Bool). line_by 0 b l.style.form l.places) shown

  -- its text and a newline
  pub whole_line : IsWhole l.style l.places → gap_between last origin.place ≡ 0 → prints_index l.style.only l.table origin.index ≡ true → styled_line l last (line_with origin text) ≡ text ++ 10 ∷ []
  whole_line whole gap shown =
      shown_line gap shown
      ∙ ap (λ (f : Form). line_by 0 true f l.places) whole.0
      ∙ ap (λ (p : PlaceMap). line_by 0 true Plain p) whole.2
      ∙ ap (λ (o : Option (List ℕ)). ended (text ++ place_part o)) (map.get-empty nat_cmp origin.index)
      ∙ ap ended (append-nil text)

  -- nothing
  pub hidden_line : gap_between last origin.place ≡ 0 → prints_index l.style.only l.table origin.index ≡ false → styled_line l last (line_with origin text) ≡ []
  hidden_line gap hidden =
      line_is
      ∙ ap (λ (n : ℕ). line_by n (prints_index l.style.only l.table origin.index) l.style.form l.places) gap
      ∙ ap (λ (b : Bool). line_by 0 b l.style.form l.places) hidden

-- The line of a mark in a style is that of its event.
use Rattle.std.proofs.Common.{◌≡◌, ◌∙◌, ℕ, Bool, true, false, List, [], Some, cond, length, refl, sym, ap}
use Rattle.std.specs.FinMap as map
use Rattle.std.specs.Prelude.{Option}
use Rattle.std.proofs.lemmas.List.{append-nil}
use Rattle.defmt_decode.specs.Sent.{code_of}
use Rattle.defmt_eager.specs.Line.{eager_line, front_sizes}
use Rattle.defmt_eager.specs.declared.front.Front.{Front}
use Rattle.defmt_encode.specs.Carry.{stamp_args}
use Rattle.defmt_encode.specs.Placed.{place_in}
use Rattle.defmt_intern.specs.Table.{Map}
use Rattle.defmt_logger.specs.Tape.{mark_line}
use Rattle.defmt_logger.specs.declared.mark.Mark.{Mark}
use Rattle.defmt_print.proofs.Lines.{line_is}
use Rattle.defmt_print.specs.Groups.{texts, whole_line}
use Rattle.defmt_print.specs.Heard.{catalog_of, event_by, parts_at, sent_of}
use Rattle.defmt_print.specs.Parted.{parted_text, parts_by}
use Rattle.defmt_print.specs.Printed.{mark_statement}
use Rattle.defmt_recording.specs.Output.{ended}
use Rattle.defmt_recording.specs.Styled.{is_printed, prints_index, shown_text, statement_text, styled_text, text_in_form}
use Rattle.defmt_script.specs.Lawful.{stamp_in}
use Rattle.defmt_script.specs.Script.{Script}
use Rattle.defmt_values.specs.declared.value.Statement.{Statement}
use Rattle.defmt_words.specs.declared.style.Form.{Form}
use Rattle.defmt_words.specs.declared.style.Form.TheVariants.{Plain, Color, Json}
use Rattle.defmt_words.specs.declared.style.Style.{Style}
use Rattle.rtt_modes.specs.declared.fate.Fate.TheVariants.{Whole}

-- only JSON tells how many bytes a piece has
same_text : (form : Form) (table : Map) (index a b : ℕ) (front : Front) (text : List ℕ) → (form ≡ Json → a ≡ b)
    → text_in_form form table map.empty index (parts_by a front) text ≡ text_in_form form table map.empty index (parts_by b front) text
same_text Plain table index a b front text same = refl
same_text Color table index a b front text same = refl
same_text Json table index a b front text same = ap (λ (n : ℕ). text_in_form Json table map.empty index (parts_by n front) text) (same refl)

module _ (style : Style) (s : Script) (number : ℕ) (m : Mark) (stm : Statement) (found : mark_statement s m ≡ Some stm) where
  -- the line that is shown, or none
  whole_is : whole_line style s number m
      ≡ cond {A = List ℕ} (prints_index style.only s.table stm.index) (ended (statement_text style s.table map.empty stm.index (parts_at s number m.stamp stm) (mark_line s m))) []
  unfolding shown_text is_printed styled_text
  whole_is =
      ap (λ (o : Option Statement). texts style s (event_by Whole (place_in s.settings.profile number) o (parts_at s number m.stamp) (mark_line s m))) found
      ∙ append-nil (cond {A = List ℕ} (prints_index style.only s.table stm.index) (ended (statement_text style s.table map.empty stm.index (parts_at s number m.stamp stm) (mark_line s m))) [])

  pub none_shown : prints_index style.only s.table stm.index ≡ false → [] ≡ whole_line style s number m
  none_shown hidden =
      sym (whole_is ∙ ap (λ (b : Bool). cond {A = List ℕ} b (ended (statement_text style s.table map.empty stm.index (parts_at s number m.stamp stm) (mark_line s m))) []) hidden)

  pub one_shown : (bytes : ℕ) → prints_index style.only s.table stm.index ≡ true
      → (style.form ≡ Json → bytes ≡ length (code_of (catalog_of s) (sent_of s number m.stamp stm)))
      → ended (parted_text style s.table bytes (stamp_args (stamp_in s.settings.stamp m.stamp)) stm) ≡ whole_line style s number m
  one_shown bytes shown same =
      let size : ℕ = length (code_of (catalog_of s) (sent_of s number m.stamp stm)) in
      let front : Front = front_sizes s.table (stamp_args (stamp_in s.settings.stamp m.stamp)) stm.index in
      let line : List ℕ = eager_line s.table (stamp_args (stamp_in s.settings.stamp m.stamp)) stm.index stm.args in
      ap ended (same_text style.form s.table stm.index bytes size front line same)
      ∙ ap (λ (l : List ℕ). ended (statement_text style s.table map.empty stm.index (parts_at s number m.stamp stm) l)) (line_is s m stm found)
      ∙ sym (whole_is ∙ ap (λ (b : Bool). cond {A = List ℕ} b (ended (statement_text style s.table map.empty stm.index (parts_at s number m.stamp stm) (mark_line s m))) []) shown)

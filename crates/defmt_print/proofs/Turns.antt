-- The events of the stream of turns are those of a tape on which the frame of each turn that was sent is whole, and each other one dropped.
use Rattle.std.proofs.Common.{◌≡◌, ◌≤◌, ◌<◌, ◌+◌, ◌^◌, ◌==◌, ℕ, List, [], ◌∷◌, ◌++◌, Bool, true, false, length, map, refl, sym, subst, ◌∙◌, ap, arith, append_assoc, length-append}
use Rattle.std.specs.Prelude.{if◌then◌else◌}
use Rattle.std.proofs.lemmas.List.{length-map}
use Rattle.defmt_decode.specs.Event.{events_of}
use Rattle.defmt_decode.specs.declared.event.Event.{Event}
use Rattle.defmt_frames.specs.Frames.{first_stamp, frame_at, stamp_step}
use Rattle.defmt_logger.specs.Tape.{mark_part, marks_of, places, stream_from}
use Rattle.defmt_logger.specs.declared.mark.Mark.{Mark}
use Rattle.defmt_print.proofs.Gaps.{Counts, printed_in}
use Rattle.defmt_print.proofs.Lines.{Known, Short, WithoutFront, heard_lines}
use Rattle.defmt_print.proofs.Marks.{AreGood, IsKept, placed_from, small_stamp}
use Rattle.defmt_print.specs.Heard.{PrintTurns, catalog_of, fate_by, mark_events, mark_of, turn_events_from, turn_events, turn_mark, whole_from}
use Rattle.defmt_print.specs.Printed.{ArePlaced}
use Rattle.defmt_recording.specs.Shown.{event_lines_by}
use Rattle.defmt_script.specs.Script.{Script}
use Rattle.rtt_down.proofs.Room.{turns_fit}
use Rattle.rtt_down.specs.Steered.{IsSteered, places as turn_places, stream_from as steered_from, stream_of as steered_stream, turn_part, turns_of}
use Rattle.rtt_down.specs.declared.turn.Turn.{Turn}
use Rattle.rtt_modes.specs.Fates.{part_of}
use Rattle.shared_work.specs.Places.{AreConsecutive}

-- ---- a turn as a mark

abbrev mark_by : Turn → Bool → Mark
mark_by t sent = record { writer = t.writer; place = t.place; stamp = t.stamp; fate = fate_by sent }

-- ---- the same was sent, and the same events stand for it

part_same : (s : Script) (number : ℕ) (t : Turn) → turn_part s number t ≡ mark_part s number (mark_of t)
part_same s number t =
    let frame : List ℕ = frame_at s number t.writer t.place t.stamp in
    elim t.sent as (λ (b : Bool). (if b then frame else []) ≡ part_of frame (fate_by b)) [ true ↦ refl | false ↦ refl ]

stream_same : (s : Script) (number : ℕ) (turns : List Turn) → steered_from s number turns ≡ stream_from s number (map mark_of turns)
stream_same s number [] = refl
stream_same s number (t ∷ ts) =
    ap (λ (l : List ℕ). l ++ steered_from s (number + 1) ts) (part_same s number t)
    ∙ ap (λ (l : List ℕ). mark_part s number (mark_of t) ++ l) (stream_same s (number + 1) ts)

event_same : (s : Script) (number : ℕ) (t : Turn) → mark_events s number (mark_of t) ≡ (if t.sent then mark_events s number (turn_mark t) else [])
event_same s number t =
    elim t.sent as (λ (b : Bool). mark_events s number (mark_by t b) ≡ (if b then mark_events s number (turn_mark t) else [])) [ true ↦ refl | false ↦ refl ]

events_same : (s : Script) (number : ℕ) (turns : List Turn) → whole_from s number (map mark_of turns) ≡ turn_events_from s number turns
events_same s number [] = refl
events_same s number (t ∷ ts) =
    ap (λ (l : List Event). l ++ whole_from s (number + 1) (map mark_of ts)) (event_same s number t)
    ∙ ap (λ (l : List Event). (if t.sent then mark_events s number (turn_mark t) else []) ++ l) (events_same s (number + 1) ts)

-- ---- each of the marks is good

places_same : (w : ℕ) (turns : List Turn) → turn_places w turns ≡ places w (map mark_of turns)
places_same w [] = refl
places_same w (t ∷ ts) = ap (λ (l : List ℕ). if t.writer == w then t.place ∷ l else l) (places_same w ts)

count_same : (w : ℕ) (turns : List Turn) → turns_of w turns ≡ marks_of w (map mark_of turns)
count_same w [] = refl
count_same w (t ∷ ts) = ap (λ (n : ℕ). if t.writer == w then n + 1 else n) (count_same w ts)

kept : (sent : Bool) → IsKept (fate_by sent)
kept true = tt
kept false = tt

module _ (s : Script) (turns : List Turn) (got : List ℕ) (steered : IsSteered s turns got) where
  are_placed : ArePlaced s (map mark_of turns)
  are_placed =
      placed_from s (λ w. 0) (map mark_of turns) (λ w. subst (λ (l : List ℕ). AreConsecutive 0 l) (places_same w turns) (steered.order w))
      (λ w. omega (arith, steered.within w, count_same w turns))

  good_from : (front rest : List Turn) → length turns ≤ 4096 → first_stamp s.settings.stamp ≤ 281474976710656 → stamp_step s.settings.stamp ≤ 281474976710656
      → turns ≡ front ++ rest → ArePlaced s (map mark_of rest) → AreGood s (map mark_of rest)
  good_from front [] few base step is placed = tt
  good_from front (t ∷ ts) few base step is placed =
      let before : length front ≤ 4096 = omega (arith, few, ap length is, length-append front (t ∷ ts)) in (
        record {
          placed = placed.0;
          small = subst (λ (n : ℕ). n < 2 ^ 64) (sym (steered.each front ts t is).stamp_is) (small_stamp s (length front) base step before);
          kept = kept t.sent;
        },
        good_from (front ++ t ∷ []) ts few base step (is ∙ sym (append_assoc front (t ∷ []) ts)) placed.1,
      )

  pub turn_lines : Known s → Short → WithoutFront → events_of (catalog_of s) (steered_stream s turns) ≡ turn_events s turns
  turn_lines known short law =
      let few : length turns ≤ 4096 = omega (arith, turns_fit s turns steered.within, known.lawful.few) in
      ap (events_of (catalog_of s)) (stream_same s 0 turns)
      ∙ heard_lines s known short law (map mark_of turns) (good_from [] turns few known.base known.step refl are_placed)
      ∙ events_same s 0 turns

  pub turn_prints : Counts → Known s → PrintTurns s turns (turn_events s turns)
  turn_prints counts known only =
      let few : length (map mark_of turns) ≤ 4096 = omega (arith, turns_fit s turns steered.within, known.lawful.few, length-map turns mark_of) in
      ap (event_lines_by only s.table) (sym (events_same s 0 turns))
      ∙ printed_in s.settings.profile s (map mark_of turns) counts are_placed few refl only

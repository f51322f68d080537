-- Events that are reported one after the other.
use Rattle.std.proofs.Common.{◌≡◌, ◌<◌, ◌+◌, ℕ, List, [], ◌∷◌, ◌++◌, length, take, get_or, sym, ◌∙◌, ap, append_assoc}
use Rattle.std.proofs.lemmas.List.{append-nil, take_more}
use Rattle.defmt_decode.specs.declared.event.Event.{Event}
use Rattle.defmt_listen.specs.Heard.{Reporting, lines_from, state_behind}
use Rattle.defmt_listen.proofs.Fronts.{behind-append, lines-append}
use Rattle.defmt_recording.specs.Keeping.{by_keeping}
use Rattle.defmt_recording.specs.declared.kept.Kept.{Kept}

-- one event more of a list
module _ {S E : Type 0} (r : Reporting S E) (start state : S) (list : List E) (place : ℕ) (event : E) (within : place < length list) (at : get_or list place event ≡ event)
    (state_is : state ≡ state_behind r start (take place list)) where
  more_is : take (place + 1) list ≡ take place list ++ event ∷ []
  more_is = take_more list place event within ∙ ap (λ (x : E). take place list ++ x ∷ []) at

  pub more_lines : (now after : List ℕ) → now ≡ lines_from r start (take place list) → after ≡ now ++ r.line state event
      → after ≡ lines_from r start (take (place + 1) list)
  more_lines now after now_is after_is =
      let front : List E = take place list in
      let text : lines_from r start (take (place + 1) list) ≡ lines_from r start front ++ r.line state event =
      ap (lines_from r start) more_is ∙ lines-append r start front (event ∷ [])
      ∙ ap (λ (s : S). lines_from r start front ++ lines_from r s (event ∷ [])) (sym state_is)
      ∙ ap (λ (l : List ℕ). lines_from r start front ++ l) (append-nil (r.line state event)) in
      after_is ∙ ap (λ (l : List ℕ). l ++ r.line state event) now_is ∙ sym text

  pub more_state : (after : S) → after ≡ r.after state event → after ≡ state_behind r start (take (place + 1) list)
  more_state after after_is =
      after_is ∙ ap (λ (s : S). r.after s event) state_is
      ∙ sym (ap (state_behind r start) more_is ∙ behind-append r start (take place list) (event ∷ []))

-- a reporter that keeps events has them all
pub keeps_all : (kept : Kept) (told : List Event) → (state_behind by_keeping kept told).events ≡ kept.events ++ told
keeps_all kept [] = sym (append-nil kept.events)
keeps_all kept (e ∷ es) = keeps_all (record { events = kept.events ++ e ∷ [] }) es ∙ append_assoc kept.events (e ∷ []) es

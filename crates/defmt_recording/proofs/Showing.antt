-- What became of a recording that a reporter printed from its beginning on.
use Rattle.std.proofs.Common.{◌≡◌, ◌≤◌, ◌-◌, ◌∙◌, ℕ, Bool, List, None, ap, subst}
use Rattle.std.specs.Prelude.{if◌then◌else◌}
use Rattle.dl_io.specs.Outside.{last_count}
use Rattle.defmt_decode.specs.Event.{events_of, tells}
use Rattle.defmt_decode.specs.declared.event.Event.{Event}
use Rattle.defmt_intern.specs.Catalog.{Catalog}
use Rattle.defmt_listen.specs.Heard.{HeardBegun, HeardFront, HeardTo, HeardTooMuch, Reports}
use Rattle.defmt_listen.specs.Streams.{Input, Output}
use Rattle.defmt_recording.specs.Decoding.{Hears, fault_by}
use Rattle.defmt_recording.specs.Styled.{Look, Reel, by_style, limit_of, reel, styled_reports}
use Rattle.defmt_recording.specs.declared.fault.Fault.{Fault}
use Rattle.defmt_recording.proofs.Recordings.{all_heard}
use Rattle.defmt_recording.proofs.Tallies.{comes_to}

module _ (l : Look) (live : Bool) (table : Catalog) (input : Input) (output : Output) (start : Reel) (limit : ℕ) (fresh : start ≡ reel l None 0 0) (most : limit ≡ limit_of live) where
  -- what is reported, under the names of the call
  abbrev given : Reports Reel Event
  given = record { tells = tells table; reporting = by_style; start = start; limit = limit }

  same : given ≡ styled_reports l live table
  same =
      ap (λ (s : Reel). let r : Reports Reel Event = record { tells = tells table; reporting = by_style; start = s; limit = limit } in r) fresh
      ∙ ap (λ (n : ℕ). let r : Reports Reel Event = record { tells = tells table; reporting = by_style; start = reel l None 0 0; limit = n } in r) most

  pub all : (bad : ℕ) (after : Reel) (fault : Fault) → bad ≤ last_count → HeardTo given input output bad after
      → fault ≡ fault_by l.style.fail_on after.failing (if live then bad - after.cuts else bad) → Hears l live table input output fault
  all bad after fault few heard is =
      let to = subst (λ (r : Reports Reel Event). HeardTo r input output bad after) same heard in
      all_heard l live table input output l.style.fail_on after.failing (if live then bad - after.cuts else bad) fault is (record {
        count = bad;
        all = to.all;
        is = is ∙ comes_to l live (events_of table to.all.recording) bad after to.all.counted few to.moved;
      })

  pub front : HeardFront given input output → HeardFront (styled_reports l live table) input output
  front heard = subst (λ (r : Reports Reel Event). HeardFront r input output) same heard

  pub begun : HeardBegun given input output → HeardBegun (styled_reports l live table) input output
  begun heard = subst (λ (r : Reports Reel Event). HeardBegun r input output) same heard

  pub too_much : HeardTooMuch given input output → HeardTooMuch (styled_reports l live table) input output
  too_much heard = subst (λ (r : Reports Reel Event). HeardTooMuch r input output) same heard

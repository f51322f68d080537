-- What a run under orders comes to.
use Rattle.std.proofs.Common.{◌≡◌, ◌++◌, ℕ, List, refl, sym, subst, ap, ◌∙◌}
use Rattle.std.proofs.lemmas.List.{append-nil}
use Rattle.defmt_decode.specs.Event.{events_of}
use Rattle.defmt_decode.specs.declared.event.Event.{Event}
use Rattle.defmt_print.specs.Heard.{PrintTurns, catalog_of, turn_events}
use Rattle.defmt_run.specs.Making.{RanSteered}
use Rattle.defmt_run.specs.Told.{steered_of}
use Rattle.defmt_script.specs.Script.{Script}
use Rattle.defmt_steer.specs.Steers.{IsSteeredRun}
use Rattle.rtt_down.specs.Steered.{stream_of as steered_stream}
use Rattle.rtt_down.specs.Reel.{Reel as Turns}
use Rattle.rtt_ring.specs.Account.{Account}
use Rattle.rtt_ring.specs.declared.settled.RingKind.TheVariants.{Word}

pub ran_steered : (s : Script) (turns : Turns) (account orders : Account) (captured rest unheard : List ℕ) (events : List Event)
    → IsSteeredRun s turns account captured rest orders unheard → account.ring ≡ Word → orders.ring ≡ Word → events ≡ events_of (catalog_of s) account.sent
    → events_of (catalog_of s) (steered_stream s turns.turns) ≡ turn_events s turns.turns → PrintTurns s turns.turns (turn_events s turns.turns) → RanSteered s (steered_of turns account events orders)
ran_steered s turns account orders captured rest unheard events run ring down is lines gaps = (
  account,
  orders,
  record {
    settled = refl;
    down = refl;
    rings = (ring, down);
    steered = run.steered;
    all = run.all;
    sent = run.sends;
    got = (rest, run.whole ∙ ap (λ (l : List ℕ). l ++ rest) (sym run.takes));
    taken = sym (run.whole ∙ ap (λ (l : List ℕ). l ++ rest) (sym run.takes) ∙ ap (λ (l : List ℕ). account.got ++ l) run.taken ∙ append-nil account.got);
    split = run.split;
    of_orders = run.down;
    hears = run.hears;
    early = run.early;
    ordered = run.ordered;
    heard = (unheard, run.heard);
    events = is;
    lines = is ∙ ap (events_of (catalog_of s)) run.sends ∙ lines;
    gaps = subst (PrintTurns s turns.turns) (sym (is ∙ ap (events_of (catalog_of s)) run.sends ∙ lines)) gaps;
    untaped = (refl, refl, refl, record { said = refl; term = refl; spoken = refl });
  },
)

use Rattle.std.proofs.Common.{◌≡◌, ◌++◌, ◌∙◌, List, ℕ, ap, refl, sym}
use Rattle.defmt_decode.specs.Event.{events_of}
use Rattle.defmt_print.specs.Heard.{catalog_of}
use Rattle.defmt_run.proofs.SteeredMade.{ran_steered}
use Rattle.defmt_run.proofs.hearing.hear_steered.Goals as goal

both : (a b first rest sent : List ℕ) → first ≡ a → rest ≡ b → sent ≡ a ++ b → first ++ rest ≡ sent
both a b first rest sent first_is rest_is sent_is =
    ap (λ (l : List ℕ). l ++ rest) first_is ∙ ap (λ (l : List ℕ). a ++ l) rest_is ∙ sym sent_is

pub returns : goal.returns
returns c =
    let run = c.args.run.now in (
      ran_steered run.script run.turns run.settled run.orders run.captured.items run.rest.items run.unheard.items c.in_ok-events.events
          c.requires.0 c.requires.1 c.requires.2 (c.in_ok-events.ensures ∙ ap (events_of (catalog_of run.script))
          (both run.captured.items run.rest.items c.as_slice.result.now c.as_slice-2.result.now run.settled.sent c.as_slice.ensures c.as_slice-2.ensures c.requires.0.whole))
          (c.sent_lines.ensures.turns run.turns.turns run.orders.got c.requires.0.steered)
          (c.sent_lines.ensures.muted run.turns.turns run.orders.got c.requires.0.steered),
      c.in_ok-output.ensures,
      refl,
    )

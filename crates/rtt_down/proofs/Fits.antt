-- A turn more fits.
use Rattle.std.proofs.Common.{◌≡◌, ℕ, ◌+◌, ◌<◌, ◌≤◌, List, [], ◌∷◌, ◌++◌, false, length, length-append, arith}
use Rattle.std.specs.Prelude.{slice_index_or}
use Rattle.defmt_frames.specs.Frames.{count}
use Rattle.defmt_hooks.specs.declared.level.Level.TheVariants.{Trace}
use Rattle.defmt_script.specs.Lawful.{IsLawful}
use Rattle.defmt_script.specs.Script.{Script, count_all}
use Rattle.rtt_down.proofs.Next.{orders_few, within_snoc}
use Rattle.rtt_down.proofs.Room.{turns_fit, turns_within}
use Rattle.rtt_down.specs.Kept.{SteersBy}
use Rattle.rtt_down.specs.Steered.{turns_of}
use Rattle.rtt_down.specs.declared.course.Course.{Course}
use Rattle.rtt_down.specs.declared.turn.Turn.{Turn}

pub record Fitting (c : Course) (w : ℕ) : Type 0 where
  pub room : 0 < c.turns.room
  pub place : slice_index_or c.places w 0 < 4096
  pub seen_few : c.heard.seen ≤ 786432

-- where the writer has a statement left, of 4,096 at most
pub fitting : (s : Script) (got : List ℕ) (c : Course) (w : ℕ) → SteersBy s got c → w < 8 → slice_index_or c.places w 0 < count s w → IsLawful s → Fitting c w
fitting s got c w k lt more h =
    let turns : List Turn = c.turns.turns in
    let t : Turn = record { writer = w; place = 0; stamp = 0; floor = Trace; seen = 0; sent = false } in
    let here : slice_index_or c.places w 0 ≡ turns_of w turns = k.counts.1 w lt in
    let fits : length (turns ++ t ∷ []) ≤ count_all s.writers = turns_fit s (turns ++ t ∷ []) (within_snoc s turns t k.steered.within (omega (arith, here, more))) in
    let len : length (turns ++ t ∷ []) ≡ length turns + 1 = length-append turns (t ∷ []) in
    record {
      room = omega (arith, fits, len, h.few, k.room);
      place = omega (arith, here, turns_within w turns, fits, len, h.few);
      seen_few = omega (arith, k.heard.seen_is, orders_few got, k.few, fits, len, h.few);
    }

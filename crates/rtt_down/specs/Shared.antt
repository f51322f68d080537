-- What callers see of a steered logger.
use Rattle.std.specs.Prelude.{ℕ, List}
use Rattle.rtt_down.specs.declared.steered.Steered.{Steered}
use Rattle.shared_work.specs.declared.books.Books as books
use Rattle.shared_work.specs.declared.shared.Shared.{Shared}
use Rattle.shared_work.specs.declared.work.Quota as quota
use Rattle.shared_work.specs.declared.work.Work as work

module _ {B Q T : Type 0} {b : books.Ghosts B} {q : quota.Ghosts Q} {w : work.Ghosts T Q} where
  -- the work that its helms share
  abbrev pub shared_of : Steered B Q T b q w → Shared B Q T b q w
  shared_of steered = steered.shared

  -- all bytes that had been sent down when no turn was taken yet, where this was noted
  abbrev pub ahead_of : Steered B Q T b q w → List ℕ
  ahead_of steered = steered.ahead.numbers

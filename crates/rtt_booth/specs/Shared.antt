-- What callers see of a booth.
use Rattle.rtt_booth.specs.declared.booth.Booth.{Booth}
use Rattle.shared_work.specs.declared.books.Books as books
use Rattle.shared_work.specs.declared.shared.Shared.{Shared}
use Rattle.shared_work.specs.declared.work.Quota as quota
use Rattle.shared_work.specs.declared.work.Work as work

module _ {B Q T : Type 0} {b : books.Ghosts B} {q : quota.Ghosts Q} {w : work.Ghosts T Q} where
  -- the work that its voices share
  abbrev pub shared_of : Booth B Q T b q w → Shared B Q T b q w
  shared_of booth = booth.shared

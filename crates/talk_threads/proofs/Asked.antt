-- What is known of pens that are lent.
use Rattle.std.proofs.Common.{◌≡◌, ℕ}
use Rattle.writer_threads.proofs.Passed.{passed_none as none_passed}
use Rattle.writer_threads.specs.Passing.{WasPassed}

-- where nothing was logged yet
pub passed_none : (passed : ℕ → Type 0) (a b : ℕ) → a ≡ b → WasPassed passed a b
passed_none = none_passed

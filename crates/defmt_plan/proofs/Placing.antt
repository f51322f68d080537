-- One text behind another, in a buffer.
use Rattle.std.proofs.Common.{ℕ, List, ◌++◌}
use Rattle.std.proofs.lemmas.Str.{IsUtf8-append}
use Rattle.defmt_eager.specs.Answers.{Placed}
use Rattle.defmt_hints.proofs.Chains.{written_two}

pub placed_two : (old mid new : List ℕ) (at m end : ℕ) (a b : List ℕ) → Placed old at mid m a → Placed mid m new end b → Placed old at new end (a ++ b)
placed_two old mid new at m end a b p q = record {
  written = written_two old mid new at m end a b p.written q.written;
  utf8 = IsUtf8-append a b p.utf8 q.utf8;
}

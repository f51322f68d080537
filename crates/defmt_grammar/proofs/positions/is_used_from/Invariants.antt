use Rattle.std.proofs.Common.{◌≡◌, ◌≤◌, ◌<◌, ℕ, Some}
use Rattle.std.specs.Prelude.{slice_get}
use Rattle.defmt_grammar.specs.declared.positions.Held.{Held}
use Rattle.defmt_grammar.proofs.positions.is_used_from.Given as goal

abbrev pub invariant-loop-position : goal.invariant-loop-position
invariant-loop-position l = (i : ℕ) (held : Held) → i < l.position → l.from ≤ i → slice_get l.table i ≡ Some (Some held) → ⊥

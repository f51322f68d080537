use Rattle.std.proofs.Common.{◌≡◌, ◌<◌, ℕ, Some, length, take}
use Rattle.std.specs.Prelude.{slice_get}
use Rattle.defmt_grammar.specs.declared.piece.Use.{Use}
use Rattle.defmt_grammar.specs.Grammar.{Clash}
use Rattle.defmt_grammar.specs.Positions.{IsTable, params_in}
use Rattle.defmt_grammar.proofs.positions.table_of.Given as goal

abbrev pub invariant-uses : goal.invariant-uses
invariant-uses l = record {
  entries : IsTable l.table (params_in (take l.one-index l.uses));
  size : length l.table ≡ 16;
  no_clash : (i j : ℕ) (u v : Use) → i < l.one-index → j < i → slice_get l.uses i ≡ Some u → slice_get l.uses j ≡ Some v → Clash v u → ⊥;
}

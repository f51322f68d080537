-- What pieces keep beside them.
use Rattle.std.specs.Prelude.{◌≡◌, ℕ, List, map}
use Rattle.std.specs.List.{range_with_len}
use Rattle.defmt_grammar.specs.declared.piece.Piece.{Piece}
use Rattle.defmt_grammar.specs.declared.slot.Slot.{Slot}
use Rattle.defmt_grammar.specs.Grammar.{AreSpelled}
use Rattle.defmt_grammar.specs.Slots.{params_of, positions, uses_at, slots_of}

-- how often each position is used
abbrev pub counts_of : List Piece → List ℕ
counts_of ps = map (λ position. uses_at position ps) (range_with_len 0 (positions (params_of ps)))

pub record IsWhole (ps : List Piece) (ss : List Slot) (ns : List ℕ) : Type 0 where
  pub spelled : AreSpelled ps
  pub slots : ss ≡ slots_of ps
  pub counts : ns ≡ counts_of ps

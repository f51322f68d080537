use Rattle.std.proofs.Common.{◌≡◌, ◌∙◌, ℕ, ◌+◌, ◌++◌, sym, ap, append_assoc, add-one}
use Rattle.defmt_generate.specs.Generated.{head, statement, statements, generated}

pub one_more : (i : ℕ) → generated i ++ statement i ≡ generated (i + 1)
one_more i = append_assoc head (statements i) (statement i) ∙ ap generated (sym (add-one i))

-- What references in the code stand for.
use Rattle.defmt_words.specs.declared.parameters.Parameter.{Parameter as CodeParameter}
use Rattle.std.specs.Prelude.{ℕ, List, Option, option_map, map}
use Rattle.std.specs.Borrow.{Bor}
use Rattle.defmt_words.specs.Parameters.{Parameter}

-- the text behind a reference, if there is one
abbrev pub text_in : Option (Bor (List ℕ)) → Option (List ℕ)
text_in = option_map (λ text. text.now)

-- a row of the code
abbrev pub parameter_view : CodeParameter → Parameter
parameter_view row = record {
  name = row.name.now;
  kind = row.kind;
  taken = map (λ command. command.now) row.taken.now;
  needed = map (λ command. command.now) row.needed.now;
}

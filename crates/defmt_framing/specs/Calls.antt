-- Some calls of a framer, one after another.
use Rattle.std.specs.Prelude.{◌≡◌, ℕ, List, [], ◌++◌, Option, option_to_list}
use Rattle.defmt_framing.specs.Told.{Tells, begun}
use Rattle.defmt_framing.specs.Framing.{Framing, Stands, Hears}

-- the bytes that they took, and what they told
pub data Calls {E : Type 0} (tells : Tells E) : Framing → Framing → List ℕ → List E → Type 0 where
  no_call : (framer : Framing) → Calls tells framer framer [] []
  one_call : (before middle after : Framing) (taken rest : List ℕ) (told : Option E) (more : List E)
      → ((stream : List ℕ) → Stands before stream → Hears tells middle stream taken told)
      → Calls tells middle after rest more → Calls tells before after (taken ++ rest) (option_to_list told ++ more)

-- From the stream on these bytes were taken, and all this was told.
pub record HeardAs {E : Type 0} (tells : Tells E) (after : Framing) (stream taken : List ℕ) (told : List E) : Type 0 where
  pub stands : Stands after (stream ++ taken)
  pub tells_all : begun tells (stream ++ taken) ≡ begun tells stream ++ told

-- The same, and what was told was appended.
pub record Heard {E : Type 0} (tells : Tells E) (after : Framing) (stream taken : List ℕ) (out out_after : List E) : Type 0 where
  pub told : List E
  pub as_told : HeardAs tells after stream taken told
  pub appended : out_after ≡ out ++ told

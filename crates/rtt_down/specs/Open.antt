-- The open line of an ear.
use Rattle.std.specs.Prelude.{ℕ, List, [], ◌∷◌, Option, Some, None}
use Rattle.rtt_down.specs.declared.ear.Open.{Open}
use Rattle.rtt_down.specs.declared.ear.Open.TheVariants.{Empty, One, Two, Long}

abbrev pub kept_by : Open → Option (List ℕ)
kept_by Empty = Some []
kept_by (One a) = Some (a ∷ [])
kept_by (Two a b) = Some (a ∷ b ∷ [])
kept_by Long = None

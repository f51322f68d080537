use Rattle.std.proofs.Common.{◌∙◌, ap, ◌++◌, ◌∷◌, []}
use Rattle.defmt_framing.specs.Told.{events}
use Rattle.defmt_framing.proofs.Telling.{intact}
use Rattle.defmt_framing.proofs.Truncating.{told-some}
use Rattle.defmt_framing.proofs.laws.intact_frames.Goals as goal

pub returns : goal.returns
returns g c tells p code q none some =
    intact tells p code q none ∙ ap (λ l. events tells (p ++ 0 ∷ []) ++ (l ++ events tells (0 ∷ q))) (told-some tells code some)

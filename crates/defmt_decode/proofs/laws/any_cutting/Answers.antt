use Rattle.std.proofs.Common.{◌∙◌, ap, ◌++◌, [], refl}
use Rattle.defmt_framing.specs.Cut.{has_zero}
use Rattle.defmt_framing.proofs.Telling.{begun-none}
use Rattle.defmt_framing.proofs.Standing.{heard_calls}
use Rattle.defmt_decode.specs.Event.{tells}
use Rattle.defmt_decode.proofs.laws.any_cutting.Goals as goal

pub returns : goal.returns
unfolding has_zero
returns c t before after taken told st calls =
    let x = heard_calls (tells t) before after taken told calls [] st in
    (x.stands, x.tells_all ∙ ap (λ l. l ++ told) (begun-none (tells t) [] refl))

use Rattle.std.proofs.Common.{refl}
use Rattle.defmt_blocks.proofs.beside.print_cut.Goals as goal

pub print_named-requires-clause-says : goal.print_named-requires-clause-says
print_named-requires-clause-says g c κs within = λ last bytes. (refl, refl, refl, refl, refl)

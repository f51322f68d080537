use Rattle.defmt_blocks.proofs.beside.print_whole.Goals as goal

pub returns-clause-heard : goal.returns-clause-heard
returns-clause-heard g c = record { hears = c.print_here.ensures.hears }

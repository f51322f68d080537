use Rattle.defmt_spelling.proofs.Backs.{text_back}
use Rattle.defmt_spelling.proofs.printing.print_args.Goals as goal

pub returns-clause-back : goal.returns-clause-back
returns-clause-back c = text_back c.args.names.now c.args.table.now.entries c.args.stm.now.index c.args.stm.now.args _ c.printed.ensures c.are_sound.ensures

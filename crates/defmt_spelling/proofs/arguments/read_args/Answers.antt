use Rattle.defmt_spelling.proofs.Firsts.{one_head}
use Rattle.defmt_spelling.proofs.Wholes.{gives_only, read_fits}
use Rattle.defmt_spelling.proofs.arguments.read_args.Goals as goal

pub returns-clause-reads : goal.returns-clause-reads
returns-clause-reads c = gives_only one_head c.args.names.now c.args.table.now.entries c.args.index c.args.text.now c.read_whole.result c.read_whole.ensures

pub returns-clause-fits : goal.returns-clause-fits
returns-clause-fits c = read_fits c.args.names.now c.args.table.now.entries c.args.index c.args.text.now c.read_whole.result c.read_whole.ensures

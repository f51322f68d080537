use Rattle.std.proofs.Common.{arith}
use Rattle.std.proofs.lemmas.List.{take_more_set}
use Rattle.defmt_listen.proofs.report.put_newline.Goals as goal

pub returns-clause-put : goal.returns-clause-put
returns-clause-put c = take_more_set c.args.text.now.items c.args.at 10 (omega arith)

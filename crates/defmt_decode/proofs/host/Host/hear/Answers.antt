use Rattle.defmt_decode.proofs.Behind.{long_kept}
use Rattle.defmt_decode.proofs.host.Host.hear.Goals as goal

pub hear_any-requires : goal.hear_any-requires
hear_any-requires c = long_kept c.args.text.now.items c.hear_line.new.text.items c.args.at c.requires c.hear_line.ensures.front

pub returns-in-None-clause-hears : goal.returns-in-None-clause-hears
returns-in-None-clause-hears c = rw c.in-None.ensures.none at c.hear_any.ensures.hears

pub returns-in-None-clause-err : goal.returns-in-None-clause-err
returns-in-None-clause-err c = rw c.in-None.ensures.none at c.hear_any.ensures.err

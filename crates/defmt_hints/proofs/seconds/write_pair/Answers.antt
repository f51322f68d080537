use Rattle.std.proofs.Common.{◌+◌, ◌/◌, ◌%◌}
use Rattle.defmt_hints.proofs.TwoDigits.{pair_written, pairs_at}
use Rattle.defmt_hints.proofs.seconds.write_pair.Goals as goal

pub returns : goal.returns
returns c =
    let p = pairs_at c.args.pair c.requires.0 in
    rw (p.0, p.1) (pair_written c.args.buf.now c.args.at (48 + c.args.pair / 10) (48 + c.args.pair % 10) c.requires.1)

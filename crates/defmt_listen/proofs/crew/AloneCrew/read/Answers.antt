use Rattle.std.proofs.Common.{◌≡◌, ℕ, List, ◌++◌, length, take, drop, ap, arith}
use Rattle.std.proofs.lemmas.List.{take_at}
use Rattle.defmt_listen.proofs.Wholes.{none_ahead}
use Rattle.defmt_listen.proofs.crew.AloneCrew.read.Goals as goal

pub returns-clause-bytes : goal.returns-clause-bytes
returns-clause-bytes g c =
    let buf : List ℕ = c.read_once.new.buf in
    let rest : List ℕ = drop (length buf) c.args.buf.now.items in
    let len : length buf ≡ c.args.buf.now.len = omega (arith, c.read_once.ensures.size, c.deref_mut.ensures.len) in
    let whole : take c.args.buf.now.len (buf ++ rest) ≡ buf = take_at buf rest c.args.buf.now.len len in
    none_ahead (g.S.Turns.left c.args.src.now) (g.S.Turns.left c.read_once.new.src) (take c.read_once.result.count buf) (take c.read_once.result.count (take c.args.buf.now.len (buf ++ rest)))
    (ap (take c.read_once.result.count) whole) c.read_once.ensures.bytes

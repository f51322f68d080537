use Rattle.rtt_ring.proofs.WordKeeps.{look_found}
use Rattle.rtt_ring.proofs.word.down.WordDownDownEnd.look.Goals as goal

pub returns-clause-found : goal.returns-clause-found
returns-clause-found c =
    let k = c.args.self.now.kept in
    look_found k _ _ c.load_wr_off-at.ensures.found c.ahead.ensures

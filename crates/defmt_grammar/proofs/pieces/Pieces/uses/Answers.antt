use Rattle.defmt_grammar.proofs.Wholes.{count_is}
use Rattle.defmt_grammar.proofs.pieces.Pieces.uses.Goals as goal

pub returns : goal.returns
returns c = rw (← c.self.view_is, c.count_at.ensures, c.deref.ensures.value, c.from.ensures) (count_is c.self.inside.pieces.items c.self.inside.counts.items c.args.position c.self.invariant.counts)

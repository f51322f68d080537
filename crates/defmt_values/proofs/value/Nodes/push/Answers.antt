use Rattle.defmt_values.proofs.Pushes.{nodes_push}
use Rattle.defmt_values.proofs.Sounds.{nodes_push_sound}
use Rattle.defmt_values.proofs.value.Nodes.push.Goals as goal

pub returns-clause-ok : goal.returns-clause-ok
returns-clause-ok c = rw (c.in_ok-push.ensures.items, ← c.self.view_is) (nodes_push c.self.inside.items.items c.args.item)

pub invariant_of-self-2 : goal.invariant_of-self-2
invariant_of-self-2 c = rw c.in_ok-push.ensures.items (nodes_push_sound c.self.inside.items.items c.args.item c.self.invariant c.are_sound.ensures)

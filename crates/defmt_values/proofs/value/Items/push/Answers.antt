use Rattle.defmt_values.proofs.Pushes.{elems_push}
use Rattle.defmt_values.proofs.Sounds.{elems_push_sound}
use Rattle.defmt_values.proofs.value.Items.push.Goals as goal

pub returns-clause-ok : goal.returns-clause-ok
returns-clause-ok c = rw (c.in_ok-push.ensures.items, ← c.self.view_is) (elems_push c.self.inside.items.items c.args.item)

pub invariant_of-self-2 : goal.invariant_of-self-2
invariant_of-self-2 c = rw c.in_ok-push.ensures.items (elems_push_sound c.self.inside.items.items c.args.item c.self.invariant c.are_sound.ensures)

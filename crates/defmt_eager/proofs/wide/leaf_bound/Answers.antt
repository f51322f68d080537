use Rattle.defmt_eager.specs.Show.{show_val}
use Rattle.defmt_eager.proofs.wide.leaf_bound.Goals as goal

pub returns-in-Bytes : goal.returns-in-Bytes
unfolding show_val
returns-in-Bytes c = λ table few kind hint narrow. rw c.in-Bytes.is ((rw c.as_slice.ensures at c.any_bytes_bound.ensures) hint few narrow)

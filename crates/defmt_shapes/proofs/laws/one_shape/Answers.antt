use Rattle.defmt_shapes.proofs.OrderLaws.{one_value, one_list, one_elements}
use Rattle.defmt_shapes.proofs.laws.one_shape.Goals as goal

pub returns : goal.returns
returns c = record { value = one_value; values = one_list; elements = one_elements }

use Rattle.defmt_shapes.proofs.OrderLaws.{no_more}
use Rattle.defmt_shapes.proofs.ShapeLaws.{first_shape, join_shape, skip_all}
use Rattle.defmt_shapes.proofs.laws.value_by_value.Goals as goal

pub returns : goal.returns
returns c = record { first = first_shape; back = join_shape; none = λ language. skip_all; none_back = no_more }

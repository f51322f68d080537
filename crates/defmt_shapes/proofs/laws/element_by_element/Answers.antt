use Rattle.defmt_shapes.proofs.OrderLaws.{first_element, join_element}
use Rattle.defmt_shapes.proofs.laws.element_by_element.Goals as goal

pub returns : goal.returns
returns c = record { first = first_element; back = join_element; none = λ language text h. h }

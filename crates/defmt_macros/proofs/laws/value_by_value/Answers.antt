use Rattle.std.proofs.Common.{refl}
use Rattle.defmt_macros.proofs.Messages.{begun, held, ended}
use Rattle.defmt_macros.specs.Frames.{buffer_of, count_put}
use Rattle.defmt_macros.proofs.laws.value_by_value.Goals as goal

pub returns-clause-begins : goal.returns-clause-begins
returns-clause-begins c = begun

pub returns-clause-holds : goal.returns-clause-holds
returns-clause-holds c = held

pub returns-clause-ends : goal.returns-clause-ends
returns-clause-ends c = λ t index slots place stamp tag vs frame site suits h none. ended t index slots place stamp tag vs frame (count_put frame) (buffer_of frame) site suits h none refl refl

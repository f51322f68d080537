use Rattle.rtt_ring.specs.PlainView.{up_of}
use Rattle.rtt_ring.specs.WordEnds.{down_of}
use Rattle.shared_work.specs.Names.{names_of}
use Rattle.device_tests.proofs.steering.put_steered.Given as goal

abbrev pub ghosts-steer_by_helms-E-Names : goal.ghosts-steer_by_helms-E-Names
ghosts-steer_by_helms-E-Names g a = record { names = names_of a.blanks }

abbrev pub ghosts-steer_by_helms-K-Naming : goal.ghosts-steer_by_helms-K-Naming
ghosts-steer_by_helms-K-Naming g a = record { script = a.script; up = (up_of a.ring).split; down = (down_of a.down).split; tells = (up_of a.ring).tells }

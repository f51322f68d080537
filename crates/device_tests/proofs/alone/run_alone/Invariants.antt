use Rattle.rtt_ring.specs.WordEnds.{up_of}
use Rattle.shared_work.specs.Names.{names_of}
use Rattle.device_tests.proofs.alone.run_alone.Given as goal

abbrev pub ghosts-serve_alone-E-Names : goal.ghosts-serve_alone-E-Names
ghosts-serve_alone-E-Names g a = record { names = names_of a.blanks }

abbrev pub ghosts-serve_alone-K-Naming : goal.ghosts-serve_alone-K-Naming
ghosts-serve_alone-K-Naming g a = record { script = a.script; split = (up_of a.up).split; tells = (up_of a.up).tells }

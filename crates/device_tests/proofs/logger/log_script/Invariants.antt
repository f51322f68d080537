use Rattle.rtt_ring.specs.PlainView.{up_of}
use Rattle.shared_work.specs.Names.{names_of}
use Rattle.device_tests.proofs.logger.log_script.Given as goal

abbrev pub ghosts-log_by_pens-E-Names : goal.ghosts-log_by_pens-E-Names
ghosts-log_by_pens-E-Names g a = record { names = names_of a.blanks }

abbrev pub ghosts-log_by_pens-K-Naming : goal.ghosts-log_by_pens-K-Naming
ghosts-log_by_pens-K-Naming g a = record { script = a.script; split = (up_of a.ring).split; tells = (up_of a.ring).tells }

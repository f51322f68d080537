use Rattle.rtt_ring.specs.PlainView.{up_of}
use Rattle.shared_work.specs.Names.{names_of}
use Rattle.terminal_tests.proofs.booths.put_said.Given as goal

abbrev pub ghosts-say_by_voices-E-Names : goal.ghosts-say_by_voices-E-Names
ghosts-say_by_voices-E-Names g a = record { names = names_of a.blanks }

abbrev pub ghosts-say_by_voices-K-Naming : goal.ghosts-say_by_voices-K-Naming
ghosts-say_by_voices-K-Naming g a = record { speech = a.speech.now; split = (up_of a.ring).split; tells = (up_of a.ring).tells }

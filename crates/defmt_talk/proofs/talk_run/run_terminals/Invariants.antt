use Rattle.shared_work.specs.Names.{names_of}
use Rattle.defmt_talk.proofs.talk_run.run_terminals.Given as goal

abbrev pub ghosts-run_both-E-Names : goal.ghosts-run_both-E-Names
ghosts-run_both-E-Names g a = record { names = names_of a.blanks }

abbrev pub ghosts-run_both-N-FromSplit : goal.ghosts-run_both-N-FromSplit
ghosts-run_both-N-FromSplit g a = record {
  split = (g.H.Up.UpEnd.view a.ends.up).split;
  passed = g.G.Gate.passed a.gate.now;
  told = g.G.Gate.told a.gate.now;
}

abbrev pub ghosts-run_both-K-Naming : goal.ghosts-run_both-K-Naming
ghosts-run_both-K-Naming g a = record { script = a.script; split = (g.H.Up.UpEnd.view a.ends.up).split; tells = (g.H.Up.UpEnd.view a.ends.up).tells }

abbrev pub ghosts-run_both-F-Names : goal.ghosts-run_both-F-Names
ghosts-run_both-F-Names g a = record { names = names_of a.text_blanks }

abbrev pub ghosts-run_both-M-FromSplit : goal.ghosts-run_both-M-FromSplit
ghosts-run_both-M-FromSplit g a = record {
  split = (g.H.Up.UpEnd.view a.text_ends.up).split;
  passed = λ writer place. Unit {0};
  told = λ total. Unit {0};
}

abbrev pub ghosts-run_both-V-Naming : goal.ghosts-run_both-V-Naming
ghosts-run_both-V-Naming g a = record { speech = a.script.said; split = (g.H.Up.UpEnd.view a.text_ends.up).split; tells = (g.H.Up.UpEnd.view a.text_ends.up).tells }

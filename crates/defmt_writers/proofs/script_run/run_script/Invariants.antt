use Rattle.shared_work.specs.Names.{names_of}
use Rattle.defmt_writers.proofs.script_run.run_script.Given as goal

abbrev pub ghosts-run_named-E-Names : goal.ghosts-run_named-E-Names
ghosts-run_named-E-Names g a = record { names = names_of a.blanks }

abbrev pub ghosts-run_named-N-FromSplit : goal.ghosts-run_named-N-FromSplit
ghosts-run_named-N-FromSplit g a = record {
  split = (g.H.Up.UpEnd.view a.ends.up).split;
  passed = g.G.Gate.passed a.gate.now;
  told = g.G.Gate.told a.gate.now;
}

abbrev pub ghosts-run_named-K-Naming : goal.ghosts-run_named-K-Naming
ghosts-run_named-K-Naming g a = record { script = a.script; split = (g.H.Up.UpEnd.view a.ends.up).split; tells = (g.H.Up.UpEnd.view a.ends.up).tells }

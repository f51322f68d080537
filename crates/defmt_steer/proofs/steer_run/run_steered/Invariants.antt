use Rattle.std.specs.Prelude.{true}
use Rattle.shared_work.specs.Names.{names_of}
use Rattle.defmt_steer.proofs.steer_run.run_steered.Given as goal

abbrev pub ghosts-run_hosted-E-Names : goal.ghosts-run_hosted-E-Names
ghosts-run_hosted-E-Names g a = record { names = names_of a.blanks }

abbrev pub ghosts-run_hosted-N-Hosting : goal.ghosts-run_hosted-N-Hosting
ghosts-run_hosted-N-Hosting g a = record { up = (g.H.Up.UpEnd.view a.ends.up).split; down = (g.H.Up.UpEnd.view a.sends).split; room = a.ends.captured.room; plan = a.script.settings.orders; told = g.G.Gate.told a.gate.now }

abbrev pub ghosts-run_hosted-K-Naming : goal.ghosts-run_hosted-K-Naming
ghosts-run_hosted-K-Naming g a = record { script = a.script; up = (g.H.Up.UpEnd.view a.ends.up).split; down = (g.H.Up.UpEnd.view a.sends).split; tells = true }

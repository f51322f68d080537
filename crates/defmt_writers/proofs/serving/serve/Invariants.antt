use Rattle.defmt_writers.proofs.serving.serve.Given as goal

abbrev pub ghosts-serve_named : goal.ghosts-serve_named
ghosts-serve_named g a = record { down = a.loan.down.ghost_name; capture = a.loan.capture.ghost_name; before = g.D.DownEnd.view a.loan.down.now; had = a.loan.capture.now; told = g.G.Gate.told a.gate.now }

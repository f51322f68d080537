use Rattle.rtt_ring.proofs.journal.Journal.put.Given as goal

abbrev pub ghosts-note : goal.ghosts-note
ghosts-note a = record { bytes = a.bytes.now }

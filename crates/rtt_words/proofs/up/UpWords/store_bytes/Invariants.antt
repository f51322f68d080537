use Rattle.rtt_words.proofs.up.UpWords.store_bytes.Given as goal

abbrev pub ghosts-store_lanes : goal.ghosts-store_lanes
ghosts-store_lanes a = record { bytes = a.bytes.now }

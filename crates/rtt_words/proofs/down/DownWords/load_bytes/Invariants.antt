use Rattle.rtt_words.proofs.down.DownWords.load_bytes.Given as goal

abbrev pub ghosts-load_lanes : goal.ghosts-load_lanes
ghosts-load_lanes a = record { count = a.count }

use Rattle.defmt_listen.proofs.listening.listen.Goals as goal

pub listen_in_turns-requires-clause-turns : goal.listen_in_turns-requires-clause-turns
listen_in_turns-requires-clause-turns g c = λ bytes src out took written. tt

use Rattle.defmt_decode.proofs.Sending.{piece_intact, heard_intact, sent_intact}
use Rattle.defmt_decode.proofs.laws.intact_frames.Goals as goal

pub returns-clause-piece : goal.returns-clause-piece
returns-clause-piece c t p code q none some = piece_intact t p code q none some

pub returns-clause-heard : goal.returns-clause-heard
returns-clause-heard c t p code q bytes place stamp index vs short blocks heard narrow =
    heard_intact t p code q bytes place stamp index vs short blocks heard narrow

pub returns-clause-sent : goal.returns-clause-sent
returns-clause-sent c t p q s sent = sent_intact t p q s sent

use Rattle.defmt_listen.proofs.bytes.hear_bytes.Goals as goal

pub returns-in-Ok-clause-reported : goal.returns-in-Ok-clause-reported
returns-in-Ok-clause-reported g c = λ stream st.
    let part = c.in-Ok.ensures.heard stream st in
    record { told = part.told; as_told = part.as_told; moved = part.moved }

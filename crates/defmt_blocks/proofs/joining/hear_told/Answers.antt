use Rattle.std.proofs.Common.{◌∙◌, ap}
use Rattle.std.specs.Prelude.{Result, Ok, Err, OnOk}
use Rattle.defmt_recording.specs.Styled.{Reel}
use Rattle.defmt_blocks.proofs.Counting.{look_is}
use Rattle.defmt_blocks.proofs.joining.hear_told.Goals as goal

ok_then : {T E P Q : Type 0} (r : Result T E) → OnOk r P → (P → Q) → OnOk r Q
ok_then (Ok x) p f = f p
ok_then (Err e) p f = p

pub returns-in_default-clause-look : goal.returns-in_default-clause-look
returns-in_default-clause-look g c =
    ok_then c.hear_part.result c.hear_part.ensures.heard (λ heard.
    let one = heard c.requires.suits.1.0 c.requires.suits.1.1 in
    ap (λ (r : Reel). r.look) one.moved ∙ look_is c.args.reporter.now one.told)

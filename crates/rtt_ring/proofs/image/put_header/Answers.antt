use Rattle.std.proofs.Common.{◌∙◌, List, ℕ, take, ap, arith}
use Rattle.std.proofs.lemmas.List.{with_items_is}
use Rattle.rtt_control.specs.Layout.{with_bytes, id}
use Rattle.rtt_ring.proofs.Blocks.{fresh_header}
use Rattle.rtt_ring.proofs.image.put_header.Goals as goal

pub returns-clause-front : goal.returns-clause-front
returns-clause-front c =
    let first = c.put.ensures ∙ ap (λ (l : List ℕ). with_bytes l 0 id) c.as_mut_slice-bytes.ensures.value in
    ap (take 24) (with_items_is c.args.image.now c.put_words.new.image (omega arith))
    ∙ fresh_header c.args.image.now.items c.put.new.image c.put_words.new.image c.requires first c.put_words.ensures

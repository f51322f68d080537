use Rattle.std.proofs.Common.{ℕ, List, length, length-append, ap, subst, sym, take, arith}
use Rattle.defmt_steer.proofs.Counted.{whole_few}
use Rattle.defmt_steer.specs.Steers.{Counts}
use Rattle.defmt_steer.proofs.host.take_counted.Goals as goal

pub hear_all-requires : goal.hear_all-requires
hear_all-requires g c =
    let had : List ℕ = c.args.capture.now.items in
    omega (
      arith,
      whole_few had,
      c.requires.counts.frames_are,
      ap length c.extend_reserved.ensures.items,
      length-append had (take c.take-size.result c.take-size.new.buf),
      c.len-total.ensures,
      c.len-total.type_inv,
    )

pub returns-clause-counts : goal.returns-clause-counts
returns-clause-counts g c =
    let n = c.hear_all.new.self in
    subst (λ (l : List ℕ). Counts n.frames n.zeros n.begun l) (sym c.extend_reserved.ensures.items)
    (c.hear_all.ensures.counts c.args.capture.now.items c.requires.counts)

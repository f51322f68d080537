use Rattle.std.proofs.Common.{List, ℕ, subst}
use Rattle.defmt_hints.proofs.Appending.{Appends-pushed}
use Rattle.defmt_hints.specs.Appends.{Appends}
use Rattle.defmt_hints.proofs.show.append.Goals as goal

pub returns : goal.returns
returns c =
    subst (λ (t : List ℕ). Appends c.push_str.result c.args.out.now c.push_str.new.self t) c.in-Ok.ensures.cases.0
    (Appends-pushed c.push_str.result c.args.out.now c.push_str.new.self c.in-Ok.text.now c.push_str.ensures.ok c.push_str.ensures.err)

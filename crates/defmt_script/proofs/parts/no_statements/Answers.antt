use Rattle.std.proofs.Common.{[], arith, ap, replicate, ◌≡◌, ◌∙◌}
use Rattle.std.proofs.lemmas.Grind.{replicate_next}
use Rattle.defmt_script.proofs.parts.no_statements.Goals as goal

pub loop-preserved : goal.loop-preserved
loop-preserved c = rw replicate_next (rw (← c.loop.invariant) (rw c.new.ensures at c.in_ok-push.ensures.items))

pub returns : goal.returns
returns c =
    let all : c.loop.counter ≡ 8 = omega arith in
    c.loop.invariant ∙ ap (λ n. replicate n []) all

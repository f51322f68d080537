use Rattle.std.proofs.Common.{List, ℕ, refl, ◌∙◌, ap, subst, take, length, arith, length-drop}
use Rattle.std.proofs.lemmas.List.{length-take-le}
use Rattle.rzcobs_core.specs.Encodes.{Encodes}
use Rattle.rzcobs_core.proofs.Behind.{both_written, nothing_written}
use Rattle.rzcobs_core.proofs.Several.{from_there, more_behind}
use Rattle.rzcobs_core.proofs.whole.put_all.Goals as goal

pub some-init : goal.some-init
some-init c = record { same_buffer = refl; put = c.requires.new; within = omega arith; size = refl; behind = nothing_written _ _ }

pub put_some-at-requires-clause-room : goal.put_some-at-requires-clause-room
put_some-at-requires-clause-room c =
    let m = c.args.message.now in (
      take c.some.at m,
      c.some.invariant.put,
      omega (arith, length-take-le c.some.at m c.some.invariant.within, length-drop c.some.at m, c.requires.room, c.some.invariant.size, c.some.invariant.within),
    )

pub some-preserved : goal.some-preserved
some-preserved c =
    let e = c.put_some-at.new.self in
    record {
      same_buffer = c.put_some-at.ensures.same_buffer ∙ c.some.invariant.same_buffer;
      put = subst (λ (m : List ℕ). Encodes e.out.now e.stored e.count e.zeros m) (more_behind c.args.message.now c.some.at c.put_some-at.result) (c.put_some-at.ensures.more _ c.some.invariant.put);
      within = omega (arith, c.put_some-at.ensures.within, ap length (from_there c.args.message.now c.some.at), length-drop c.some.at c.args.message.now);
      size = c.put_some-at.ensures.length ∙ c.some.invariant.size;
      behind = both_written _ _ _ _ _ _ c.some.invariant.behind c.put_some-at.ensures.behind;
    }

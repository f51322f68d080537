use Rattle.std.proofs.Common.{◌∙◌, ◌+◌, ◌-◌, ℕ, List, Global, Vec, ap, arith, drop, length, take}
use Rattle.std.proofs.lemmas.List.{take_rest}
use Rattle.rtt_dump.proofs.KeptLaws.{IsKept, all_kept, kept_more, kept_past, kept_still, none_kept, past_length}
use Rattle.rtt_dump.proofs.SearchLaws.{last_search, next_length, next_search}
use Rattle.rtt_dump.proofs.ids.kept_places.Goals as goal
use Rattle.rtt_dump.proofs.ids.kept_places.Goals.{then-before-begun+in_ok-push, else-before-begun}

pub loop-gap-init : goal.loop-gap-init
loop-gap-init c = record {
  kept = none_kept c.args.starts.now c.args.file.now c.new-places.result.items c.new-places.ensures.items;
  end = omega arith;
}

pub loop-gap-preserved : goal.loop-gap-preserved
loop-gap-preserved c =
    let starts = c.args.starts.now in
    let file = c.args.file.now in
    let was = c.loop-gap.places.items in
    let rest = c.loop-gap.rest.now in
    let at = c.loop-gap.at in
    let k = c.in-Some.gap in
    let before = c.loop-gap.before in
    let last = c.loop-gap.last in
    let begun = c.starts_up_to-begun.result in
    let known = c.starts_up_to-begun.ensures in
    let n = c.passed_over-passed.result in
    let over = c.passed_over-passed.ensures in
    let next = next_search _ rest _ at k c.new-finder.ensures c.in-Some.ensures (take_rest rest (k + 1)) in
    let searched = next_length _ rest _ at k _ c.new-finder.ensures c.in-Some.ensures (take_rest rest (k + 1)) c.loop-gap.invariant.end in
    let cut : List ℕ = take (length rest - (k + 1)) (drop (k + 1) rest) in
    let step : IsKept starts file c.if-before-begun.places.items cut (at + (k + 1)) last begun = elim c.if-before-begun.branch [
      | then-before-begun+in_ok-push w ↦ kept_more starts file was rest _ at k before last begun known.most known.up_to known.behind next c.loop-gap.invariant.kept
          c.if-before-begun.places.items (ap (λ (v : Vec ℕ Global). v.items) w.places-is ∙ w.in_ok-push.ensures.items)
      | else-before-begun w ↦ kept_still starts file was rest _ at k before last begun known.most known.up_to known.behind next c.loop-gap.invariant.kept
          c.if-before-begun.places.items (ap (λ (v : Vec ℕ Global). v.items) w.places-is) (omega arith)
    ] in
    record {
      kept = kept_past starts file c.if-before-begun.places.items cut _ (at + (k + 1)) _ last begun n (take_rest cut n) (omega arith) over.within over.full over.below step;
      end = past_length cut _ (at + (k + 1)) _ n _ (take_rest cut n) (omega arith) over.within searched;
    }

pub returns-clause-rises : goal.returns-clause-rises
returns-clause-rises c =
    let rest = c.loop-gap.rest.now in
    (all_kept c.args.starts.now c.args.file.now c.loop-gap.places.items rest c.loop-gap.at c.loop-gap.before c.loop-gap.last
    (last_search _ rest c.loop-gap.at c.new-finder.ensures c.in_default.ensures) c.loop-gap.invariant.kept).0

pub returns-clause-kept : goal.returns-clause-kept
returns-clause-kept c =
    let rest = c.loop-gap.rest.now in
    (all_kept c.args.starts.now c.args.file.now c.loop-gap.places.items rest c.loop-gap.at c.loop-gap.before c.loop-gap.last
    (last_search _ rest c.loop-gap.at c.new-finder.ensures c.in_default.ensures) c.loop-gap.invariant.kept).1

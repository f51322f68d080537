use Rattle.std.proofs.Common.{◌∙◌, ◌+◌, ◌-◌, ◌++◌, ℕ, List, map, sym, ap, subst, arith}
use Rattle.std.specs.List.{filter}
use Rattle.rtt_dump.specs.Ids.{Rises, at_most_one, ends_by, listed, spots}
use Rattle.rtt_dump.proofs.IdLemmas.{none_left, one_is}
use Rattle.rtt_dump.proofs.PartLemmas.{filter_rises}
use Rattle.rtt_dump.proofs.ids.next_id.Goals as goal

pub loop-rest-init : goal.loop-rest-init
loop-rest-init c =
    let start = c.args.span.now.start in
    record {
      spots_are = ap (λ (l : List ℕ). listed c.args.first ++ spots c.args.segment (map (λ (p : ℕ). p - start) (filter (ends_by (start + c.args.span.now.len)) l))) c.places_from-rest.ensures;
      rises = subst (λ (l : List ℕ). Rises start l) (sym c.places_from-rest.ensures) (filter_rises start 0 c.args.places.now (omega arith) c.requires.rises);
    }

pub returns-then-span-place : goal.returns-then-span-place
returns-then-span-place c =
    let start = c.args.span.now.start in
    let last = start + c.args.span.now.len in
    let first = c.loop-rest.first in
    let none = none_left start last c.loop-rest.rest.now c.in-len1-up.len_at_least c.loop-rest.invariant.rises (omega arith) in
    sym (one_is first)
    ∙ ap (λ (l : List ℕ). at_most_one (listed first ++ spots c.args.segment (map (λ (p : ℕ). p - start) l))) (sym none)
    ∙ ap at_most_one c.loop-rest.invariant.spots_are

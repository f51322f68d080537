use Rattle.std.proofs.Common.{◌∙◌, ℕ, List, ap, map, subst, arith}
use Rattle.std.specs.List.Sorted.{IsPermutation}
use Rattle.std.proofs.lemmas.List.{take_all}
use Rattle.std.proofs.lemmas.List.Sorted.{IsNonDecreasingBy-from_sort}
use Rattle.rtt_dump.specs.Segments.{start_of}
use Rattle.rtt_dump.proofs.ids.starts_of.Goals as goal

pub returns-clause-moved : goal.returns-clause-moved
returns-clause-moved c =
    let spans = c.args.spans.now in
    subst (λ (l : List ℕ). IsPermutation l c.sort_unstable.new.self.items) (c.loop-span.invariant ∙ ap (map start_of) (take_all c.loop-span.span-index spans (omega arith)))
    c.sort_unstable.ensures.permutation

pub returns-clause-rise : goal.returns-clause-rise
returns-clause-rise c = IsNonDecreasingBy-from_sort (λ (s : ℕ). s) c.sort_unstable.new.self.items c.sort_unstable.ensures.sorted

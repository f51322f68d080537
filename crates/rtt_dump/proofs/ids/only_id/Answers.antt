use Rattle.std.proofs.Common.{◌≡◌, ℕ, List, length, map, sym, subst, arith}
use Rattle.std.proofs.lemmas.Result.{err_from_is_err_and}
use Rattle.rtt_control.specs.Control.{id_places}
use Rattle.rtt_dump.specs.Ids.{Rises, first_two, id_refusal, ids}
use Rattle.rtt_dump.specs.Segments.{region}
use Rattle.rtt_dump.proofs.FlawLemmas.{fault_of_refusal, handed_on}
use Rattle.rtt_dump.proofs.IdLemmas.{all_seen, at_number, below_end, next_below, next_found, next_refused, none_seen, only_seen}
use Rattle.rtt_dump.proofs.ids.only_id.Goals as goal

pub next_id-requires-clause-rises : goal.next_id-requires-clause-rises
next_id-requires-clause-rises c = subst (λ (l : List ℕ). Rises 0 l) (sym c.deref.ensures.value) c.in_ok-places.ensures.rises

pub next_id-requires-clause-end : goal.next_id-requires-clause-end
next_id-requires-clause-end c = let inside = c.span_at-span.ensures.inside (length c.args.file.now) c.requires.inside in omega (arith, inside)

pub returns-in_err-first-clause-refused : goal.returns-in_err-first-clause-refused
returns-in_err-first-clause-refused c =
    let file = c.args.file.now in
    let places = c.deref.result.now in
    let list = c.args.spans.now in
    let k = c.loop-number.number in
    let span = c.span_at-span.result in
    let there = c.span_at-span.ensures.there in
    let rises : Rises 0 places = subst (λ (l : List ℕ). Rises 0 l) (sym c.deref.ensures.value) c.in_ok-places.ensures.rises in
    let alike : first_two span.start places ≡ first_two span.start (id_places 0 file) =
    subst (λ (l : List ℕ). first_two span.start l ≡ first_two span.start (id_places 0 file)) (sym c.deref.ensures.value)
    (at_number list k span (λ (s : ℕ). first_two s c.in_ok-places.places.items ≡ first_two s (id_places 0 file)) c.in_ok-places.ensures.kept there) in
    let p = err_from_is_err_and c.from_residual-in_err-first.result c.from_residual-in_err-first.ensures.1 in
    let e = c.in_err-first.field-0.0 in
    let all = ids (map (region file) list) in
    handed_on c.from_residual-in_err-first.result (id_refusal all) p.0 e p.1 p.2
    (fault_of_refusal (id_refusal all) e (next_refused file places list k span c.loop-number.first rises alike there e all c.loop-number.invariant.ids_are c.in_err-first.ensures))

pub loop-number-preserved : goal.loop-number-preserved
loop-number-preserved c =
    let file = c.args.file.now in
    let places = c.deref.result.now in
    let list = c.args.spans.now in
    let k = c.loop-number.number in
    let span = c.span_at-span.result in
    let first = c.loop-number.first in
    let there = c.span_at-span.ensures.there in
    let rises : Rises 0 places = subst (λ (l : List ℕ). Rises 0 l) (sym c.deref.ensures.value) c.in_ok-places.ensures.rises in
    let alike : first_two span.start places ≡ first_two span.start (id_places 0 file) =
    subst (λ (l : List ℕ). first_two span.start l ≡ first_two span.start (id_places 0 file)) (sym c.deref.ensures.value)
    (at_number list k span (λ (s : ℕ). first_two s c.in_ok-places.places.items ≡ first_two s (id_places 0 file)) c.in_ok-places.ensures.kept there) in
    record {
      ids_are = next_found file places list k span first rises alike there c.in_ok-first.first (ids (map (region file) list)) c.loop-number.invariant.ids_are c.in_ok-first.ensures;
      below = next_below file places list k span first rises alike there c.in_ok-first.first c.loop-number.invariant.below c.in_ok-first.ensures;
    }

pub returns-clause-only : goal.returns-clause-only
returns-clause-only c =
    let all = ids (map (region c.args.file.now) c.args.spans.now) in
    only_seen c.found.result c.loop-number.first all (all_seen c.args.file.now c.args.spans.now c.loop-number.number c.loop-number.first all (omega arith) c.loop-number.invariant.ids_are) c.found.ensures.only

pub returns-clause-within : goal.returns-clause-within
returns-clause-within c =
    c.found.ensures.within (length c.args.spans.now) (below_end c.loop-number.number (length c.args.spans.now) c.loop-number.first (omega arith) c.loop-number.invariant.below)

pub returns-clause-refused : goal.returns-clause-refused
returns-clause-refused c =
    let all = ids (map (region c.args.file.now) c.args.spans.now) in
    none_seen c.found.result c.loop-number.first all (all_seen c.args.file.now c.args.spans.now c.loop-number.number c.loop-number.first all (omega arith) c.loop-number.invariant.ids_are) c.found.ensures.refused

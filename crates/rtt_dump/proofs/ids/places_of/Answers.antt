use Rattle.std.proofs.Common.{◌≡◌, ℕ, List, map, sym, subst}
use Rattle.std.specs.List.Sorted.{IsPermutation}
use Rattle.std.proofs.lemmas.Result.{IfOk-weaker}
use Rattle.rtt_control.specs.Control.{id_places}
use Rattle.rtt_dump.specs.Ids.{first_two}
use Rattle.rtt_dump.specs.Segments.{start_of}
use Rattle.rtt_dump.proofs.IdLemmas.{at_starts}
use Rattle.rtt_dump.proofs.ids.places_of.Goals as goal

pub returns-clause-kept : goal.returns-clause-kept
returns-clause-kept c =
    let file = c.args.file.now in
    let spans = c.args.spans.now in
    let moved : IsPermutation (map start_of spans) c.deref.result.now =
    subst (λ (l : List ℕ). IsPermutation (map start_of spans) l) (sym c.deref.ensures.value) c.in_ok-starts.ensures.moved in
    IfOk-weaker c.kept_places.result _ _
    (λ v kept. at_starts c.deref.result.now spans (λ (s : ℕ). first_two s v.items ≡ first_two s (id_places 0 file)) moved kept) c.kept_places.ensures.kept

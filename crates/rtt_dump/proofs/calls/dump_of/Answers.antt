use Rattle.std.proofs.Common.{◌≡◌, ◌∙◌, ℕ, List, length, map, sym, ap, subst}
use Rattle.std.specs.Prelude.{None, IfOk, IfErr, OnOk}
use Rattle.std.proofs.lemmas.Result.{err_from_is_err_and}
use Rattle.std.specs.List.{All}
use Rattle.dl_io.specs.Buffer.{Buffer}
use Rattle.rtt_dump.specs.Answers.{channel_refusal, refusal}
use Rattle.rtt_dump.specs.Dump.{channel_bytes, first_id, holder}
use Rattle.rtt_dump.specs.Faults.{IsFault}
use Rattle.rtt_dump.specs.Ids.{id_refusal, ids}
use Rattle.rtt_dump.specs.Flaws.{file_refusal}
use Rattle.rtt_dump.specs.Segments.{IsInside, Region, region, regions}
use Rattle.rtt_dump.specs.declared.spans.Span.{Span}
use Rattle.rtt_dump.proofs.FlawLemmas.{handed_on}
use Rattle.rtt_dump.proofs.ImageLemmas.{channel_passes, channel_refused, found_holder, id_refused, part_short, regions_by_spans}
use Rattle.rtt_dump.proofs.calls.dump_of.Goals as goal

pub bytes-requires : goal.bytes-requires
bytes-requires c =
    let size = length c.args.file.now in
    c.span_at-span.ensures.inside size (subst (λ (l : List Span). All (IsInside size) l) (sym c.as_slice-list.ensures.value) c.in_ok-spans.ensures.inside)

pub returns-in_err-id-clause-fault : goal.returns-in_err-id-clause-fault
returns-in_err-id-clause-fault c =
    let file = c.args.file.now in
    let base = c.args.base in
    let p = err_from_is_err_and c.from_residual-in_err-id.result c.from_residual-in_err-id.ensures.1 in
    let e = c.in_err-id.field-0.0 in
    let all_is : map (region file) c.as_slice-list.result.now ≡ regions file base =
    ap (map (region file)) (c.as_slice-list.ensures.value ∙ c.in_ok-spans.ensures.spans) ∙ regions_by_spans file base in
    handed_on c.from_residual-in_err-id.result (refusal file base c.args.up) p.0 e p.1 p.2
    (id_refused file base c.args.up e c.in_ok-spans.ensures.passes (subst (λ (l : List Region). IsFault (id_refusal (ids l)) e) all_is c.in_err-id.ensures.refused))

pub returns-clause-bytes : goal.returns-clause-bytes
returns-clause-bytes c =
    let file = c.args.file.now in
    let base = c.args.base in
    let all_is : map (region file) c.as_slice-list.result.now ≡ regions file base =
    ap (map (region file)) (c.as_slice-list.ensures.value ∙ c.in_ok-spans.ensures.spans) ∙ regions_by_spans file base in
    found_holder file base c.as_slice-list.result.now c.in_ok-id.id c.span_at-span.result c.bytes.result.now
    (λ (r : Region) (at : ℕ). IfOk c.bytes_of.result (λ (b : Buffer). b.items ≡ channel_bytes r at c.args.up c.args.old))
    all_is c.in_ok-id.ensures.only c.span_at-span.ensures.there c.bytes.ensures c.bytes_of.ensures.bytes

pub returns-clause-none : goal.returns-clause-none
returns-clause-none c =
    let file = c.args.file.now in
    let base = c.args.base in
    let all = regions file base in
    let all_is : map (region file) c.as_slice-list.result.now ≡ all =
    ap (map (region file)) (c.as_slice-list.ensures.value ∙ c.in_ok-spans.ensures.spans) ∙ regions_by_spans file base in
    let passes =
    found_holder file base c.as_slice-list.result.now c.in_ok-id.id c.span_at-span.result c.bytes.result.now
    (λ (r : Region) (at : ℕ). OnOk c.bytes_of.result (channel_refusal r at c.args.up ≡ None))
    all_is c.in_ok-id.ensures.only c.span_at-span.ensures.there c.bytes.ensures c.bytes_of.ensures.passes in
    channel_passes c.bytes_of.result (file_refusal file base) (id_refusal (ids all)) (channel_refusal (holder all) (first_id all).at c.args.up) c.in_ok-spans.ensures.passes
    (ap (λ (l : List Region). id_refusal (ids l)) (sym all_is) ∙ ap id_refusal c.in_ok-id.ensures.only) passes

pub returns-clause-fault : goal.returns-clause-fault
returns-clause-fault c =
    let file = c.args.file.now in
    let base = c.args.base in
    let all = regions file base in
    let all_is : map (region file) c.as_slice-list.result.now ≡ all =
    ap (map (region file)) (c.as_slice-list.ensures.value ∙ c.in_ok-spans.ensures.spans) ∙ regions_by_spans file base in
    let refused =
    found_holder file base c.as_slice-list.result.now c.in_ok-id.id c.span_at-span.result c.bytes.result.now
    (λ (r : Region) (at : ℕ). IfErr c.bytes_of.result (IsFault (channel_refusal r at c.args.up)))
    all_is c.in_ok-id.ensures.only c.span_at-span.ensures.there c.bytes.ensures c.bytes_of.ensures.refused in
    channel_refused c.bytes_of.result (file_refusal file base) (id_refusal (ids all)) (channel_refusal (holder all) (first_id all).at c.args.up) c.in_ok-spans.ensures.passes
    (ap (λ (l : List Region). id_refusal (ids l)) (sym all_is) ∙ ap id_refusal c.in_ok-id.ensures.only) refused

pub returns-clause-short : goal.returns-clause-short
returns-clause-short c = part_short c.bytes_of.result c.args.file.now c.bytes.result.now c.span_at-span.result c.bytes.ensures c.bytes_of.ensures.short

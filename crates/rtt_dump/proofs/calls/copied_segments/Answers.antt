use Rattle.std.proofs.Common.{◌∙◌, ap, map}
use Rattle.rtt_dump.specs.Segments.{region}
use Rattle.rtt_dump.proofs.ImageLemmas.{regions_by_spans}
use Rattle.rtt_dump.proofs.calls.copied_segments.Goals as goal

pub returns-clause-segments : goal.returns-clause-segments
returns-clause-segments c =
    c.in_ok-copied.ensures ∙ ap (map (region c.args.file.now)) (c.as_slice.ensures.value ∙ c.in_ok-spans.ensures.spans) ∙ regions_by_spans c.args.file.now c.args.base

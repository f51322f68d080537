use Rattle.std.proofs.Common.{arith}
use Rattle.defmt_lines.proofs.TextCuts.{kept_boundary, kept_text}
use Rattle.defmt_lines.proofs.cut.strip_return.Goals as goal

pub split_at-requires : goal.split_at-requires
split_at-requires c = kept_boundary c.args.line.now c.as_bytes.result.now c.strip_carriage_return-kept.result.now _ c.as_bytes.ensures.value c.strip_carriage_return-kept.ensures (omega arith)

pub returns : goal.returns
returns c =
    kept_text c.args.line.now c.as_bytes.result.now c.strip_carriage_return-kept.result.now _ c.as_bytes.ensures.value c.strip_carriage_return-kept.ensures (omega arith) c.split_at.result.0.now c.split_at.ensures.front

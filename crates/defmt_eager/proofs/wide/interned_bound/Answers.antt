use Rattle.std.proofs.Common.{◌≡◌, ◌≤◌, ◌+◌, ◌*◌, ℕ, List, length, subst}
use Rattle.defmt_values.specs.Entries.{look}
use Rattle.defmt_eager.specs.Line.{printed_limit}
use Rattle.defmt_eager.specs.Show.{interned_text}
use Rattle.defmt_eager.proofs.PieceBounds.{text_bound}
use Rattle.defmt_eager.proofs.wide.interned_bound.Goals as goal

pub returns : goal.returns
returns c = λ hint. text_bound (interned_text (look c.args.table.now.entries c.args.index)) hint c.bytes_of.result
    (subst (λ (text : List ℕ). c.bytes_of.result ≤ printed_limit → c.bytes_of.result ≡ length text * 2 + 3) c.interned_text.ensures.text c.bytes_of.ensures)

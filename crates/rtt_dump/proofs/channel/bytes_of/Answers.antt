use Rattle.std.proofs.Common.{◌∙◌, ap, sym}
use Rattle.rtt_control.specs.declared.block.Descriptor.{Descriptor}
use Rattle.rtt_dump.specs.Dump.{buffer_bytes}
use Rattle.rtt_dump.proofs.ChannelLemmas.{buffer_short}
use Rattle.rtt_dump.proofs.channel.bytes_of.Goals as goal

pub returns-clause-bytes : goal.returns-clause-bytes
returns-clause-bytes c =
    c.in_ok-asked_bytes.ensures ∙ ap (λ (d : Descriptor). buffer_bytes c.args.image.now c.args.base d c.args.old) (sym c.in_ok-d.ensures.there)

pub returns-clause-short : goal.returns-clause-short
returns-clause-short c = buffer_short c.args.image.now _ c.args.base c.in_ok-d.d c.args.old c.in_ok-d.ensures.lies c.in_ok-asked_bytes.ensures

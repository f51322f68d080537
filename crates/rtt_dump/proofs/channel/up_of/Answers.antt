use Rattle.std.proofs.Common.{◌∙◌, length, sym}
use Rattle.rtt_control.specs.Checks.{HasBlock, HasId}
use Rattle.rtt_control.specs.Layout.{block_of}
use Rattle.rtt_dump.proofs.ChannelLemmas.{channel_missing, channel_there, of_up, up_there}
use Rattle.rtt_dump.proofs.channel.up_of.Goals as goal

pub returns-in-Some-clause-there : goal.returns-in-Some-clause-there
returns-in-Some-clause-there c = up_there c.args.image.now c.args.at c.args.up c.in-Some.d (sym c.in_ok-found.ensures.descriptor ∙ c.in-Some.is)

pub returns-in-Some-clause-lies : goal.returns-in-Some-clause-lies
returns-in-Some-clause-lies c =
    let image = c.args.image.now in
    (of_up (HasId image c.args.at) (HasBlock image c.args.at) (length image) c.args.base (block_of image c.args.at) c.args.up c.in-Some.d
    (sym c.in_ok-found.ensures.descriptor ∙ c.in-Some.is) c.in_ok-found.ensures.passes).0

pub returns-in-Some-clause-offsets : goal.returns-in-Some-clause-offsets
returns-in-Some-clause-offsets c =
    let image = c.args.image.now in
    (of_up (HasId image c.args.at) (HasBlock image c.args.at) (length image) c.args.base (block_of image c.args.at) c.args.up c.in-Some.d
    (sym c.in_ok-found.ensures.descriptor ∙ c.in-Some.is) c.in_ok-found.ensures.passes).1

pub returns-in-Some-clause-mode : goal.returns-in-Some-clause-mode
returns-in-Some-clause-mode c =
    let image = c.args.image.now in
    (of_up (HasId image c.args.at) (HasBlock image c.args.at) (length image) c.args.base (block_of image c.args.at) c.args.up c.in-Some.d
    (sym c.in_ok-found.ensures.descriptor ∙ c.in-Some.is) c.in_ok-found.ensures.passes).2

pub returns-in-Some-clause-passes : goal.returns-in-Some-clause-passes
returns-in-Some-clause-passes c =
    channel_there (record { base = c.args.base; bytes = c.args.image.now }) c.args.at c.args.up c.in-Some.d c.in_ok-found.ensures.answer
    (sym c.in_ok-found.ensures.descriptor ∙ c.in-Some.is)

pub returns-in-None-clause-refused : goal.returns-in-None-clause-refused
returns-in-None-clause-refused c =
    channel_missing (record { base = c.args.base; bytes = c.args.image.now }) c.args.at c.args.up c.at.result c.in_ok-found.ensures.answer
    (sym c.in_ok-found.ensures.descriptor ∙ c.in-None.is) c.at.ensures

use Rattle.defmt_writers.proofs.Taken.{takes_more, told_takes, took_told}
use Rattle.std.proofs.Common.{◌∙◌}
use Rattle.defmt_writers.proofs.reader.take_all.Goals as goal

pub loop-preserved : goal.loop-preserved
loop-preserved g c =
    let took = c.take.ensures in
    let so = c.loop.invariant in
    let told = g.G.Gate.told c.args.gate.now in
    record {
      takes = takes_more _ _ _ _ _ _ _ _ so.takes took.takes;
      split = took.split ∙ so.split;
      got = took.got;
      told = told_takes told _ _ _ _ _ _ took.takes so.told (took_told told _ _ _ _ _ took.takes took.room took.few took.told);
    }

pub returns-clause-told : goal.returns-clause-told
returns-clause-told g c =
    let took = c.take.ensures in
    let told = g.G.Gate.told c.args.gate.now in
    told_takes told _ _ _ _ _ _ took.takes c.loop.invariant.told (took_told told _ _ _ _ _ took.takes took.room took.few took.told)

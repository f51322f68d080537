use Rattle.defmt_run.proofs.logging.stamp_of.Goals as goal

pub new-requires-clause-even : goal.new-requires-clause-even
new-requires-clause-even c = record {
  may = λ t within. (c.stamps-base.ensures.within.0, c.stamps-base.ensures.within.1, within);
  stamps = λ t stamp within gives. gives;
}

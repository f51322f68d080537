use Rattle.defmt_intern.proofs.TableLaws.{admitted, free_there, is_short, one_refusal, puts}
use Rattle.defmt_intern.proofs.map.EntryMap.insert_parsed.Goals as goal

pub returns-in-Some-clause-refused : goal.returns-in-Some-clause-refused
returns-in-Some-clause-refused c = λ cause r. one_refusal c.args.self.now c.args.index c.args.entry c.number.result cause (rw c.number.ensures c.in-Some.ensures) r

pub invariant_of-kept : goal.invariant_of-kept
invariant_of-kept c = record {
  short = is_short c.args.self.now c.args.entry (admitted c.args.self.now c.args.index c.args.entry c.in_default.ensures);
}

pub put-requires-clause-free : goal.put-requires-clause-free
put-requires-clause-free c = free_there c.args.self.now c.args.index c.args.entry c.in_default.ensures

pub put-requires-clause-admitted : goal.put-requires-clause-admitted
put-requires-clause-admitted c = admitted c.args.self.now c.args.index c.args.entry c.in_default.ensures

pub returns-clause-answer : goal.returns-clause-answer
returns-clause-answer c = puts c.args.self.now c.args.index c.args.entry c.put.result c.put.new.self c.in_default.ensures c.put.ensures

pub returns-clause-refused : goal.returns-clause-refused
returns-clause-refused c = λ cause r. absurd (c.in_default.ensures cause r)

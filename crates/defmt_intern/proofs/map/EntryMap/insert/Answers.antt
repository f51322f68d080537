use Rattle.std.proofs.Common.{ℕ, sym, subst}
use Rattle.defmt_intern.specs.declared.entry.Entry.{Entry}
use Rattle.defmt_intern.specs.Table.{EntryRefused, PutsUnlessMemory}
use Rattle.defmt_intern.proofs.TableLaws.{admitted, free_there, is_short, one_refusal, puts}
use Rattle.defmt_intern.proofs.map.EntryMap.insert.Goals as goal

pub returns-in-Some-clause-refused : goal.returns-in-Some-clause-refused
returns-in-Some-clause-refused c = λ cause r. one_refusal c.args.self.now c.args.index c.args.entry c.number.result cause (rw c.number.ensures c.in-Some.ensures) r

pub kept_of-requires : goal.kept_of-requires
kept_of-requires c = is_short c.args.self.now c.args.entry (admitted c.args.self.now c.args.index c.args.entry c.in_default.ensures)

pub put-requires-clause-free : goal.put-requires-clause-free
put-requires-clause-free c = free_there c.args.self.now c.args.index c.args.entry c.in_default.ensures

pub put-requires-clause-admitted : goal.put-requires-clause-admitted
put-requires-clause-admitted c =
    subst (λ (e : Entry). (cause : ℕ) → EntryRefused c.args.self.now e cause → ⊥) (sym c.in_ok-kept.ensures.entry) (admitted c.args.self.now c.args.index c.args.entry c.in_default.ensures)

pub returns-clause-answer : goal.returns-clause-answer
returns-clause-answer c =
    let done = subst (λ (e : Entry). PutsUnlessMemory c.args.self.now c.args.index e c.put.result c.put.new.self) c.in_ok-kept.ensures.entry c.put.ensures in
    puts c.args.self.now c.args.index c.args.entry c.put.result c.put.new.self c.in_default.ensures done

pub returns-clause-refused : goal.returns-clause-refused
returns-clause-refused c = λ cause r. absurd (c.in_default.ensures cause r)

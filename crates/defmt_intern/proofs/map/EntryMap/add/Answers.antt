use Rattle.std.proofs.Common.{ℕ, inl, inr, refl, ap, sym, subst, ◌∙◌}
use Rattle.defmt_intern.specs.Entries as map
use Rattle.defmt_intern.specs.declared.entry.Entry.{Entry}
use Rattle.defmt_intern.specs.Table.{EntryRefused}
use Rattle.defmt_intern.proofs.TableLaws.{is_short, may_add, one_refusal_to_add}
use Rattle.defmt_intern.proofs.map.EntryMap.add.Goals as goal

pub kept_of-requires : goal.kept_of-requires
kept_of-requires c = is_short c.args.self.now c.args.entry c.in_default-refusal.ensures

pub put-requires-clause-admitted : goal.put-requires-clause-admitted
put-requires-clause-admitted c = subst (λ (e : Entry). (cause : ℕ) → EntryRefused c.args.self.now e cause → ⊥) (sym c.in_ok-kept.ensures.entry) c.in_default-refusal.ensures

pub returns-clause-answer : goal.returns-clause-answer
returns-clause-answer c = (
  c.in-Some.ensures.0,
  c.in_ok-put.ensures ∙ ap (map.insert c.args.self.now c.in-Some.index) c.in_ok-kept.ensures.entry,
  may_add c.args.self.now c.args.entry c.in-Some.ensures.2 c.in_default-refusal.ensures,
)

pub returns-clause-refused : goal.returns-clause-refused
returns-clause-refused c = may_add c.args.self.now c.args.entry c.in-Some.ensures.2 c.in_default-refusal.ensures

pub returns-in_default-clause-answer : goal.returns-in_default-clause-answer
returns-in_default-clause-answer c = (refl, inl (c.number.ensures, c.in_default.ensures))

pub returns-in_default-clause-refused : goal.returns-in_default-clause-refused
returns-in_default-clause-refused c = λ cause r. one_refusal_to_add c.args.self.now c.args.entry c.number.result cause (inl (c.number.ensures, c.in_default.ensures)) r

pub returns-in-Some-refusal-clause-answer : goal.returns-in-Some-refusal-clause-answer
returns-in-Some-refusal-clause-answer c = (refl, inr (c.in-Some.ensures.2, rw c.number-in-Some-refusal.ensures c.in-Some-refusal.ensures))

pub returns-in-Some-refusal-clause-refused : goal.returns-in-Some-refusal-clause-refused
returns-in-Some-refusal-clause-refused c = λ cause r.
    one_refusal_to_add c.args.self.now c.args.entry c.number-in-Some-refusal.result cause (inr (c.in-Some.ensures.2, rw c.number-in-Some-refusal.ensures c.in-Some-refusal.ensures)) r

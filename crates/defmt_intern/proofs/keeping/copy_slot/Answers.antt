use Rattle.std.proofs.Common.{◌≤◌, ◌∙◌, Some, length, sym, subst, ap}
use Rattle.defmt_intern.specs.declared.entry.Entry.{Entry}
use Rattle.defmt_intern.specs.declared.kept.Kept.{Kept}
use Rattle.defmt_intern.proofs.keeping.copy_slot.Goals as goal

pub kept_of-requires : goal.kept_of-requires
kept_of-requires c = subst (λ (e : Entry). length e.text ≤ 4096) (sym c.in_ok-entry-in-Some.ensures) c.deref.result.now.short

pub returns-in_ok-boxed-in-Some-clause-entry : goal.returns-in_ok-boxed-in-Some-clause-entry
returns-in_ok-boxed-in-Some-clause-entry c = rw c.in-Some.is (ap Some (ap (λ (k : Kept). k.entry) c.in_ok-boxed-in-Some.ensures.ok ∙ c.in_ok-copy-in-Some.ensures.entry ∙ c.in_ok-entry-in-Some.ensures ∙ ap (λ (k : Kept). k.entry) c.deref.ensures))

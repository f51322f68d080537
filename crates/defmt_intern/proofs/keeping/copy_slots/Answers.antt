use Rattle.std.proofs.Common.{◌∙◌, ap, arith, subst, sym, take_all}
use Rattle.std.proofs.lemmas.List.Elements.{All-push}
use Rattle.defmt_intern.specs.Table.{AreReadIn, IsReadIn, entries_in}
use Rattle.defmt_intern.proofs.Slots.{copied_more}
use Rattle.defmt_intern.proofs.keeping.copy_slots.Goals as goal

pub loop-slot-preserved : goal.loop-slot-preserved
loop-slot-preserved c =
    (copied_more c.args.slots.now c.loop-slot.copies.items c.push.new.self.items c.loop-slot.slot-index c.slot-item.result c.in_ok-copy.copy (omega arith) c.slot-item.is c.loop-slot.invariant.0 c.in_ok-copy.ensures.entry c.in_ok-push.ensures.items, subst (AreReadIn c.args.language) (sym c.in_ok-push.ensures.items) (All-push (IsReadIn c.args.language) c.loop-slot.copies.items c.in_ok-copy.copy c.loop-slot.invariant.1 c.in_ok-copy.ensures.read))

pub returns-clause-entries : goal.returns-clause-entries
returns-clause-entries c = c.loop-slot.invariant.0 ∙ ap entries_in (take_all c.loop-slot.slot-index c.args.slots.now (omega arith))

use Rattle.std.proofs.Common.{List, length, subst, ap}
use Rattle.defmt_grammar.specs.declared.piece.Use.{Use}
use Rattle.defmt_grammar.specs.declared.fault.Cause.TheVariants as causes
use Rattle.defmt_grammar.specs.Positions.{IsTableOf}
use Rattle.defmt_grammar.proofs.Tables.{held_fit}
use Rattle.defmt_grammar.proofs.PiecesLaws.{used_front, unused_front, fit_read, spells_read, clash_read, gap_read, whole_read}
use Rattle.defmt_grammar.proofs.pieces.pieces_of.Goals as goal

pub table_of-requires : goal.table_of-requires
table_of-requires c = rw c.deref.ensures.value (fit_read c.args.text.now c.args.mode _ _ c.in_ok-pieces.ensures)

pub returns-in-Err : goal.returns-in-Err
returns-in-Err c = (causes.Conflict, clash_read c.args.text.now c.args.mode c.in_ok-pieces.pieces.items c.in_ok-pieces.uses.items c.in-Err.at c.in_ok-pieces.ensures (rw c.deref.ensures.value at c.in-Err.ensures), c.number.ensures)

pub slots_in-requires : goal.slots_in-requires
slots_in-requires c = held_fit c.in-Ok.table c.deref.result.now c.in-Ok.ensures

pub returns-then-is_used_from : goal.returns-then-is_used_from
returns-then-is_used_from c =
    let table = subst (λ (us : List Use). IsTableOf c.in-Ok.table us) c.deref.ensures.value c.in-Ok.ensures in
    (causes.Gap, gap_read c.args.text.now c.args.mode c.in_ok-pieces.pieces.items c.in_ok-pieces.uses.items c.in-Ok.table c.in_ok-pieces.ensures table (used_front c.in-Ok.table c.in_ok-slots.slots.items c.in_ok-slots.counts.items _ c.in_ok-slots.ensures (ap length c.as_slice.ensures.value) c.if-is_used_from.ensures), c.number-then-is_used_from.ensures)

pub invariant_of-result : goal.invariant_of-result
invariant_of-result c =
    let table = subst (λ (us : List Use). IsTableOf c.in-Ok.table us) c.deref.ensures.value c.in-Ok.ensures in
    whole_read c.args.text.now c.args.mode c.in_ok-pieces.pieces.items c.in_ok-pieces.uses.items c.in-Ok.table c.in_ok-slots.slots.items c.in_ok-slots.counts.items c.in_ok-pieces.ensures table (unused_front c.in-Ok.table c.in_ok-slots.slots.items c.in_ok-slots.counts.items _ c.in_ok-slots.ensures (ap length c.as_slice.ensures.value) c.if-is_used_from.ensures) c.in_ok-slots.ensures

pub returns : goal.returns
returns c =
    let table = subst (λ (us : List Use). IsTableOf c.in-Ok.table us) c.deref.ensures.value c.in-Ok.ensures in
    spells_read c.args.text.now c.args.mode c.in_ok-pieces.pieces.items c.in_ok-pieces.uses.items c.in-Ok.table c.in_ok-pieces.ensures table (unused_front c.in-Ok.table c.in_ok-slots.slots.items c.in_ok-slots.counts.items _ c.in_ok-slots.ensures (ap length c.as_slice.ensures.value) c.if-is_used_from.ensures)

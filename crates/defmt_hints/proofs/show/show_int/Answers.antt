use Rattle.std.proofs.Common.{ℤ, subst}
use mir.Facts.{to_z-of_z}
use Rattle.std.proofs.lemmas.Result.{err_from_is_err_and}
use Rattle.defmt_hints.proofs.Appending.{appends_none, room_appended, room_utf8}
use Rattle.defmt_hints.proofs.Utf8Laws.{utf8_int}
use Rattle.defmt_hints.specs.Appends.{Appends}
use Rattle.defmt_hints.specs.Printed.{printed_int}
use Rattle.defmt_hints.proofs.show.show_int.Goals as goal

pub returns-in_err-room : goal.returns-in_err-room
returns-in_err-room c =
    let p = err_from_is_err_and c.from_residual.result c.from_residual.ensures.1 in
    rw c.rooms.invariant.0 (appends_none c.from_residual.result p.0 c.args.out.now (printed_int c.args.value c.args.size c.args.hint.now) p.1)

pub append-requires-clause-utf8 : goal.append-requires-clause-utf8
append-requires-clause-utf8 c = room_utf8 c.in-Some.ensures (utf8_int _ c.args.size c.args.hint.now)

pub returns-in-Some : goal.returns-in-Some
returns-in-Some c =
    subst (λ (z : ℤ). Appends c.append.result c.args.out.now c.append.new.out (printed_int z c.args.size c.args.hint.now)) (to_z-of_z c.ranges.value)
    (room_appended c.append.result c.args.out.now c.append.new.out c.in-Some.ensures (rw c.rooms.invariant.0 at c.append.ensures))

pub returns-in_err-many : goal.returns-in_err-many
returns-in_err-many c =
    let p = err_from_is_err_and c.from_residual-in_err-many.result c.from_residual-in_err-many.ensures.1 in
    rw c.rooms.invariant.0 (appends_none c.from_residual-in_err-many.result p.0 c.args.out.now (printed_int c.args.value c.args.size c.args.hint.now) p.1)

use Rattle.std.proofs.lemmas.Result.{err_from_is_err_and}
use Rattle.defmt_hints.proofs.Appending.{appends_none, room_appended, room_utf8}
use Rattle.defmt_hints.proofs.Utf8Laws.{utf8_uint}
use Rattle.defmt_hints.specs.Printed.{printed_uint}
use Rattle.defmt_hints.proofs.show.show_uint.Goals as goal

pub returns-in_err-room : goal.returns-in_err-room
returns-in_err-room c =
    let p = err_from_is_err_and c.from_residual.result c.from_residual.ensures.1 in
    rw c.rooms.invariant.0 (appends_none c.from_residual.result p.0 c.args.out.now (printed_uint c.args.value c.args.hint.now) p.1)

pub append-requires-clause-utf8 : goal.append-requires-clause-utf8
append-requires-clause-utf8 c = room_utf8 c.in-Some.ensures (utf8_uint c.args.value c.args.hint.now)

pub returns-in-Some : goal.returns-in-Some
returns-in-Some c = room_appended c.append.result c.args.out.now c.append.new.out c.in-Some.ensures (rw c.rooms.invariant.0 at c.append.ensures)

pub returns-in_err-size : goal.returns-in_err-size
returns-in_err-size c =
    let p = err_from_is_err_and c.from_residual-in_err-size.result c.from_residual-in_err-size.ensures.1 in
    rw c.rooms.invariant.0 (appends_none c.from_residual-in_err-size.result p.0 c.args.out.now (printed_uint c.args.value c.args.hint.now) p.1)

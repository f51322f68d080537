use Rattle.std.proofs.Common.{sym}
use Rattle.std.proofs.lemmas.Result.{err_from_is_err_and}
use Rattle.defmt_spelling.proofs.Wholes.{spelled_of, whole_refused}
use Rattle.defmt_spelling.proofs.arguments.read_whole.Goals as goal

pub returns-in_err-args : goal.returns-in_err-args
returns-in_err-args c =
    let p = err_from_is_err_and c.from_residual-in_err-args.result c.from_residual-in_err-args.ensures.1 in
    rw (p.1, p.2) (whole_refused c.args.names.now c.args.table.now.entries c.args.index c.args.text.now c.in_ok-pieces.pieces.now _ (sym c.in_ok-pieces.ensures) c.in_err-args.ensures.value)

pub returns : goal.returns
returns c = spelled_of c.args.names.now c.args.table.now.entries c.args.index c.args.text.now c.in_ok-pieces.pieces.now c.in_ok-args.args _ (sym c.in_ok-pieces.ensures) c.in_ok-args.ensures.value

use Rattle.std.proofs.Common.{◌∷◌, []}
use Rattle.rzcobs_core.proofs.Backwards.{NoZero-before}
use Rattle.rzcobs_core.proofs.decoder.read_last.Goals as goal

pub read_few-requires-clause-none : goal.read_few-requires-clause-none
read_few-requires-clause-none c = NoZero-before c.args.piece.now c.in_ok-code.before.now (c.in_ok-code.code.now ∷ []) c.in_ok-code.ensures.cases.0 c.requires.none

pub read_zero_after-requires-clause-none : goal.read_zero_after-requires-clause-none
read_zero_after-requires-clause-none c = NoZero-before c.args.piece.now c.in_ok-code.before.now (c.in_ok-code.code.now ∷ []) c.in_ok-code.ensures.cases.0 c.requires.none

pub read_none_zero-requires-clause-none : goal.read_none_zero-requires-clause-none
read_none_zero-requires-clause-none c = NoZero-before c.args.piece.now c.in_ok-code.before.now (c.in_ok-code.code.now ∷ []) c.in_ok-code.ensures.cases.0 c.requires.none

use Rattle.rtt_down.proofs.Turned.{kept_noted}
use Rattle.rtt_down.proofs.steered.Steered+Eight+E+EachTurn+K+Steering+K+U+D+C.close.Goals as goal

pub returns-clause-kept : goal.returns-clause-kept
returns-clause-kept g c = kept_noted _ _ _ c.note_ahead.ensures c.close-turns.ensures.kept

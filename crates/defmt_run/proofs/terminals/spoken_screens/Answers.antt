use Rattle.std.proofs.Common.{◌++◌, ◌∙◌, List, ap, sym, ℕ}
use Rattle.defmt_run.proofs.terminals.spoken_screens.Goals as goal

pub screens_of-requires-clause-spoken : goal.screens_of-requires-clause-spoken
screens_of-requires-clause-spoken c =
    c.as_slice-3.ensures ∙ c.in_ok-sent.ensures ∙ ap (λ (l : List ℕ). l ++ c.as_slice-2.result.now) c.as_slice.ensures
    ∙ ap (λ (l : List ℕ). c.args.talk.now.captured.items ++ l) c.as_slice-2.ensures
    ∙ sym c.requires.whole ∙ c.requires.sends

use Rattle.std.proofs.Common.{◌≡◌, ◌++◌, List, subst, ℕ}
use Rattle.std.specs.Prelude.{IfOk}
use Rattle.dl_io.specs.Buffer.{Buffer}
use Rattle.defmt_print.specs.Terminals.{screen_lines}
use Rattle.defmt_run.proofs.terminals.with_spoken.Goals as goal

pub returns : goal.returns
returns c =
    subst (λ (screens : List (List (List ℕ))). IfOk c.with_screens.result (λ (out : Buffer). out.items ≡ c.args.lines.items ++ screen_lines screens))
    c.in_ok-screens.ensures c.with_screens.ensures

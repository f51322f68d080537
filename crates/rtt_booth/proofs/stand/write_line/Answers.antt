use Rattle.std.proofs.Common.{◌++◌, take, sym, ap, ◌∙◌}
use Rattle.std.proofs.lemmas.List.{take_at}
use Rattle.rtt_booth.specs.Kept.{line_from}
use Rattle.rtt_terminal.specs.Stream.{line_bytes, switch}
use Rattle.rtt_booth.proofs.stand.write_line.Goals as goal

pub returns-clause-line : goal.returns-clause-line
unfolding line_from
returns-clause-line c =
    ap (take c.speak.result) c.speak.ensures.line
    ∙ take_at (switch c.args.current c.args.terminal ++ line_bytes c.args.text.now) _ c.speak.result (sym c.speak.ensures.count)

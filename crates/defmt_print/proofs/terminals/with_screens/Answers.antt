use Rattle.std.proofs.Common.{◌≡◌, ◌++◌, ℕ, sym, ◌∙◌, ap, arith}
use Rattle.std.proofs.lemmas.List.{append-nil}
use Rattle.defmt_print.specs.Terminals.{terminals_below}
use Rattle.defmt_print.proofs.Texts.{one_terminal}
use Rattle.defmt_print.proofs.terminals.with_screens.Goals as goal

pub loop-terminal-init : goal.loop-terminal-init
loop-terminal-init c = sym (append-nil c.args.lines.items)

pub loop-terminal-preserved : goal.loop-terminal-preserved
loop-terminal-preserved c =
    one_terminal c.args.lines.items c.loop-terminal.out.items c.add_terminal.new.out.items c.args.screens.now c.loop-terminal.terminal
    c.loop-terminal.invariant c.in_ok-add_terminal.ensures

pub returns : goal.returns
returns c =
    let all : c.loop-terminal.terminal ≡ 16 = omega (arith, c.loop-terminal-test.false, c.loop-terminal.auto.terminal-end) in
    c.loop-terminal.invariant ∙ ap (λ (n : ℕ). c.args.lines.items ++ terminals_below n c.args.screens.now) all

use Rattle.std.proofs.Common.{◌+◌, List, ℕ, length, refl, ap, ◌∙◌, arith}
use Rattle.rtt_terminal.specs.Stream.{switch}
use Rattle.rtt_terminal.specs.Writing.{with_bytes}
use Rattle.rtt_terminal.proofs.Written.{short_switch, three_parts}
use Rattle.rtt_terminal.proofs.speaking.speak.Goals as goal

pub returns-clause-line : goal.returns-clause-line
returns-clause-line c =
    let text = c.put.ensures ∙ ap (λ (l : List ℕ). with_bytes c.put_switch-begin.new.out c.put_switch-begin.result l) c.as_bytes.ensures.value in
    three_parts c.args.out.now c.put_switch-begin.new.out c.put.new.out c.put-2.new.out (switch c.args.current c.args.terminal) c.args.text.now c.put_switch-begin.result (c.put_switch-begin.result + length c.args.text.now)
    c.put_switch-begin.ensures.bytes c.put_switch-begin.ensures.count text refl c.put-2.ensures

pub returns-clause-short : goal.returns-clause-short
returns-clause-short c = omega (arith, c.put_switch-begin.ensures.count, short_switch c.args.current c.args.terminal, c.requires.text.short)

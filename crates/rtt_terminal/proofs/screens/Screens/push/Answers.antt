use Rattle.std.proofs.Common.{◌≡◌, arith}
use Rattle.rtt_terminal.proofs.ScreenLaws.{few_here, few_pushed, few_set}
use Rattle.rtt_terminal.proofs.screens.Screens.push.Goals as goal

pub invariant_of-self : goal.invariant_of-self
invariant_of-self c =
    let same : c.args.self.now ≡ c.self.inside.screens.items = cc in
    let few = few_here c.args.self.now c.self.inside.screens.items c.args.terminal c.from.result c.index_mut.result.now same c.from.ensures (omega (arith, c.from.ensures, c.requires.terminal, c.self.invariant.0)) c.index_mut.ensures.value c.requires.few in
    few_set c.self.inside.screens.items c.from.result c.push.new.self c.self.invariant.0 c.self.invariant.1 (few_pushed c.push.result c.index_mut.result.now c.push.new.self c.args.text.now c.push.ensures.ok c.push.ensures.err few)

use Rattle.std.proofs.Common.{◌<◌, length, sym, subst, List, ℕ, arith}
use Rattle.std.proofs.lemmas.List.{length-take}
use Rattle.rtt_booth.proofs.Spoken.{some_line}
use Rattle.rtt_booth.proofs.stand.send_line.Goals as goal

pub block-requires-clause-frame : goal.block-requires-clause-frame
block-requires-clause-frame g c =
    let some = some_line c.args.current c.args.terminal c.args.text.now in (
      subst (λ (l : List ℕ). 0 < length l) (sym c.write_line-count.ensures.line) some,
      simp length-take (omega (arith, c.write_line-count.auto.buffer, c.requires.buffer)),
    )

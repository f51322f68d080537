use Rattle.std.proofs.Common.{◌++◌, List, sym, ap, ◌∙◌, arith, append_assoc, append-nil}
use Rattle.elf_section.specs.Symbol.{plain, plain_all}
use Rattle.elf_section.specs.Written.{Row, listed, listed_all, names}
use Rattle.elf_section.proofs.WritingLaws.{item, rows_of, all_taken, names_next}
use Rattle.elf_section.proofs.writing.push_names.Goals as goal

pub loop-symbol-preserved : goal.loop-symbol-preserved
loop-symbol-preserved c =
    let i' = item c.args.symbols.now c.loop-symbol.symbol-index c.symbol-item.result (omega arith) c.symbol-item.is in
    let n' = rows_of c.args.symbols.now in
    let next = names_next (listed_all (plain_all c.args.symbols.now)) c.loop-symbol.symbol-index (listed (plain c.symbol-item.result)) (omega (arith, n')) i' in
    rw (c.in_ok-push.ensures.ok, c.in_ok-extend_from_slice.ensures.ok, c.as_slice.ensures, c.loop-symbol.invariant, next) (simp append_assoc)

pub loop-symbol-init : goal.loop-symbol-init
loop-symbol-init c = sym (append-nil c.args.out.now.items)

pub returns : goal.returns
returns c = c.loop-symbol.invariant ∙ ap (λ (t : List Row). c.args.out.now.items ++ names t) (all_taken c.args.symbols.now c.loop-symbol.symbol-index (omega arith))

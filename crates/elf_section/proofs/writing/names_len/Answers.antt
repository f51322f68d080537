use Rattle.std.proofs.Common.{◌≡◌, List, ap, ◌∙◌, arith, length}
use Rattle.elf_section.specs.Symbol.{plain, plain_all}
use Rattle.elf_section.specs.Written.{Row, listed, listed_all, names}
use Rattle.elf_section.proofs.WritingLaws.{item, rows_of, all_taken, names_short, names_len_next, names_room}
use Rattle.elf_section.proofs.writing.names_len.Goals as goal

pub overflow_cast-len : goal.overflow_cast-len
overflow_cast-len c =
    let i' = item c.args.symbols.now c.loop-symbol.symbol-index c.symbol-item.result (omega arith) c.symbol-item.is in
    let n' = rows_of c.args.symbols.now in
    let r = names_room (listed_all (plain_all c.args.symbols.now)) c.loop-symbol.symbol-index (listed (plain c.symbol-item.result)) (omega (arith, n')) i' in
    let n = c.as_slice.ensures in
    let len : length c.as_slice.result.now ≡ length c.symbol-item.result.name.items = ap length n in
    let short = names_short (plain_all c.args.symbols.now) c.requires in
    let i = c.loop-symbol.invariant in
    omega (arith, r, len, short, i)

pub overflow_add-len : goal.overflow_add-len
overflow_add-len c =
    let i' = item c.args.symbols.now c.loop-symbol.symbol-index c.symbol-item.result (omega arith) c.symbol-item.is in
    let n' = rows_of c.args.symbols.now in
    let r = names_room (listed_all (plain_all c.args.symbols.now)) c.loop-symbol.symbol-index (listed (plain c.symbol-item.result)) (omega (arith, n')) i' in
    let n = c.as_slice.ensures in
    let len : length c.as_slice.result.now ≡ length c.symbol-item.result.name.items = ap length n in
    let short = names_short (plain_all c.args.symbols.now) c.requires in
    let i = c.loop-symbol.invariant in
    omega (arith, r, len, short, i)

pub overflow_add-len-in-loop-symbol : goal.overflow_add-len-in-loop-symbol
overflow_add-len-in-loop-symbol c =
    let i' = item c.args.symbols.now c.loop-symbol.symbol-index c.symbol-item.result (omega arith) c.symbol-item.is in
    let n' = rows_of c.args.symbols.now in
    let r = names_room (listed_all (plain_all c.args.symbols.now)) c.loop-symbol.symbol-index (listed (plain c.symbol-item.result)) (omega (arith, n')) i' in
    let n = c.as_slice.ensures in
    let len : length c.as_slice.result.now ≡ length c.symbol-item.result.name.items = ap length n in
    let short = names_short (plain_all c.args.symbols.now) c.requires in
    let i = c.loop-symbol.invariant in
    omega (arith, r, len, short, i)

pub loop-symbol-preserved : goal.loop-symbol-preserved
loop-symbol-preserved c =
    let i' = item c.args.symbols.now c.loop-symbol.symbol-index c.symbol-item.result (omega arith) c.symbol-item.is in
    let n' = rows_of c.args.symbols.now in
    let more = names_len_next (listed_all (plain_all c.args.symbols.now)) c.loop-symbol.symbol-index (listed (plain c.symbol-item.result)) (omega (arith, n')) i' in
    let n = c.as_slice.ensures in
    let len : length c.as_slice.result.now ≡ length c.symbol-item.result.name.items = ap length n in
    let i = c.loop-symbol.invariant in
    omega (arith, more, len, i)

pub returns : goal.returns
returns c = c.loop-symbol.invariant ∙ ap (λ (t : List Row). length (names t)) (all_taken c.args.symbols.now c.loop-symbol.symbol-index (omega arith))

use Rattle.std.proofs.Common.{◌≤◌, ◌≡◌, ◌++◌, List, sym, ap, ◌∙◌, arith, length, append_assoc, append-nil}
use Rattle.elf_section.specs.Symbol.{plain, plain_all}
use Rattle.elf_section.specs.Written.{Row, listed, listed_all, entries}
use Rattle.elf_section.proofs.WritingLaws.{all_at, item, item_there, rows_of, all_taken, names_short, names_len_next, names_room, entries_next}
use Rattle.elf_section.proofs.writing.push_list.Goals as goal

pub overflow_cast-at : goal.overflow_cast-at
overflow_cast-at c =
    let i' = item c.args.symbols.now c.loop-symbol.symbol-index c.symbol-item.result (omega arith) c.symbol-item.is in
    let n' = rows_of c.args.symbols.now in
    let r = names_room (listed_all (plain_all c.args.symbols.now)) c.loop-symbol.symbol-index (listed (plain c.symbol-item.result)) (omega (arith, n')) i' in
    let n = c.as_slice.ensures in
    let len : length c.as_slice.result.now ≡ length c.symbol-item.result.name.items = ap length n in
    let short = names_short (plain_all c.args.symbols.now) c.requires.writable in
    let i = c.loop-symbol.invariant.1 in
    omega (arith, r, len, short, i)

pub overflow_add-at : goal.overflow_add-at
overflow_add-at c =
    let i' = item c.args.symbols.now c.loop-symbol.symbol-index c.symbol-item.result (omega arith) c.symbol-item.is in
    let n' = rows_of c.args.symbols.now in
    let r = names_room (listed_all (plain_all c.args.symbols.now)) c.loop-symbol.symbol-index (listed (plain c.symbol-item.result)) (omega (arith, n')) i' in
    let n = c.as_slice.ensures in
    let len : length c.as_slice.result.now ≡ length c.symbol-item.result.name.items = ap length n in
    let short = names_short (plain_all c.args.symbols.now) c.requires.writable in
    let i = c.loop-symbol.invariant.1 in
    omega (arith, r, len, short, i)

pub overflow_add-at-in-loop-symbol : goal.overflow_add-at-in-loop-symbol
overflow_add-at-in-loop-symbol c =
    let i' = item c.args.symbols.now c.loop-symbol.symbol-index c.symbol-item.result (omega arith) c.symbol-item.is in
    let n' = rows_of c.args.symbols.now in
    let r = names_room (listed_all (plain_all c.args.symbols.now)) c.loop-symbol.symbol-index (listed (plain c.symbol-item.result)) (omega (arith, n')) i' in
    let n = c.as_slice.ensures in
    let len : length c.as_slice.result.now ≡ length c.symbol-item.result.name.items = ap length n in
    let short = names_short (plain_all c.args.symbols.now) c.requires.writable in
    let i = c.loop-symbol.invariant.1 in
    omega (arith, r, len, short, i)

pub loop-symbol-preserved : goal.loop-symbol-preserved
loop-symbol-preserved c =
    let i' = item c.args.symbols.now c.loop-symbol.symbol-index c.symbol-item.result (omega arith) c.symbol-item.is in
    let n' = rows_of c.args.symbols.now in
    let next = entries_next c.args.first (listed_all (plain_all c.args.symbols.now)) c.loop-symbol.symbol-index (listed (plain c.symbol-item.result)) (omega (arith, n')) i' in
    let more = names_len_next (listed_all (plain_all c.args.symbols.now)) c.loop-symbol.symbol-index (listed (plain c.symbol-item.result)) (omega (arith, n')) i' in
    let n = c.as_slice.ensures in
    let len : length c.as_slice.result.now ≡ length c.symbol-item.result.name.items = ap length n in
    let i = c.loop-symbol.invariant.1 in
    (rw (c.in_ok-push_symbol.ensures, c.loop-symbol.invariant.0, next, ← c.loop-symbol.invariant.1) (simp append_assoc), omega (arith, more, len, i))

pub overflow_cast-symbol : goal.overflow_cast-symbol
overflow_cast-symbol c =
    let there = item_there c.args.symbols.now c.loop-symbol.symbol-index c.symbol-item.result (omega arith) c.symbol-item.is in
    let small = all_at (λ s. s.value ≤ 65535) (plain_all c.args.symbols.now) c.loop-symbol.symbol-index (plain c.symbol-item.result) c.requires.writable.small there in
    omega (arith, small)

pub loop-symbol-init : goal.loop-symbol-init
loop-symbol-init c = (sym (append-nil c.args.out.now.items), omega arith)

pub returns : goal.returns
returns c = c.loop-symbol.invariant.0 ∙ ap (λ (t : List Row). c.args.out.now.items ++ entries c.args.first t) (all_taken c.args.symbols.now c.loop-symbol.symbol-index (omega arith))

use Rattle.std.proofs.Common.{◌≡◌, sym, refl, arith, length, ◌+◌, ◌*◌, ℕ, List, subst}
use Rattle.elf_section.specs.Listed.{Carries}
use Rattle.elf_section.specs.Symbol.{PlainSymbol, plain_all}
use Rattle.elf_section.specs.Written.{rows, names, braced}
use Rattle.elf_section.proofs.ReadSymbols.{written_is_read, braced_keep, braced_all}
use Rattle.elf_section.proofs.WritingLaws.{written_is, names_short, rows_names_len}
use Rattle.elf_section.proofs.writing.write_symbols.Goals as goal

pub returns-clause-bytes : goal.returns-clause-bytes
returns-clause-bytes c =
    let xs : List PlainSymbol = plain_all c.args.list.now in
    let n : ℕ = c.count_of-count.result in
    let s : ℕ = 1 + c.markers_len-front.result + c.names_len.result in
    let counted : n ≡ length (rows c.args.profile xs) = c.count_of-count.ensures.value in
    let summed : s ≡ 1 + length (names (rows c.args.profile xs)) = omega (arith, c.markers_len-front.ensures.value, c.names_len.ensures, rows_names_len c.args.profile xs) in
    written_is (rows c.args.profile xs) (52 + 16 + 16 * n + s) (length (rows c.args.profile xs)) s c.push_parts.new.out.items refl summed (omega (arith, counted))
    (rw (c.in_ok-push_parts.ensures, c.in_ok-reserve.ensures.items, c.new-file.ensures.items) refl)

pub returns-clause-read_back : goal.returns-clause-read_back
returns-clause-read_back c = λ keeps. subst (λ (f : List ℕ). Carries f (braced (plain_all c.args.list.now)) c.args.profile) (sym (returns-clause-bytes c)) (written_is_read c.args.profile (plain_all c.args.list.now) c.requires keeps)

pub returns-clause-read_back_whole : goal.returns-clause-read_back_whole
returns-clause-read_back_whole c = λ all. subst (λ (xs : List PlainSymbol). Carries c.push_parts.new.out.items xs c.args.profile) (braced_all (plain_all c.args.list.now) all) (returns-clause-read_back c (braced_keep c.args.profile (plain_all c.args.list.now) all))

pub overflow_add-strings-2 : goal.overflow_add-strings-2
overflow_add-strings-2 c =
    let s = c.names_len.ensures in
    let n = names_short (plain_all c.args.list.now) c.requires in
    let m = c.markers_len-front.ensures.small in
    let k = c.count_of-count.ensures.small in
    omega (arith, s, n, m, k)

pub overflow_add-names_at-3 : goal.overflow_add-names_at-3
overflow_add-names_at-3 c =
    let s = c.names_len.ensures in
    let n = names_short (plain_all c.args.list.now) c.requires in
    let m = c.markers_len-front.ensures.small in
    let k = c.count_of-count.ensures.small in
    omega (arith, s, n, m, k)

pub overflow_add-padding : goal.overflow_add-padding
overflow_add-padding c =
    let s = c.names_len.ensures in
    let n = names_short (plain_all c.args.list.now) c.requires in
    let m = c.markers_len-front.ensures.small in
    let k = c.count_of-count.ensures.small in
    omega (arith, s, n, m, k)

pub overflow_add-sections_at : goal.overflow_add-sections_at
overflow_add-sections_at c =
    let s = c.names_len.ensures in
    let n = names_short (plain_all c.args.list.now) c.requires in
    let m = c.markers_len-front.ensures.small in
    let k = c.count_of-count.ensures.small in
    omega (arith, s, n, m, k)

pub overflow_add-sections_at-2 : goal.overflow_add-sections_at-2
overflow_add-sections_at-2 c =
    let s = c.names_len.ensures in
    let n = names_short (plain_all c.args.list.now) c.requires in
    let m = c.markers_len-front.ensures.small in
    let k = c.count_of-count.ensures.small in
    omega (arith, s, n, m, k)

pub push_parts-requires-clause-strings : goal.push_parts-requires-clause-strings
push_parts-requires-clause-strings c =
    let s = c.names_len.ensures in
    let n = names_short (plain_all c.args.list.now) c.requires in
    let m = c.markers_len-front.ensures.small in
    let k = c.count_of-count.ensures.small in
    omega (arith, s, n, m, k)

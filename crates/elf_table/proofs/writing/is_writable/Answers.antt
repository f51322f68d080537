use Rattle.std.proofs.Common.{◌≡◌, ◌++◌, ◌∷◌, ℕ, Bor, List, ap, ◌∙◌, map as map_list, sym, arith, rules}
use Rattle.defmt_intern.specs.Entries as map
use Rattle.std.proofs.lemmas.Map.Iter.{rest_more, rest_so_far}
use Rattle.defmt_intern.specs.declared.entry.Entry.{Entry}
use Rattle.elf_table.proofs.ListedLaws.{item_of, size_within}
use Rattle.elf_table.proofs.writing.is_writable.Goals as goal

pub returns-in-None-left_behind : goal.returns-in-None-left_behind
returns-in-None-left_behind c =
    let x : ℕ × Bor Entry = (c.in-Some.field-0-0, c.in-Some.entry) in
    let next : c.loop-entry.entry-iterator ≡ item_of x ∷ c.next.new.self = rest_more item_of _ _ c.next.result x c.in-Some.is c.next.ensures.steps in
    let begun : c.into_iter-entry-iterator.result ≡ map.entries c.args.table.now.entries = search rules in
    let split : map.entries c.args.table.now.entries ≡ map_list item_of c.loop-entry.yielded ++ item_of x ∷ c.next.new.self =
    sym begun ∙ rest_so_far item_of c.loop-entry.yielded _ _ c.loop-entry.yielded_by ∙ ap (λ (es : List (ℕ × Entry)). map_list item_of c.loop-entry.yielded ++ es) next in
    let within = size_within c.args.table.now.entries (map_list item_of c.loop-entry.yielded) (item_of x) c.next.new.self split in
    ((λ f. absurd cc), λ le. absurd (c.in-None-left_behind.ensures (omega (arith, within, le, c.loop-entry.invariant.left))))

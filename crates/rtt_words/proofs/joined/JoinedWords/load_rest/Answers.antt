use Rattle.std.proofs.Common.{◌+◌, sym, ap, ◌∙◌, div-add-mod', arith}
use Rattle.std.specs.Arc.{arc_value}
use Rattle.rtt_words.proofs.WordSteps.{both_loads_rest}
use Rattle.rtt_words.proofs.joined.JoinedWords.load_rest.Goals as goal

pub load-requires : goal.load-requires
load-requires c =
    let k = c.args.self.now.kept in
    let e = c.deref.ensures in
    let r = c.requires in
    let key = k.sized in
    let words = ap (λ t. t.shared.table_id.words) e ∙ k.table.words in
    (k.table.seated ∙ sym (ap (λ t. t.shared.table_id) e), omega (arith, div-add-mod' ((arc_value c.args.self.now.table).shared.key + 7) 8), both_loads_rest _ _ _ _ _ k.is_both)

use Rattle.std.proofs.Common.{◌≡◌, sym, ap, ◌∙◌, arith}
use Rattle.rtt_words.proofs.Keeps.{same_table}
use Rattle.rtt_words.proofs.WordSteps.{joins}
use Rattle.rtt_words.proofs.joined.JoinedWords.join.Goals as goal

pub join_seat-requires : goal.join_seat-requires
join_seat-requires c =
    let k = c.args.up.kept in
    let j = c.args.down.kept in
    let e = c.deref.ensures in
    let w = k.table.words in
    let mine : c.args.up.seat.table_id ≡ c.deref.result.now.shared.table_id = k.table.seated ∙ sym (ap (λ t. t.shared.table_id) e) in
    let theirs : c.args.down.seat.table_id ≡ c.deref.result.now.shared.table_id = sym (same_table _ _ _ _ c.requires) ∙ mine in
    let table = ap (λ t. t.shared.table_id.words) e in
    (mine, theirs, ap (λ m. m.1) j.is_down, omega arith, joins _ _ _ _ _ (ap (λ m. m.0) k.is_up) (ap (λ m. m.0) j.is_down))

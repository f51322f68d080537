use Rattle.std.proofs.Common.{◌/◌, rules, ◌≡◌, ℕ, ◌+◌, List, [], length, replicate, sym, ap, ◌∙◌, subst, arith}
use lib.ListN.{length-replicate}
use Rattle.atomic_table.specs.Table.{opening}
use Rattle.rtt_words.specs.WordRule.{Kept, fresh}
use Rattle.rtt_words.proofs.WordMoves.{opens}
use Rattle.rtt_words.proofs.WordSteps.{blank, splits_fresh}
use Rattle.rtt_words.proofs.joined.JoinedWords.split.Goals as goal

pub of_words-requires : goal.of_words-requires
of_words-requires c =
    let z = c.args.size in
    let is : c.as_slice.result.now ≡ replicate ((c.args.size + 7) / 8 + 2) 0 = c.as_slice.ensures.value ∙ c.in_ok-words.ensures.items_if_clones_equal (λ y e. e) in
    let r = c.requires in
    subst (λ (ws : List ℕ). Kept z (opening ws [] (fresh z))) (sym is) (opens z (replicate ((c.args.size + 7) / 8 + 2) 0) (omega arith) (length-replicate ((c.args.size + 7) / 8 + 2) 0) (blank ((c.args.size + 7) / 8 + 2)))

pub split_seat-lower-requires : goal.split_seat-lower-requires
split_seat-lower-requires c =
    let e = c.in_ok-table.ensures in
    let is : length c.as_slice.result.now ≡ (c.args.size + 7) / 8 + 2 = ap length (c.as_slice.ensures.value ∙ c.in_ok-words.ensures.items_if_clones_equal (λ y e. e)) ∙ length-replicate ((c.args.size + 7) / 8 + 2) 0 in
    (search rules, omega arith, splits_fresh _ _ c.args.size _ (ap (λ m. m.0) e.4))

use Rattle.std.proofs.Common.{rules, ◌≡◌, ◌%◌, length, refl, sym, ap, ◌∙◌, arith}
use Rattle.rtt_words.specs.WordRule.{lower_of}
use Rattle.rtt_words.proofs.Keeps.{same_name, lower_keeps, is_released}
use Rattle.rtt_words.proofs.WordSteps.{down_stores_rd_off}
use Rattle.rtt_words.proofs.down.DownWords.store_rd_off.Goals as goal

pub store-requires : goal.store-requires
store-requires c =
    let k = c.args.self.now.kept in
    let e = c.deref.ensures in
    let w = k.table.words in
    let key : c.deref.result.now.shared.key ≡ (lower_of c.args.self.now.seat.me.0).size = ap (λ t. t.shared.key) e ∙ sym k.sized in
    let table = ap (λ t. t.shared.table_id.words) e in
    (search rules, omega arith, down_stores_rd_off _ _ _ _ _ k.is_down (c.from.ensures ∙ c.requires ∙ ap (λ x. length (lower_of c.args.self.now.seat.me.0).got % x) (sym key)))

pub invariant_of-self : goal.invariant_of-self
invariant_of-self c =
    let s = c.store.ensures in
    let f = s.2 in
    record { kept = lower_keeps _ _ _ _ _ _ c.args.self.now.kept s.0 _ f.1 refl refl refl refl }

pub returns-clause-name : goal.returns-clause-name
returns-clause-name c =
    let s = c.store.ensures in
    same_name _ _ _ _ (ap (λ m. (lower_of m.0).size) s.2.1) s.0

pub returns-clause-released : goal.returns-clause-released
returns-clause-released c =
    let f = c.store.ensures.2 in
    is_released _ _ f.0 (ap (λ m. lower_of m.0) f.1) f.2

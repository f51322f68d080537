use Rattle.std.proofs.Common.{rules, ◌≡◌, ◌+◌, ◌%◌, length, refl, sym, ap, ◌∙◌, arith}
use Rattle.rtt_words.specs.WordRule.{upper_of}
use Rattle.rtt_words.proofs.Keeps.{same_name, upper_keeps, is_published}
use Rattle.rtt_words.proofs.WordSteps.{up_stores_wr_off}
use Rattle.rtt_words.proofs.up.UpWords.store_wr_off.Goals as goal

pub store-requires : goal.store-requires
store-requires c =
    let k = c.args.self.now.kept in
    let e = c.deref.ensures in
    let w = k.table.words in
    let key : c.deref.result.now.shared.key ≡ (upper_of c.args.self.now.seat.me.0).size = ap (λ t. t.shared.key) e ∙ sym k.sized in
    let table = ap (λ t. t.shared.table_id.words) e in
    (search rules, omega arith, up_stores_wr_off _ _ _ _ _ k.is_up (c.from.ensures ∙ c.requires ∙ ap (λ x. (length (upper_of c.args.self.now.seat.me.0).sent + length (upper_of c.args.self.now.seat.me.0).staged) % x) (sym key)))

pub invariant_of-self : goal.invariant_of-self
invariant_of-self c =
    let s = c.store.ensures in
    let f = s.2 in
    record { kept = upper_keeps _ _ _ _ _ _ c.args.self.now.kept s.0 _ f.1 refl refl refl refl }

pub returns-clause-name : goal.returns-clause-name
returns-clause-name c =
    let s = c.store.ensures in
    same_name _ _ _ _ (ap (λ m. (upper_of m.0).size) s.2.1) s.0

pub returns-clause-published : goal.returns-clause-published
returns-clause-published c =
    let f = c.store.ensures.2 in
    is_published _ _ f.0 (ap (λ m. upper_of m.0) f.1) f.2

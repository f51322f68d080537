use Rattle.std.proofs.Common.{◌+◌, ◌<◌, length, refl, sym, ap, ◌∙◌, div-add-mod', arith, mod-lt}
use Rattle.std.specs.Arc.{arc_value}
use Rattle.atomic_table.specs.Table.{Me}
use Rattle.rtt_words.specs.WordRule.{upper_of, put_bytes}
use Rattle.rtt_words.specs.declared.view.View.{View}
use Rattle.rtt_words.specs.declared.view.View.TheVariants.{Up}
use Rattle.rtt_words.proofs.Keeps.{same_name, upper_keeps}
use Rattle.rtt_words.proofs.up.UpWords.store_bytes.Goals as goal

pub store_lanes-requires-clause-table : goal.store_lanes-requires-clause-table
store_lanes-requires-clause-table c =
    let k = c.args.self.now.kept in
    let e = c.deref.ensures in
    let b = k.table.big in
    let key = k.sized in
    let p = c.requires.place in
    let r = c.requires.room in
    let words = ap (λ t. t.shared.table_id.words) e ∙ k.table.words in
    let pos : 0 < (upper_of c.args.self.now.seat.me.0).size = omega arith in
    let lt = mod-lt (length (upper_of c.args.self.now.seat.me.0).sent + length (upper_of c.args.self.now.seat.me.0).staged) pos in
    (k.table.seated ∙ sym (ap (λ t. t.shared.table_id) e), omega (arith, div-add-mod' ((arc_value c.args.self.now.table).shared.key + 7) 8), omega arith)

pub invariant_of-self : goal.invariant_of-self
invariant_of-self c =
    let k = c.args.self.now.kept in
    let s = c.store_lanes.ensures in
    let v = put_bytes (upper_of c.args.self.now.seat.me.0) c.args.bytes.now in
    let bare = ap (λ (m : Me (Unit {0}) View). m.1) k.is_up in
    record { kept = upper_keeps _ _ _ _ _ _ k s.0 v (s.1 ∙ ap (λ l. (Up v, l)) (sym bare)) refl refl refl refl }

pub returns-clause-name : goal.returns-clause-name
returns-clause-name c =
    let s = c.store_lanes.ensures in
    same_name _ _ _ _ (ap (λ m. (upper_of m.0).size) s.1) s.0

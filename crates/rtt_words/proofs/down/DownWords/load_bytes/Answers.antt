use Rattle.std.proofs.Common.{◌+◌, ◌%◌, ◌<◌, length, refl, sym, ap, ◌∙◌, div-add-mod', arith, mod-lt}
use Rattle.std.specs.Arc.{arc_value}
use Rattle.atomic_table.specs.Table.{Me}
use Rattle.rtt_words.specs.WordRule.{lower_of, took_bytes, next_bytes}
use Rattle.rtt_words.specs.declared.view.View.{View}
use Rattle.rtt_words.specs.declared.view.View.TheVariants.{Down}
use Rattle.rtt_words.proofs.Keeps.{same_name, lower_keeps}
use Rattle.rtt_words.proofs.down.DownWords.load_bytes.Goals as goal

pub load_lanes-requires-clause-table : goal.load_lanes-requires-clause-table
load_lanes-requires-clause-table c =
    let k = c.args.self.now.kept in
    let e = c.deref.ensures in
    let b = k.table.big in
    let key = k.sized in
    let p = c.requires.place in
    let words = ap (λ t. t.shared.table_id.words) e ∙ k.table.words in
    let pos : 0 < (lower_of c.args.self.now.seat.me.0).size = omega arith in
    let lt = mod-lt (length (lower_of c.args.self.now.seat.me.0).got) pos in
    (k.table.seated ∙ sym (ap (λ t. t.shared.table_id) e), omega (arith, div-add-mod' (length (lower_of c.args.self.now.seat.me.0).got % (lower_of c.args.self.now.seat.me.0).size) 8, div-add-mod' ((arc_value c.args.self.now.table).shared.key + 7) 8), omega (arith, div-add-mod' (length (lower_of c.args.self.now.seat.me.0).got % (lower_of c.args.self.now.seat.me.0).size) 8))

pub invariant_of-self : goal.invariant_of-self
invariant_of-self c =
    let k = c.args.self.now.kept in
    let s = c.load_lanes.ensures in
    let D = lower_of c.args.self.now.seat.me.0 in
    let v = took_bytes D (next_bytes D c.args.count c.load_lanes.result) in
    let bare = ap (λ (m : Me (Unit {0}) View). m.1) k.is_down in
    record { kept = lower_keeps _ _ _ _ _ _ k s.0 v (s.1 ∙ ap (λ l. (Down v, l)) (sym bare)) refl refl refl refl }

pub returns-clause-name : goal.returns-clause-name
returns-clause-name c =
    let s = c.load_lanes.ensures in
    same_name _ _ _ _ (ap (λ m. (lower_of m.0).size) s.1) s.0

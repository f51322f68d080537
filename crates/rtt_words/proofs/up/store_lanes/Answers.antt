use Rattle.std.proofs.Common.{rules, ℕ, List, ◌+◌, arith, subst}
use mathlib.Core.Option.{none}
use Rattle.atomic_table.specs.Table.{step, Allows}
use Rattle.rtt_words.specs.WordRule.{Kept, stores_bytes}
use Rattle.rtt_words.proofs.WordSteps.{up_stores_bytes}
use Rattle.rtt_words.proofs.up.store_lanes.Goals as goal

pub overflow_add-word : goal.overflow_add-word
overflow_add-word g c = let t = c.requires.table.2 in record { fits = omega arith }

pub store-requires : goal.store-requires
store-requires g c =
    let t = c.requires.table in
    let p = c.requires.place in
    let r = c.requires.room in
    let z = c.args.shared.now.key in
    let m = c.args.seat.now.me in
    let may = up_stores_bytes z c.args.shared.now.table_id.slots c.args.seat.now.id m c.args.word c.args.lane c.args.old c.with_lanes.result c.args.bytes.now c.requires.seat.0 c.requires.seat.1 p.0 p.2 (omega (arith, p.0, r.0)) r.1 c.with_lanes.ensures (λ t h. search rules) in (
      t.0,
      t.1,
      subst (λ (bs : List ℕ). Allows (Kept {S = Unit {0}} z) c.args.shared.now.table_id.slots c.args.seat.now.id m (c.args.word + 2) (λ _. c.with_lanes.result) (λ _. stores_bytes bs (step c.args.shared.now.table_id.slots (c.args.word + 2) c.with_lanes.result 0 none) m c.with_lanes.result)) c.requires.bytes may,
    )

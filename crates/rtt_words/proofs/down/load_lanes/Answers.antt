use Rattle.std.proofs.Common.{ℕ, ◌+◌, ap, subst}
use mathlib.Core.Option.{none}
use Rattle.atomic_table.specs.Table.{step, Allows}
use Rattle.rtt_words.specs.WordRule.{Kept, loads_bytes}
use Rattle.rtt_words.proofs.WordSteps.{down_loads_bytes}
use Rattle.rtt_words.proofs.down.load_lanes.Goals as goal

pub load-requires : goal.load-requires
load-requires g c =
    let t = c.requires.table in
    let p = c.requires.place in
    let z = c.args.shared.now.key in
    let m = c.args.seat.now.me in
    let may = down_loads_bytes z c.args.shared.now.table_id.slots c.args.seat.now.id m (c.args.word + 2) c.args.count c.requires.seat.0 c.requires.seat.1 (ap (λ x. x + 2) p.0) p.1 p.2 c.requires.found in (
      t.0,
      t.1,
      subst (λ (n : ℕ). Allows (Kept {S = Unit {0}} z) c.args.shared.now.table_id.slots c.args.seat.now.id m (c.args.word + 2) (λ w. w) (loads_bytes n (step c.args.shared.now.table_id.slots (c.args.word + 2) 0 0 none) m)) c.requires.count may,
    )

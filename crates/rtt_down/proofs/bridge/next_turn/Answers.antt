use Rattle.std.proofs.Common.{ℕ, ◌≡◌, ◌-◌, ◌≤◌, ◌∙◌, List, ap, length, min, refl, take, arith}
use Rattle.rtt_down.proofs.Fits.{fitting}
use Rattle.rtt_down.proofs.Turned.{stamp_is, taken_count, taken_few, turned}
use Rattle.rtt_down.specs.Levels.{level_at}
use Rattle.rtt_down.proofs.bridge.next_turn.Goals as goal

pub turn-requires-clause-place : goal.turn-requires-clause-place
turn-requires-clause-place g c =
    let f = fitting c.args.script.now (g.D.DownEnd.view c.args.down.now).got c.args.course.now c.args.writer c.requires.steers c.requires.writer c.requires.place c.lawful.ensures in
    omega (arith, f.place)

pub turn-requires-clause-room : goal.turn-requires-clause-room
turn-requires-clause-room g c =
    let f = fitting c.args.script.now (g.D.DownEnd.view c.args.down.now).got c.args.course.now c.args.writer c.requires.steers c.requires.writer c.requires.place c.lawful.ensures in
    f.room

pub turn-requires-clause-taken : goal.turn-requires-clause-taken
turn-requires-clause-taken g c =
    let f = fitting c.args.script.now (g.D.DownEnd.view c.args.down.now).got c.args.course.now c.args.writer c.requires.steers c.requires.writer c.requires.place c.lawful.ensures in
    let bytes : List ℕ = c.take-size.new.buf in
    let few : length (take c.take-size.result bytes) ≤ 192 = taken_few bytes c.take-size.result _ _ c.take-size.ensures.count c.requires.taken in
    omega (arith, f.seen_few, few)

pub returns : goal.returns
returns g c =
    let s = c.args.script.now in
    let old = c.args.course.now in
    let bytes : List ℕ = c.take-size.new.buf in
    let found : ℕ = (g.D.DownEnd.view c.take-size.new.self).found in
    let count : length (take c.take-size.result bytes) ≡ min (found - length (g.D.DownEnd.view c.args.down.now).got) 192 =
    taken_count bytes c.take-size.result (found - length (g.D.DownEnd.view c.args.down.now).got) (length c.args.taken.now) c.take-size.ensures.count c.requires.taken (omega (arith, c.requires.taken)) in
    turned s _ _ old c.turn.new.self c.args.writer c.turn.result _ _ _ c.take-size.ensures.took count c.turn.ensures.turn refl refl refl c.turn.ensures.turns
    c.turn.ensures.found c.of-found.ensures c.turn.ensures.rings
    (c.turn.ensures.steers s (g.D.DownEnd.view c.args.down.now).got c.requires.steers c.requires.place
    (c.level_at-level.ensures ∙ ap (λ (k : ℕ). level_at s c.args.writer k) c.place-place.ensures)
    (stamp_is s c.args.clock.now c.count-number.result (length old.turns.turns) c.at-stamp.result c.requires.pace c.at-stamp.ensures.stamp c.count-number.ensures)
    (omega (arith, count)))

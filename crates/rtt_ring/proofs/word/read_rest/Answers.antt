use Rattle.std.proofs.Common.{◌/◌, ◌≡◌, ℕ, ◌+◌, ◌%◌, ◌<◌, ◌++◌, length, get_or, take, sym, ap, ◌∙◌, subst, mod-lt, arith, append_assoc, length-append, length-take-le, length-drop, drop, add_assoc, div-add-mod'}
use mathlib.Core.Option.{some}
use lib.ListN.{get_elem?}
use Rattle.rtt_words.specs.declared.view.UpView.{UpView}
use Rattle.rtt_words.specs.declared.view.DownView.{DownView}
use Rattle.rtt_words.specs.Told.{joined_upper, joined_lower, FoundRest}
use Rattle.rtt_words.specs.WordRule.{StartsWith, lanes}
use Rattle.rtt_words.proofs.Fronts.{longer_fronts, lanes_long}
use Rattle.rtt_ring.proofs.WordKeeps.{left_is, whole_front, next_is, rest_bytes}
use Rattle.rtt_ring.proofs.word.read_rest.Goals as goal

pub load_rest-requires : goal.load_rest-requires
load_rest-requires c =
    let p = c.requires.places in
    let s = c.requires.size in
    let lt : c.args.from < c.args.size = subst (λ x. x < c.args.size) (sym p.2) (mod-lt _ (omega arith)) in
    omega (arith, div-add-mod' c.args.from 8)

pub load_rest-word-requires : goal.load_rest-word-requires
load_rest-word-requires c =
    let p = c.requires.places in
    let s = c.requires.size in
    let v = c.loop-done.invariant in
    let e : (joined_upper c.loop-done.words).size ≡ c.args.size = ap (λ (u : UpView). u.size) (v.0 ∙ c.load_rest.ensures.same.0) ∙ s in
    let lt : c.loop-done.at < c.args.size = subst (λ x. x < c.args.size) (sym v.3) (mod-lt _ (omega arith)) in
    omega (arith, div-add-mod' c.loop-done.at 8)

pub returns-clause-ok : goal.returns-clause-ok
returns-clause-ok c =
    let p = c.requires.places in
    let v = c.loop-done.invariant in
    let w = c.load_rest.ensures in
    let U = joined_upper c.args.words.now in
    let D = joined_lower c.args.words.now in
    let left = left_is U D c.args.size _ _ _ w.found.whole c.requires.size p.2 p.3 c.ahead-wait.ensures in
    let front : StartsWith U.sent (D.got ++ c.loop-done.rest.items) = subst (λ (x : UpView). StartsWith x.sent (D.got ++ c.loop-done.rest.items)) w.same.0 (subst (λ (x : DownView). StartsWith (joined_upper c.load_rest.new.self).sent (x.got ++ c.loop-done.rest.items)) w.same.1 v.6) in
    let long : length (D.got ++ c.loop-done.rest.items) ≡ length D.got + c.loop-done.done = length-append D.got c.loop-done.rest.items ∙ ap (λ x. length D.got + x) v.2 in
    (whole_front U.sent (D.got ++ c.loop-done.rest.items) front (omega arith), w.found.whole.0, record { published = w.found.wr_told; released = w.found.rd_told })

pub loop-done-preserved : goal.loop-done-preserved
loop-done-preserved c =
    let p = c.requires.places in
    let v = c.loop-done.invariant in
    let w = c.load_rest.ensures in
    let U = joined_upper c.args.words.now in
    let D = joined_lower c.args.words.now in
    let f = c.min-flat.ensures in
    let n = c.min-count.ensures in
    let lt8 : c.loop-done.at % 8 < 8 = mod-lt _ (omega arith) in
    let left = left_is U D c.args.size _ _ _ w.found.whole c.requires.size p.2 p.3 c.ahead-wait.ensures in
    let at : c.loop-done.at ≡ (length D.got + c.loop-done.done) % c.args.size = v.3 ∙ ap (λ (d : DownView). (length d.got + c.loop-done.done) % c.args.size) w.same.1 in
    let lt : c.loop-done.at < c.args.size = subst (λ x. x < c.args.size) (sym at) (mod-lt _ (omega arith)) in
    let word : ℕ = c.loop-done.at / 8 in
    let now : FoundRest (joined_upper c.loop-done.words) (joined_lower c.loop-done.words) word c.load_rest-word.result = c.load_rest-word.ensures.found in
    let told : FoundRest U D word c.load_rest-word.result = subst (λ (x : UpView). FoundRest x D word c.load_rest-word.result) (v.0 ∙ w.same.0) (subst (λ (x : DownView). FoundRest (joined_upper c.loop-done.words) x word c.load_rest-word.result) (v.1 ∙ w.same.1) now) in
    let bs = take c.min-count.result (drop (c.loop-done.at % 8) (lanes c.load_rest-word.result)) in
    let count : length bs ≡ c.min-count.result = length-take-le c.min-count.result (drop (c.loop-done.at % 8) (lanes c.load_rest-word.result)) (omega (arith, length-drop (c.loop-done.at % 8) (lanes c.load_rest-word.result), lanes_long c.load_rest-word.result)) in
    let are = rest_bytes U D c.args.size (length D.got + c.loop-done.done) c.loop-done.at c.min-count.result c.load_rest-word.result c.requires.size at (omega arith) (omega arith) (omega arith) (omega arith) (λ i b le e same. told.bytes i b le e (omega arith)) in
    let pushed = c.push_lanes.ensures.items in
    let long : length (D.got ++ c.loop-done.rest.items) ≡ length D.got + c.loop-done.done = length-append D.got c.loop-done.rest.items ∙ ap (λ x. length D.got + x) v.2 in
    let front : StartsWith U.sent (D.got ++ c.loop-done.rest.items) = subst (λ (x : UpView). StartsWith x.sent (D.got ++ c.loop-done.rest.items)) w.same.0 (subst (λ (x : DownView). StartsWith (joined_upper c.load_rest.new.self).sent (x.got ++ c.loop-done.rest.items)) w.same.1 v.6) in
    let more = longer_fronts U.sent (D.got ++ c.loop-done.rest.items) bs front (λ t h. subst (λ (x : ℕ). get_elem? U.sent (x + t) ≡ some (get_or bs t 0)) (sym long) (are t (omega arith))) in
    let same : (D.got ++ c.loop-done.rest.items) ++ bs ≡ D.got ++ c.push_lanes.new.rest.items = append_assoc D.got c.loop-done.rest.items bs ∙ ap (λ l. D.got ++ l) (sym pushed) in
    let longer : length c.push_lanes.new.rest.items ≡ c.loop-done.done + c.min-count.result = ap length pushed ∙ length-append c.loop-done.rest.items bs ∙ omega arith in
    let room = v.5 in
    let cap = c.push_lanes.ensures.room in (
      c.load_rest-word.ensures.same.0 ∙ v.0,
      c.load_rest-word.ensures.same.1 ∙ v.1,
      longer,
      next_is c.loop-done.at (length D.got + c.loop-done.done) c.min-count.result c.args.size _ (omega arith) at (omega arith) c.place_after-at.ensures (omega arith) ∙ ap (λ x. x % c.args.size) (add_assoc (length D.got) c.loop-done.done c.min-count.result)
          ∙ ap (λ (d : DownView). (length d.got + (c.loop-done.done + c.min-count.result)) % c.args.size) (sym w.same.1),
      omega arith,
      omega arith,
      subst (λ (x : DownView). StartsWith (joined_upper c.load_rest.new.self).sent (x.got ++ c.push_lanes.new.rest.items)) (sym w.same.1) (subst (λ (x : UpView). StartsWith x.sent (D.got ++ c.push_lanes.new.rest.items)) (sym w.same.0) (subst (StartsWith U.sent) same more)),
    )

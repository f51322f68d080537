use Rattle.std.proofs.Common.{◌≡◌, ◌-◌, ◌%◌, ◌<◌, ap, ◌∙◌, mod-lt, arith}
use Rattle.rtt_words.specs.declared.view.UpView.{UpView}
use Rattle.rtt_words.specs.Told.{upper, upper_name}
use Rattle.rtt_ring.specs.WordEnds.{up_view}
use Rattle.rtt_ring.proofs.WordKeeps.{look_room, look_keeps}
use Rattle.rtt_ring.proofs.word.up.WordUpUpEnd.look.Goals as goal

pub overflow_cast-at : goal.overflow_cast-at
overflow_cast-at c =
    let k = c.args.self.now.kept in
    let f = c.load_rd_off-at.ensures.found in
    let v : UpView = upper c.load_rd_off-at.new.self in
    let lt : v.freed % c.args.self.now.size < c.args.self.now.size = mod-lt _ (omega arith) in
    let is : c.load_rd_off-at.result ≡ v.freed % c.args.self.now.size = f.read ∙ ap (λ x. v.freed % x) k.sized in
    record { fits = omega arith }

pub invariant_of-self : goal.invariant_of-self
invariant_of-self c =
    let k = c.args.self.now.kept in
    let f = c.load_rd_off-at.ensures.found in
    let gap = look_room {v = upper c.load_rd_off-at.new.self} k _ _ c.requires f c.ahead.ensures in
    record { kept = look_keeps _ _ _ _ _ _ _ k _ _ _ _ c.requires f c.ahead.ensures (omega arith) c.saturating_add-self.ensures }

pub returns-clause-looked : goal.returns-clause-looked
returns-clause-looked c =
    let k = c.args.self.now.kept in
    let f = c.load_rd_off-at.ensures.found in
    let v : UpView = upper c.load_rd_off-at.new.self in
    let size = c.args.self.now.size in
    let room = size - 1 - c.ahead.result in
    let gap = look_room {v = v} k _ _ c.requires f c.ahead.ensures in
    let later = f.later in
    let within = f.within in
    let before = k.has_room in
    record {
      same = ap (λ n. up_view n v size room) c.load_rd_off-at.ensures.name
          ∙ ap (λ (x : UpView). up_view (upper_name c.args.self.now.words) x size room) f.same;
      load = λ _. f.load;
      later = omega arith;
      within = omega arith;
      keeps = omega arith;
      least = omega arith;
      told = λ _. omega arith;
    }

use Rattle.std.proofs.Common.{◌≡◌, ℕ, Bool, ap, ◌∙◌, refl}
use Rattle.std.specs.Prelude.{slice_index_or}
use Rattle.defmt_hooks.specs.declared.level.Level.{Level}
use Rattle.rtt_down.proofs.Next.{steers_next}
use Rattle.rtt_down.specs.Levels.{is_sent}
use Rattle.rtt_down.specs.declared.turn.Turn.{Turn}
use Rattle.rtt_down.proofs.course.Course.turn.Goals as goal

pub returns-clause-steers : goal.returns-clause-steers
returns-clause-steers c s got k more level stamp few =
    let old = c.args.self.now in
    let new = c.hear_all.new.self in
    let w = c.args.writer in
    let T : Level → ℕ → Bool → Turn = λ f n b. record { writer = w; place = slice_index_or old.places w 0; stamp = c.args.stamp; floor = f; seen = n; sent = b } in
    let is : T c.floor-floor.result c.seen.result c.is_sent.result ≡ T new.floor new.seen (is_sent c.args.level new.floor) =
    ap (λ (f : Level). T f c.seen.result c.is_sent.result) c.floor-floor.ensures
    ∙ ap (λ (n : ℕ). T new.floor n c.is_sent.result) c.seen.ensures
    ∙ ap (λ (b : Bool). T new.floor new.seen b) (c.is_sent.ensures ∙ ap (is_sent c.args.level) c.floor-floor.ensures) in
    steers_next s got c.args.taken.now old.turns c.push_reserved.new.self old.places _ old.heard.ear new.ear old.heard.seen new.seen old.heard.floor new.floor w c.args.stamp c.args.level
    (T c.floor-floor.result c.seen.result c.is_sent.result) k (c.hear_all.ensures.heard got k.heard) c.requires.writer is c.push_reserved.ensures.turns c.push_reserved.ensures.room refl more level stamp few

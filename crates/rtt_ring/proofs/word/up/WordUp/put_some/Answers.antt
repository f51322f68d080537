use Rattle.std.proofs.Common.{◌≡◌, ℕ, ◌+◌, ◌%◌, ◌<◌, length, take, min, sym, ap, ◌∙◌, subst, mod-lt, div-add-mod', length-take-le, arith}
use Rattle.rtt_words.specs.declared.view.UpView.{UpView}
use Rattle.rtt_words.specs.Told.{upper}
use Rattle.rtt_words.specs.WordRule.{put_bytes}
use Rattle.rtt_ring.specs.WordKept.{IsNext}
use Rattle.rtt_ring.proofs.WordKeeps.{put_keeps}
use Rattle.rtt_ring.proofs.word.up.WordUp.put_some.Goals as goal

pub load_word-old-requires : goal.load_word-old-requires
load_word-old-requires c =
    let k = c.args.self.now.kept in
    let z = k.sized in
    let lt : c.args.self.now.at < c.args.self.now.size = subst (λ x. x < c.args.self.now.size) (sym k.place) (mod-lt _ (omega arith)) in
    omega (arith, div-add-mod' c.args.self.now.at 8)

pub store_bytes-requires-clause-held : goal.store_bytes-requires-clause-held
store_bytes-requires-clause-held c = ap (λ (u : UpView). u.held) c.load_word-old.ensures.held

pub store_bytes-requires-clause-place : goal.store_bytes-requires-clause-place
store_bytes-requires-clause-place c =
    let k = c.args.self.now.kept in
    let e = c.load_word-old.ensures.held in
    let n = c.min-count.ensures in
    let f = c.min-flat.ensures in
    let lt8 : c.args.self.now.at % 8 < 8 = mod-lt _ (omega arith) in
    let long : length (take c.min-count.result c.args.bytes.now) ≡ c.min-count.result = length-take-le c.min-count.result c.args.bytes.now (omega arith) in
    let place : (length (upper c.args.self.now.words).sent + length (upper c.args.self.now.words).staged) % (upper c.args.self.now.words).size ≡ c.args.self.now.at = ap (λ x. (length (upper c.args.self.now.words).sent + length (upper c.args.self.now.words).staged) % x) k.sized ∙ sym k.place in
    (ap (λ (u : UpView). (length u.sent + length u.staged) % u.size) e ∙ place ∙ sym (div-add-mod' c.args.self.now.at 8), omega arith, lt8)

pub store_bytes-requires-clause-room : goal.store_bytes-requires-clause-room
store_bytes-requires-clause-room c =
    let k = c.args.self.now.kept in
    let e = c.load_word-old.ensures.held in
    let u : UpView = upper c.load_word-old.new.self in
    let n = c.min-count.ensures in
    let f = c.min-flat.ensures in
    let h = k.has_room in
    let long : length (take c.min-count.result c.args.bytes.now) ≡ c.min-count.result = length-take-le c.min-count.result c.args.bytes.now (omega arith) in
    let size : u.size ≡ c.args.self.now.size = ap (λ (x : UpView). x.size) e ∙ k.sized in
    let sent : length u.sent ≡ length (upper c.args.self.now.words).sent = ap (λ (x : UpView). length x.sent) e in
    let staged : length u.staged ≡ length (upper c.args.self.now.words).staged = ap (λ (x : UpView). length x.staged) e in
    let freed : u.freed ≡ (upper c.args.self.now.words).freed = ap (λ (x : UpView). x.freed) e in
    let lt : c.args.self.now.at < c.args.self.now.size = subst (λ x. x < c.args.self.now.size) (sym k.place) (mod-lt _ (omega arith)) in
    let split = div-add-mod' c.args.self.now.at 8 in
    (omega arith, omega arith)

pub invariant_of-self : goal.invariant_of-self
invariant_of-self c =
    let k = c.args.self.now.kept in
    let bs = take c.min-count.result c.args.bytes.now in
    let n = c.min-count.ensures in
    let f = c.min-flat.ensures in
    let long : length bs ≡ c.min-count.result = length-take-le c.min-count.result c.args.bytes.now (omega arith) in
    let now : upper c.store_bytes.new.self ≡ put_bytes (upper c.args.self.now.words) bs = c.store_bytes.ensures.put ∙ ap (λ (u : UpView). put_bytes u bs) c.load_word-old.ensures.held in
    let lt : c.args.self.now.at < c.args.self.now.size = subst (λ x. x < c.args.self.now.size) (sym k.place) (mod-lt _ (omega arith)) in
    let next = subst (λ (x : ℕ). IsNext c.args.self.now.at x c.args.self.now.size c.place_after-self.result) (sym long) c.place_after-self.ensures in
    let more : c.saturating_add-self.result ≡ min (c.args.self.now.put_len + length bs) 18446744073709551615 = c.saturating_add-self.ensures ∙ ap (λ (x : ℕ). min (c.args.self.now.put_len + x) 18446744073709551615) (sym long) in
    record { kept = put_keeps _ _ _ _ _ _ _ k bs _ _ _ now (omega arith) next (omega arith) more }

pub returns-clause-words : goal.returns-clause-words
returns-clause-words c =
    (c.store_bytes.ensures.name ∙ c.load_word-old.ensures.name, c.store_bytes.ensures.put ∙ ap (λ (u : UpView). put_bytes u (take c.min-count.result c.args.bytes.now)) c.load_word-old.ensures.held)

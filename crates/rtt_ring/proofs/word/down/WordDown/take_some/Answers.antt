use Rattle.std.proofs.Common.{◌≡◌, ℕ, ◌+◌, ◌/◌, ◌%◌, ◌<◌, ◌++◌, length, take, drop, min, sym, ap, ◌∙◌, subst, mod-lt, arith}
use Rattle.rtt_words.specs.Told.{lower}
use Rattle.rtt_words.specs.WordRule.{next_bytes, lanes}
use Rattle.rtt_ring.specs.WordKept.{IsNext}
use Rattle.rtt_ring.proofs.WordKeeps.{took_keeps, next_long}
use Rattle.rtt_ring.proofs.word.down.WordDown.take_some.Goals as goal

pub load_bytes-found-requires-clause-place : goal.load_bytes-found-requires-clause-place
load_bytes-found-requires-clause-place c =
    let k = c.args.self.now.kept in
    let n = c.min-count.ensures in
    let f = c.min-flat.ensures in
    let place : length (lower c.args.self.now.words).got % (lower c.args.self.now.words).size ≡ c.args.self.now.at = ap (λ x. length (lower c.args.self.now.words).got % x) k.sized ∙ sym k.place in
    let lt : c.args.self.now.at < c.args.self.now.size = subst (λ x. x < c.args.self.now.size) (sym k.place) (mod-lt _ (omega arith)) in
    let lt8 : c.args.self.now.at % 8 < 8 = mod-lt _ (omega arith) in
    let size = k.sized in
    let lane = ap (λ x. x % 8) place in
    (ap (λ x. x / 8) (sym place), omega arith, omega arith)

pub invariant_of-self : goal.invariant_of-self
invariant_of-self c =
    let k = c.args.self.now.kept in
    let b = c.load_bytes-found.ensures.took in
    let D = lower c.args.self.now.words in
    let bs = next_bytes D c.min-count.result c.load_bytes-found.result in
    let n = c.min-count.ensures in
    let f = c.min-flat.ensures in
    let r = c.requires.buf in
    let q = c.requires.found in
    let lane : length D.got % D.size % 8 ≡ c.args.self.now.at % 8 = ap (λ (x : ℕ). length D.got % x % 8) k.sized ∙ ap (λ (x : ℕ). x % 8) (sym k.place) in
    let lt : c.args.self.now.at < c.args.self.now.size = subst (λ x. x < c.args.self.now.size) (sym k.place) (mod-lt _ (omega arith)) in
    let lt8 : c.args.self.now.at % 8 < 8 = mod-lt _ (omega arith) in
    let long : length bs ≡ c.min-count.result = next_long D c.min-count.result c.load_bytes-found.result (omega arith) in
    let next = subst (λ (x : ℕ). IsNext c.args.self.now.at x c.args.self.now.size c.place_after-self.result) (sym long) c.place_after-self.ensures in
    let more : c.saturating_add-self.result ≡ min (c.args.self.now.got_len + length bs) 18446744073709551615 = c.saturating_add-self.ensures ∙ ap (λ (x : ℕ). min (c.args.self.now.got_len + x) 18446744073709551615) (sym long) in
    record { kept = took_keeps _ _ _ _ _ k bs _ _ (omega arith) b (omega arith) next more }

pub returns-clause-words : goal.returns-clause-words
returns-clause-words c =
    let k = c.args.self.now.kept in
    let b = c.load_bytes-found.ensures in
    let D = lower c.args.self.now.words in
    let bs = next_bytes D c.min-count.result c.load_bytes-found.result in
    let n = c.min-count.ensures in
    let f = c.min-flat.ensures in
    let lane : length D.got % D.size % 8 ≡ c.args.self.now.at % 8 = ap (λ (x : ℕ). length D.got % x % 8) k.sized ∙ ap (λ (x : ℕ). x % 8) (sym k.place) in
    let lt8 : c.args.self.now.at % 8 < 8 = mod-lt _ (omega arith) in
    let long : length bs ≡ c.min-count.result = next_long D c.min-count.result c.load_bytes-found.result (omega arith) in (
      b.name,
      (
        bs,
        long,
        b.took,
        c.copy_lanes.ensures.bytes ∙ ap (λ (l : ℕ). take c.args.from c.args.buf.now ++ take c.min-count.result (drop l (lanes c.load_bytes-found.result))) (sym lane),
      ),
    )

pub returns-clause-behind : goal.returns-clause-behind
returns-clause-behind c = c.copy_lanes.ensures.behind

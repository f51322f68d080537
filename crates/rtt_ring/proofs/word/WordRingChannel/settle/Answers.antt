use Rattle.std.proofs.Common.{length, ℕ, ◌%◌, ◌≡◌, ◌+◌, sym, ap, ◌∙◌, arith}
use Rattle.rtt_words.proofs.Keeps.{same_size}
use Rattle.rtt_words.specs.Told.{upper, lower, joined_upper, joined_lower}
use Rattle.rtt_words.specs.declared.view.UpView.{UpView}
use Rattle.rtt_words.specs.declared.view.DownView.{DownView}
use Rattle.rtt_ring.proofs.word.WordRingChannel.settle.Goals as goal

pub read_rest-requires-clause-places : goal.read_rest-requires-clause-places
read_rest-requires-clause-places c =
    let k = c.args.up.kept in
    let j = c.args.down.kept in
    let e = c.join-words.ensures in
    let n = c.requires.empty in
    let U = upper c.args.up.words in
    let D = lower c.args.down.words in
    let none : length U.staged ≡ 0 = ap length n.0 in
    let size : c.args.down.size ≡ c.args.up.size = sym j.sized ∙ sym (same_size _ _ _ _ c.requires.pair) ∙ k.sized in
    let got : length (joined_lower c.join-words.result).got ≡ length D.got = ap (λ (d : DownView). length d.got) e.1 in
    let sent : length (joined_upper c.join-words.result).sent ≡ length U.sent = ap (λ (u : UpView). length u.sent) e.0 in
    let whole : length U.sent + length U.staged ≡ length (joined_upper c.join-words.result).sent = omega arith in
    (k.big.0, k.big.1, j.place ∙ ap (λ (x : ℕ). length D.got % x) size ∙ ap (λ (x : ℕ). x % c.args.up.size) (sym got), k.place ∙ ap (λ (x : ℕ). x % c.args.up.size) whole)

pub read_rest-requires-clause-size : goal.read_rest-requires-clause-size
read_rest-requires-clause-size c =
    let k = c.args.up.kept in
    ap (λ (u : UpView). u.size) c.join-words.ensures.0 ∙ k.sized

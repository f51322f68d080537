use Rattle.std.proofs.Common.{rules, ◌≡◌, ℕ, ◌+◌, ◌-◌, List, ◌++◌, length, take, drop, arith, sym, ap, ◌∙◌, append_assoc, take-add, take_all, length-drop}
use Rattle.rtt_ring.proofs.word.up.WordUpUpEnd.put.Goals as goal

-- what is staged after one more part
more_put : (old now after F : List ℕ) (i n : ℕ) → now ≡ old ++ take i F → after ≡ now ++ take n (take (length F - i) (drop i F)) → after ≡ old ++ take (i + n) F
more_put old now after F i n was is =
    let whole : take (length F - i) (drop i F) ≡ drop i F = take_all (length F - i) (drop i F) (omega (arith, length-drop i F)) in
    is ∙ ap (λ (l : List ℕ). now ++ take n l) whole ∙ ap (λ (l : List ℕ). l ++ take n (drop i F)) was ∙ append_assoc old (take i F) (take n (drop i F)) ∙ ap (λ (l : List ℕ). old ++ l) (sym (take-add i n F))

pub loop-done-preserved : goal.loop-done-preserved
loop-done-preserved c =
    let v = c.loop-done.invariant in
    let s = c.put_some-done.ensures in (
      s.words.0 ∙ v.0,
      search rules,
      omega arith,
      omega arith,
      more_put _ _ _ _ _ _ v.4 (ap (λ u. u.staged) s.words.1),
      ap (λ u. u.sent) s.words.1 ∙ v.5,
      ap (λ u. u.looks) s.words.1 ∙ v.6,
      ap (λ u. u.freed) s.words.1 ∙ v.7,
      ap (λ u. u.rd_off) s.words.1 ∙ v.8,
    )

use Rattle.std.proofs.Common.{rules, ◌≡◌, ℕ, ◌+◌, List, ◌++◌, take, drop, arith, sym, ap, ◌∙◌, append_assoc}
use Rattle.std.proofs.lemmas.List.{drop-drop}
use Rattle.rtt_words.specs.declared.view.DownView.{DownView}
use Rattle.rtt_ring.proofs.word.down.WordDownDownEnd.take.Goals as goal

-- what is got after one more part, which stands in the buffer
more_got : (old now after bs before buf : List ℕ) (i n : ℕ) → now ≡ old ++ take i before → after ≡ now ++ bs → take (i + n) buf ≡ take i before ++ bs → after ≡ old ++ take (i + n) buf
more_got old now after bs before buf i n was is put =
    is ∙ ap (λ (l : List ℕ). l ++ bs) was ∙ append_assoc old (take i before) bs ∙ ap (λ (l : List ℕ). old ++ l) (sym put)

-- what lies behind one more part
more_left : (old before buf : List ℕ) (i n : ℕ) → drop i before ≡ drop i old → drop (i + n) buf ≡ drop (i + n) before → drop (i + n) buf ≡ drop (i + n) old
more_left old before buf i n was is = is ∙ sym (drop-drop n i before) ∙ ap (λ (l : List ℕ). drop n l) was ∙ drop-drop n i old

pub loop-done-preserved : goal.loop-done-preserved
loop-done-preserved c =
    let v = c.loop-done.invariant in
    let s = c.take_some-done.ensures in
    let now = s.words.1.2 in (
      s.words.0 ∙ v.0,
      search rules,
      omega arith,
      ap (λ (d : DownView). d.found) now ∙ v.3,
      ap (λ (d : DownView). d.looks) now ∙ v.4,
      more_got _ _ _ _ _ _ _ _ v.5 (ap (λ (d : DownView). d.got) now) s.words.1.3,
      ap (λ (d : DownView). d.released) now ∙ v.6,
      more_left c.args.buf.now c.loop-done.buf c.take_some-done.new.buf c.loop-done.done c.take_some-done.result v.7 s.behind,
      ap (λ (d : DownView). d.rd_off) now ∙ v.8,
      ap (λ (d : DownView). d.wr_off) now ∙ v.9,
    )

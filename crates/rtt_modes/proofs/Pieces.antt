-- One more piece of a frame.
use Rattle.std.proofs.Common.{◌≡◌, ◌∙◌, ℕ, ◌+◌, ◌-◌, ◌≤◌, List, ◌++◌, length, take, drop, sym, ap, arith, append_assoc, take-add, take_all, length-drop}
use Rattle.rtt_ring.specs.Views.{Up, UpKept}
use Rattle.rtt_modes.specs.Fates.{Going}

-- what one step keeps and the next keeps too
pub kept_on : (u v w : Up) → UpKept u v → UpKept v w → UpKept u w
kept_on u v w h k = record {
  split = k.split ∙ h.split;
  size = k.size ∙ h.size;
  tells = k.tells ∙ h.tells;
  staged = k.staged;
  later = omega arith;
}

pub going_more : (first u v : Up) (F : List ℕ) (i n : ℕ) → Going first u F i → n ≤ length (take (length F - i) (drop i F))
    → v.sent ≡ u.sent ++ take n (take (length F - i) (drop i F)) → UpKept u v → v.looks ≡ u.looks + 1 → Going first v F (i + n)
going_more first u v F i n g fits is kept looks =
    let whole : take (length F - i) (drop i F) ≡ drop i F = take_all (length F - i) (drop i F) (omega (arith, length-drop i F)) in
    let most : n ≤ length F - i = omega (arith, ap length whole, length-drop i F) in
    let inside = g.within in
    record {
      within = omega arith;
      sent =
          is ∙ ap (λ (l : List ℕ). u.sent ++ take n l) whole ∙ ap (λ (l : List ℕ). l ++ take n (drop i F)) g.sent
          ∙ append_assoc first.sent (take i F) (take n (drop i F)) ∙ ap (λ (l : List ℕ). first.sent ++ l) (sym (take-add i n F));
      kept = kept_on first u v g.kept kept;
      looks = omega (arith, g.looks);
    }

use Rattle.std.proofs.Common.{ℕ, Bool, [], ◌∷◌, ◌++◌, ◌≡◌, ◌+◌, true, false, ap, sym, subst}
use Rattle.std.specs.Prelude.{if◌then◌else◌}
use Rattle.defmt_steer.proofs.Counted.{counted_other, counted_zero}
use Rattle.defmt_steer.specs.Steers.{Counts}
use Rattle.defmt_steer.proofs.counting.FrameCount.hear.Goals.{then-self, else-self}
use Rattle.defmt_steer.proofs.counting.FrameCount.hear.Goals as goal

pub returns-then-byte-ne0-clause-counts : goal.returns-then-byte-ne0-clause-counts
returns-then-byte-ne0-clause-counts c = λ stream k.
    let s = c.args.self.now in
    counted_other s.frames s.zeros s.begun stream c.args.byte c.if-byte-ne0.true k

pub returns-clause-counts : goal.returns-clause-counts
returns-clause-counts c = λ stream k.
    let s = c.args.self.now in
    let f : Bool → ℕ = λ b. if b then s.frames + 1 else s.frames in
    let now : c.if-self.self.frames ≡ f s.begun = elim c.if-self.branch [
      | then-self w ↦ let begun : f s.begun ≡ s.frames + 1 = ap f w.if-self.true in cc
      | else-self w ↦ let begun : f s.begun ≡ s.frames = ap f w.if-self.false in cc
    ] in
    subst (λ (n : ℕ). Counts n true false (stream ++ c.args.byte ∷ [])) (sym now)
    (counted_zero s.frames s.zeros s.begun stream c.args.byte c.if-byte-ne0.false k)

use Rattle.std.proofs.Common.{◌∙◌, ◌%◌, ap, List, ℕ, length, arith}
use Rattle.rtt_control.specs.Layout.{waiting}
use Rattle.rtt_control.specs.Control.{block_at}
use Rattle.rtt_ring.specs.Image.{base, plain_descriptor}
use Rattle.rtt_ring.specs.PlainView.{up_of}
use Rattle.rtt_ring.proofs.Kept.{image_waits, image_block}
use Rattle.rtt_ring.proofs.plain.PlainRing.image.Goals as goal

pub returns : goal.returns
returns c =
    let s = c.args.self.now in
    let big = s.kept.big in
    let same = ap length c.deref.ensures.value in
    record {
      wide = same ∙ s.kept.wide;
      short = let w = s.kept.wide in omega arith;
      block = ap (λ (l : List ℕ). block_at l base 0) c.deref.ensures.value ∙ image_block _ _ _ _ _ _ _ _ _ s.kept;
      waiting = ap (λ (l : List ℕ). waiting l base (plain_descriptor s.size (length (up_of s).sent % s.size) (length s.journal.seat.me.0.got % s.size))) c.deref.ensures.value ∙ image_waits _ _ _ _ _ _ _ _ _ s.kept;
    }

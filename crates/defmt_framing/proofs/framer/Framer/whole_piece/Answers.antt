use Rattle.std.proofs.Common.{◌≡◌, ◌<◌, ◌||◌, ℕ, List, length, get_or, take, drop, true, false, nat_lt, ◌∙◌, ap, subst, arith}
use Rattle.defmt_framing.specs.Cut.{has_zero}
use Rattle.defmt_framing.specs.Framing.{Framing}
use Rattle.defmt_framing.proofs.Whole.{same_size, same_start}
use Rattle.defmt_framing.proofs.framer.Framer.whole_piece.Goals as goal
use Rattle.defmt_framing.proofs.framer.Framer.whole_piece.Goals.{then-size-eq0-via-then-size-eq0, then-size-eq0-via-else-size-eq0+then-size-gt-LONGEST, then-size-eq0-via-else-size-eq0+else-size-gt-LONGEST+then-size-rest, then-size-eq0-via-else-size-eq0+else-size-gt-LONGEST+else-size-rest+then-not-self-start}

pub returns-then-size-eq0 : goal.returns-then-size-eq0
returns-then-size-eq0 c other count whole =
    let bytes : List ℕ = c.args.bytes.now in
    let start : ℕ = c.zeros_in_front-start.result in
    let size : ℕ = c.until_zero-size.result in
    let none : has_zero (take size (drop start bytes)) ≡ false = subst (λ (l : List ℕ). has_zero (take size l) ≡ false) c.split_at.ensures.back c.until_zero-size.ensures.none in
    let next : size < length (drop start bytes) → get_or (drop start bytes) size 0 ≡ 0 =
    subst (λ (l : List ℕ). size < length l → get_or l size 0 ≡ 0) c.split_at.ensures.back c.until_zero-size.ensures.zero in
    let starts : other ≡ start = same_start c.args.self.now bytes start size other count whole c.zeros_in_front-start.ensures.zeros c.zeros_in_front-start.ensures.other in
    let sizes : count ≡ size = same_size c.args.self.now bytes start size other count whole starts none next in
    let begun : (c.self.inside.zeros || nat_lt 0 start) ≡ true =
    ap (λ (b : Framing). b.zeros || nat_lt 0 start) c.self.view_is ∙ subst (λ (k : ℕ). (c.args.self.now.zeros || nat_lt 0 k) ≡ true) starts whole.begun in
    elim c.then-size-eq0.branch [
      | then-size-eq0-via-then-size-eq0 w ↦ absurd (omega (arith, sizes, whole.some, w.if-size-eq0.true))
      | then-size-eq0-via-else-size-eq0+then-size-gt-LONGEST w ↦ absurd (omega (arith, sizes, whole.short, w.if-size-gt-LONGEST.true))
      | then-size-eq0-via-else-size-eq0+else-size-gt-LONGEST+then-size-rest w ↦
          absurd (omega (arith, starts, sizes, whole.within, w.if-size-rest.true, c.split_at.ensures.back_len))
      | then-size-eq0-via-else-size-eq0+else-size-gt-LONGEST+else-size-rest+then-not-self-start w ↦
          absurd (first_of (cc (begun, w.if-not-self-start.true), grind (arith, begun, w.if-not-self-start.true)))
    ]

use Rattle.std.proofs.Common.{◌≡◌, ◌∙◌, ℕ, ◌+◌, ◌-◌, ◌<◌, ◌≤◌, length, take, drop, sym, ap, arith, length-drop}
use Rattle.std.proofs.lemmas.List.{length-take-le}
use Rattle.rtt_dump.proofs.ChannelLemmas.{two_parts, whole_in, whole_none}
use Rattle.rtt_dump.proofs.channel.whole_buffer.Goals as goal

pub returns-then-d-eq0 : goal.returns-then-d-eq0
returns-then-d-eq0 c = c.new-bytes.ensures.items ∙ sym (whole_none c.args.image.now c.args.base c.args.d.now c.if-d-eq0.true)

pub returns : goal.returns
returns c =
    let d = c.args.d.now in
    let image = c.args.image.now in
    let at = d.start - c.args.base in
    let n = at + d.size - at in
    let buffer = take n (drop at image) in
    let some : 0 < d.size = omega arith in
    let lies = c.requires.lies some in
    let places = c.requires.offsets.1 some in
    let fits : at + d.size ≤ length image = lies.1 in
    let size_is : n ≡ d.size = omega arith in
    let len : length buffer ≡ d.size = length-take-le n (drop at image) (omega (arith, length-drop at image)) ∙ size_is in
    two_parts c.new-bytes.result.items c.extend_from_slice.new.self.items c.extend_from_slice-2.new.self.items c.split_at.result.1.now c.split_at.result.0.now buffer d.wr
    c.new-bytes.ensures.items c.in_ok-extend_from_slice.ensures.ok c.in_ok-extend_from_slice-2.ensures.ok c.split_at.ensures.back c.split_at.ensures.front
    ∙ sym (whole_in image buffer c.args.base d (λ e. absurd (omega arith)) (ap (λ (k : ℕ). take k (drop at image)) size_is) len places.0)

use Rattle.std.proofs.Common.{rules, ◌≡◌, ◌∙◌, ◌≤◌, ◌+◌, length, arith}
use Rattle.rtt_ring.proofs.Blocks.{front_marked, length_marked}
use Rattle.rtt_ring.proofs.image.fresh_image.Goals as goal

pub returns-clause-wide : goal.returns-clause-wide
returns-clause-wide c =
    let wide : length c.in_ok-image.image.items ≡ 48 + c.args.size = search rules in
    let long : 48 ≤ length c.put_header.new.image.items = omega arith in
    length_marked c.put_header.new.image.items c.mark.new.image.items c.args.size 0 0 long c.mark.ensures c.put_header.ensures.front ∙ omega arith

pub returns-clause-front : goal.returns-clause-front
returns-clause-front c =
    let wide : length c.in_ok-image.image.items ≡ 48 + c.args.size = search rules in
    let long : 48 ≤ length c.put_header.new.image.items = omega arith in
    front_marked c.put_header.new.image.items c.mark.new.image.items c.args.size 0 0 long c.mark.ensures c.put_header.ensures.front

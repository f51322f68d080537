use Rattle.std.proofs.Common.{List, ℕ, ◌++◌, refl}
use Rattle.std.specs.List.{flat_map}
use Rattle.defmt_hints.proofs.Chains.{pending_none, pending_step}
use Rattle.defmt_hints.specs.Quotings.{by_escapes, closing, escape_in, opening, quoted_in}
use Rattle.defmt_hints.proofs.quoted.put_between.Goals as goal

pub returns : goal.returns
returns c =
    let body : List ℕ = flat_map (by_escapes (escape_in c.args.quoting)) c.args.text.now in
    let none = pending_none c.args.out.now c.args.at (quoted_in c.args.quoting c.args.text.now) c.requires in
    let one = pending_step (opening c.args.quoting) (body ++ closing c.args.quoting) refl none (rw (c.as_bytes.ensures.value, c.opening.ensures) at c.in_ok-start.ensures) in
    let two = pending_step body (closing c.args.quoting) refl one c.in_ok-end.ensures in
    two.goes c.put-2.result c.put-2.new.out (rw (c.as_bytes-2.ensures.value, c.closing.ensures) at c.put-2.ensures)

use Rattle.std.proofs.Common.{◌≡◌, ◌∙◌, ℕ, length, sym, ap, arith}
use Rattle.std.specs.Prelude.{Some}
use Rattle.rtt_control.specs.declared.block.Descriptor.{Descriptor}
use Rattle.rtt_control.specs.Control.{cause_of, first_refusal}
use Rattle.rtt_control.specs.Layout.{descriptors_at}
use Rattle.rtt_control.proofs.StoredLaws.{bad_there, next_passes}
use Rattle.rtt_control.proofs.checks.check_stored.Goals as goal

pub returns-in-Some : goal.returns-in-Some
returns-in-Some c =
    let size = length c.args.image.now in
    ap Some c.at.ensures
    ∙ sym (bad_there c.args.image.now c.args.base c.args.at c.loop-i.i c.loop-i.invariant c.args.count c.in-Some.cause (omega arith)
    (sym (c.in-Some.ensures.first ∙ ap (λ (d : Descriptor). cause_of size c.args.base d) c.read_descriptor-descriptor.ensures)))

pub loop-i-preserved : goal.loop-i-preserved
loop-i-preserved c =
    let size = length c.args.image.now in
    next_passes c.args.image.now c.args.base c.args.at c.loop-i.i c.loop-i.invariant
    (sym (c.in_default.ensures.first ∙ ap (λ (d : Descriptor). cause_of size c.args.base d) c.read_descriptor-descriptor.ensures))

pub returns : goal.returns
returns c =
    let all : c.loop-i.i ≡ c.args.count = omega arith in
    sym c.loop-i.invariant ∙ ap (λ (n : ℕ). first_refusal (length c.args.image.now) c.args.base 0 (descriptors_at c.args.image.now c.args.at n)) all

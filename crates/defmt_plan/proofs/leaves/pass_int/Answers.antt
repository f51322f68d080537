use Rattle.std.proofs.Common.{◌∙◌}
use Rattle.byteorder.specs.Endian.{twos_complement}
use Rattle.defmt_encode.specs.Carry.{size_bytes}
use Rattle.defmt_plan.proofs.Complements.{complement_is, small_bits}
use Rattle.defmt_plan.proofs.Values.{passed_int}
use Rattle.defmt_plan.proofs.leaves.pass_int.Goals as goal

pub put_complement-requires-clause-small : goal.put_complement-requires-clause-small
put_complement-requires-clause-small c = small_bits c.args.size c.in_ok-number.number c.in_ok-number.ensures.small

pub returns-in_err-written : goal.returns-in_err-written
returns-in_err-written c = λ t.
    let n = c.in_ok-number in
    let k = complement_is c.args.size n.number n.ensures.small in
    rw c.from_residual-in_err-written.ensures (c.in_err-written.ensures (twos_complement (size_bytes c.args.size) n.number) k.signed k.back).kept

pub returns : goal.returns
returns c = λ t.
    let n = c.in_ok-number in
    let is = c.from-width.ensures ∙ c.size_bytes.ensures.value in
    passed_int t c.args.hint c.args.bytes.now c.args.before.read c.args.out.now c.args.before.written c.put_complement.new.out c.in_ok-written.written c.args.size c.from-width.result n.number is n.ensures.small (rw is n.ensures.carried) c.in_ok-written.ensures

use Rattle.std.proofs.Common.{ℕ, List, codes, subst}
use Rattle.defmt_eager.proofs.Fronts.{name_is}
use Rattle.defmt_eager.proofs.Parts.{placed, puts_of, puts_two}
use Rattle.defmt_eager.proofs.Utf8.{utf8_space}
use Rattle.defmt_hints.proofs.Chains.{full_front}
use Rattle.defmt_hints.specs.Written.{Full, Written}
use Rattle.defmt_eager.proofs.placed.put_level.Goals as goal

pub returns-in_err-end : goal.returns-in_err-end
returns-in_err-end c =
    let over : Full c.args.out.now c.args.at c.put.new.out c.args.level.now = subst (λ (text : List ℕ). Full c.args.out.now c.args.at c.put.new.out text) (name_is c.args.level.now c.requires.width) (rw c.as_bytes.ensures.value at c.in_err-end.ensures) in
    rw c.from_residual.ensures (full_front c.args.out.now c.args.at c.put.new.out c.args.level.now (codes " ") over)

pub returns : goal.returns
returns c =
    let name : Written c.args.out.now c.args.at c.put.new.out c.in_ok-end.end c.args.level.now = subst (λ (text : List ℕ). Written c.args.out.now c.args.at c.put.new.out c.in_ok-end.end text) (name_is c.args.level.now c.requires.width) (rw c.as_bytes.ensures.value at c.in_ok-end.ensures) in
    puts_two c.put-2.result c.put-2.new.out c.args.level.now (codes " ") c.requires.place (placed c.utf8.level name)
    (puts_of c.put-2.result _ _ _ _ utf8_space c.put-2.ensures)

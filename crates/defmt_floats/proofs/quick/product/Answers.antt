use Rattle.std.proofs.Common.{arith}
use Rattle.std.proofs.lemmas.Bool.{eqb-true}
use Rattle.std.proofs.lemmas.Nat.{and_mask}
use Rattle.defmt_floats.proofs.Products.{words}
use Rattle.defmt_floats.proofs.quick.product.Goals as goal

pub returns-clause-from : goal.returns-clause-from
returns-clause-from c =
    let w = words c.args.number c.args.power (omega arith) (omega arith) in
    rw (c.from.ensures, c.from-2.ensures, and_mask c.args.power 64) (omega (arith, w.0))

pub returns-clause-below : goal.returns-clause-below
returns-clause-below c =
    let w = words c.args.number c.args.power (omega arith) (omega arith) in
    rw (c.from.ensures, c.from-2.ensures, and_mask c.args.power 64) (omega (arith, w.0))

pub returns-clause-same : goal.returns-clause-same
returns-clause-same c = λ e.
    let w = words c.args.number c.args.power (omega arith) (omega arith) in
    let none = eqb-true _ _ (rw (c.from-2.ensures, and_mask c.args.power 64, and_mask _ 64) at e) in
    rw (c.from.ensures, c.from-2.ensures, and_mask c.args.power 64) (omega (arith, w.0, none))

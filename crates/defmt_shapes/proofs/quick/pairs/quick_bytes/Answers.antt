use Rattle.std.proofs.Common.{List, ℕ, Option, IfSome, subst, sym}
use Rattle.defmt_grammar.proofs.Cuts.{behind_found}
use Rattle.dl_io.specs.Buffer.{Buffer}
use Rattle.defmt_shapes.specs.Shape.{SpellsBytes}
use Rattle.defmt_shapes.proofs.QuickHeads.{bytes_there}
use Rattle.defmt_shapes.proofs.quick.pairs.quick_bytes.Goals as goal

pub returns-in-Some-2-clause-value : goal.returns-in-Some-2-clause-value
returns-in-Some-2-clause-value c = λ language.
    let all : SpellsBytes c.as_bytes.result.now c.in-Some-2.bytes.items = subst (λ (o : Option Buffer). IfSome o (λ b. SpellsBytes c.as_bytes.result.now b.items)) c.in-Some-2.is c.in_ok-bytes.ensures in
    bytes_there language c.args.text.now c.in-Some.digits.now c.until_space.result.0.now c.until_space.result.1.now c.in-Some-2.bytes.items (behind_found 35 c.args.text.now c.in-Some.digits.now (sym c.in-Some.ensures.rest)) c.until_space.ensures.whole
    (subst (λ (t : List ℕ). SpellsBytes t c.in-Some-2.bytes.items) c.as_bytes.ensures.value all) c.until_space.ensures.ends

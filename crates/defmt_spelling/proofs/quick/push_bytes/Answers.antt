use Rattle.std.proofs.Common.{List, ℕ, Option, IfSome, Bor, subst}
use Rattle.dl_io.specs.Buffer.{Buffer}
use Rattle.defmt_shapes.specs.Shape as shapes
use Rattle.defmt_shapes.specs.Shape.{HeadShape}
use Rattle.defmt_spelling.proofs.QuickLaws.{bytes_appended}
use Rattle.defmt_spelling.proofs.quick.push_bytes.Goals as goal

pub returns-clause-value : goal.returns-clause-value
returns-clause-value c =
    bytes_appended c.args.text.now c.in-Some.rest.now c.in-Some.bytes.items c.args.args.now c.push.new.self
    (λ language. subst (λ (o : Option (Buffer × Bor (List ℕ))). IfSome o (λ p. HeadShape language c.args.text.now (shapes.bytes p.0.items) p.1.now)) c.in-Some.is (c.in_ok-bytes.ensures.value language))
    c.in_ok-push.ensures.ok

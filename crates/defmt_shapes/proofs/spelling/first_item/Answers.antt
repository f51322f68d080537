use Rattle.std.proofs.Common.{List, ℕ, Option, sym, subst, ◌∙◌, Bor}
use Rattle.std.specs.Option.{option_copied}
use Rattle.defmt_shapes.specs.declared.scan.Bracket.TheVariants.{Round}
use Rattle.defmt_grammar.specs.Cut.{parts_of}
use Rattle.defmt_shapes.specs.Scan.{IsEnclosed}
use Rattle.defmt_shapes.proofs.ValueLaws.{ends_found, ends_not, no_item, item_none, item_open, item_value}
use Rattle.defmt_shapes.proofs.spelling.first_item.Goals as goal

pub returns-in_default-clause-item : goal.returns-in_default-clause-item
returns-in_default-clause-item c = no_item c.args.language c.args.text.now c.in_default.ensures.parts

pub returns-in_default-2-clause-item : goal.returns-in_default-2-clause-item
returns-in_default-2-clause-item c =
    let e = subst (λ (o : Option (Bor (List ℕ) × Bor (List ℕ))). IsEnclosed c.args.language Round c.in-Some.after.now (parts_of o)) c.in_default-2.is c.in_ok-inside.ensures.parts in
    item_none c.args.language c.args.text.now c.in-Some.after.now (option_copied c.in-Some.variant) c.in-Some.ensures.parts e

pub returns-then-not-ends_there-clause-item : goal.returns-then-not-ends_there-clause-item
returns-then-not-ends_there-clause-item c =
    let e = subst (λ (o : Option (Bor (List ℕ) × Bor (List ℕ))). IsEnclosed c.args.language Round c.in-Some.after.now (parts_of o)) c.in-Some-2.is c.in_ok-inside.ensures.parts in
    item_open c.args.language c.args.text.now c.in-Some.after.now c.in-Some-2.inside.now c.in-Some-2.rest.now (option_copied c.in-Some.variant) c.in-Some.ensures.parts e (ends_not c.in-Some-2.rest.now (sym c.ends_there.ensures ∙ c.if-not-ends_there.true))

pub returns-clause-item : goal.returns-clause-item
returns-clause-item c =
    let e = subst (λ (o : Option (Bor (List ℕ) × Bor (List ℕ))). IsEnclosed c.args.language Round c.in-Some.after.now (parts_of o)) c.in-Some-2.is c.in_ok-inside.ensures.parts in
    let v = item_value c.args.language c.args.text.now c.in-Some.after.now c.in-Some-2.inside.now c.in-Some-2.rest.now (option_copied c.in-Some.variant) c.in-Some.ensures.parts e (ends_found c.in-Some-2.rest.now (sym c.ends_there.ensures ∙ c.if-not-ends_there.false)) in
    (v.0, v.1, v.2, c.variant_of-variant.ensures v.0 v.3, v.4)

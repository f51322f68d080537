use Rattle.std.proofs.Common.{List, ℕ, Option, Some, sym, subst, refl, ◌∙◌, Bor}
use Rattle.std.specs.Option.{option_copied}
use Rattle.defmt_shapes.specs.declared.head.Head.{Head}
use Rattle.defmt_shapes.specs.declared.scan.Bracket.TheVariants.{Round, Square, Angle}
use Rattle.defmt_shapes.specs.Shape as shapes
use Rattle.defmt_grammar.specs.Cut.{parts_of}
use Rattle.defmt_shapes.specs.Leads.{view_head, view_whole, IsLeadIn}
use Rattle.defmt_shapes.specs.Scan.{IsEnclosed}
use Rattle.defmt_shapes.proofs.ValueLaws.{ends_found, ends_not, no_head, is_whole, whole_value, whole_open, call_value, call_none, call_open, sequence_value, sequence_none, sequence_open, nodes_value, nodes_none, nodes_open}
use Rattle.defmt_shapes.proofs.spelling.first_value.Goals as goal

pub returns-in_default-clause-value : goal.returns-in_default-clause-value
returns-in_default-clause-value c = no_head c.args.language c.args.text.now c.in_default.ensures.parts

pub returns-then-not-ends_there-clause-value : goal.returns-then-not-ends_there-clause-value
returns-then-not-ends_there-clause-value c =
    let l = subst (λ (h : Head). IsLeadIn c.args.language c.args.text.now (Some (view_head h, c.in-Some.after.now))) c.in-Whole.is c.in-Some.ensures.parts in
    whole_open c.args.language c.args.text.now c.in-Some.after.now (view_whole c.in-Whole.whole) (is_whole c.in-Whole.whole) l (ends_not c.in-Some.after.now (sym c.ends_there.ensures ∙ c.if-not-ends_there.true))

pub returns-else-not-ends_there-clause-value : goal.returns-else-not-ends_there-clause-value
returns-else-not-ends_there-clause-value c =
    let l = subst (λ (h : Head). IsLeadIn c.args.language c.args.text.now (Some (view_head h, c.in-Some.after.now))) c.in-Whole.is c.in-Some.ensures.parts in
    let v = whole_value c.args.language c.args.text.now c.in-Some.after.now (view_whole c.in-Whole.whole) (is_whole c.in-Whole.whole) l (ends_found c.in-Some.after.now (sym c.ends_there.ensures ∙ c.if-not-ends_there.false)) in
    (v.0, v.1, c.spelling_of.ensures c.args.language c.in-Some.after.now c.in-Some.after.now v.0 v.2)

pub returns-in_default-2-clause-value : goal.returns-in_default-2-clause-value
returns-in_default-2-clause-value c =
    let l = subst (λ (h : Head). IsLeadIn c.args.language c.args.text.now (Some (view_head h, c.in-Some.after.now))) c.in-Call.is c.in-Some.ensures.parts in
    let e = subst (λ (o : Option (Bor (List ℕ) × Bor (List ℕ))). IsEnclosed c.args.language Round c.in-Some.after.now (parts_of o)) c.in_default-2.is c.in_ok-inside-in-Call.ensures.parts in
    call_none c.args.language c.args.text.now c.in-Some.after.now c.in-Call.name.now (option_copied c.in-Call.variant) l e

pub returns-then-not-ends_there-2-clause-value : goal.returns-then-not-ends_there-2-clause-value
returns-then-not-ends_there-2-clause-value c =
    let l = subst (λ (h : Head). IsLeadIn c.args.language c.args.text.now (Some (view_head h, c.in-Some.after.now))) c.in-Call.is c.in-Some.ensures.parts in
    let e = subst (λ (o : Option (Bor (List ℕ) × Bor (List ℕ))). IsEnclosed c.args.language Round c.in-Some.after.now (parts_of o)) c.in-Some-2.is c.in_ok-inside-in-Call.ensures.parts in
    call_open c.args.language c.args.text.now c.in-Some.after.now c.in-Call.name.now c.in-Some-2.inside.now c.in-Some-2.rest.now (option_copied c.in-Call.variant) l e (ends_not c.in-Some-2.rest.now (sym c.ends_there-in-Call.ensures ∙ c.if-not-ends_there-2.true))

pub returns-else-not-ends_there-2-clause-value : goal.returns-else-not-ends_there-2-clause-value
returns-else-not-ends_there-2-clause-value c =
    let l = subst (λ (h : Head). IsLeadIn c.args.language c.args.text.now (Some (view_head h, c.in-Some.after.now))) c.in-Call.is c.in-Some.ensures.parts in
    let e = subst (λ (o : Option (Bor (List ℕ) × Bor (List ℕ))). IsEnclosed c.args.language Round c.in-Some.after.now (parts_of o)) c.in-Some-2.is c.in_ok-inside-in-Call.ensures.parts in
    let v = call_value c.args.language c.args.text.now c.in-Some.after.now c.in-Call.name.now c.in-Some-2.inside.now c.in-Some-2.rest.now (option_copied c.in-Call.variant) l e (ends_found c.in-Some-2.rest.now (sym c.ends_there-in-Call.ensures ∙ c.if-not-ends_there-2.false)) in
    (shapes.call c.in-Call.name.now v.0 v.1, v.2, (v.0, v.1, refl, c.variant_of-variant.ensures v.0 v.3, v.4))

pub returns-in_default-3-clause-value : goal.returns-in_default-3-clause-value
returns-in_default-3-clause-value c =
    let l = subst (λ (h : Head). IsLeadIn c.args.language c.args.text.now (Some (view_head h, c.in-Some.after.now))) c.in-Sequence.is c.in-Some.ensures.parts in
    let e = subst (λ (o : Option (Bor (List ℕ) × Bor (List ℕ))). IsEnclosed c.args.language Square c.in-Some.after.now (parts_of o)) c.in_default-3.is c.in_ok-inside-in-Sequence.ensures.parts in
    sequence_none c.args.language c.args.text.now c.in-Some.after.now c.in-Sequence.name.now l e

pub returns-then-not-ends_there-3-clause-value : goal.returns-then-not-ends_there-3-clause-value
returns-then-not-ends_there-3-clause-value c =
    let l = subst (λ (h : Head). IsLeadIn c.args.language c.args.text.now (Some (view_head h, c.in-Some.after.now))) c.in-Sequence.is c.in-Some.ensures.parts in
    let e = subst (λ (o : Option (Bor (List ℕ) × Bor (List ℕ))). IsEnclosed c.args.language Square c.in-Some.after.now (parts_of o)) c.in-Some-3.is c.in_ok-inside-in-Sequence.ensures.parts in
    sequence_open c.args.language c.args.text.now c.in-Some.after.now c.in-Sequence.name.now c.in-Some-3.inside.now c.in-Some-3.rest.now l e (ends_not c.in-Some-3.rest.now (sym c.ends_there-in-Sequence.ensures ∙ c.if-not-ends_there-3.true))

pub returns-else-not-ends_there-3-clause-value : goal.returns-else-not-ends_there-3-clause-value
returns-else-not-ends_there-3-clause-value c =
    let l = subst (λ (h : Head). IsLeadIn c.args.language c.args.text.now (Some (view_head h, c.in-Some.after.now))) c.in-Sequence.is c.in-Some.ensures.parts in
    let e = subst (λ (o : Option (Bor (List ℕ) × Bor (List ℕ))). IsEnclosed c.args.language Square c.in-Some.after.now (parts_of o)) c.in-Some-3.is c.in_ok-inside-in-Sequence.ensures.parts in
    let v = sequence_value c.args.language c.args.text.now c.in-Some.after.now c.in-Sequence.name.now c.in-Some-3.inside.now c.in-Some-3.rest.now l e (ends_found c.in-Some-3.rest.now (sym c.ends_there-in-Sequence.ensures ∙ c.if-not-ends_there-3.false)) in
    (shapes.sequence c.in-Sequence.name.now v.0, v.1, (v.0, refl, v.2, v.3))

pub returns-in_default-4-clause-value : goal.returns-in_default-4-clause-value
returns-in_default-4-clause-value c =
    let l = subst (λ (h : Head). IsLeadIn c.args.language c.args.text.now (Some (view_head h, c.in-Some.after.now))) c.in-Nodes.is c.in-Some.ensures.parts in
    let e = subst (λ (o : Option (Bor (List ℕ) × Bor (List ℕ))). IsEnclosed c.args.language Angle c.in-Some.after.now (parts_of o)) c.in_default-4.is c.in_ok-inside-in-Nodes.ensures.parts in
    nodes_none c.args.language c.args.text.now c.in-Some.after.now l e

pub returns-then-not-ends_there-4-clause-value : goal.returns-then-not-ends_there-4-clause-value
returns-then-not-ends_there-4-clause-value c =
    let l = subst (λ (h : Head). IsLeadIn c.args.language c.args.text.now (Some (view_head h, c.in-Some.after.now))) c.in-Nodes.is c.in-Some.ensures.parts in
    let e = subst (λ (o : Option (Bor (List ℕ) × Bor (List ℕ))). IsEnclosed c.args.language Angle c.in-Some.after.now (parts_of o)) c.in-Some-4.is c.in_ok-inside-in-Nodes.ensures.parts in
    nodes_open c.args.language c.args.text.now c.in-Some.after.now c.in-Some-4.inside.now c.in-Some-4.rest.now l e (ends_not c.in-Some-4.rest.now (sym c.ends_there-in-Nodes.ensures ∙ c.if-not-ends_there-4.true))

pub returns-else-not-ends_there-4-clause-value : goal.returns-else-not-ends_there-4-clause-value
returns-else-not-ends_there-4-clause-value c =
    let l = subst (λ (h : Head). IsLeadIn c.args.language c.args.text.now (Some (view_head h, c.in-Some.after.now))) c.in-Nodes.is c.in-Some.ensures.parts in
    let e = subst (λ (o : Option (Bor (List ℕ) × Bor (List ℕ))). IsEnclosed c.args.language Angle c.in-Some.after.now (parts_of o)) c.in-Some-4.is c.in_ok-inside-in-Nodes.ensures.parts in
    let v = nodes_value c.args.language c.args.text.now c.in-Some.after.now c.in-Some-4.inside.now c.in-Some-4.rest.now l e (ends_found c.in-Some-4.rest.now (sym c.ends_there-in-Nodes.ensures ∙ c.if-not-ends_there-4.false)) in
    (shapes.nodes v.0, v.1, (v.0, refl, v.2, v.3))

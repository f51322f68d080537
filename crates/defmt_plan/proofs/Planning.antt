-- The plans of a table.
use Rattle.std.proofs.Common.{◌≡◌, ◌<◌, ℕ, zero, suc, List, [], ◌∷◌, ◌++◌, length, codes, get_or, refl, sym, ap, ◌∙◌, subst, arith, append_assoc, Option, Some, None, is_some}
use Rattle.defmt_grammar.specs.declared.piece.Piece.{Piece}
use Rattle.defmt_intern.specs.Stamp.{stamp_of}
use Rattle.defmt_intern.specs.Table.{Map}
use Rattle.defmt_eager.specs.Line.{stamp_space}
use Rattle.defmt_plan.specs.Plans.{ArePlansIn, HasFront, IsPlanIn, Leads, lead_text, space_if}
use Rattle.defmt_plan.specs.declared.plan.Plan.{Plan}

pub plans_more : (t : Map) (plans : List Plan) (plan : Plan) → ArePlansIn t plans → IsPlanIn t plan → ArePlansIn t (plans ++ plan ∷ [])
plans_more t [] plan h is = (is, tt)
plans_more t (p ∷ plans) plan h is = (h.0, plans_more t plans plan h.1 is)

pub plan_at : (t : Map) (plans : List Plan) (number : ℕ) (plan : Plan) → ArePlansIn t plans → number < length plans → plan ≡ get_or plans number plan → IsPlanIn t plan
plan_at t [] number plan h lt e = absurd (omega (arith, lt))
plan_at t (p ∷ plans) zero plan h lt e = subst (λ (q : Plan). IsPlanIn t q) (sym e) h.0
plan_at t (p ∷ plans) (suc number) plan h lt e = plan_at t plans number plan h.1 (omega (arith, lt)) e

pub space_is : (o : Option ℕ) → space_if (is_some o) ≡ stamp_space o
space_is None = refl
space_is (Some index) = refl

pub front_none : (t : Map) (level : Option (List ℕ)) (pieces : List Piece) → None ≡ level → HasFront t level pieces None pieces
front_none t None pieces e = record { lead = None; pieces_are = refl; front_is = (refl, refl) }
front_none t (Some l) pieces e = absurd (cc e)

same_level : (l m : List ℕ) → Some l ≡ Some m → l ≡ m
same_level l m e = cc e

pub front_some : (t : Map) (level : Option (List ℕ)) (l : List ℕ) (pieces rest : List Piece) (start front : List ℕ) → Some l ≡ level → start ≡ stamp_space (stamp_of t) ++ (l ++ codes " ") → Leads pieces rest start front → HasFront t level pieces (Some front) rest
front_some t None l pieces rest start front e is x = absurd (cc e)
front_some t (Some m) l pieces rest start front e is x =
    let space : List ℕ = stamp_space (stamp_of t) in
    let literal : List ℕ = lead_text x.lead in
    record {
      lead = x.lead;
      pieces_are = x.pieces_are;
      front_is = ap (λ (f : List ℕ). Some f) (x.text ∙ ap (λ (s : List ℕ). s ++ literal) is ∙ append_assoc space (l ++ codes " ") literal ∙ ap (λ (n : List ℕ). space ++ ((n ++ codes " ") ++ literal)) (same_level l m e));
    }

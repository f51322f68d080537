use Rattle.std.proofs.Common.{◌∷◌, ◌++◌, ℕ, List, Some, None, refl, sym, ◌∙◌, ap}
use Rattle.std.proofs.lemmas.List.{append-nil}
use Rattle.defmt_grammar.specs.declared.piece.Piece.{Piece}
use Rattle.defmt_plan.proofs.plan.take_lead.Goals as goal

pub returns-in_default : goal.returns-in_default
returns-in_default c = record { lead = None; pieces_are = refl; text = sym (append-nil c.args.front.now) }

pub returns-in_ok-push_str-in-Literal : goal.returns-in_ok-push_str-in-Literal
returns-in_ok-push_str-in-Literal c = record {
  lead = Some c.in-Literal.text;
  pieces_are = c.in-Some.ensures.cases.0 ∙ ap (λ (p : Piece). p ∷ c.in-Some.rest.now) c.in-Literal.is;
  text = c.in_ok-push_str-in-Literal.ensures.ok ∙ ap (λ (text : List ℕ). c.args.front.now ++ text) c.as_str.ensures.text;
}

pub returns-in-Param : goal.returns-in-Param
returns-in-Param c = record { lead = None; pieces_are = refl; text = sym (append-nil c.args.front.now) }

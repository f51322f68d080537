use Rattle.std.proofs.Common.{subst, sym, ◌∙◌}
use Rattle.defmt_intern.specs.declared.parsed.Parsed.{Parsed}
use Rattle.defmt_plan.specs.Forms.{IsBody}
use Rattle.defmt_plan.proofs.forms.form_at.Goals as goal

pub returns : goal.returns
returns c = record {
  entry = c.in-Some.entry.now;
  there = c.in-Some.ensures.0;
  tag = sym c.is_format.ensures ∙ c.if-not-is_format.false;
  body = subst (λ (p : Parsed). IsBody p c.in-Some-2.body) c.in-Some.ensures.1 (rw c.in-Some-2.is at c.in_ok-body.ensures);
}

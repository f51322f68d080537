use Rattle.std.proofs.Common.{sym, ◌∙◌}
use Rattle.defmt_plan.proofs.plan.plan_of.Goals as goal

pub returns : goal.returns
returns c =
    let h = c.in_ok-front.ensures in
    record {
      entry = c.in-Some.entry.now;
      there = c.in-Some.ensures.0;
      pieces = c.in-One.pieces;
      body = sym c.in-Some.ensures.1 ∙ c.in-One.is;
      logged = sym c.is_logged.ensures ∙ c.if-not-is_logged.false;
      rest = c.in_ok-front.rest.now;
      own = record {
        lead = h.lead;
        pieces_are = sym c.as_slice.ensures.pieces ∙ h.pieces_are;
        front_is = h.front_is;
      };
      named = c.level_size-named.ensures;
      steps_are = rw c.in-Some-2.is at c.in_ok-steps.ensures;
    }

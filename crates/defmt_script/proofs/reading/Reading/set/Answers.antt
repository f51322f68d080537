use Rattle.std.proofs.Common.{ap, subst, sym, ◌∙◌}
use Rattle.defmt_intern.specs.Table.{Map}
use Rattle.defmt_lines.specs.Form.{in_order}
use Rattle.defmt_script.proofs.Steadiness.{sets_steady, state}
use Rattle.defmt_script.specs.State.{State}
use Rattle.defmt_script.specs.Steady.{IsSteady, StaysLawful}
use Rattle.defmt_script.proofs.reading.Reading.set.Goals as goal

pub invariant_of-self : goal.invariant_of-self
invariant_of-self c =
    let order = sym c.is_in_order.ensures ∙ c.if-not-is_in_order.false in record {
      steady = subst (λ (m : Map). IsSteady (state c.next-self-inside.result c.in-Ok.settings m c.self.inside.names c.self.inside.writers.items c.self.inside.said)) (sym c.begin_table.ensures)
          (sets_steady _ _ c.args.form _ c.in-Ok.settings _ _ _ _ c.self.invariant.steady order
          (subst (λ (v : State). StaysLawful c.args.form v.script.settings c.in-Ok.settings) (sym c.self.view_is)
          (c.requires c.in-Ok.settings c.in-Ok.is (ap (λ (v : State). in_order v.first c.args.form) (sym c.self.view_is) ∙ order)))
          c.next-self-inside.ensures);
      strings_are = c.self.invariant.strings_are;
      statements_are = c.self.invariant.statements_are;
      told = c.self.invariant.told;
      sound = c.self.invariant.sound;
    }

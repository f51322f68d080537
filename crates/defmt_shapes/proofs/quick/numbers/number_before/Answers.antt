use Rattle.std.proofs.Common.{◌∙◌, sym, subst, arith}
use Rattle.defmt_shapes.specs.Shape.{EndsThere}
use Rattle.defmt_shapes.proofs.ValueLaws.{ends_found, ends_not}
use Rattle.defmt_shapes.proofs.DecimalLaws.{no_digits, no_end}
use Rattle.defmt_shapes.proofs.QuickHeads.{decimal_there}
use Rattle.defmt_shapes.proofs.quick.numbers.number_before.Goals as goal

pub returns-then-at-eq0-clause-value : goal.returns-then-at-eq0-clause-value
returns-then-at-eq0-clause-value c = λ language n rest h. absurd (no_digits language c.args.text.now rest c.args.at n (omega arith) c.requires.digits c.requires.stop h)

pub returns-then-ends_there-clause-value : goal.returns-then-ends_there-clause-value
returns-then-ends_there-clause-value c = λ language.
    decimal_there language c.args.text.now c.args.at c.args.number c.split_at.result.0.now c.split_at.result.1.now c.requires.digits c.requires.value c.split_at.ensures.front c.split_at.ensures.back (omega arith)
    (ends_found c.split_at.result.1.now (sym c.ends_there.ensures ∙ c.if-ends_there.true))

pub returns-else-ends_there-clause-value : goal.returns-else-ends_there-clause-value
returns-else-ends_there-clause-value c = λ language n rest h.
    absurd (no_end language c.args.text.now rest c.args.at n (λ e. ends_not c.split_at.result.1.now (sym c.ends_there.ensures ∙ c.if-ends_there.false) (subst EndsThere (sym c.split_at.ensures.back) e)) c.requires.digits c.requires.stop h)

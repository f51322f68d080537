use Rattle.std.proofs.Common.{◌∙◌, sym, refl}
use Rattle.defmt_shapes.specs.Shape.{flag_word}
use Rattle.defmt_shapes.proofs.ValueLaws.{ends_found, ends_not}
use Rattle.defmt_shapes.proofs.FlagLaws.{flag_ends}
use Rattle.defmt_shapes.proofs.quick.words.quick_flag.Goals as goal

pub returns-in_default-clause-value : goal.returns-in_default-clause-value
returns-in_default-clause-value c = λ language b rest h. c.in_default.ensures.text b rest (rw h.spelled at h.text_is)

pub returns-then-ends_there-clause-value : goal.returns-then-ends_there-clause-value
returns-then-ends_there-clause-value c = λ language. record {
  front = flag_word c.in-Some.value;
  spelled = refl;
  ends = ends_found c.in-Some.rest.now (sym c.ends_there.ensures ∙ c.if-ends_there.true);
  text_is = c.in-Some.ensures.text;
}

pub returns-else-ends_there-clause-value : goal.returns-else-ends_there-clause-value
returns-else-ends_there-clause-value c = λ language b rest h.
    ends_not c.in-Some.rest.now (sym c.ends_there.ensures ∙ c.if-ends_there.false) (flag_ends language c.args.text.now c.in-Some.rest.now rest c.in-Some.value b c.in-Some.ensures.text h)

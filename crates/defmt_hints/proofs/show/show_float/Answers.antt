use Rattle.std.proofs.Common.{ℕ, List, subst, ◌∙◌}
use Rattle.defmt_hints.proofs.Appending.{Appends-pushed}
use Rattle.defmt_hints.specs.Appends.{Appends}
use Rattle.defmt_hints.specs.Printed.{printed_float}
use Rattle.defmt_hints.proofs.show.show_float.Goals as goal

pub returns-in-W32 : goal.returns-in-W32
unfolding printed_float
returns-in-W32 c =
    rw c.in-W32.is (subst (λ (t : List ℕ). Appends c.push_str.result c.args.out.now c.push_str.new.self t) (c.as_str.ensures.value ∙ c.f32_text.ensures)
    (Appends-pushed c.push_str.result c.args.out.now c.push_str.new.self c.as_str.result.now c.push_str.ensures.ok c.push_str.ensures.err))

pub returns-in-W64 : goal.returns-in-W64
unfolding printed_float
returns-in-W64 c =
    rw c.in-W64.is (subst (λ (t : List ℕ). Appends c.push_str-in-W64.result c.args.out.now c.push_str-in-W64.new.self t) (c.as_str-in-W64.ensures.value ∙ c.f64_text.ensures)
    (Appends-pushed c.push_str-in-W64.result c.args.out.now c.push_str-in-W64.new.self c.as_str-in-W64.result.now c.push_str-in-W64.ensures.ok c.push_str-in-W64.ensures.err))

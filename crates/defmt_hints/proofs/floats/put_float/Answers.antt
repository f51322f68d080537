use Rattle.std.proofs.Common.{ℕ, List, subst, ◌∙◌}
use Rattle.defmt_hints.specs.Printed.{printed_float}
use Rattle.defmt_hints.specs.Written.{Writes}
use Rattle.defmt_hints.proofs.floats.put_float.Goals as goal

pub returns-in-W32 : goal.returns-in-W32
unfolding printed_float
returns-in-W32 c =
    rw c.in-W32.is (subst (λ (t : List ℕ). Writes c.put_text.result c.args.out.now c.args.at c.put_text.new.out t) (c.as_bytes.ensures.value ∙ c.as_str.ensures.value ∙ c.f32_text.ensures) c.put_text.ensures)

pub returns-in-W64 : goal.returns-in-W64
unfolding printed_float
returns-in-W64 c =
    rw c.in-W64.is (subst (λ (t : List ℕ). Writes c.put_text-in-W64.result c.args.out.now c.args.at c.put_text-in-W64.new.out t) (c.as_bytes-in-W64.ensures.value ∙ c.as_str-in-W64.ensures.value ∙ c.f64_text.ensures) c.put_text-in-W64.ensures)

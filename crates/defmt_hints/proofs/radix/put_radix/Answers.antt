use Rattle.std.proofs.Common.{◌≡◌, ◌-◌, ap, ◌∙◌, false, List, ℕ, length}
use Rattle.std.proofs.Math.Nat.{sub-zero}
use Rattle.defmt_grammar.specs.declared.hint.Base.{Base}
use Rattle.defmt_hints.specs.Digits.{number_text, zero_filled}
use Rattle.defmt_hints.specs.Printed.{radix_text, base_prefix, base_number, is_upper}
use Rattle.defmt_hints.proofs.Chains.{writes_two, full_front}
use Rattle.defmt_hints.proofs.radix.put_radix.Goals as goal

without_prefix : (base : Base) (width n : ℕ) → radix_text base false width n ≡ zero_filled width (number_text (base_number base) (is_upper base) n)
unfolding radix_text
without_prefix base width n = ap (λ (k : ℕ). zero_filled k (number_text (base_number base) (is_upper base) n)) (sub-zero width)

pub returns-then-not-alt : goal.returns-then-not-alt
returns-then-not-alt c = rw (c.if-not-alt.true, without_prefix c.args.base c.args.width c.args.number) c.put_in_base.ensures

pub returns-in_err-middle : goal.returns-in_err-middle
unfolding radix_text
returns-in_err-middle c =
    let prefix : List ℕ = base_prefix c.args.base in
    rw (c.from_residual.ensures, c.if-not-alt.false) (full_front _ _ _ prefix (zero_filled (c.args.width - length prefix) (number_text (base_number c.args.base) (is_upper c.args.base) c.args.number))
    (rw (c.as_bytes.ensures.value, c.prefix_of-prefix.ensures.text) at c.in_err-middle.ensures))

pub returns : goal.returns
unfolding radix_text
returns c =
    let prefix : List ℕ = base_prefix c.args.base in
    let zeros : c.saturating_sub-zeros_and_digits.result ≡ c.args.width - length prefix = c.saturating_sub-zeros_and_digits.ensures ∙ ap (λ (t : List ℕ). c.args.width - length t) c.prefix_of-prefix.ensures.text in
    rw c.if-not-alt.false (writes_two c.put_in_base-2.result c.args.out.now c.put.new.out c.put_in_base-2.new.out c.args.at c.in_ok-middle.middle prefix (zero_filled (c.args.width - length prefix) (number_text (base_number c.args.base) (is_upper c.args.base) c.args.number))
    c.requires
    (rw (c.as_bytes.ensures.value, c.prefix_of-prefix.ensures.text) at c.in_ok-middle.ensures)
    (rw zeros at c.put_in_base-2.ensures))

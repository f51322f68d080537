use Rattle.std.proofs.Common.{◌≡◌, ◌-◌, ap, ◌∙◌, List, ℕ, length}
use Rattle.defmt_hints.specs.Digits.{number_text, zero_filled}
use Rattle.defmt_hints.specs.Printed.{radix_text, prefix_text, base_number, is_upper}
use Rattle.defmt_hints.proofs.Chains.{writes_two, full_front}
use Rattle.defmt_hints.proofs.radix.put_great_radix.Goals as goal

pub returns-in_err-middle : goal.returns-in_err-middle
unfolding radix_text
returns-in_err-middle c =
    let prefix : List ℕ = prefix_text c.args.base c.args.alt in
    rw c.from_residual.ensures (full_front _ _ _ prefix (zero_filled (c.args.width - length prefix) (number_text (base_number c.args.base) (is_upper c.args.base) c.args.number))
    (rw (c.as_bytes.ensures.value, c.prefix_text-prefix.ensures.text) at c.in_err-middle.ensures))

pub returns : goal.returns
unfolding radix_text
returns c =
    let prefix : List ℕ = prefix_text c.args.base c.args.alt in
    let zeros : c.saturating_sub-places.result ≡ c.args.width - length prefix = c.saturating_sub-places.ensures ∙ ap (λ (t : List ℕ). c.args.width - length t) c.prefix_text-prefix.ensures.text in
    writes_two c.put_digits.result c.args.out.now c.put.new.out c.put_digits.new.out c.args.at c.in_ok-middle.middle prefix (zero_filled (c.args.width - length prefix) (number_text (base_number c.args.base) (is_upper c.args.base) c.args.number)) c.requires
    (rw (c.as_bytes.ensures.value, c.prefix_text-prefix.ensures.text) at c.in_ok-middle.ensures)
    (rw (zeros, c.base_number.ensures, c.is_upper.ensures) at c.put_digits.ensures)

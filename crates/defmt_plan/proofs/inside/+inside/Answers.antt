use Rattle.std.proofs.Common.{◌+◌, drop, drop_of_length-le, refl, arith, codes}
use Rattle.defmt_intern.specs.Body.{body_of}
use Rattle.defmt_grammar.specs.declared.kind.Kind.TheVariants as kinds
use Rattle.defmt_plan.proofs.Elements.{counting_none, counting_more, counting_all, counting_fails}
use Rattle.defmt_plan.proofs.Forming.{variant_there}
use Rattle.defmt_plan.proofs.Insides.{counted_passes, form_one, form_variant, format_passes, list_by, some_none, some_passes, stands}
use Rattle.defmt_plan.proofs.Onward.{going_none, going_more, going_all, going_fails, next_step}
use Rattle.defmt_plan.proofs.Reached.{bits_by, peek_by, text_by, value_by}
use Rattle.defmt_plan.proofs.Remaining.{index_carried, number_carried}
use Rattle.defmt_eager.proofs.Parts.{placed}
use Rattle.defmt_eager.proofs.Utf8.{utf8_close, utf8_comma, utf8_open}
use Rattle.defmt_hints.proofs.Chains.{kept_behind, written_two}
use Rattle.defmt_plan.proofs.inside.+inside.Goals as goal

-- ---- all steps

pub pass_steps-loop-step-init : goal.pass_steps-loop-step-init
pass_steps-loop-step-init t c = λ u are. going_none u c.args.left c.args.outer c.args.steps.now c.args.bytes.now c.args.before c.args.out.now c.requires.few c.requires.read c.requires.written

pub pass_steps-loop-step-preserved : goal.pass_steps-loop-step-preserved
pass_steps-loop-step-preserved t c = λ u are.
    going_more u c.args.left c.args.outer c.args.steps.now c.args.bytes.now c.args.before c.args.out.now c.step-item.result _ (drop (c.loop-step.step-index + 1) c.args.steps.now) c.loop-step.reach c.in_ok-reach.reach c.loop-step.out c.pass_step.new.out (c.loop-step.invariant u are)
    (next_step c.args.steps.now c.loop-step.step-index c.step-item.result c.loop-step-test.true c.step-item.is)
    (c.in_ok-reach.ensures u are)

pub pass_steps-returns-in_err-reach : goal.pass_steps-returns-in_err-reach
pass_steps-returns-in_err-reach t c = λ u all pieces are a.
    going_fails u c.args.left c.args.outer c.args.steps.now c.args.bytes.now c.args.before c.args.out.now _ c.loop-step.reach c.loop-step.out c.pass_step.new.out c.step-item.result c.pass_step.result c.from_residual.result (c.loop-step.invariant u are) c.in_err-reach.was c.from_residual.ensures (c.pass_step.ensures u are) all pieces

pub pass_steps-returns : goal.pass_steps-returns
pass_steps-returns t c = λ u all pieces are a.
    going_all u c.args.left c.args.outer c.args.steps.now c.args.bytes.now c.args.before c.args.out.now _ c.loop-step.reach c.loop-step.out (c.loop-step.invariant u are) (drop_of_length-le c.args.steps.now c.loop-step-test.false) all pieces a

-- what the next step may rest on
pub pass_steps-pass_step-requires : goal.pass_steps-pass_step-requires
pass_steps-pass_step-requires t c =
    let h = c.loop-step.invariant c.requires.planned.table c.requires.planned.are in
    (omega arith, (h.read, (h.written, (h.few, c.requires.planned))))

-- ---- one step

pub pass_step-returns-in-Value : goal.pass_step-returns-in-Value
pass_step-returns-in-Value t c = λ u are.
    rw c.in-Value.is (value_by c.pass_any.result u c.args.left c.args.outer c.in-Value.hint c.acting.result c.in-Value.kind c.args.bytes.now c.args.before c.args.out.now c.pass_any.new.out c.acting.ensures (c.pass_any.ensures u are))

pub pass_step-returns-in-Peek : goal.pass_step-returns-in-Peek
pass_step-returns-in-Peek t c = λ u are.
    rw c.in-Peek.is (peek_by c.pass_bits.result u c.args.left c.args.outer c.in-Peek.hint c.acting-in-Peek.result c.in-Peek.field c.args.bytes.now c.args.before c.args.out.now c.pass_bits.new.out c.acting-in-Peek.ensures c.pass_bits.ensures.field c.pass_bits.ensures.read c.pass_bits.ensures.opened)

pub pass_step-returns-in-Bits : goal.pass_step-returns-in-Bits
pass_step-returns-in-Bits t c = λ u are.
    rw c.in-Bits.is (bits_by c.pass_bits-in-Bits.result u c.args.left c.args.outer c.in-Bits.hint c.acting-in-Bits.result c.in-Bits.field c.args.bytes.now c.args.before c.args.out.now c.pass_bits-in-Bits.new.out c.acting-in-Bits.ensures c.pass_bits-in-Bits.ensures.field c.pass_bits-in-Bits.ensures.read c.pass_bits-in-Bits.ensures.opened)

pub pass_step-returns-in_ok-written-in-Text : goal.pass_step-returns-in_ok-written-in-Text
pass_step-returns-in_ok-written-in-Text t c = λ u are.
    rw c.in-Text.is (text_by u c.args.left c.args.outer c.in-Text.text c.args.bytes.now c.args.before c.args.out.now c.put_text.new.out c.in_ok-written-in-Text.written (placed c.as_str.ensures.utf8 (rw (c.as_bytes.ensures.value, c.as_str.ensures.text) at c.in_ok-written-in-Text.ensures)))

-- ---- a value of a kind

pub pass_any-returns-in-Format : goal.pass_any-returns-in-Format
pass_any-returns-in-Format t c = λ u are. rw c.in-Format.is (c.pass_format.ensures u are)

pub pass_any-returns-in_ok-count-in-FormatSlice : goal.pass_any-returns-in_ok-count-in-FormatSlice
pass_any-returns-in_ok-count-in-FormatSlice t c = λ u are.
    let n = c.in_ok-count-in-FormatSlice in
    rw c.in-FormatSlice.is
    (counted_passes c.pass_list.result u c.args.left n.count c.args.hint c.args.bytes.now c.args.before c.behind.result c.args.out.now c.pass_list.new.out
    (number_carried c.args.bytes.now c.args.before.read 4 n.count n.ensures.carried n.ensures.small) c.behind.ensures.read c.behind.ensures.written c.behind.ensures.opened (c.pass_list.ensures u kinds.FormatSlice are))

pub pass_any-returns-in-FormatArray : goal.pass_any-returns-in-FormatArray
pass_any-returns-in-FormatArray t c = λ u are. rw c.in-FormatArray.is ((rw c.from.ensures at c.pass_list-in-FormatArray.ensures) u (kinds.FormatArray c.in-FormatArray.count) are)

pub pass_any-returns-in_default : goal.pass_any-returns-in_default
pass_any-returns-in_default t c = λ u are. c.pass_leaf.ensures u c.args.left

pub pass_any-behind-requires : goal.pass_any-behind-requires
pass_any-behind-requires t c = omega (arith, c.in_ok-count-in-FormatSlice.ensures.carried.within)

pub pass_any-pass_list-requires : goal.pass_any-pass_list-requires
pass_any-pass_list-requires t c = (
  omega arith,
  (omega (arith, c.behind.ensures.read, c.in_ok-count-in-FormatSlice.ensures.carried.within), (omega (arith, c.behind.ensures.written, c.requires.written), (omega (arith, c.behind.ensures.opened, c.requires.few), c.requires.planned))),
)

-- ---- a list between its brackets

pub pass_list-returns : goal.pass_list-returns
pass_list-returns t c = λ u kind are.
    list_by u c.args.left kind c.args.hint c.args.bytes.now c.args.before (record { read = c.args.before.read; written = c.in_ok-open.open; opened = c.args.before.opened }) c.in_ok-all.all (record { read = c.in_ok-all.all.read; written = c.in_ok-close.close; opened = c.in_ok-all.all.opened }) c.args.out.now c.put.new.out c.pass_some.new.out c.put-2.new.out c.args.count refl refl
    (placed utf8_open c.in_ok-open.ensures) (c.in_ok-all.ensures u are) (placed utf8_close c.in_ok-close.ensures) refl refl

pub pass_list-returns-in_err-all : goal.pass_list-returns-in_err-all
pass_list-returns-in_err-all t c = λ u kind are. rw c.from_residual-in_err-all.ensures (kept_behind c.args.out.now c.put.new.out c.pass_some.new.out c.args.before.written c.in_ok-open.open (codes "[") c.requires.written c.in_ok-open.ensures (c.in_err-all.ensures u are))

pub pass_list-returns-in_err-close : goal.pass_list-returns-in_err-close
pass_list-returns-in_err-close t c = λ u kind are.
    rw c.from_residual-in_err-close.ensures
    (kept_behind c.args.out.now c.pass_some.new.out c.put-2.new.out c.args.before.written c.in_ok-all.all.written _ c.requires.written
    (written_two c.args.out.now c.put.new.out c.pass_some.new.out c.args.before.written c.in_ok-open.open c.in_ok-all.all.written (codes "[") _ c.in_ok-open.ensures (c.in_ok-all.ensures u are).written.written) c.in_err-close.ensures.kept)

pub pass_list-pass_some-requires : goal.pass_list-pass_some-requires
pass_list-pass_some-requires t c = (omega arith, (c.requires.read, (omega (arith, c.in_ok-open.ensures.within, c.in_ok-open.ensures.long), (c.requires.few, c.requires.planned))))

pub pass_list-put-requires-2 : goal.pass_list-put-requires-2
pass_list-put-requires-2 t c = let p = c.in_ok-all.ensures c.requires.planned.table c.requires.planned.are in omega (arith, p.written.written.within, p.written.written.long)

-- ---- a value behind its index

pub pass_format-returns : goal.pass_format-returns
pass_format-returns t c = λ u are.
    format_passes u c.args.left c.in_ok-form.form.now c.args.hint c.args.bytes.now c.args.before c.args.out.now c.pass_form.new.out c.behind.result c.pass_form.result (omega arith) (c.in_ok-form.ensures.is u are)
    (index_carried c.args.bytes.now c.args.before.read c.in_ok-form.form.now.index c.in_ok-number.number (omega (arith, c.in_ok-form.ensures.at, c.in_ok-number.ensures.small)) c.in_ok-number.ensures.carried c.in_ok-number.ensures.small) c.behind.ensures.read c.behind.ensures.written c.behind.ensures.opened
    (λ what s. c.pass_form.ensures u what are s)

pub pass_some-returns : goal.pass_some-returns
pass_some-returns t c = λ u are.
    some_passes u c.args.left c.in_ok-form.form.now c.args.hint c.args.bytes.now c.args.before c.args.out.now c.pass_elements.new.out c.behind.result c.pass_elements.result c.args.count (omega arith) (omega arith) (c.in_ok-form.ensures.is u are)
    (index_carried c.args.bytes.now c.args.before.read c.in_ok-form.form.now.index c.in_ok-number.number (omega (arith, c.in_ok-form.ensures.at, c.in_ok-number.ensures.small)) c.in_ok-number.ensures.carried c.in_ok-number.ensures.small) c.behind.ensures.read c.behind.ensures.written c.behind.ensures.opened
    (λ what s. c.pass_elements.ensures u what are s)

pub pass_some-returns-then-count-eq0 : goal.pass_some-returns-then-count-eq0
pass_some-returns-then-count-eq0 t c = λ u are. some_none u c.args.left c.args.count c.args.hint c.args.bytes.now c.args.before c.args.out.now (omega arith) c.requires.few c.requires.read c.requires.written

pub pass_format-behind-requires : goal.pass_format-behind-requires
pass_format-behind-requires t c = omega (arith, c.in_ok-number.ensures.carried.within)

pub pass_some-behind-requires : goal.pass_some-behind-requires
pass_some-behind-requires t c = omega (arith, c.in_ok-number.ensures.carried.within)

pub pass_format-pass_form-requires : goal.pass_format-pass_form-requires
pass_format-pass_form-requires t c =
    let own = c.requires.planned in (
      omega arith,
      (
        omega (arith, c.behind.ensures.read, c.in_ok-number.ensures.carried.within),
        (
          omega (arith, c.behind.ensures.written, c.requires.written),
          (omega (arith, c.behind.ensures.opened, c.requires.few), record { table = own.table; are = own.are; is = c.in_ok-form.ensures.is own.table own.are }),
        ),
      ),
    )

pub pass_some-pass_elements-requires : goal.pass_some-pass_elements-requires
pass_some-pass_elements-requires t c =
    let own = c.requires.planned in (
      omega arith,
      (
        omega (arith, c.behind.ensures.read, c.in_ok-number.ensures.carried.within),
        (
          omega (arith, c.behind.ensures.written, c.requires.written),
          (omega (arith, c.behind.ensures.opened, c.requires.few), record { table = own.table; are = own.are; is = c.in_ok-form.ensures.is own.table own.are }),
        ),
      ),
    )

-- ---- an element

pub pass_form-pass_steps-requires : goal.pass_form-pass_steps-requires
pass_form-pass_steps-requires t c = (omega arith, (c.requires.read, (c.requires.written, (omega arith, record { table = c.requires.planned.table; are = c.requires.planned.are }))))

pub pass_form-behind-requires : goal.pass_form-behind-requires
pass_form-behind-requires t c = omega (arith, c.in_ok-variant-in-Variants.ensures.carried.within)

pub pass_form-pass_steps-requires-in-Variants : goal.pass_form-pass_steps-requires-in-Variants
pass_form-pass_steps-requires-in-Variants t c = (
  omega arith,
  (
    omega (arith, c.behind.ensures.read, c.in_ok-variant-in-Variants.ensures.carried.within),
    (omega (arith, c.behind.ensures.written, c.requires.written), (omega (arith, c.behind.ensures.opened), record { table = c.requires.planned.table; are = c.requires.planned.are })),
  ),
)

pub pass_form-returns-in-One : goal.pass_form-returns-in-One
pass_form-returns-in-One t c = λ u what are s.
    form_one u c.args.left c.args.form.now c.args.hint c.args.bytes.now c.args.before c.args.out.now c.pass_steps.new.out (record { read = c.args.before.read; written = c.args.before.written; opened = c.args.before.opened + 1 }) c.pass_steps.result c.in-One.steps c.in-One.is (omega arith) refl refl refl
    (λ all pieces a. (rw c.deref.ensures.value at c.pass_steps.ensures) u all pieces are a) what s

pub pass_form-returns-in_ok-steps-in-Variants : goal.pass_form-returns-in_ok-steps-in-Variants
pass_form-returns-in_ok-steps-in-Variants t c = λ u what are s.
    let v = c.in_ok-variant-in-Variants in
    let at = rw c.deref-in-Variants.ensures.value at c.in_ok-steps-in-Variants.ensures.lookup in
    form_variant u c.args.left c.args.form.now c.args.hint c.args.bytes.now c.args.before c.args.out.now c.pass_steps-in-Variants.new.out c.behind.result c.pass_steps-in-Variants.result c.in-Variants.all v.variant c.in_ok-steps-in-Variants.steps.now c.in-Variants.is (omega arith) (omega (arith, v.ensures.small))
    (number_carried c.args.bytes.now c.args.before.read 1 v.variant v.ensures.carried v.ensures.small)
    (λ forms are_all. variant_there forms c.in-Variants.all.items v.variant c.in_ok-steps-in-Variants.steps.now are_all (omega (arith, at.3.0)) at.1)
    c.behind.ensures.read c.behind.ensures.written c.behind.ensures.opened
    (λ all pieces a. (rw c.deref-in-Variants-2.ensures.value at c.pass_steps-in-Variants.ensures) u all pieces are a) what s

-- ---- elements

pub pass_elements-loop-number-init : goal.pass_elements-loop-number-init
pass_elements-loop-number-init t c = λ u what are s. counting_none u c.args.left what c.args.form.now.index c.args.hint c.args.count c.args.bytes.now c.args.before c.args.out.now c.requires.few c.requires.read c.requires.written

pub pass_elements-loop-number-preserved : goal.pass_elements-loop-number-preserved
pass_elements-loop-number-preserved t c = λ u what are s.
    counting_more u c.args.left what c.args.form.now.index c.args.hint c.args.count c.args.bytes.now c.args.before c.args.out.now c.loop-number.number c.loop-number.reach (record { read = c.loop-number.reach.read; written = c.in_ok-parted.parted; opened = c.loop-number.reach.opened }) c.in_ok-reach.reach c.loop-number.out c.put.new.out c.pass_form.new.out c.loop-number-test.true (c.loop-number.invariant u what are s) refl refl
    (placed (utf8_comma _) (rw (c.as_bytes.ensures.value, c.comma.ensures) at c.in_ok-parted.ensures)) (c.in_ok-reach.ensures u what are s)

pub pass_elements-returns : goal.pass_elements-returns
pass_elements-returns t c = λ u what are s. counting_all u c.args.left what c.args.form.now.index c.args.hint c.args.count c.args.bytes.now c.args.before c.args.out.now c.loop-number.number c.loop-number.reach c.loop-number.out (omega (arith, c.loop-number-test.false)) (c.loop-number.invariant u what are s)

pub pass_elements-returns-in_err-parted : goal.pass_elements-returns-in_err-parted
pass_elements-returns-in_err-parted t c = λ u what are s.
    rw c.from_residual.ensures (counting_fails u c.args.left what c.args.form.now.index c.args.hint c.args.count c.args.bytes.now c.args.before c.args.out.now c.loop-number.number c.loop-number.reach c.loop-number.out c.put.new.out (c.loop-number.invariant u what are s) c.in_err-parted.ensures.kept)

pub pass_elements-returns-in_err-reach : goal.pass_elements-returns-in_err-reach
pass_elements-returns-in_err-reach t c = λ u what are s.
    let h = c.loop-number.invariant u what are s in
    rw c.from_residual-in_err-reach.ensures (counting_fails u c.args.left what c.args.form.now.index c.args.hint c.args.count c.args.bytes.now c.args.before c.args.out.now c.loop-number.number c.loop-number.reach c.loop-number.out c.pass_form.new.out h
    (kept_behind c.loop-number.out c.put.new.out c.pass_form.new.out c.loop-number.reach.written c.in_ok-parted.parted _ h.written c.in_ok-parted.ensures (c.in_err-reach.ensures u what are s)))

-- what the next element may rest on
pub pass_elements-put-requires : goal.pass_elements-put-requires
pass_elements-put-requires t c =
    let own = c.requires.planned in
    let h = c.loop-number.invariant own.table (body_of own.table.language own.is.entry) own.are (stands own.table c.args.form.now own.is) in
    h.written

pub pass_elements-pass_form-requires : goal.pass_elements-pass_form-requires
pass_elements-pass_form-requires t c =
    let own = c.requires.planned in
    let h = c.loop-number.invariant own.table (body_of own.table.language own.is.entry) own.are (stands own.table c.args.form.now own.is) in
    (omega arith, (h.read, (omega (arith, c.in_ok-parted.ensures.within, c.in_ok-parted.ensures.long), (h.few, own))))

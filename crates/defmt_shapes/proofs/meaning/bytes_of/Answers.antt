use Rattle.std.proofs.Common.{List, [], ℕ, sym, subst}
use Rattle.defmt_shapes.proofs.MeaningLaws.{BytesLeft, begin_bytes, next_bytes, fewer_digits, whole_bytes, one_bytes}
use Rattle.defmt_shapes.proofs.meaning.bytes_of.Goals as goal

pub pairs-init : goal.pairs-init
pairs-init c = subst (λ (t : List ℕ). BytesLeft c.args.digits.now t c.as_bytes-rest.result.now) (sym c.new-bytes.ensures.items) (subst (λ (t : List ℕ). BytesLeft c.args.digits.now [] t) (sym c.as_bytes-rest.ensures.value) (begin_bytes c.args.digits.now))

pub pairs-smaller : goal.pairs-smaller
pairs-smaller c = fewer_digits c.pairs.rest.now c.in-Some.after.now c.in-Some.byte c.in-Some.ensures

pub pairs-preserved : goal.pairs-preserved
pairs-preserved c =
    subst (λ (t : List ℕ). BytesLeft c.args.digits.now t c.in-Some.after.now) (sym c.in_ok-push.ensures.ok)
    (next_bytes c.args.digits.now c.pairs.bytes.items c.pairs.rest.now c.in-Some.after.now c.in-Some.byte c.pairs.invariant c.in-Some.ensures)

pub returns-clause-means : goal.returns-clause-means
returns-clause-means c = whole_bytes c.args.digits.now c.pairs.bytes.items c.pairs.rest.now c.pairs.invariant c.in_default.ensures

pub returns-clause-spelled : goal.returns-clause-spelled
returns-clause-spelled c = λ bs q.
    one_bytes c.args.digits.now c.pairs.bytes.items bs (whole_bytes c.args.digits.now c.pairs.bytes.items c.pairs.rest.now c.pairs.invariant c.in_default.ensures) q

use Rattle.std.proofs.Common.{None, subst, length}
use Rattle.defmt_shapes.specs.Spelling.{Tells}
use Rattle.defmt_spelling.proofs.Arms as arms
use Rattle.defmt_spelling.specs.Leaves.{decimal_cause, hexadecimal_cause, negative_cause, empty_cause}
use Rattle.defmt_spelling.specs.Meaning.{bits_at, index_of, decimal_at, hexadecimal_at, negative_at}
use Rattle.defmt_values.specs.Plain.{flag, char, str, istr, bytes, seq, float, no_elems}
use Rattle.defmt_values.specs.Scan.{flag_cause, float_cause, char_cause, str_cause, istr_cause, bytes_cause}
use Rattle.defmt_spelling.proofs.leaves.read_leaf.Goals as goal

pub returns-in-Decimal-clause-value : goal.returns-in-Decimal-clause-value
returns-in-Decimal-clause-value c = λ left weight s told.
    let k = subst (λ x. Tells c.args.table.now.entries.language x s) c.in-Decimal.is told in
    arms.decimal_arm c.args.table.now.entries left weight c.args.sum c.args.names.now c.args.slot c.paired.result s k.0 k.1 (c.paired.ensures.value (decimal_at c.args.slot k.0) (decimal_cause c.args.slot k.0) (c.digits_value.ensures k.0 k.2 k.3))

pub returns-in-Hexadecimal-clause-value : goal.returns-in-Hexadecimal-clause-value
returns-in-Hexadecimal-clause-value c = λ left weight s told.
    let k = subst (λ x. Tells c.args.table.now.entries.language x s) c.in-Hexadecimal.is told in
    arms.hexadecimal_arm c.args.table.now.entries left weight c.args.sum c.args.names.now c.args.slot c.paired-in-Hexadecimal.result s k.0 k.1 (c.paired-in-Hexadecimal.ensures.value (hexadecimal_at c.args.slot k.0) (hexadecimal_cause c.args.slot k.0) (c.hexadecimal_value.ensures k.0 k.2))

pub returns-in-Negative-clause-value : goal.returns-in-Negative-clause-value
returns-in-Negative-clause-value c = λ left weight s told.
    let k = subst (λ x. Tells c.args.table.now.entries.language x s) c.in-Negative.is told in
    arms.negative_arm c.args.table.now.entries left weight c.args.sum c.args.names.now c.args.slot c.paired-in-Negative.result s k.0 k.1 (c.paired-in-Negative.ensures.value (negative_at c.args.slot k.0) (negative_cause c.args.slot k.0) (c.signed_value.ensures k.0 k.2 k.3))

pub returns-in-Flag-clause-value : goal.returns-in-Flag-clause-value
returns-in-Flag-clause-value c = λ left weight s told.
    let k = subst (λ x. Tells c.args.table.now.entries.language x s) c.in-Flag.is told in
    arms.flag_arm c.args.table.now.entries left weight c.args.sum c.args.names.now c.args.slot c.paired-in-Flag.result s c.in-Flag.value k (c.paired-in-Flag.ensures.value (flag c.in-Flag.value) (flag_cause c.args.slot) c.flag_value.ensures)

pub returns-in-Character-clause-value : goal.returns-in-Character-clause-value
returns-in-Character-clause-value c = λ left weight s told.
    let k = subst (λ x. Tells c.args.table.now.entries.language x s) c.in-Character.is told in
    arms.char_arm c.args.table.now.entries left weight c.args.sum c.args.names.now c.args.slot c.paired-in-Character.result s c.in-Character.character k (c.paired-in-Character.ensures.value (char c.in-Character.character) (char_cause c.args.slot) c.char_value.ensures)

pub returns-in-Quoted-clause-value : goal.returns-in-Quoted-clause-value
returns-in-Quoted-clause-value c = λ left weight s told.
    let k = subst (λ x. Tells c.args.table.now.entries.language x s) c.in-Quoted.is told in
    arms.str_arm c.args.table.now.entries left weight c.args.sum c.args.names.now c.args.slot c.paired-in-Quoted.result s k.0 k.1 (c.paired-in-Quoted.ensures.value (str k.0) (str_cause c.args.slot) (c.str_value.ensures k.0 k.2))

pub returns-in-Interned-clause-value : goal.returns-in-Interned-clause-value
returns-in-Interned-clause-value c = λ left weight s told.
    let k = subst (λ x. Tells c.args.table.now.entries.language x s) c.in-Interned.is told in
    arms.istr_arm c.args.table.now.entries left weight c.args.sum c.args.names.now c.args.slot c.paired-in-Interned.result s c.in-Interned.name.now k (c.paired-in-Interned.ensures.value (istr (index_of c.args.names.now c.in-Interned.name.now)) (istr_cause c.args.table.now.entries c.args.slot (index_of c.args.names.now c.in-Interned.name.now)) c.istr_value.ensures)

pub returns-in-Bytes-clause-value : goal.returns-in-Bytes-clause-value
returns-in-Bytes-clause-value c = λ left weight s told.
    let k = subst (λ x. Tells c.args.table.now.entries.language x s) c.in-Bytes.is told in
    arms.bytes_arm c.args.table.now.entries left weight c.args.sum c.args.names.now c.args.slot c.paired-in-Bytes.result s k.0 k.1 (c.paired-in-Bytes.ensures.value (bytes k.0) (bytes_cause c.args.slot (length k.0)) (c.bytes_value.ensures k.0 k.2))

pub returns-in-Empty-clause-value : goal.returns-in-Empty-clause-value
returns-in-Empty-clause-value c = λ left weight s told.
    let k = subst (λ x. Tells c.args.table.now.entries.language x s) c.in-Empty.is told in
    arms.empty_arm c.args.table.now.entries left weight c.args.sum c.args.names.now c.args.slot c.paired-in-Empty.result s k (c.paired-in-Empty.ensures.value (seq None no_elems) (empty_cause c.args.slot) c.empty_value.ensures)

pub returns-in-Float-clause-value : goal.returns-in-Float-clause-value
returns-in-Float-clause-value c = λ left weight s told.
    let k = subst (λ x. Tells c.args.table.now.entries.language x s) c.in-Float.is told in
    arms.float_arm c.args.table.now.entries left weight c.args.sum c.args.names.now c.args.slot c.paired-in-Float.result s c.in-Float.text.now k.0
    (c.paired-in-Float.ensures.value (float (bits_at c.args.slot c.in-Float.text.now)) (float_cause c.args.slot (bits_at c.args.slot c.in-Float.text.now)) c.float_value.ensures)

use Rattle.std.proofs.Common.{◌++◌, ℕ, List, codes, false, ap, sym, subst, ◌∙◌, arith}
use Rattle.defmt_hints.proofs.PairLaws.{hex_pair}
use Rattle.defmt_hints.proofs.Escaping.{newline, return, tab, marked, numbered, Unnamed}
use Rattle.defmt_hints.specs.Written.{Writes}
use Rattle.defmt_hints.proofs.quoted.put_escape.Goals as goal
use Rattle.defmt_hints.proofs.quoted.put_escape.Goals.{in_default-via-then-byte-lt32, in_default-via-else-byte-lt32+else-byte-lt127}

pub returns-in-10 : goal.returns-in-10
returns-in-10 c = λ q h. rw (c.in-10.is, newline q) c.put.ensures

pub returns-in-13 : goal.returns-in-13
returns-in-13 c = λ q h. rw (c.in-13.is, return q) c.put-in-13.ensures

pub returns-in-9 : goal.returns-in-9
returns-in-9 c = λ q h. rw (c.in-9.is, tab q) c.put-in-9.ensures

pub returns-in-32-to-126 : goal.returns-in-32-to-126
returns-in-32-to-126 c = λ q h. rw (marked q c.args.byte (omega arith) (omega arith) h) c.put-in-32-to-126.ensures

pub returns-in_default : goal.returns-in_default
returns-in_default c = λ q h.
    let unnamed : Unnamed c.args.byte = elim c.in_default.branch [
      | in_default-via-then-byte-lt32 w ↦ record { not_10 = λ e. absurd (omega arith); not_13 = λ e. absurd (omega arith); not_9 = λ e. absurd (omega arith); printed = λ a b. absurd (omega arith) }
      | in_default-via-else-byte-lt32+else-byte-lt127 w ↦ record { not_10 = λ e. absurd (omega arith); not_13 = λ e. absurd (omega arith); not_9 = λ e. absurd (omega arith); printed = λ a b. absurd (omega arith) }
    ] in
    subst (λ (t : List ℕ). Writes c.put-in_default.result c.args.out.now c.args.at c.put-in_default.new.out t)
    (sym (numbered q c.args.byte unnamed h ∙ ap (λ (t : List ℕ). codes "\\x" ++ t) (hex_pair false c.args.byte (omega arith))))
    (rw (c.glyph.ensures, c.glyph-in_default.ensures) at c.put-in_default.ensures)

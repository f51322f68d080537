use Rattle.std.proofs.Common.{sym, arith, codes, string_bytes, length, ◌≤◌, ◌∙◌}
use Rattle.std.proofs.lemmas.Bool.{ltb-false, ltb-true, true≢false}
use Rattle.std.proofs.lemmas.Slice.Eq.{bytes_eq-Decides}
use Rattle.ring_bench.proofs.Parts.{ends_of, starts_of, not_ended, too_short}
use Rattle.ring_bench.proofs.plan.parted.Goals as goal
use Rattle.ring_bench.proofs.plan.parted.Goals.{then-words-lt2, in-len2-up+else-eq}

pub returns-in-len2-up : goal.returns-in-len2-up
returns-in-len2-up c =
    ends_of string_bytes c.args.words.now c.last-item.result (codes "timed") (omega arith) c.last-item.is
    (sym c.as_str.ensures.value ∙ (bytes_eq-Decides c.as_str.result.now (codes "timed")).0 (sym c.eq.ensures ∙ c.if-eq.true))

pub returns-in-len1-up : goal.returns-in-len1-up
returns-in-len1-up c =
    let some : 1 ≤ length c.args.words.now = ltb-false (length c.args.words.now) 1 c.if-words-lt1-1.false in
    let s = starts_of string_bytes c.args.words.now some in (
      s.0,
      s.1,
      (elim c.in-len1-up-1.branch [
        | then-words-lt2 w ↦ too_short string_bytes c.args.words.now (codes "timed") (omega (arith, ltb-true)) some
        | in-len2-up+else-eq w ↦
            not_ended string_bytes c.args.words.now w.last-item.result (codes "timed") (omega arith) w.last-item.is
            (λ e. true≢false (sym ((bytes_eq-Decides w.as_str.result.now (codes "timed")).1 (w.as_str.ensures.value ∙ e)) ∙ sym w.eq.ensures ∙ w.if-eq.false))
      ]),
    )

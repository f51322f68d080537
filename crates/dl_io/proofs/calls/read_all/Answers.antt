use Rattle.std.proofs.Common.{◌≡◌, ◌≤◌, ◌+◌, arith, ap, ◌∙◌, refl, sym, take, length}
use Rattle.std.proofs.lemmas.List.{length-take}
use Rattle.dl_io.proofs.Faults.{given_refused, cause_is, cause_told, failed_long, failed_memory, long_memory}
use Rattle.dl_io.proofs.Streams.{read_goes_on, written_over, front_kept}
use Rattle.dl_io.proofs.calls.read_all.Goals as goal
use Rattle.dl_io.proofs.calls.read_all.Goals.{then-filled-len+in_ok-grow, else-filled-len}

pub loop-filled-preserved : goal.loop-filled-preserved
loop-filled-preserved g c =
    let filled = c.loop-filled.filled in
    let got = c.read_more.new.buf in
    let before = c.loop-filled.invariant in
    let size : length got ≡ c.if-filled-len.buf.len = omega arith in
    let whole = written_over c.if-filled-len.buf.items got c.if-filled-len.buf.len size in
    let kept : take filled c.if-filled-len.buf.items ≡ take filled c.loop-filled.buf.items = elim c.if-filled-len.branch [
      | then-filled-len+in_ok-grow w ↦ rw w.buf-is (front_kept filled c.loop-filled.buf.items w.grow.new.buf.items (omega arith) w.in_ok-grow.ensures.front)
      | else-filled-len w ↦ rw w.buf-is refl
    ] in
    let limited : length c.if-filled-len.buf.items ≤ c.args.limit + 1 = elim c.if-filled-len.branch [
      | then-filled-len+in_ok-grow w ↦ rw w.buf-is w.in_ok-grow.ensures.longer.1
      | else-filled-len w ↦ rw w.buf-is before.limited
    ] in
    let grown : take filled c.deref_mut.result.now ≡ take filled c.loop-filled.buf.items = ap (take filled) c.deref_mut.ensures.value ∙ kept in
    let more = read_goes_on _ _ _ _ c.deref_mut.result.now got filled c.in-Ok.count before.taken grown c.in-Ok.ensures.bytes in
    record {
      within = rw whole c.in-Ok.ensures.within;
      limited = rw whole (omega (arith, size, limited, ap length c.deref_mut.ensures.value, c.deref_mut.ensures.len));
      taken = rw whole more;
      later = omega (arith, c.in-Ok.ensures.later, before.later);
    }

pub returns-in_err-grow-clause-long : goal.returns-in_err-grow-clause-long
returns-in_err-grow-clause-long g c = λ taken e. long_memory (sym (cause_told c.from_residual.result c.from_residual.ensures.1 e))

pub returns-in_err-grow-clause-failed : goal.returns-in_err-grow-clause-failed
returns-in_err-grow-clause-failed g c = λ e. failed_memory (sym (cause_told c.from_residual.result c.from_residual.ensures.1 e))

pub returns-in_err-grow-clause-memory : goal.returns-in_err-grow-clause-memory
returns-in_err-grow-clause-memory g c = λ e. (take c.loop-filled.filled c.loop-filled.buf.items, omega (arith, length-take c.loop-filled.filled c.loop-filled.buf.items), c.loop-filled.invariant.taken)

pub returns-in-Ok-eq0-clause-long : goal.returns-in-Ok-eq0-clause-long
returns-in-Ok-eq0-clause-long g c = λ taken e. given_refused e

pub returns-in-Ok-eq0-clause-failed : goal.returns-in-Ok-eq0-clause-failed
returns-in-Ok-eq0-clause-failed g c = λ e. given_refused e

pub returns-in-Ok-eq0-clause-memory : goal.returns-in-Ok-eq0-clause-memory
returns-in-Ok-eq0-clause-memory g c = λ e. given_refused e

pub returns-in-Err-clause-long : goal.returns-in-Err-clause-long
returns-in-Err-clause-long g c = λ taken e. failed_long (cause_is e)

pub returns-in-Err-clause-memory : goal.returns-in-Err-clause-memory
returns-in-Err-clause-memory g c = λ e. failed_memory (cause_is e)

pub returns-clause-failed : goal.returns-clause-failed
returns-clause-failed g c = λ e. failed_long (sym (cause_is e))

pub returns-clause-memory : goal.returns-clause-memory
returns-clause-memory g c = λ e. long_memory (cause_is e)

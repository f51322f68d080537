use Rattle.std.proofs.Common.{◌≡◌, ◌≤◌, ◌+◌, ℕ, List, Option, arith, ap, ◌∙◌, refl, subst, take, length, inr}
use Rattle.dl_io.specs.Outside.{HasFile}
use Rattle.dl_io.proofs.Streams.{IsFront, FetchedMore, fetch_goes_on, written_over, front_kept}
use Rattle.dl_io.proofs.calls.fetch_all.Goals as goal
use Rattle.dl_io.proofs.calls.fetch_all.Goals.{then-fetched-len+in_ok-grow, else-fetched-len}

pub loop-fetched-preserved : goal.loop-fetched-preserved
loop-fetched-preserved g c =
    let filled = c.loop-fetched.fetched in
    let count = c.in-Ok.count in
    let got = c.fetch_more.new.buf in
    let name = c.args.name.now in
    let before = c.loop-fetched.invariant in
    let size : length got ≡ c.if-fetched-len.buf.len = omega arith in
    let whole = written_over c.if-fetched-len.buf.items got c.if-fetched-len.buf.len size in
    let kept : take filled c.if-fetched-len.buf.items ≡ take filled c.loop-fetched.buf.items = elim c.if-fetched-len.branch [
      | then-fetched-len+in_ok-grow w ↦ rw w.buf-is (front_kept filled c.loop-fetched.buf.items w.grow.new.buf.items (omega arith) w.in_ok-grow.ensures.front)
      | else-fetched-len w ↦ rw w.buf-is refl
    ] in
    let limited : length c.if-fetched-len.buf.items ≤ c.args.limit + 1 = elim c.if-fetched-len.branch [
      | then-fetched-len+in_ok-grow w ↦ rw w.buf-is w.in_ok-grow.ensures.longer.1
      | else-fetched-len w ↦ rw w.buf-is before.limited
    ] in
    let grown : take filled c.deref_mut.result.now ≡ take filled c.loop-fetched.buf.items = ap (take filled) c.deref_mut.ensures.value ∙ kept in
    let more = subst (λ (f : Option (List ℕ → Option (List ℕ))). HasFile f name (FetchedMore c.deref_mut.result.now got filled count)) before.same c.in-Ok.ensures.bytes in
    let front : HasFile (g.F.Shelf.files c.args.shelf.now) name (IsFront got (filled + count))
    = fetch_goes_on _ name c.loop-fetched.buf.items c.deref_mut.result.now got filled count before.begins grown more in
    record {
      within = rw whole c.in-Ok.ensures.within;
      limited = rw whole (omega (arith, size, limited, ap length c.deref_mut.ensures.value, c.deref_mut.ensures.len));
      begins = inr (rw whole front);
      same = c.in-Ok.ensures.same ∙ before.same;
      later = omega (arith, c.in-Ok.ensures.later, before.later);
    }

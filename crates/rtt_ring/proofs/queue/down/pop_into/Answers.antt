use Rattle.std.proofs.Common.{◌∙◌, ◌+◌, ◌≤◌, ◌++◌, List, length, ap, sym, arith, length-append}
use Rattle.std.specs.Prelude.{Result, Ok, Err, IsOk, OnOk}
use mathlib.Core.List.{IsPrefix}
use Rattle.rtt_ring.proofs.queue.down.pop_into.Goals as goal

on_ok : {A E P : Type 0} (r : Result A E) → IsOk r → OnOk r P → P
on_ok (Ok x) is p = p
on_ok (Err e) is p = absurd (cc)

-- a front is no longer than the whole
length_of_front : {A : Type 0} (xs ys zs : List A) → IsPrefix xs (ys ++ zs) → length xs ≤ length ys + length zs
length_of_front xs ys zs (rest, whole) = let all = sym (length-append xs rest) ∙ ap length whole ∙ length-append ys zs in omega arith

pub returns-clause-known : goal.returns-clause-known
returns-clause-known c =
    let popped = on_ok _ (c.pop_entire_slice.ensures.succeeds c.requires) c.pop_entire_slice.ensures.ok in
    let front = length_of_front _ c.pop_entire_slice.new.slice _ popped.1 in
    omega arith

-- Takes and appends that follow one another.
use Rattle.std.proofs.Common.{◌≡◌, ℕ, List, [], ◌++◌, length, take, drop, ◌+◌, ◌-◌, refl, sym, ◌∙◌, ap, append_assoc, subst, rules, arith, inl, inr, ◌⊎◌, min, ◌≤◌, ◌<◌, length-drop, length-append}
use Rattle.std.proofs.Math.Seq.{take-add}
use Rattle.std.proofs.lemmas.List.{take_rest, take_at, take_all, length-take, drop-drop, take-append-drop}
use Rattle.std.proofs.Math.ListN.{drop_of_length-le}
use Rattle.std.specs.Prelude.{Some, None, Option, Result, Ok, Err, IfOk}
use Rattle.std.specs.Io.{ReadsAtMost}
use Rattle.std.specs.Io.KnownBytes.{Appends, Consumes, ReadConsumes}
use Rattle.dl_io.specs.Outside.{Took, HasFile, Fetches, FetchesFrom}
use Rattle.std.proofs.Math.Seq.{take-append-add}
use borrow.Rule.Slice.PartMut.{put_mid, post_of}
use Rattle.std.proofs.lemmas.List.{take-append-le}

pub appends_then : (a b c : Option (List ℕ)) (x y : List ℕ) → Appends a b x → Appends b c y → Appends a c (x ++ y)
appends_then None b c x y first second = tt
appends_then (Some xs) None c x y first second = absurd first
appends_then (Some xs) (Some ys) None x y first second = absurd second
appends_then (Some xs) (Some ys) (Some zs) x y first second = second ∙ ap (λ (l : List ℕ). l ++ y) first ∙ append_assoc xs x y

pub consumes_then : (a b c : Option (List ℕ)) (x y : List ℕ) → Consumes a b x → Consumes b c y → Consumes a c (x ++ y)
consumes_then None b c x y first second = tt
consumes_then (Some xs) None c x y first second = absurd first
consumes_then (Some xs) (Some ys) None x y first second = absurd second
consumes_then (Some xs) (Some ys) (Some zs) x y first second = first ∙ ap (λ (l : List ℕ). x ++ l) second ∙ sym (append_assoc x y zs)

pub appends_none : (a : Option (List ℕ)) → Appends a a []
appends_none None = tt
appends_none (Some xs) = search rules

pub consumes_none : (a : Option (List ℕ)) → Consumes a a []
consumes_none None = tt
consumes_none (Some xs) = refl

-- the next part of the bytes, after those before it
pub appends_next : (a b c : Option (List ℕ)) (n m : ℕ) (bytes : List ℕ)
    → Appends a b (take n bytes) → Appends b c (take m (drop n bytes)) → Appends a c (take (n + m) bytes)
appends_next a b c n m bytes first second =
    subst (λ (l : List ℕ). Appends a c l) (sym (take-add n m bytes)) (appends_then a b c _ _ first second)

-- the same, where the rest is the slice from n on
pub appends_slice : (a b c : Option (List ℕ)) (n m : ℕ) (bytes : List ℕ)
    → Appends a b (take n bytes) → Appends b c (take m (take (length bytes - n) (drop n bytes))) → Appends a c (take (n + m) bytes)
appends_slice a b c n m bytes first second =
    appends_next a b c n m bytes first (subst (λ (l : List ℕ). Appends b c (take m l)) (take_rest bytes n) second)

-- what is left after the first n of it, which were copied to the front of the buffer
pub feed_taken : (bytes buf copied : List ℕ) (taken n : ℕ) → taken ≤ length bytes
    → n ≡ min (length (drop taken bytes)) (length buf) → copied ≡ take n (drop taken bytes)
    → (drop taken bytes ≡ take n (copied ++ drop n buf) ++ drop (taken + n) bytes)
    × (n ≡ 0 → 0 < length (copied ++ drop n buf) → drop (taken + n) bytes ≡ [])
feed_taken bytes buf copied taken n within is copies =
    let size : length copied ≡ n = ap length copies ∙ length-take n (drop taken bytes) ∙ omega arith in
    let front : take n (copied ++ drop n buf) ≡ take n (drop taken bytes) = take_at copied (drop n buf) n size ∙ copies in (
      sym (take-append-drop n (drop taken bytes)) ∙ ap (λ (l : List ℕ). l ++ drop n (drop taken bytes)) (sym front)
          ∙ ap (λ (l : List ℕ). take n (copied ++ drop n buf) ++ l) (drop-drop n taken bytes),
      λ none some. drop_of_length-le bytes (omega (arith, length-drop taken bytes, length-append copied (drop n buf), length-drop n buf, size)),
    )

-- the front of a buffer that was written over from `filled` on
pub take_filled : (buf got : List ℕ) (filled count k : ℕ) → filled ≤ length buf → count ≤ length got
    → take (filled + count) (put_mid filled k buf got) ≡ take filled buf ++ take count got
take_filled buf got filled count k within bound =
    let front : length (take filled buf) ≡ filled = length-take filled buf ∙ omega arith in
    ap (λ (n : ℕ). take (n + count) (take filled buf ++ (got ++ post_of filled k buf))) (sym front)
    ∙ take-append-add (take filled buf) (got ++ post_of filled k buf) count
    ∙ ap (λ (l : List ℕ). take filled buf ++ l) (take-append-le count got (post_of filled k buf) bound)

-- a read behind what is filled
pub read_filled : {E : Type 0} (old new : Option (List ℕ)) (r : Result ℕ E) (buf got : List ℕ) (filled k : ℕ) → filled ≤ length buf
    → ReadsAtMost r got → ReadConsumes old new r got
    → IfOk r (λ count. Took old new (λ taken. take (filled + count) (put_mid filled k buf got) ≡ take filled buf ++ taken))
read_filled old new (Ok n) buf got filled k within bound given = (take n got, take_filled buf got filled n k within bound.0, given.0)
read_filled old new (Err e) buf got filled k within bound given = tt

-- a read behind the bytes that were taken before
pub read_goes_on : (a b c : Option (List ℕ)) (before buf got : List ℕ) (filled count : ℕ) → Consumes a b before → take filled buf ≡ before
    → Took b c (λ taken. take (filled + count) got ≡ take filled buf ++ taken) → Consumes a c (take (filled + count) got)
read_goes_on a b c before buf got filled count first same more =
    subst (λ (l : List ℕ). Consumes a c l) (sym (more.1 ∙ ap (λ (l : List ℕ). l ++ more.0) same)) (consumes_then a b c before more.0 first more.2)

-- what a fetch behind what is filled leaves in the buffer
abbrev pub FetchedMore : List ℕ → List ℕ → ℕ → ℕ → List ℕ → Type 0
FetchedMore buf new filled count file =
    (take (filled + count) new ≡ take filled buf ++ take count (drop filled file)) × (filled ≤ length file → filled + count ≤ length file)
    × (count ≡ 0 → length file ≤ filled)

pub fetch_filled : {E : Type 0} (files : Option (List ℕ → Option (List ℕ))) (name : List ℕ) (r : Result ℕ E) (buf got : List ℕ) (filled k : ℕ)
    → filled < length buf → length got ≡ length buf - filled → ReadsAtMost r got → Fetches files name filled r got
    → IfOk r (λ count. HasFile files name (FetchedMore buf (put_mid filled k buf got) filled count))
fetch_filled None name (Ok n) buf got filled k within size bound given = tt
fetch_filled {E} (Some files) name (Ok n) buf got filled k within size bound given =
    elim (files name) as (λ o. files name ≡ o → FetchesFrom {E = E} o filled (Ok n) got → HasFile (Some files) name (FetchedMore buf (put_mid filled k buf got) filled n)) [
      | None ↦ λ is found. absurd (cc)
      | Some file ↦ λ is found.
          let size_of : n ≡ length (take n (drop filled file)) = sym (length-take n got ∙ (let fits : n ≤ length got = bound.0 in omega arith)) ∙ ap length found.0 in (
            file,
            is,
            (
              take_filled buf got filled n k (omega arith) bound.0 ∙ ap (λ (l : List ℕ). take filled buf ++ l) found.0,
              λ fits. omega (arith, size_of, length-take n (drop filled file), length-drop filled file),
              λ none. found.1 none (omega arith),
            ),
          )
    ] refl given
fetch_filled files name (Err e) buf got filled k within size bound given = tt

-- the filled part is the front of the file
abbrev pub IsFront : List ℕ → ℕ → List ℕ → Type 0
IsFront buf filled file = (take filled buf ≡ take filled file) × (filled ≤ length file)

pub fetch_goes_on : (files : Option (List ℕ → Option (List ℕ))) (name buf grown new : List ℕ) (filled count : ℕ)
    → (filled ≡ 0) ⊎ HasFile files name (IsFront buf filled) → take filled grown ≡ take filled buf
    → HasFile files name (FetchedMore grown new filled count) → HasFile files name (IsFront new (filled + count))
fetch_goes_on None name buf grown new filled count before same more = tt
fetch_goes_on (Some files) name buf grown new filled count before same more =
    let file = more.0 in
    let front : IsFront grown filled file = elim before [
      | inl start ↦ (ap (λ (n : ℕ). take n grown) start ∙ ap (λ (n : ℕ). take n file) (sym start), omega arith)
      | inr had ↦
          let alike : had.0 ≡ file = (let e : Some had.0 ≡ Some file = sym had.1 ∙ more.1 in cc) in
          (same ∙ had.2.0 ∙ ap (take filled) alike, omega (arith, had.2.1, ap length alike))
    ] in
    (file, more.1, (more.2.0 ∙ ap (λ (l : List ℕ). l ++ take count (drop filled file)) front.0 ∙ sym (take-add filled count file), more.2.1 front.1))

-- a vector after a call has written over the whole slice that it lent
pub written_over : (items got : List ℕ) (n : ℕ) → length got ≡ n → take n (got ++ drop (length got) items) ≡ got
written_over items got n size = take_at got (drop (length got) items) n size

-- a longer buffer keeps its full front
pub front_kept : (filled : ℕ) (old new : List ℕ) → filled ≡ length old → take (length old) new ≡ old → take filled new ≡ take filled old
front_kept filled old new is front =
    ap (λ (n : ℕ). take n new) is ∙ front ∙ sym (take_all (length old) old (omega arith)) ∙ ap (λ (n : ℕ). take n old) (sym is)

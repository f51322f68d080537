-- Runs of bytes that stand for themselves between those that are escaped.
use Rattle.std.proofs.Common.{◌≡◌, ◌<◌, ◌≤◌, ◌+◌, ◌-◌, ℕ, zero, suc, true, List, [], ◌∷◌, ◌++◌, length, length-drop, get_or, take, drop, Option, Some, None, is_none, refl, ap, ◌∙◌, arith, inl, inr}
use Rattle.std.proofs.lemmas.Bool.{cases_lt}
use Rattle.std.proofs.lemmas.List.{append-nil, drop-drop, drop_more, get_or-drop, take_all}
use Rattle.std.proofs.Math.Seq.{drop-length}
use Rattle.std.specs.List.{flat_map}
use Rattle.defmt_hints.proofs.Chains.{Pending, pending_none, pending_step, pending_full}
use Rattle.defmt_hints.specs.Quotings.{by_escapes}
use Rattle.defmt_hints.specs.Written.{Full, Written, Writes}

-- the loop stands at i, and has yet to write what stands from start on
pub record Runs (escape : ℕ → Option (List ℕ)) (old : List ℕ) (at : ℕ) (text now : List ℕ) (place start i : ℕ) : Type 0 where
  pub order : start ≤ i
  pub bare : (k : ℕ) → start ≤ k → k < i → escape (get_or text k 0) ≡ None
  pub pending : Pending old at (flat_map (by_escapes escape) text) now place (flat_map (by_escapes escape) (drop start text))

-- ---- a run

bare_run : (escape : ℕ → Option (List ℕ)) (text : List ℕ) (n : ℕ) → n ≤ length text → ((k : ℕ) → k < n → escape (get_or text k 0) ≡ None) → flat_map (by_escapes escape) text ≡ take n text ++ flat_map (by_escapes escape) (drop n text)
bare_run escape text zero le h = refl
bare_run escape [] (suc n) le h = absurd (omega arith)
bare_run escape (c ∷ cs) (suc n) le h =
    let e : escape c ≡ None = h 0 (omega arith) in
    rw e (ap (λ (t : List ℕ). c ∷ t) (bare_run escape cs n (omega arith) (λ k lt. h (suc k) (omega arith))))

-- what stands from start on is a run up to i and then the rest
run_to : (escape : ℕ → Option (List ℕ)) (text : List ℕ) (start i : ℕ) → start ≤ i → i ≤ length text → ((k : ℕ) → start ≤ k → k < i → escape (get_or text k 0) ≡ None) → flat_map (by_escapes escape) (drop start text) ≡ take (i - start) (drop start text) ++ flat_map (by_escapes escape) (drop i text)
run_to escape text start i order le bare =
    let back : start + (i - start) ≡ i = omega arith in
    bare_run escape (drop start text) (i - start) (omega (arith, length-drop start text))
    (λ k lt. ap escape (get_or-drop start text k 0) ∙ bare (start + k) (omega arith) (omega arith))
    ∙ ap (λ (t : List ℕ). take (i - start) (drop start text) ++ flat_map (by_escapes escape) t) (drop-drop (i - start) start text ∙ ap (λ (n : ℕ). drop n text) back)

-- the byte at i by its escape, and then the rest
head_to : (escape : ℕ → Option (List ℕ)) (text : List ℕ) (i : ℕ) → i < length text → flat_map (by_escapes escape) (drop i text) ≡ by_escapes escape (get_or text i 0) ++ flat_map (by_escapes escape) (drop (i + 1) text)
head_to escape text i lt = ap (flat_map (by_escapes escape)) (drop_more text i 0 lt)

-- ---- the loop

pub runs_none : (escape : ℕ → Option (List ℕ)) (old : List ℕ) (at : ℕ) (text : List ℕ) → at ≤ length old → Runs escape old at text old at 0 0
runs_none escape old at text le = record {
  order = omega arith;
  bare = λ k h lt. absurd (omega arith);
  pending = pending_none old at (flat_map (by_escapes escape) text) le;
}

none_is : (o : Option (List ℕ)) → is_none o ≡ true → o ≡ None
none_is None e = refl
none_is (Some x) e = absurd (cc)

-- one byte more in the run
pub runs_bare : {escape : ℕ → Option (List ℕ)} {old : List ℕ} {at : ℕ} {text now : List ℕ} {place start i : ℕ} → Runs escape old at text now place start i → is_none (escape (get_or text i 0)) ≡ true → Runs escape old at text now place start (i + 1)
runs_bare {escape} {old} {at} {text} {now} {place} {start} {i} h bare = record {
  order = omega (arith, h.order);
  bare = λ k from lt. elim (cases_lt k i) [ inl below ↦ h.bare k from below | inr above ↦ let same : k ≡ i = omega arith in ap (λ (n : ℕ). escape (get_or text n 0)) same ∙ none_is (escape (get_or text i 0)) bare ];
  pending = h.pending;
}

-- the buffer ends in the run
pub run_full : {escape : ℕ → Option (List ℕ)} {old : List ℕ} {at : ℕ} {text now new : List ℕ} {place start i : ℕ} → Runs escape old at text now place start i → i < length text → Full now place new (take (i - start) (drop start text)) → Full old at new (flat_map (by_escapes escape) text)
run_full {escape} {old} {at} {text} {now} {new} {place} {start} {i} h lt f =
    pending_full (take (i - start) (drop start text)) (flat_map (by_escapes escape) (drop i text)) (run_to escape text start i h.order (omega arith) h.bare) h.pending f

after_run : {escape : ℕ → Option (List ℕ)} {old : List ℕ} {at : ℕ} {text now mid : List ℕ} {place start i m : ℕ} → Runs escape old at text now place start i → i < length text → Written now place mid m (take (i - start) (drop start text)) → Pending old at (flat_map (by_escapes escape) text) mid m (flat_map (by_escapes escape) (drop i text))
after_run {escape} {old} {at} {text} {now} {mid} {place} {start} {i} {m} h lt w =
    pending_step (take (i - start) (drop start text)) (flat_map (by_escapes escape) (drop i text)) (run_to escape text start i h.order (omega arith) h.bare) h.pending w

-- or in the escape
pub escape_full : {escape : ℕ → Option (List ℕ)} {old : List ℕ} {at : ℕ} {text now mid new : List ℕ} {place start i m : ℕ} → Runs escape old at text now place start i → i < length text → Written now place mid m (take (i - start) (drop start text)) → Full mid m new (by_escapes escape (get_or text i 0)) → Full old at new (flat_map (by_escapes escape) text)
escape_full {escape} {old} {at} {text} {now} {mid} {new} {place} {start} {i} {m} h lt w f =
    pending_full (by_escapes escape (get_or text i 0)) (flat_map (by_escapes escape) (drop (i + 1) text)) (head_to escape text i lt) (after_run h lt w) f

-- an escape behind the run
pub runs_escaped : {escape : ℕ → Option (List ℕ)} {old : List ℕ} {at : ℕ} {text now mid new : List ℕ} {place start i m end : ℕ} → Runs escape old at text now place start i → i < length text → Written now place mid m (take (i - start) (drop start text)) → Written mid m new end (by_escapes escape (get_or text i 0)) → Runs escape old at text new end (i + 1) (i + 1)
runs_escaped {escape} {old} {at} {text} {now} {mid} {new} {place} {start} {i} {m} {end} h lt w v = record {
  order = omega arith;
  bare = λ k from below. absurd (omega arith);
  pending = pending_step (by_escapes escape (get_or text i 0)) (flat_map (by_escapes escape) (drop (i + 1) text)) (head_to escape text i lt) (after_run h lt w) v;
}

-- the last run
pub runs_end : (r : Option ℕ) {escape : ℕ → Option (List ℕ)} {old : List ℕ} {at : ℕ} {text now : List ℕ} (new : List ℕ) {place start i : ℕ} → Runs escape old at text now place start i → length text ≤ i → i ≤ length text → Writes r now place new (drop start text) → Writes r old at new (flat_map (by_escapes escape) text)
runs_end r {escape} {old} {at} {text} {now} new {place} {start} {i} h most least w =
    let front : List ℕ = take (i - start) (drop start text) in
    let over : i ≡ length text = omega arith in
    let after : drop i text ≡ [] = ap (λ (n : ℕ). drop n text) over ∙ drop-length text in
    let all : front ≡ drop start text = take_all (i - start) (drop start text) (omega (arith, length-drop start text)) in
    let whole : flat_map (by_escapes escape) (drop start text) ≡ drop start text =
    run_to escape text start i h.order least h.bare
    ∙ ap (λ (t : List ℕ). front ++ flat_map (by_escapes escape) t) after
    ∙ append-nil front ∙ all in
    h.pending.goes r new (rw whole w)

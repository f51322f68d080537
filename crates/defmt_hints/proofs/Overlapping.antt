-- A text whose first bytes and whose last are written, where these overlap or meet.
use Rattle.std.proofs.Common.{◌≡◌, ◌≤◌, ◌+◌, ◌-◌, ◌*◌, ℕ, List, ◌++◌, length, take, drop, sym, ap, subst, ◌∙◌, arith, append_assoc, length-append}
use Rattle.std.proofs.Math.Seq.{take-append-add}
use Rattle.std.proofs.lemmas.List.{length-take-le, length-drop, drop_at, drop-drop, take_all, take-append-drop}
use Rattle.std.proofs.lemmas.Simd.{length-put_chunk, put_chunk_is, take_more_put_chunk}
use borrow.Rule.Slice.PartMut.{put_mid}
use lib.Lanes.{chunk, put_chunk}
use Rattle.defmt_hints.proofs.Chains.{take_less}
use Rattle.defmt_hints.proofs.Places.{copied}
use Rattle.defmt_hints.specs.Written.{Written}

behind_more : (m end : ℕ) (xs ys : List ℕ) → m ≤ end → drop m xs ≡ drop m ys → drop end xs ≡ drop end ys
behind_more m end xs ys le e =
    let back : m + (end - m) ≡ end = omega arith in
    ap (λ (n : ℕ). drop n xs) (sym back) ∙ sym (drop-drop (end - m) m xs) ∙ ap (drop (end - m)) e ∙ drop-drop (end - m) m ys ∙ ap (λ (n : ℕ). drop n ys) back

-- the second text begins within the first
overlap : (old mid new a b : List ℕ) (at m n end : ℕ) → at ≤ length old → Written old at mid m a → at + n ≤ m → m ≤ end → Written mid (at + n) new end b → Written old at new end (take n a ++ b)
overlap old mid new a b at m n end le v within far w =
    let front : take (at + n) mid ≡ take at old ++ take n a =
    sym (take_less (at + n) m mid within) ∙ ap (λ (x : List ℕ). take (at + n) x) v.written
    ∙ ap (λ (i : ℕ). take (i + n) (take at old ++ a)) (sym (length-take-le at old le)) ∙ take-append-add (take at old) a n in
    record {
      long = w.long ∙ v.long;
      within = omega (arith, w.within, v.long);
      written = w.written ∙ ap (λ (x : List ℕ). x ++ b) front ∙ append_assoc (take at old) (take n a) b;
      behind = w.behind ∙ behind_more m end mid old far v.behind;
    }

-- a part of a buffer that is written whole
copied_part : (old part text : List ℕ) (from to : ℕ) → from ≤ to → to ≤ length old → from + length text ≡ to → part ≡ text → Written old from (put_mid from (to - from) old part) to text
copied_part old part text from to le within e same =
    subst (λ (n : ℕ). Written old from (put_mid from (n - from) old part) n text) e (copied old text part from (omega (arith, le, within)) (omega (arith, e, within)) same)

-- lanes that are stored at a place
copied_lanes : (old lanes : List ℕ) (at end : ℕ) → at + length lanes ≡ end → end ≤ length old → Written old at (put_chunk at old lanes) end lanes
copied_lanes old lanes at end e within =
    let rest : List ℕ = drop (length lanes) (drop at old) in
    record {
      long = length-put_chunk at old lanes;
      within = within;
      written = take_more_put_chunk at old lanes end (sym e) within;
      behind =
          ap (drop end) (put_chunk_is at old lanes (omega arith) ∙ sym (append_assoc (take at old) lanes rest))
          ∙ drop_at (take at old ++ lanes) rest end (omega (arith, e, length-append (take at old) lanes, length-take-le at old (omega arith)))
          ∙ drop-drop (length lanes) at old ∙ ap (λ (n : ℕ). drop n old) e;
    }

-- the first bytes and the last of a text, one after the other, so many of each
ends_joined : (old mid new text : List ℕ) (at count : ℕ) → at + length text ≤ length old → count ≤ length text → length text ≤ 2 * count
    → Written old at mid (at + count) (take count text) → Written mid (at + length text - count) new (at + length text) (drop (length text - count) text)
    → Written old at new (at + length text) text
ends_joined old mid new text at count within few many v w =
    let n : ℕ = length text - count in
    let end : ℕ = at + length text in
    let place : end - count ≡ at + n = omega arith in
    let whole : take n (take count text) ++ drop n text ≡ text = ap (λ (x : List ℕ). x ++ drop n text) (take_less n count text (omega arith)) ∙ take-append-drop n text in
    subst (λ (t : List ℕ). Written old at new end t) whole
    (overlap old mid new (take count text) (drop n text) at (at + count) n end (omega arith) v (omega arith) (omega arith) (subst (λ (i : ℕ). Written mid i new end (drop n text)) place w))

-- the ends of a text, of so many bytes each
pub ends_written : (old text first last : List ℕ) (at count : ℕ) → at + length text ≤ length old → count ≤ length text → length text ≤ 2 * count
    → first ≡ take count text → last ≡ drop (length text - count) text
    → Written old at (put_mid (at + length text - count) (at + length text - (at + length text - count)) (put_mid at (at + count - at) old first) last) (at + length text) text
ends_written old text first last at count within few many is_first is_last =
    let n : ℕ = length text - count in
    let end : ℕ = at + length text in
    let mid : List ℕ = put_mid at (at + count - at) old first in
    let v : Written old at mid (at + count) (take count text) = copied_part old first (take count text) at (at + count) (omega arith) (omega arith) (omega (arith, length-take-le count text few)) is_first in
    ends_joined old mid _ text at count within few many v
    (copied_part mid last (drop n text) (end - count) end (omega arith) (omega (arith, v.long)) (omega (arith, length-drop n text)) is_last)

-- the same of lanes
pub lanes_written : (old text : List ℕ) (at count : ℕ) → at + length text ≤ length old → count ≤ length text → length text ≤ 2 * count
    → Written old at (put_chunk (at + (length text - count)) (put_chunk at old (chunk 0 count text)) (chunk (length text - count) count text)) (at + length text) text
lanes_written old text at count within few many =
    let n : ℕ = length text - count in
    let end : ℕ = at + length text in
    let mid : List ℕ = put_chunk at old (take count text) in
    let last : List ℕ = chunk n count text in
    let v : Written old at mid (at + count) (take count text) = copied_lanes old (take count text) at (at + count) (omega (arith, length-take-le count text few)) (omega arith) in
    let whole : last ≡ drop n text = take_all count (drop n text) (omega (arith, length-drop n text)) in
    let w : Written mid (at + n) (put_chunk (at + n) mid last) end last = copied_lanes mid last (at + n) end (omega (arith, ap length whole, length-drop n text)) (omega (arith, v.long)) in
    let place : at + n ≡ end - count = omega arith in
    ends_joined old mid (put_chunk (at + n) mid last) text at count within few many v
    (subst (λ (i : ℕ). Written mid i (put_chunk (at + n) mid last) end (drop n text)) place (subst (λ (t : List ℕ). Written mid (at + n) (put_chunk (at + n) mid last) end t) whole w))

-- One thing put after another.
use Rattle.std.proofs.Common.{◌≡◌, ◌≤◌, ◌<◌, ℕ, ◌+◌, List, [], ◌∷◌, ◌++◌, length, take, drop, ◌-◌, subst, Result, Ok, Err, refl, sym, ap, ◌∙◌, arith, append_assoc, length-append}
use Rattle.std.proofs.lemmas.List.{append-nil, take_more_set, drop-set-lt, drop-drop}
use Rattle.std.proofs.lemmas.Slice.{take-put_mid, drop-put_mid}
use borrow.Rule.Slice.PartMut.{put_mid}
use Rattle.std.proofs.Math.ListN.{set}
use Rattle.defmt_encode.specs.Out.{Wrote, Refuses, Puts}
use Rattle.defmt_encode.specs.declared.put.Long.{Long}

pub one_byte : (old : List ℕ) (at b : ℕ) → at < length old → at < 2000 → Wrote old (set old at b) at (at + 1) (b ∷ [])
one_byte old at b h k = record { end_is = refl; fits = omega arith; front = take_more_set old at b h; behind = drop-set-lt (at + 1) old at b (omega arith) }

pub one_part : (old part bytes : List ℕ) (at n : ℕ) → part ≡ bytes → n ≡ at + length bytes → n ≤ 2000 → 2000 ≤ length old → Wrote old (put_mid at (n - at) old part) at n bytes
one_part old part bytes at n is size few room =
    let here : Wrote old (put_mid at (n - at) old bytes) at n bytes = record {
      end_is = size;
      fits = few;
      front = take-put_mid at (n - at) old bytes n size (omega (arith, size, few, room));
      behind = drop-put_mid at (n - at) old bytes n (omega (arith, size)) (omega (arith, size, few, room)) (omega (arith, size));
    } in
    subst (λ (ys : List ℕ). Wrote old (put_mid at (n - at) old ys) at n bytes) (sym is) here

pub later : (n k m : ℕ) (xs ys : List ℕ) → m ≡ n + k → drop n xs ≡ drop n ys → drop m xs ≡ drop m ys
later n k m xs ys e h = ap (λ (i : ℕ). drop i xs) e ∙ sym (drop-drop k n xs) ∙ ap (drop k) h ∙ drop-drop k n ys ∙ ap (λ (i : ℕ). drop i ys) (sym e)

both : (old mid new : List ℕ) (at n m : ℕ) (a b : List ℕ) → Wrote old mid at n a → Wrote mid new n m b → Wrote old new at m (a ++ b)
both old mid new at n m a b w p = record {
  end_is = omega (arith, w.end_is, p.end_is, length-append a b);
  fits = p.fits;
  front = p.front ∙ ap (λ t. t ++ b) w.front ∙ append_assoc (take at old) a b;
  behind = p.behind ∙ later n (length b) m mid old p.end_is w.behind;
}

-- ---- what is refused

-- nothing is put of bytes that are refused at once
pub refused_whole : (old : List ℕ) (at : ℕ) (bytes : List ℕ) → at ≤ 2000 → 2000 < at + length bytes → Refuses old old at bytes
refused_whole old at bytes few long =
    let none : at + 0 ≡ at = omega arith in
    record {
      long = long;
      written = [];
      missing = bytes;
      parts = refl;
      wrote = record { end_is = refl; fits = omega (arith, few); front = ap (λ (k : ℕ). take k old) none ∙ sym (append-nil (take at old)); behind = refl };
    }

-- more bytes are refused with those in front
pub refused_more : (old new : List ℕ) (at : ℕ) (a b : List ℕ) → Refuses old new at a → Refuses old new at (a ++ b)
refused_more old new at a b r = record {
  long = omega (arith, r.long, length-append a b);
  written = r.written;
  missing = r.missing ++ b;
  parts = ap (λ t. t ++ b) r.parts ∙ append_assoc r.written r.missing b;
  wrote = r.wrote;
}

-- bytes are refused behind others
pub refused_behind : (old mid new : List ℕ) (at n : ℕ) (a b : List ℕ) → Wrote old mid at n a → Refuses mid new n b → Refuses old new at (a ++ b)
refused_behind old mid new at n a b w r =
    let end : n + length r.written ≡ at + length (a ++ r.written) = omega (arith, w.end_is, length-append a r.written) in
    record {
      long = omega (arith, w.end_is, length-append a b, r.long);
      written = a ++ r.written;
      missing = r.missing;
      parts = ap (λ t. a ++ t) r.parts ∙ sym (append_assoc a r.written r.missing);
      wrote = subst (λ (k : ℕ). Wrote old new at k (a ++ r.written)) end (both old mid new at n (n + length r.written) a r.written w r.wrote);
    }

-- ---- either answer

pub chain : (old mid new : List ℕ) (at n : ℕ) (r : Result ℕ Long) (a b : List ℕ) → Wrote old mid at n a → Puts mid new n r b → Puts old new at r (a ++ b)
chain old mid new at n (Ok m) a b w p = both old mid new at n m a b w p
chain old mid new at n (Err e) a b w p = refused_behind old mid new at n a b w p

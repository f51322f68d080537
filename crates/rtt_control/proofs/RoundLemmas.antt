-- Bytes taken round the end of a buffer.
use Rattle.std.proofs.Common.{◌≡◌, ◌∙◌, ℕ, zero, suc, ◌+◌, ◌-◌, ◌%◌, ◌<◌, ◌≤◌, List, [], ◌∷◌, ◌++◌, length, take, drop, slice_index, refl, sym, ap, arith, add-one}
use Rattle.std.proofs.Math.Nat.{mod-lt, mod-eq_of_lt, add-mod_right}
use Rattle.std.proofs.Math.Seq.{drop-cons}
use Rattle.std.proofs.lemmas.List.{get_or-take}
use Rattle.std.proofs.Common.{append_assoc}
use Rattle.std.specs.Prelude.{None, Ok}
use Rattle.std.proofs.lemmas.Bool.{eq-eqb, ne_eqb}
use Rattle.rtt_control.specs.declared.block.Descriptor.{Descriptor}
use Rattle.rtt_control.specs.Control.{cause_of, unread_of}
use Rattle.rtt_control.specs.Layout.{round, waiting}

-- a part that does not reach round the end
pub round_part : (b : List ℕ) (z at n : ℕ) → at + n ≤ z → z ≤ length b → round b z at n ≡ take n (drop at b)
round_part b z at zero h w = refl
round_part b z at (suc n) h w =
    let here : at % z ≡ at = mod-eq_of_lt (omega arith) in
    let lt : at < length b = omega arith in
    ap (λ (k : ℕ). slice_index b k ∷ round b z (at + 1) n) here
    ∙ ap (λ (l : List ℕ). slice_index b at ∷ l) (round_part b z (at + 1) n (omega arith) w ∙ ap (λ (k : ℕ). take n (drop k b)) (add-one at))
    ∙ ap (take (suc n)) (sym (drop-cons b at 0 lt))

-- two parts, one after the other
pub round_join : (b : List ℕ) (z at m n : ℕ) → round b z at (m + n) ≡ round b z at m ++ round b z (at + m) n
round_join b z at zero n =
    let e : 0 + n ≡ n = omega arith in
    let f : at ≡ at + 0 = omega arith in
    ap (λ (k : ℕ). round b z at k) e ∙ ap (λ (k : ℕ). round b z k n) f
round_join b z at (suc m) n =
    let e : suc m + n ≡ suc (m + n) = omega arith in
    let f : at + 1 + m ≡ at + suc m = omega arith in
    ap (λ (k : ℕ). round b z at k) e
    ∙ ap (λ (l : List ℕ). slice_index b (at % z) ∷ l) (round_join b z (at + 1) m n ∙ ap (λ (k : ℕ). round b z (at + 1) m ++ round b z k n) f)

-- a whole turn changes nothing
pub round_turn : (b : List ℕ) (z at n : ℕ) → round b z (at + z) n ≡ round b z at n
round_turn b z at zero = refl
round_turn b z at (suc n) =
    let f : at + z + 1 ≡ at + 1 + z = omega arith in
    ap (λ (k : ℕ). slice_index b k ∷ round b z (at + z + 1) n) (add-mod_right at z)
    ∙ ap (λ (l : List ℕ). slice_index b (at % z) ∷ l) (ap (λ (k : ℕ). round b z k n) f ∙ round_turn b z (at + 1) n)

-- how many bytes lie from a place up to one that is not before it, and to one that is
ahead : (f t z : ℕ) → f ≤ t → t < z → (t + z - f) % z ≡ t - f
ahead f t z h l =
    let e : t + z - f ≡ (t - f) + z = omega arith in
    ap (λ (k : ℕ). k % z) e ∙ add-mod_right (t - f) z ∙ mod-eq_of_lt (omega arith)

behind : (f t z : ℕ) → t < f → f < z → (t + z - f) % z ≡ (z - f) + t
behind f t z h l =
    let e : t + z - f ≡ (z - f) + t = omega arith in
    ap (λ (k : ℕ). k % z) e ∙ mod-eq_of_lt (omega arith)

pub round_ahead : (b : List ℕ) (f t z : ℕ) → z ≤ length b → f ≤ t → t < z → round b z f ((t + z - f) % z) ≡ take (t - f) (drop f b)
round_ahead b f t z w h l = ap (λ (k : ℕ). round b z f k) (ahead f t z h l) ∙ round_part b z f (t - f) (omega arith) w

pub round_behind : (b : List ℕ) (f t z : ℕ) → z ≤ length b → t < f → f < z → round b z f ((t + z - f) % z) ≡ take (z - f) (drop f b) ++ take t b
round_behind b f t z w h l =
    let e : f + (z - f) ≡ 0 + z = omega arith in
    ap (λ (k : ℕ). round b z f k) (behind f t z h l) ∙ round_join b z f (z - f) t
    ∙ ap (λ (l : List ℕ). l ++ round b z (f + (z - f)) t) (round_part b z f (z - f) (omega arith) w)
    ∙ ap (λ (l : List ℕ). take (z - f) (drop f b) ++ l) (ap (λ (k : ℕ). round b z k t) e ∙ round_turn b z 0 t ∙ round_part b z 0 t (omega arith) w)

-- only the first z bytes count
pub round_take : (b : List ℕ) (z at n : ℕ) → 0 < z → round (take z b) z at n ≡ round b z at n
round_take b z at zero pos = refl
round_take b z at (suc n) pos =
    ap (λ (x : ℕ). x ∷ round (take z b) z (at + 1) n) (get_or-take z b (at % z) 0 (mod-lt at pos))
    ∙ ap (λ (l : List ℕ). slice_index b (at % z) ∷ l) (round_take b z (at + 1) n pos)

pub append_ahead : (old new b : List ℕ) (f t : ℕ) → f ≤ t → t < length b → new ≡ old ++ take (t - f) (drop f b)
    → new ≡ old ++ round b (length b) f ((t + length b - f) % length b)
append_ahead old new b f t h l e = e ∙ ap (λ (x : List ℕ). old ++ x) (sym (round_ahead b f t (length b) (omega arith) h l))

pub append_behind : (old mid new b : List ℕ) (f t : ℕ) → t < f → f < length b → mid ≡ old ++ take (length b - f) (drop f b) → new ≡ mid ++ take t b
    → new ≡ old ++ round b (length b) f ((t + length b - f) % length b)
append_behind old mid new b f t h l e e2 = e2 ∙ ap (λ (x : List ℕ). x ++ take t b) e ∙ append_assoc old (take (length b - f) (drop f b)) (take t b)
    ∙ ap (λ (x : List ℕ). old ++ x) (sym (round_behind b f t (length b) (omega arith) h l))

-- ---- what `unread` answers of a descriptor with no cause

pub unread_none : (image : List ℕ) (base : ℕ) (d : Descriptor) → None ≡ cause_of (length image) base d → unread_of image base d ≡ Ok (waiting image base d)
unread_none image base d e = rw (← e) refl

pub waiting_none : (image : List ℕ) (base : ℕ) (d : Descriptor) → d.size ≡ 0 → waiting image base d ≡ []
unfolding waiting
waiting_none image base d e = rw (eq-eqb d.size 0 e) refl

pub waiting_some : (image : List ℕ) (base : ℕ) (d : Descriptor) → (d.size ≡ 0 → ⊥)
    → waiting image base d ≡ round (drop (d.start - base) image) d.size d.rd ((d.wr + d.size - d.rd) % d.size)
unfolding waiting
waiting_some image base d e = rw (ne_eqb d.size 0 e) refl

-- the buffer as a list of its own
pub waiting_in : (image buffer bytes : List ℕ) (base : ℕ) (d : Descriptor) → (d.size ≡ 0 → ⊥) → buffer ≡ take d.size (drop (d.start - base) image) → length buffer ≡ d.size
    → bytes ≡ round buffer (length buffer) d.rd ((d.wr + length buffer - d.rd) % length buffer) → waiting image base d ≡ bytes
waiting_in image buffer bytes base d some is len e =
    let z = d.size in
    let b = drop (d.start - base) image in
    let n = (d.wr + z - d.rd) % z in
    waiting_some image base d some ∙ sym (round_take b z d.rd n (omega arith)) ∙ ap (λ (x : List ℕ). round x z d.rd n) (sym is)
    ∙ ap (λ (k : ℕ). round buffer k d.rd ((d.wr + k - d.rd) % k)) (sym len) ∙ sym e

-- Parts of an image written one after the other.
use Rattle.std.proofs.Common.{◌≡◌, ◌∙◌, ℕ, ◌+◌, ◌*◌, ◌<◌, ◌≤◌, get_or, List, [], ◌∷◌, ◌++◌, length, take, drop, refl, sym, ap, arith, append_assoc, length-append, length-drop}
use Rattle.std.proofs.lemmas.List.{take_at, drop_at, drop-drop, length-take-le, take_more, append-nil}
use Rattle.std.proofs.lemmas.Grind.{flat_map-append}
use Rattle.std.proofs.Math.Nat.{mul-suc, mul-le-mul_left}
use Rattle.std.specs.List.{flat_map}
use Rattle.rtt_control.specs.declared.block.Descriptor.{Descriptor}
use Rattle.rtt_control.specs.Layout.{with_bytes, word_bytes, descriptor_bytes, fields, id, block_bytes}

pub with_more : (old : List ℕ) (at : ℕ) (xs ys : List ℕ) → at + length xs + length ys ≤ length old
    → with_bytes (with_bytes old at xs) (at + length xs) ys ≡ with_bytes old at (xs ++ ys)
with_more old at xs ys h =
    let n : ℕ = at + length xs in
    let p : List ℕ = take at old ++ xs in
    let r : List ℕ = drop n old in
    let e : with_bytes old at xs ≡ p ++ r = sym (append_assoc (take at old) xs r) in
    let front_is : length (take at old) ≡ at = length-take-le at old (omega arith) in
    let len : length p ≡ n = omega (arith, length-append (take at old) xs) in
    let front : take n (with_bytes old at xs) ≡ p = ap (λ (l : List ℕ). take n l) e ∙ take_at p r n len in
    let back : drop (n + length ys) (with_bytes old at xs) ≡ drop (n + length ys) old =
    ap (λ (l : List ℕ). drop (n + length ys) l) e ∙ sym (drop-drop (length ys) n (p ++ r))
    ∙ ap (λ (l : List ℕ). drop (length ys) l) (drop_at p r n len) ∙ drop-drop (length ys) n old in
    let joined : at + length (xs ++ ys) ≡ n + length ys = omega (arith, length-append xs ys) in
    ap (λ (l : List ℕ). l ++ (ys ++ drop (n + length ys) (with_bytes old at xs))) front
    ∙ ap (λ (l : List ℕ). p ++ (ys ++ l)) back
    ∙ append_assoc (take at old) xs (ys ++ drop (n + length ys) old)
    ∙ ap (λ (l : List ℕ). take at old ++ l) (sym (append_assoc xs ys (drop (n + length ys) old)))
    ∙ ap (λ (k : ℕ). take at old ++ ((xs ++ ys) ++ drop k old)) (sym joined)

pub length_with : (old : List ℕ) (at : ℕ) (xs : List ℕ) → at + length xs ≤ length old → length (with_bytes old at xs) ≡ length old
length_with old at xs h =
    let front_is : length (take at old) ≡ at = length-take-le at old (omega arith) in
    omega (arith, length-append (take at old) (xs ++ drop (at + length xs) old), length-append xs (drop (at + length xs) old), length-drop (at + length xs) old)

pub length_pieces : {X : Type 0} (f : X → List ℕ) (k : ℕ) → ((x : X) → length (f x) ≡ k) → (xs : List X) → length (flat_map f xs) ≡ k * length xs
length_pieces f k h [] = omega arith
length_pieces f k h (x ∷ xs) = omega (arith, length-append (f x) (flat_map f xs), h x, length_pieces f k h xs, mul-suc k (length xs))

-- one more piece of k bytes
pub put_next : {X : Type 0} (f : X → List ℕ) (k : ℕ) → ((x : X) → length (f x) ≡ k) → (old now new : List ℕ) (at place i : ℕ) (xs : List X) (d : X)
    → i < length xs → at + k * length xs ≤ length old → place ≡ at + k * i → now ≡ with_bytes old at (flat_map f (take i xs))
    → new ≡ with_bytes now place (f (get_or xs i d)) → new ≡ with_bytes old at (flat_map f (take (i + 1) xs))
put_next f k h old now new at place i xs d lt fits place_is was is =
    let done : List ℕ = flat_map f (take i xs) in
    let piece : List ℕ = f (get_or xs i d) in
    let many : length (take i xs) ≡ i = length-take-le i xs (omega arith) in
    let len : length done ≡ k * i = length_pieces f k h (take i xs) ∙ ap (λ n. k * n) many in
    let one : length piece ≡ k = h (get_or xs i d) in
    let below : k * (i + 1) ≤ k * length xs = mul-le-mul_left k (omega arith) in
    let at_is : place ≡ at + length done = omega arith in
    let more : flat_map f (take (i + 1) xs) ≡ done ++ piece =
    ap (flat_map f) (take_more xs i d lt) ∙ flat_map-append f (take i xs) (get_or xs i d ∷ []) ∙ ap (λ l. done ++ l) (append-nil piece) in
    let step : k * (i + 1) ≡ k * i + k = mul-suc' k i in
    is ∙ ap (λ (l : List ℕ). with_bytes l place piece) was ∙ ap (λ (n : ℕ). with_bytes (with_bytes old at done) n piece) at_is
    ∙ with_more old at done piece (omega arith) ∙ ap (with_bytes old at) (sym more)
  where
    mul-suc' : (a b : ℕ) → a * (b + 1) ≡ a * b + a
    mul-suc' a b = omega arith

pub length_word : (n : ℕ) → length (word_bytes n) ≡ 4
unfolding word_bytes
length_word n = refl

pub length_descriptor : (d : Descriptor) → length (descriptor_bytes d) ≡ 24
length_descriptor d = length_pieces word_bytes 4 length_word (fields d)

-- the four parts of a block
pub block_written : (i0 i1 i2 i3 i4 : List ℕ) (at : ℕ) (up down : List Descriptor) → at + 24 + 24 * (length up + length down) ≤ length i0
    → i1 ≡ with_bytes i0 at id → i2 ≡ with_bytes i1 (at + 16) (flat_map word_bytes (length up ∷ length down ∷ []))
    → i3 ≡ with_bytes i2 (at + 24) (flat_map descriptor_bytes up) → i4 ≡ with_bytes i3 (at + 24 + 24 * length up) (flat_map descriptor_bytes down)
    → i4 ≡ with_bytes i0 at (block_bytes up down)
block_written i0 i1 i2 i3 i4 at up down fits e1 e2 e3 e4 =
    let ws : List ℕ = flat_map word_bytes (length up ∷ length down ∷ []) in
    let us : List ℕ = flat_map descriptor_bytes up in
    let ds : List ℕ = flat_map descriptor_bytes down in
    let w : length ws ≡ 8 = length_pieces word_bytes 4 length_word (length up ∷ length down ∷ []) in
    let u : length us ≡ 24 * length up = length_pieces descriptor_bytes 24 length_descriptor up in
    let d : length ds ≡ 24 * length down = length_pieces descriptor_bytes 24 length_descriptor down in
    let idw : length (id ++ ws) ≡ 24 = length-append id ws ∙ ap (λ n. 16 + n) w in
    let idu : length ((id ++ ws) ++ us) ≡ 24 + 24 * length up = omega (arith, length-append (id ++ ws) us) in
    let p3 : at + 24 ≡ at + length (id ++ ws) = ap (λ n. at + n) (sym idw) in
    let p4 : at + 24 + 24 * length up ≡ at + length ((id ++ ws) ++ us) = omega arith in
    let f2 : i2 ≡ with_bytes i0 at (id ++ ws) = e2 ∙ ap (λ (l : List ℕ). with_bytes l (at + 16) ws) e1 ∙ with_more i0 at id ws (omega arith) in
    let f3 : i3 ≡ with_bytes i0 at ((id ++ ws) ++ us) = e3 ∙ ap (λ (l : List ℕ). with_bytes l (at + 24) us) f2
    ∙ ap (λ (n : ℕ). with_bytes (with_bytes i0 at (id ++ ws)) n us) p3 ∙ with_more i0 at (id ++ ws) us (omega arith) in
    e4 ∙ ap (λ (l : List ℕ). with_bytes l (at + 24 + 24 * length up) ds) f3
    ∙ ap (λ (n : ℕ). with_bytes (with_bytes i0 at ((id ++ ws) ++ us)) n ds) p4 ∙ with_more i0 at ((id ++ ws) ++ us) ds (omega arith)

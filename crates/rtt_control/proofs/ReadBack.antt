-- A block that was written is read back.
use Rattle.std.proofs.Common.{◌≡◌, ◌∙◌, ℕ, zero, suc, ◌+◌, ◌*◌, ◌<◌, ◌≤◌, true, List, [], ◌∷◌, ◌++◌, length, take, drop, refl, sym, ap, arith, append_assoc, length-append, append-nil}
use Rattle.std.specs.Prelude.{Ok, None}
use Rattle.std.specs.List.{All, flat_map}
use Rattle.std.proofs.lemmas.List.{drop_at, length-take-le}
use Rattle.std.proofs.lemmas.Bool.{le-ltb}
use Rattle.byte_images.specs.Fields.{number}
use Rattle.byte_images.proofs.FieldLaws.{number_behind, number_back}
use Rattle.rtt_control.specs.declared.block.Block.{Block}
use Rattle.rtt_control.specs.declared.block.Descriptor.{Descriptor}
use Rattle.rtt_control.specs.Layout.{word, word_bytes, descriptor_at, descriptors_at, descriptor_bytes, id, block_bytes, block_len, lists_at, with_bytes, starts_with_id, IsWords}
use Rattle.rtt_control.specs.Control.{block_at, checked, first_refusal}
use Rattle.rtt_control.proofs.PartLemmas.{length_with, length_word, length_descriptor, length_pieces}

-- the word at the end of some bytes
pub word_back : (xs ys : List ℕ) (n at : ℕ) → n < 4294967296 → length xs ≡ at → word (xs ++ (word_bytes n ++ ys)) at ≡ n
unfolding word_bytes
word_back xs ys n at small e =
    let bytes : List ℕ = xs ++ (word_bytes n ++ ys) in
    let behind : number (at + 0) 4 bytes ≡ number 0 4 (word_bytes n ++ ys) = number_behind xs (word_bytes n ++ ys) at 0 4 e in
    ap (λ (k : ℕ). number k 4 bytes) (let k : at ≡ at + 0 = omega arith in k) ∙ behind ∙ number_back 4 n ys small

pub descriptor_back : (image xs ys : List ℕ) (d : Descriptor) (at : ℕ) → IsWords d → length xs ≡ at → image ≡ xs ++ (descriptor_bytes d ++ ys) → descriptor_at image at ≡ d
descriptor_back image xs ys d at w e is =
    let a0 : List ℕ = xs in
    let a1 : List ℕ = a0 ++ word_bytes d.name in
    let a2 : List ℕ = a1 ++ word_bytes d.start in
    let a3 : List ℕ = a2 ++ word_bytes d.size in
    let a4 : List ℕ = a3 ++ word_bytes d.wr in
    let a5 : List ℕ = a4 ++ word_bytes d.rd in
    let l1 : length a1 ≡ at + 4 = length-append a0 (word_bytes d.name) ∙ omega (arith, length_word d.name) in
    let l2 : length a2 ≡ at + 8 = length-append a1 (word_bytes d.start) ∙ omega (arith, length_word d.start) in
    let l3 : length a3 ≡ at + 12 = length-append a2 (word_bytes d.size) ∙ omega (arith, length_word d.size) in
    let l4 : length a4 ≡ at + 16 = length-append a3 (word_bytes d.wr) ∙ omega (arith, length_word d.wr) in
    let l5 : length a5 ≡ at + 20 = length-append a4 (word_bytes d.rd) ∙ omega (arith, length_word d.rd) in
    let all : image ≡ xs ++ (word_bytes d.name ++ (word_bytes d.start ++ (word_bytes d.size ++ (word_bytes d.wr ++ (word_bytes d.rd ++ (word_bytes d.flags ++ ys)))))) =
    is ∙ ap (λ (l : List ℕ). xs ++ l) (joined (word_bytes d.name) (word_bytes d.start) (word_bytes d.size) (word_bytes d.wr) (word_bytes d.rd) (word_bytes d.flags) ys) in
    let r5 : List ℕ = word_bytes d.flags ++ ys in
    let r4 : List ℕ = word_bytes d.rd ++ r5 in
    let r3 : List ℕ = word_bytes d.wr ++ r4 in
    let r2 : List ℕ = word_bytes d.size ++ r3 in
    let r1 : List ℕ = word_bytes d.start ++ r2 in
    let f1 : image ≡ a1 ++ r1 = all ∙ sym (append_assoc a0 (word_bytes d.name) r1) in
    let f2 : image ≡ a2 ++ r2 = f1 ∙ sym (append_assoc a1 (word_bytes d.start) r2) in
    let f3 : image ≡ a3 ++ r3 = f2 ∙ sym (append_assoc a2 (word_bytes d.size) r3) in
    let f4 : image ≡ a4 ++ r4 = f3 ∙ sym (append_assoc a3 (word_bytes d.wr) r4) in
    let f5 : image ≡ a5 ++ r5 = f4 ∙ sym (append_assoc a4 (word_bytes d.rd) r5) in
    let e0 : word image at ≡ d.name = ap (λ (l : List ℕ). word l at) all ∙ word_back a0 r1 d.name at w.name e in
    let e1 : word image (at + 4) ≡ d.start = ap (λ (l : List ℕ). word l (at + 4)) f1 ∙ word_back a1 r2 d.start (at + 4) w.start l1 in
    let e2 : word image (at + 8) ≡ d.size = ap (λ (l : List ℕ). word l (at + 8)) f2 ∙ word_back a2 r3 d.size (at + 8) w.size l2 in
    let e3 : word image (at + 12) ≡ d.wr = ap (λ (l : List ℕ). word l (at + 12)) f3 ∙ word_back a3 r4 d.wr (at + 12) w.wr l3 in
    let e4 : word image (at + 16) ≡ d.rd = ap (λ (l : List ℕ). word l (at + 16)) f4 ∙ word_back a4 r5 d.rd (at + 16) w.rd l4 in
    let e5 : word image (at + 20) ≡ d.flags = ap (λ (l : List ℕ). word l (at + 20)) f5 ∙ word_back a5 ys d.flags (at + 20) w.flags l5 in
    λ i. record { name = e0 i; start = e1 i; size = e2 i; wr = e3 i; rd = e4 i; flags = e5 i }
  where
    joined : (a b c d e f ys : List ℕ) → (a ++ (b ++ (c ++ (d ++ (e ++ (f ++ [])))))) ++ ys ≡ a ++ (b ++ (c ++ (d ++ (e ++ (f ++ ys)))))
    joined a b c d e f ys = simp (append_assoc, append-nil)

-- the descriptors from the front
descriptors_front : (image : List ℕ) (at n : ℕ) → descriptors_at image at (suc n) ≡ descriptor_at image at ∷ descriptors_at image (at + 24) n
descriptors_front image at zero = let e : at + 24 * 0 ≡ at = omega arith in ap (λ (k : ℕ). descriptor_at image k ∷ []) e
descriptors_front image at (suc n) =
    let e : at + 24 * suc n ≡ at + 24 + 24 * n = omega arith in
    ap (λ (l : List Descriptor). l ++ descriptor_at image (at + 24 * suc n) ∷ []) (descriptors_front image at n)
    ∙ ap (λ (k : ℕ). descriptor_at image at ∷ (descriptors_at image (at + 24) n ++ descriptor_at image k ∷ [])) e

pub descriptors_back : (image xs ys : List ℕ) (ds : List Descriptor) (at : ℕ) → All IsWords ds → length xs ≡ at → image ≡ xs ++ (flat_map descriptor_bytes ds ++ ys)
    → descriptors_at image at (length ds) ≡ ds
descriptors_back image xs ys [] at w e is = refl
descriptors_back image xs ys (d ∷ ds) at w e is =
    let rest : List ℕ = flat_map descriptor_bytes ds ++ ys in
    let split : image ≡ xs ++ (descriptor_bytes d ++ rest) = is ∙ ap (λ (l : List ℕ). xs ++ l) (append_assoc (descriptor_bytes d) (flat_map descriptor_bytes ds) ys) in
    let next : length (xs ++ descriptor_bytes d) ≡ at + 24 = length-append xs (descriptor_bytes d) ∙ omega (arith, length_descriptor d) in
    descriptors_front image at (length ds)
    ∙ ap (λ (x : Descriptor). x ∷ descriptors_at image (at + 24) (length ds)) (descriptor_back image xs rest d at (w 0 d (omega arith)) e split)
    ∙ ap (λ (l : List Descriptor). d ∷ l) (descriptors_back image (xs ++ descriptor_bytes d) ys ds (at + 24) (λ k x lt. w (suc k) x (omega arith)) next (split ∙ sym (append_assoc xs (descriptor_bytes d) rest)))

starts_id : (rest : List ℕ) → starts_with_id (id ++ rest) ≡ true
unfolding starts_with_id
starts_id rest = refl

read_there : (image : List ℕ) (base at n m : ℕ) (block : Block) → starts_with_id (drop at image) ≡ true → at + block_len n m ≤ length image
    → word image (at + 16) ≡ n → word image (at + 20) ≡ m → lists_at image at n m ≡ block → block_at image base at ≡ checked (length image) base block
read_there image base at n m block has fits en em el =
    rw (has, en, em, le-ltb (length image) (at + block_len n m) fits) (ap (checked (length image) base) el)

length_block : (up down : List Descriptor) → length (block_bytes up down) ≡ 24 + 24 * length up + 24 * length down
length_block up down =
    let ws : List ℕ = flat_map word_bytes (length up ∷ length down ∷ []) in
    let w : length ws ≡ 8 = length_pieces word_bytes 4 length_word (length up ∷ length down ∷ []) in
    let us : List ℕ = flat_map descriptor_bytes up in
    let ds : List ℕ = flat_map descriptor_bytes down in
    omega (arith, length-append ((id ++ ws) ++ us) ds, length-append (id ++ ws) us, length-append id ws, length_pieces descriptor_bytes 24 length_descriptor up, length_pieces descriptor_bytes 24 length_descriptor down)

-- the block that was written at a place is read there, or the first cause in it
pub block_back : (old image : List ℕ) (base at : ℕ) (up down : List Descriptor) → at + 24 + 24 * (length up + length down) ≤ length old → length old < 4294967296
    → All IsWords up → All IsWords down → image ≡ with_bytes old at (block_bytes up down)
    → block_at image base at ≡ checked (length image) base (record { up = up; down = down })
block_back old image base at up down fits small wu wd is =
    let p : List ℕ = take at old in
    let a : List ℕ = word_bytes (length up) in
    let b : List ℕ = word_bytes (length down) in
    let us : List ℕ = flat_map descriptor_bytes up in
    let ds : List ℕ = flat_map descriptor_bytes down in
    let r : List ℕ = drop (at + length (block_bytes up down)) old in
    let lp : length p ≡ at = length-take-le at old (omega arith) in
    let e : image ≡ p ++ (id ++ (a ++ (b ++ (us ++ (ds ++ r))))) = is ∙ ap (λ (l : List ℕ). p ++ l) (opened id a b us ds r) in
    let x1 : List ℕ = p ++ id in
    let x2 : List ℕ = x1 ++ a in
    let x3 : List ℕ = x2 ++ b in
    let x4 : List ℕ = x3 ++ us in
    let l1 : length x1 ≡ at + 16 = length-append p id ∙ ap (λ n. n + 16) lp in
    let l2 : length x2 ≡ at + 20 = length-append x1 a ∙ omega (arith, length_word (length up)) in
    let l3 : length x3 ≡ at + 24 = length-append x2 b ∙ omega (arith, length_word (length down)) in
    let l4 : length x4 ≡ at + 24 + 24 * length up = length-append x3 us ∙ omega (arith, length_pieces descriptor_bytes 24 length_descriptor up) in
    let e1 : image ≡ x1 ++ (a ++ (b ++ (us ++ (ds ++ r)))) = e ∙ sym (append_assoc p id (a ++ (b ++ (us ++ (ds ++ r))))) in
    let e2 : image ≡ x2 ++ (b ++ (us ++ (ds ++ r))) = e1 ∙ sym (append_assoc x1 a (b ++ (us ++ (ds ++ r)))) in
    let e3 : image ≡ x3 ++ (us ++ (ds ++ r)) = e2 ∙ sym (append_assoc x2 b (us ++ (ds ++ r))) in
    let e4 : image ≡ x4 ++ (ds ++ r) = e3 ∙ sym (append_assoc x3 us (ds ++ r)) in
    let has : starts_with_id (drop at image) ≡ true = ap (λ (l : List ℕ). starts_with_id (drop at l)) e ∙ ap starts_with_id (drop_at p (id ++ (a ++ (b ++ (us ++ (ds ++ r))))) at lp) ∙ starts_id (a ++ (b ++ (us ++ (ds ++ r)))) in
    let len : length image ≡ length old = ap length is ∙ length_with old at (block_bytes up down) (omega (arith, length_block up down)) in
    let w1 : word image (at + 16) ≡ length up = ap (λ (l : List ℕ). word l (at + 16)) e1 ∙ word_back x1 (b ++ (us ++ (ds ++ r))) (length up) (at + 16) (omega arith) l1 in
    let w2 : word image (at + 20) ≡ length down = ap (λ (l : List ℕ). word l (at + 20)) e2 ∙ word_back x2 (us ++ (ds ++ r)) (length down) (at + 20) (omega arith) l2 in
    let u : descriptors_at image (at + 24) (length up) ≡ up = descriptors_back image x3 (ds ++ r) up (at + 24) wu l3 e3 in
    let d : descriptors_at image (at + 24 + 24 * length up) (length down) ≡ down = descriptors_back image x4 r down (at + 24 + 24 * length up) wd l4 e4 in
    read_there image base at (length up) (length down) (record { up = up; down = down }) has (omega arith) w1 w2 (λ i. record { up = u i; down = d i })
  where
    opened : (i a b us ds r : List ℕ) → (((i ++ (a ++ (b ++ []))) ++ us) ++ ds) ++ r ≡ i ++ (a ++ (b ++ (us ++ (ds ++ r))))
    opened i a b us ds r = simp (append_assoc, append-nil)

-- a block with no cause that was written is read
pub checked_back : (old image : List ℕ) (base at : ℕ) (up down : List Descriptor) → at + 24 + 24 * (length up + length down) ≤ length old → length old < 4294967296
    → All IsWords up → All IsWords down → image ≡ with_bytes old at (block_bytes up down) → first_refusal (length old) base 0 (up ++ down) ≡ None
    → block_at image base at ≡ Ok (record { up = up; down = down })
checked_back old image base at up down fits small wu wd is none =
    let len : length image ≡ length old = ap length is ∙ length_with old at (block_bytes up down) (omega (arith, length_block up down)) in
    block_back old image base at up down fits small wu wd is
    ∙ ap (λ (n : ℕ). checked n base (record { up = up; down = down })) len
    ∙ rw none refl

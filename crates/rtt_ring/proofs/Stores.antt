-- An image after bytes were stored in its buffer.
use Rattle.std.proofs.Common.{◌≡◌, ◌∙◌, ◌⊎◌, inl, inr, ℕ, ◌+◌, ◌-◌, ◌%◌, ◌<◌, ◌≤◌, min, List, ◌++◌, length, take, drop, get_or, refl, sym, ap, arith, length-drop, mod-lt}
use Rattle.std.proofs.lemmas.List.{get_or_append_left, get_or-append_right, get_or-take, get_or-drop, length-take-le, take-append-le, take-take}
use Rattle.rtt_control.specs.Layout.{round, with_bytes}
use Rattle.rtt_control.proofs.PartLemmas.{length_with}
use Rattle.rtt_ring.specs.Image.{first_run, stored}
use Rattle.rtt_words.proofs.Residues.{turn}
use Rattle.rtt_ring.proofs.Rounds.{round_is, round_kept}

-- a byte that was written
with_in : (l bs : List ℕ) (p j : ℕ) → p ≤ length l → j < length bs → get_or (with_bytes l p bs) (p + j) 0 ≡ get_or bs j 0
with_in l bs p j h lt =
    let rest : List ℕ = drop (p + length bs) l in
    let back : p + j - p ≡ j = omega arith in
    get_or-append_right (take p l) (bs ++ rest) p (p + j) 0 (length-take-le p l h) (omega arith)
    ∙ ap (λ (k : ℕ). get_or (bs ++ rest) k 0) back ∙ get_or_append_left bs rest 0 j lt

-- a byte that was not
with_out : (l bs : List ℕ) (p i : ℕ) → p + length bs ≤ length l → (i < p) ⊎ (p + length bs ≤ i) → get_or (with_bytes l p bs) i 0 ≡ get_or l i 0
with_out l bs p i h (inl before) =
    let len : length (take p l) ≡ p = length-take-le p l (omega arith) in
    get_or_append_left (take p l) (bs ++ drop (p + length bs) l) 0 i (omega arith) ∙ get_or-take p l i 0 before
with_out l bs p i h (inr after) =
    let rest : List ℕ = drop (p + length bs) l in
    let back : p + length bs + (i - p - length bs) ≡ i = omega arith in
    get_or-append_right (take p l) (bs ++ rest) p i 0 (length-take-le p l (omega arith)) (omega arith)
    ∙ get_or-append_right bs rest (length bs) (i - p) 0 refl (omega arith)
    ∙ get_or-drop (p + length bs) l (i - p - length bs) 0 ∙ ap (λ (k : ℕ). get_or l k 0) back

-- a place of bytes before those that are stored: none of the two runs reaches it
apart : (gz k f n z at q m : ℕ) → k < f → f + n + 1 ≤ z → m ≡ min n (z - at) → gz < z
    → ((gz + k < z) × (q ≡ gz + k)) ⊎ ((z ≤ gz + k) × (q + z ≡ gz + k))
    → ((gz + f < z) × (at ≡ gz + f)) ⊎ ((z ≤ gz + f) × (at + z ≡ gz + f))
    → ((q < at) ⊎ (at + m ≤ q)) × (n - m ≤ q)
apart gz k f n z at q m less room is lt (inl a) (inl b) = (inl (omega arith), omega arith)
apart gz k f n z at q m less room is lt (inl a) (inr b) = (inr (omega arith), omega arith)
apart gz k f n z at q m less room is lt (inr a) (inl b) = (inl (omega arith), omega arith)
apart gz k f n z at q m less room is lt (inr a) (inr b) = (inl (omega arith), omega arith)

module _ (image bytes : List ℕ) (z at : ℕ) (wide : length image ≡ 48 + z) (inside : at < z) (fits : length bytes ≤ z) where
  -- the length of the first run, and the image after it
  first_is : first_run image at bytes ≡ min (length bytes) (z - at)
  first_is = ap (λ (k : ℕ). min (length bytes) (k - 48 - at)) wide ∙ (let e : 48 + z - 48 - at ≡ z - at = omega arith in ap (λ (k : ℕ). min (length bytes) k) e)

  front_len : length (take (first_run image at bytes) bytes) ≡ first_run image at bytes
  front_len = let e = first_is in length-take-le (first_run image at bytes) bytes (omega arith)

  back_len : length (drop (first_run image at bytes) bytes) ≡ length bytes - first_run image at bytes
  back_len = length-drop (first_run image at bytes) bytes

  half : List ℕ
  half = with_bytes image (48 + at) (take (first_run image at bytes) bytes)

  half_len : length half ≡ length image
  unfolding half
  half_len = let e = first_is in let f = front_len in length_with image (48 + at) (take (first_run image at bytes) bytes) (omega arith)

  stored_is : stored image at bytes ≡ with_bytes half 48 (drop (first_run image at bytes) bytes)
  unfolding half
  stored_is = refl

  back_fits : 48 + length (drop (first_run image at bytes) bytes) ≤ length half
  back_fits = let e = first_is in let b = back_len in let h = half_len in omega arith

  pub length_stored : length (stored image at bytes) ≡ length image
  length_stored = ap length stored_is ∙ length_with half 48 (drop (first_run image at bytes) bytes) back_fits ∙ half_len

  pub front_stored : take 48 (stored image at bytes) ≡ take 48 image
  unfolding half
  front_stored =
      let n : ℕ = first_run image at bytes in
      let back : List ℕ = drop n bytes in
      let h = half_len in
      let len : length (take 48 half) ≡ 48 = length-take-le 48 half (omega arith) in
      let whole : length (take (48 + at) image) ≡ 48 + at = length-take-le (48 + at) image (omega arith) in
      take-append-le 48 (take 48 half) (back ++ drop (48 + length back) half) (omega arith)
      ∙ take-take 48 48 half (omega arith)
      ∙ take-append-le 48 (take (48 + at) image) (take n bytes ++ drop (48 + at + length (take n bytes)) image) (omega arith)
      ∙ take-take 48 (48 + at) image (omega arith)

  stored_first : (j : ℕ) → j < first_run image at bytes → get_or (stored image at bytes) (48 + (at + j)) 0 ≡ get_or bytes j 0
  unfolding half
  stored_first j lt =
      let n : ℕ = first_run image at bytes in
      let e = first_is in
      let b = back_len in
      let f = front_len in
      let same : 48 + (at + j) ≡ 48 + at + j = omega arith in
      with_out half (drop n bytes) 48 (48 + (at + j)) back_fits (inr (omega arith))
      ∙ ap (λ (k : ℕ). get_or half k 0) same ∙ with_in image (take n bytes) (48 + at) j (omega arith) (omega arith) ∙ get_or-take n bytes j 0 lt

  stored_second : (j : ℕ) → j < length bytes - first_run image at bytes → get_or (stored image at bytes) (48 + j) 0 ≡ get_or bytes (first_run image at bytes + j) 0
  stored_second j lt =
      let n : ℕ = first_run image at bytes in
      let b = back_len in
      let h = half_len in
      ap (λ (l : List ℕ). get_or l (48 + j) 0) stored_is ∙ with_in half (drop n bytes) 48 j (omega arith) (omega arith) ∙ get_or-drop n bytes j 0

  stored_else : (q : ℕ) → (q < at) ⊎ (at + first_run image at bytes ≤ q) → length bytes - first_run image at bytes ≤ q → get_or (stored image at bytes) (48 + q) 0 ≡ get_or image (48 + q) 0
  unfolding half
  stored_else q side behind =
      let n : ℕ = first_run image at bytes in
      let e = first_is in
      let b = back_len in
      let f = front_len in
      with_out half (drop n bytes) 48 (48 + q) back_fits (inr (omega arith))
      ∙ with_out image (take n bytes) (48 + at) (48 + q) (omega arith) (moved side)
    where
      moved : (q < at) ⊎ (at + first_run image at bytes ≤ q) → (48 + q < 48 + at) ⊎ (48 + at + length (take (first_run image at bytes) bytes) ≤ 48 + q)
      moved (inl h) = inl (omega arith)
      moved (inr h) = let f = front_len in inr (omega arith)

  -- the bytes stand behind f bytes from the byte number g on
  module _ (g f : ℕ) (at_is : at ≡ (g + f) % z) (room : f + length bytes + 1 ≤ z) where
    stored_by : (j : ℕ) → j < length bytes
        → ((at + j < z) × ((g + f + j) % z ≡ at + j)) ⊎ ((z ≤ at + j) × ((g + f + j) % z + z ≡ at + j))
        → get_or (drop 48 (stored image at bytes)) ((g + f + j) % z) 0 ≡ get_or bytes j 0
    stored_by j lt (inl h) =
        let e = first_is in
        get_or-drop 48 (stored image at bytes) ((g + f + j) % z) 0 ∙ ap (λ (k : ℕ). get_or (stored image at bytes) (48 + k) 0) h.1 ∙ stored_first j (omega arith)
    stored_by j lt (inr h) =
        let n : ℕ = first_run image at bytes in
        let e = first_is in
        let is : (g + f + j) % z ≡ j - n = omega arith in
        let back : n + (j - n) ≡ j = omega arith in
        get_or-drop 48 (stored image at bytes) ((g + f + j) % z) 0 ∙ ap (λ (k : ℕ). get_or (stored image at bytes) (48 + k) 0) is
        ∙ stored_second (j - n) (omega arith) ∙ ap (λ (k : ℕ). get_or bytes k 0) back

    pub round_stored : round (drop 48 (stored image at bytes)) z (g + f) (length bytes) ≡ bytes
    round_stored = round_is (drop 48 (stored image at bytes)) z (g + f) bytes (λ j lt.
        stored_by j lt (moved j (turn (g + f) j z (omega arith))))
      where
        moved : (j : ℕ) → (((g + f) % z + j < z) × ((g + f + j) % z ≡ (g + f) % z + j)) ⊎ ((z ≤ (g + f) % z + j) × ((g + f + j) % z + z ≡ (g + f) % z + j))
            → ((at + j < z) × ((g + f + j) % z ≡ at + j)) ⊎ ((z ≤ at + j) × ((g + f + j) % z + z ≡ at + j))
        moved j (inl h) = inl (omega arith, omega arith)
        moved j (inr h) = inr (omega arith, omega arith)

    -- and the f bytes are as before, from the byte number k on too
    pub round_before : (k n : ℕ) → k + n ≤ f → round (drop 48 (stored image at bytes)) z (g + k) n ≡ round (drop 48 image) z (g + k) n
    round_before k n low = round_kept (drop 48 image) (drop 48 (stored image at bytes)) z (g + k) n (λ j lt.
        let q : ℕ = (g + (k + j)) % z in
        let same : g + k + j ≡ g + (k + j) = omega arith in
        let small : g % z < z = mod-lt g (omega arith) in
        let far = apart (g % z) (k + j) f (length bytes) z at q (first_run image at bytes) (omega arith) room first_is small
        (turn g (k + j) z (omega arith)) (moved (turn g f z (omega arith))) in
        let e : get_or (drop 48 (stored image at bytes)) q 0 ≡ get_or (drop 48 image) q 0 =
        get_or-drop 48 (stored image at bytes) q 0 ∙ stored_else q far.0 far.1 ∙ sym (get_or-drop 48 image q 0) in
        ap (λ (i : ℕ). get_or (drop 48 (stored image at bytes)) (i % z) 0) same ∙ e ∙ ap (λ (i : ℕ). get_or (drop 48 image) (i % z) 0) (sym same))
      where
        moved : ((g % z + f < z) × ((g + f) % z ≡ g % z + f)) ⊎ ((z ≤ g % z + f) × ((g + f) % z + z ≡ g % z + f))
            → ((g % z + f < z) × (at ≡ g % z + f)) ⊎ ((z ≤ g % z + f) × (at + z ≡ g % z + f))
        moved (inl h) = inl (h.0, at_is ∙ h.1)
        moved (inr h) = inr (h.0, omega arith)

-- The control block at the front of an image.
use Rattle.std.proofs.Common.{◌≡◌, ◌∙◌, ℕ, zero, suc, ◌+◌, ◌<◌, ◌≤◌, List, [], ◌∷◌, ◌++◌, length, take, drop, refl, sym, ap, arith, append_assoc, append-nil, take-append-drop, length-drop, length-append}
use Rattle.std.proofs.lemmas.List.{take_at, drop_at, length-take-le, take-take}
use Rattle.std.proofs.lemmas.Bool.{le-leb, lt-ltb, ne_eqb}
use Rattle.std.specs.List.{All, flat_map}
use Rattle.std.specs.Prelude.{None, Ok}
use Rattle.rtt_control.specs.declared.block.Descriptor.{Descriptor}
use Rattle.rtt_control.specs.Control.{block_at, cause_of, checked}
use Rattle.rtt_control.specs.Layout.{IsWords, block_bytes, descriptor_bytes, id, with_bytes, word_bytes}
use Rattle.rtt_control.proofs.PartLemmas.{length_descriptor, with_more}
use Rattle.rtt_control.proofs.ReadBack.{block_back}
use Rattle.rtt_ring.specs.Image.{base, block_of, header, plain_descriptor}

length_header : length header ≡ 24
unfolding header word_bytes
length_header = refl

-- the header of an image with a block
header_is : (image bytes : List ℕ) → take 48 image ≡ header ++ bytes → take 24 image ≡ header
header_is image bytes e = sym (take-take 24 48 image (omega arith)) ∙ ap (take 24) e ∙ take_at header bytes 24 length_header

-- the descriptor is written behind the header
module _ (image new : List ℕ) (size wr rd : ℕ) (long : 48 ≤ length image) (is : new ≡ with_bytes image 24 (descriptor_bytes (plain_descriptor size wr rd)))
    (head : take 24 image ≡ header) where
  marked_is : new ≡ block_of size wr rd ++ drop 48 image
  unfolding block_of
  marked_is =
      let bytes : List ℕ = descriptor_bytes (plain_descriptor size wr rd) in
      let one : length bytes ≡ 24 = length_descriptor (plain_descriptor size wr rd) in
      let e : 24 + length bytes ≡ 48 = omega arith in
      is ∙ ap (λ (n : ℕ). take 24 image ++ (bytes ++ drop n image)) e ∙ ap (λ (l : List ℕ). l ++ (bytes ++ drop 48 image)) head
      ∙ sym (append_assoc header bytes (drop 48 image))

  length_block : length (block_of size wr rd) ≡ 48
  unfolding block_of
  length_block =
      let bytes : List ℕ = descriptor_bytes (plain_descriptor size wr rd) in
      length-append header bytes ∙ ap (λ n. n + length bytes) length_header ∙ ap (λ n. 24 + n) (length_descriptor (plain_descriptor size wr rd))

  pub front_marked : take 48 new ≡ block_of size wr rd
  front_marked = ap (take 48) marked_is ∙ take_at (block_of size wr rd) (drop 48 image) 48 length_block

  pub buffer_marked : drop 48 new ≡ drop 48 image
  buffer_marked = ap (drop 48) marked_is ∙ drop_at (block_of size wr rd) (drop 48 image) 48 length_block

  pub length_marked : length new ≡ length image
  length_marked =
      ap length marked_is ∙ length-append (block_of size wr rd) (drop 48 image) ∙ ap (λ n. n + length (drop 48 image)) length_block
      ∙ omega (arith, length-drop 48 image)

-- the header of an image with a whole block
pub header_of : (image : List ℕ) (size wr rd : ℕ) → take 48 image ≡ block_of size wr rd → take 24 image ≡ header
unfolding block_of
header_of image size wr rd e = header_is image (descriptor_bytes (plain_descriptor size wr rd)) e

length_words : length (flat_map word_bytes (1 ∷ 0 ∷ [])) ≡ 8
unfolding word_bytes
length_words = refl

-- the header that is written into a new image
pub fresh_header : (zeros i1 i2 : List ℕ) → 48 ≤ length zeros → i1 ≡ with_bytes zeros 0 id → i2 ≡ with_bytes i1 16 (flat_map word_bytes (1 ∷ 0 ∷ [])) → take 24 i2 ≡ header
unfolding header
fresh_header zeros i1 i2 long e1 e2 =
    let ws : List ℕ = flat_map word_bytes (1 ∷ 0 ∷ []) in
    let l = length_words in
    let e : i2 ≡ header ++ drop (0 + length (id ++ ws)) zeros = e2 ∙ ap (λ (x : List ℕ). with_bytes x 16 ws) e1 ∙ with_more zeros 0 id ws (omega arith) in
    ap (take 24) e ∙ take_at header (drop (0 + length (id ++ ws)) zeros) 24 length_header

-- an image that begins with a block has its bytes at place 0
block_there : (image : List ℕ) (size wr rd : ℕ) → 48 ≤ length image → take 48 image ≡ block_of size wr rd → image ≡ with_bytes image 0 (block_bytes (plain_descriptor size wr rd ∷ []) [])
unfolding block_of header
block_there image size wr rd long front =
    let ws : List ℕ = id ++ flat_map word_bytes (1 ∷ 0 ∷ []) in
    let db : List ℕ = descriptor_bytes (plain_descriptor size wr rd) in
    let bs : List ℕ = block_bytes (plain_descriptor size wr rd ∷ []) [] in
    let same : bs ≡ take 48 image = append-nil (ws ++ (db ++ [])) ∙ ap (λ (l : List ℕ). ws ++ l) (append-nil db) ∙ sym front in
    let len : 48 ≡ 0 + length bs = let a = ap length same in let b = length-take-le 48 image long in omega arith in
    sym (take-append-drop 48 image) ∙ ap (λ (l : List ℕ). l ++ drop 48 image) (sym same) ∙ ap (λ (n : ℕ). bs ++ drop n image) len

-- the ring's descriptor has no cause
no_cause : (len size wr rd : ℕ) → 48 + size ≤ len → 15 < size → wr < size → rd < size → cause_of len base (plain_descriptor size wr rd) ≡ None
unfolding cause_of
no_cause len size wr rd fits big w r =
    rw (ne_eqb size 0 (λ e. absurd (omega arith)), le-leb (48 + size) len fits, lt-ltb wr size w, lt-ltb rd size r) refl

none_in : (len : ℕ) (d : Descriptor) → cause_of len base d ≡ None → checked len base (record { up = d ∷ []; down = [] }) ≡ Ok (record { up = d ∷ []; down = [] })
none_in len d e = rw e refl

-- the block as it reads
pub block_reads : (image : List ℕ) (size wr rd : ℕ) → length image ≡ 48 + size → 15 < size → size ≤ 65536 → wr < size → rd < size → take 48 image ≡ block_of size wr rd
    → block_at image base 0 ≡ Ok (record { up = plain_descriptor size wr rd ∷ []; down = [] })
block_reads image size wr rd wide big small w r front =
    let d : Descriptor = plain_descriptor size wr rd in
    let words : IsWords d = record { name = omega arith; start = omega arith; size = omega arith; wr = omega arith; rd = omega arith; flags = omega arith } in
    block_back image image base 0 (d ∷ []) [] (omega arith) (omega arith) (λ i x lt. all_one d words i x lt) (λ i x lt. absurd (omega arith)) (block_there image size wr rd (omega arith) front)
    ∙ none_in (length image) d (no_cause (length image) size wr rd (omega arith) big w r)
  where
    all_one : (d : Descriptor) → IsWords d → All IsWords (d ∷ [])
    all_one d h zero x lt = h
    all_one d h (suc i) x lt = absurd (omega arith)

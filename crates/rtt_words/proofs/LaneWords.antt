-- The bytes of a word.
use Rattle.std.proofs.Common.{◌≡◌, ℕ, ◌+◌, ◌<◌, ◌≤◌, List, length, sym, ap, ◌∙◌, arith}
use Rattle.std.proofs.lemmas.List.{get_or_past}
use Rattle.std.proofs.lemmas.Nat.{le_bytes_8}
use Rattle.std.specs.Int.{from_le_bytes, to_le_bytes, w64}
use Rattle.std.specs.Prelude.{slice_index}
use Rattle.rtt_words.specs.WordRule.{Mixes, lanes}
use Rattle.rtt_words.proofs.Fronts.{lanes_long}

-- a word made of eight bytes, and the bytes of a word
pub lanes_from : (bs : List ℕ) (n : ℕ) → length bs ≡ 8 → ((i : ℕ) → slice_index bs i < 256) → n ≡ from_le_bytes w64 bs → lanes n ≡ bs
unfolding lanes
lanes_from bs n eight small is = le_bytes_8 bs n eight small is

pub lanes_to : (bs : List ℕ) (n : ℕ) → bs ≡ to_le_bytes w64 n → lanes n ≡ bs
unfolding lanes
lanes_to bs n is = sym is

-- bytes written over lanes
pub mixes : (old new l i : ℕ) (bs before now : List ℕ) → l + length bs ≤ 8 → i ≡ length bs → lanes old ≡ before → lanes new ≡ now → ((t : ℕ) → t < i → slice_index now (l + t) ≡ slice_index bs t)
    → ((j : ℕ) → j < l → slice_index now j ≡ slice_index before j) → ((j : ℕ) → l + i ≤ j → slice_index now j ≡ slice_index before j) → Mixes old new l bs
mixes old new l i bs before now inside all was is ones low high = record {
  inside = inside;
  new_ones = λ t h. ap (λ (x : List ℕ). slice_index x (l + t)) is ∙ ones t (omega arith);
  before = λ j h. ap (λ (x : List ℕ). slice_index x j) is ∙ low j h ∙ ap (λ (x : List ℕ). slice_index x j) (sym was);
  after = λ j h. ap (λ (x : List ℕ). slice_index x j) is ∙ high j (omega arith) ∙ ap (λ (x : List ℕ). slice_index x j) (sym was);
}

-- a word of which each byte is written
pub whole : (old new l : ℕ) (bs : List ℕ) → l + length bs ≤ 8 → length bs ≡ 8 → lanes new ≡ bs → Mixes old new l bs
whole old new l bs inside eight is =
    record {
      inside = inside;
      new_ones = λ t h. ap (λ (x : List ℕ). slice_index x (l + t)) is ∙ ap (λ (k : ℕ). slice_index bs k) (omega (arith, inside, eight));
      before = λ j h. absurd (omega (arith, h, inside, eight));
      after = λ j h. get_or_past (lanes new) j 0 (omega (arith, lanes_long new)) ∙ sym (get_or_past (lanes old) j 0 (omega (arith, lanes_long old)));
    }

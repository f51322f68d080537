-- Slots of pieces that some text spells.
use Rattle.std.proofs.Common.{◌≡◌, ◌<◌, ◌≤◌, ◌+◌, ℕ, zero, suc, List, [], ◌∷◌, length, get_or, Some, refl, sym, ap, subst, ◌∙◌, arith, inl, inr, eqb, false}
use Rattle.std.specs.Prelude.{slice_get, All}
use Rattle.std.specs.List.{range_with_len}
use Rattle.std.proofs.lemmas.Bool.{cases_lt}
use Rattle.std.proofs.lemmas.Bool.Decides.{nat_tests}
use Rattle.std.proofs.lemmas.List.Elements.{All-map, All-from_get_or}
use Rattle.std.proofs.lemmas.List.FromFn.{length-map-range_with_len, get_or-map-range_with_len}
use Rattle.defmt_grammar.specs.declared.kind.Kind.{Kind}
use Rattle.defmt_grammar.specs.declared.kind.Kind.TheVariants as kinds
use Rattle.defmt_grammar.specs.declared.param.Param.{Param}
use Rattle.defmt_grammar.specs.declared.piece.Piece.{Piece}
use Rattle.defmt_grammar.specs.declared.piece.Use.{Use}
use Rattle.defmt_grammar.specs.Grammar.{NoGap, AreSpelled, uses_of}
use Rattle.defmt_grammar.specs.Slots.{params_of, positions, kinds_at, uses_at, bytes_between, window, slot_of, slots_of, IsSound, HoldsField, SlotsAreSound}
use Rattle.defmt_grammar.specs.Positions.{params_in}
use Rattle.defmt_grammar.specs.Whole.{counts_of}
use Rattle.defmt_grammar.proofs.FitLaws.{uses_fit, uses_params}
use Rattle.defmt_grammar.proofs.KindsAt.{among_some, use_among, positions_within}
use Rattle.defmt_grammar.proofs.Tables.{fits_there}
use Rattle.defmt_grammar.proofs.Windows.{raised_within, fields_held}

window_sound : (start end : ℕ) → IsSound (window start end)
window_sound start end = let r = raised_within (bytes_between start end) in omega arith

slot_sound : (ks : List Kind) → IsSound (slot_of ks)
unfolding slot_of
slot_sound [] = tt
slot_sound (kinds.Bits lo hi ∷ ks) = window_sound _ _
slot_sound (kind ∷ ks) = tt

-- the greatest position occurs
greatest_occurs : (us : List Use) → 0 < positions (params_in us) → (i : ℕ) × (u : Use) × (slice_get us i ≡ Some u) × (u.param.position + 1 ≡ positions (params_in us))
unfolding positions
greatest_occurs [] h = absurd (omega arith)
greatest_occurs (u ∷ us) h = elim (cases_lt u.param.position (positions (params_in us))) [
  | inl lt ↦ (let k = greatest_occurs us (omega arith) in (suc k.0, k.1, k.2, (let e = k.3 in omega (arith, e))))
  | inr le ↦ (0, u, refl, omega arith)
]

uses_all : (us : List Use) → NoGap us → (position : ℕ) → position < positions (params_in us) → 0 < length (kinds_at position (params_in us))
uses_all us n position lt =
    let top = greatest_occurs us (omega arith) in
    let at = top.3 in
    elim (cases_lt position top.1.param.position) [
      | inl below ↦ (let o = n top.0 top.1 top.2 position below in among_some o.1.param.kind (kinds_at position (params_in us)) (use_among position us o.0 o.1 o.2 o.3))
      | inr above ↦ among_some top.1.param.kind (kinds_at position (params_in us)) (use_among position us top.0 top.1 top.2 (omega (arith, at)))
    ]

pub length-slots_of : (ps : List Piece) → length (slots_of ps) ≡ positions (params_of ps)
unfolding slots_of
length-slots_of ps = length-map-range_with_len (λ position. slot_of (kinds_at position (params_of ps))) 0 (positions (params_of ps))

pub slots_sound : (ps : List Piece) → AreSpelled ps → SlotsAreSound ps
unfolding slots_of
slots_sound ps (text, mode, s) =
    let us = uses_of s.tokens in
    let same : params_in us ≡ params_of ps = uses_params s.tokens ∙ ap params_of s.joins in
    let fit = uses_fit mode (length text) 0 text s.tokens s.after [] s.spelled in
    let few = positions_within us 16 (λ j v e. (let k = (fits_there us j v fit e).few in omega arith)) in
    let count : positions (params_in us) ≡ positions (params_of ps) = ap positions same in
    let size = length-map-range_with_len (λ (position : ℕ). slot_of (kinds_at position (params_of ps))) 0 (positions (params_of ps)) in
    record {
      few = omega (arith, size, count, few);
      sound = All-map IsSound (λ position. slot_of (kinds_at position (params_of ps))) (range_with_len 0 (positions (params_of ps))) (all_sound (range_with_len 0 (positions (params_of ps))));
      hold = λ position. subst (λ (qs : List Param). All (HoldsField (slot_of (kinds_at position qs))) (kinds_at position qs)) same (fields_held position us fit s.no_clash);
      used = λ position lt. subst (λ (qs : List Param). 0 < length (kinds_at position qs)) same (uses_all us s.no_gap position (omega (arith, size, count)));
    }
  where
    all_sound : (xs : List ℕ) → All (λ position. IsSound (slot_of (kinds_at position (params_of ps)))) xs
    all_sound xs = All-from_get_or (λ position. IsSound (slot_of (kinds_at position (params_of ps)))) xs 0 (λ i lt. slot_sound _)

-- ---- how often a position is used

none_at : (ps : List Param) (position : ℕ) → positions ps ≤ position → kinds_at position ps ≡ []
unfolding positions kinds_at
none_at [] position h = refl
none_at (p ∷ ps) position h = let other : eqb p.position position ≡ false = grind (arith, nat_tests) in rw other (none_at ps position (omega arith))

length-counts_of : (ps : List Piece) → length (counts_of ps) ≡ positions (params_of ps)
length-counts_of ps = length-map-range_with_len (λ position. uses_at position ps) 0 (positions (params_of ps))

past : (xs : List ℕ) (i : ℕ) → length xs ≤ i → get_or xs i 0 ≡ 0
past [] i h = refl
past (x ∷ xs) zero h = absurd (omega arith)
past (x ∷ xs) (suc i) h = past xs i (omega arith)

pub count_is : (ps : List Piece) (counts : List ℕ) (position : ℕ) → counts ≡ counts_of ps → get_or counts position 0 ≡ uses_at position ps
count_is ps counts position e = ap (λ (ns : List ℕ). get_or ns position 0) e ∙ elim (cases_lt position (positions (params_of ps))) [
  | inl lt ↦ get_or-map-range_with_len (λ p. uses_at p ps) 0 (positions (params_of ps)) position position 0 lt (omega arith)
  | inr le ↦ past (counts_of ps) position (omega (arith, length-counts_of ps)) ∙ ap length (sym (none_at (params_of ps) position le))
]

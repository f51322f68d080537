-- An index has a place exactly where a line tells it.
use Rattle.std.proofs.Common.{◌≡◌, ◌⊎◌, ◌↔◌, ◌+◌, ℕ, Bool, true, false, not, cond, List, [], ◌∷◌, inl, inr, refl, sym, ap, ◌∙◌}
use Rattle.std.specs.Prelude.{Option, Some, None, Ok, Err, is_some, nat_lt, option_map, unwrap_or}
use Rattle.std.specs.declared.cmp.Ordering.{Ordering}
use Rattle.std.specs.declared.cmp.Ordering.TheVariants.{Less, Equal, Greater}
use Rattle.std.specs.FinMap.{get, insert, get-insert, nat_cmp-IsAntisymmetric}
use Rattle.std.specs.Ordering.{nat_cmp, is_eq, eq_by_cmp}
use Rattle.std.specs.Str.{is_utf8}
use Rattle.std.proofs.lemmas.Bool.{cases_eq, false_from_ne_true}
use Rattle.std.proofs.lemmas.Cmp.{nat_cmp_total, eq_by_cmp_equiv}
use Rattle.defmt_places.specs.Places.{Map, behind, is_passed_over, pair_in, with_line, with_lines, with_place}
use Rattle.defmt_places.specs.Told.{IsTold, Tells}
use Rattle.defmt_places.specs.declared.fault.Cause.TheVariants.{Line, Index, Double}

-- ---- a line that is taken

-- it is passed over, or gives an index that had no place its place
abbrev Leaves : Map → List ℕ → Map → Type 0
Leaves places line told = ((is_passed_over line ≡ true) × (told ≡ places))
    ⊎ ((pair : ℕ × List ℕ) × Tells line pair.0 pair.1 × (get places pair.0 ≡ None) × (told ≡ insert places pair.0 pair.1))

none_there : (o : Option (List ℕ)) → is_some o ≡ false → o ≡ None
none_there None e = refl
none_there (Some x) e = absurd cc

new_pair : (large there : Bool) (pair : ℕ × List ℕ) (places told : Map)
    → cond large (Err Index) (cond there (Err Double) (Ok (insert places pair.0 pair.1))) ≡ Ok told → (there ≡ false) × (told ≡ insert places pair.0 pair.1)
new_pair true there pair places told e = absurd cc
new_pair false true pair places told e = absurd cc
new_pair false false pair places told e = (refl, cc)

by_pair : (pair : Option (ℕ × List ℕ)) (places told : Map) (line : List ℕ) → pair_in line ≡ pair → is_passed_over line ≡ false
    → with_place places pair ≡ Ok told → Leaves places line told
by_pair None places told line is over e = absurd cc
by_pair (Some pair) places told line is over e =
    let new = new_pair (nat_lt 65535 pair.0) (is_some (get places pair.0)) pair places told e in
    inr (pair, (over, is), none_there (get places pair.0) new.0, new.1)

by_tests : (text over : Bool) (places told : Map) (line : List ℕ) → is_passed_over line ≡ over
    → cond (not text) (Err Line) (cond over (Ok places) (with_place places (pair_in line))) ≡ Ok told → Leaves places line told
by_tests false over places told line is e = absurd cc
by_tests true true places told line is e = inl (is, cc)
by_tests true false places told line is e = by_pair (pair_in line) places told line refl is e

line_leaves : (places told : Map) (line : List ℕ) → with_line places line ≡ Ok told → Leaves places line told
unfolding with_line
line_leaves places told line e = by_tests (is_utf8 line) (is_passed_over line) places told line refl e

-- ---- the place of an index behind it

is_equal : (r : Ordering) → is_eq r ≡ true → r ≡ Equal
is_equal Less e = absurd cc
is_equal Equal e = refl
is_equal Greater e = absurd cc

at_its_own : (places : Map) (index : ℕ) (place : List ℕ) → get (insert places index place) index ≡ Some place
at_its_own places index place =
    get-insert nat_cmp_total places index place index
    ∙ ap (λ t. cond t (Some place) (get places index)) ((eq_by_cmp_equiv nat_cmp_total).refl index)

at_another : (places : Map) (index other : ℕ) (place : List ℕ) → (other ≡ index → ⊥) → get (insert places index place) other ≡ get places other
at_another places index other place differs =
    get-insert nat_cmp_total places index place other
    ∙ ap (λ t. cond t (Some place) (get places other)) (false_from_ne_true (eq_by_cmp nat_cmp other index) (λ t. differs (nat_cmp-IsAntisymmetric other index (is_equal _ t))))

abbrev first_of : Option (ℕ × List ℕ) → ℕ
first_of o = unwrap_or (option_map (λ q. q.0) o) 0

abbrev second_of : Option (ℕ × List ℕ) → List ℕ
second_of o = unwrap_or (option_map (λ q. q.1) o) []

module _ (places told : Map) (line : List ℕ) (index : ℕ) (place : List ℕ) where
  -- a place behind the line was there before, or the line tells it
  there : Leaves places line told → get told index ≡ Some place → (get places index ≡ Some place) ⊎ Tells line index place
  there (inl over) got = inl (ap (λ (m : Map). get m index) (sym over.1) ∙ got)
  there (inr (pair, tells, none, is)) got = elim (cases_eq index pair.0) [
    | inl same ↦
        let own : get told index ≡ Some pair.1 = ap (λ (m : Map). get m index) is ∙ ap (get (insert places pair.0 pair.1)) same ∙ at_its_own places pair.0 pair.1 in
        let e : pair.1 ≡ place = cc (own, got) in
        inr (tells.0, tells.1 ∙ ap (λ (n : ℕ). Some (n, pair.1)) (sym same) ∙ ap (λ (p : List ℕ). Some (index, p)) e)
    | inr differs ↦ inl (sym (ap (λ (m : Map). get m index) is ∙ at_another places pair.0 index pair.1 differs) ∙ got)
  ]

  -- a place that was there stays
  stays : Leaves places line told → get places index ≡ Some place → get told index ≡ Some place
  stays (inl over) got = ap (λ (m : Map). get m index) over.1 ∙ got
  stays (inr (pair, tells, none, is)) got = elim (cases_eq index pair.0) [
    | inl same ↦ absurd (cc (ap (get places) same, got, none))
    | inr differs ↦ ap (λ (m : Map). get m index) is ∙ at_another places pair.0 index pair.1 differs ∙ got
  ]

  -- and one that the line tells is there
  comes : Leaves places line told → Tells line index place → get told index ≡ Some place
  comes (inl over) tells = absurd (cc (over.0, tells.0))
  comes (inr (pair, own, none, is)) tells =
      let same : index ≡ pair.0 = ap first_of (sym tells.1 ∙ own.1) in
      let e : place ≡ pair.1 = ap second_of (sym tells.1 ∙ own.1) in
      ap (λ (m : Map). get m index) is ∙ ap (get (insert places pair.0 pair.1)) same ∙ at_its_own places pair.0 pair.1 ∙ ap Some (sym e)

-- ---- all lines

or_told : (places : Map) (line : List ℕ) (lines : List (List ℕ)) (index : ℕ) (place : List ℕ)
    → (get places index ≡ Some place) ⊎ Tells line index place → (get places index ≡ Some place) ⊎ IsTold (line ∷ lines) index place
or_told places line lines index place (inl got) = inl got
or_told places line lines index place (inr tells) = inr (inl tells)

one_line : (places told last : Map) (line : List ℕ) (lines : List (List ℕ)) (index : ℕ) (place : List ℕ) → Leaves places line told
    → ((get last index ≡ Some place) ↔ ((get told index ≡ Some place) ⊎ IsTold lines index place))
    → (get last index ≡ Some place) ↔ ((get places index ≡ Some place) ⊎ IsTold (line ∷ lines) index place)
one_line places told last line lines index place leaves rest = (
  λ got. elim (rest.0 got) [
    | inl before ↦ or_told places line lines index place (there places told line index place leaves before)
    | inr later ↦ inr (inr later)
  ],
  λ some. elim some [
    | inl before ↦ rest.1 (inl (stays places told line index place leaves before))
    | inr those ↦ elim those [
      | inl tells ↦ rest.1 (inl (comes places told line index place leaves tells))
      | inr later ↦ rest.1 (inr later)
    ]
  ],
)

pub lines_told : (lines : List (List ℕ)) (number : ℕ) (places last : Map) → with_lines number places lines ≡ Ok last
    → (index : ℕ) (place : List ℕ) → (get last index ≡ Some place) ↔ ((get places index ≡ Some place) ⊎ IsTold lines index place)
lines_told [] number places last e index place =
    let same : places ≡ last = cc e in (
      λ got. inl (ap (λ (m : Map). get m index) same ∙ got),
      λ some. elim some [
        | inl got ↦ ap (λ (m : Map). get m index) (sym same) ∙ got
        | inr none ↦ absurd none
      ],
    )
lines_told (line ∷ lines) number places last e index place =
    elim (with_line places line) as (λ r. with_line places line ≡ r → behind number r (λ told. with_lines (number + 1) told lines) ≡ Ok last
    → (get last index ≡ Some place) ↔ ((get places index ≡ Some place) ⊎ IsTold (line ∷ lines) index place)) [
      | Ok told ↦ λ is rest. one_line places told last line lines index place (line_leaves places told line is) (lines_told lines (number + 1) told last rest index place)
      | Err cause ↦ λ is rest. absurd (cc rest)
    ] refl e

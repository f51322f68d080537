-- The entries in front of the first that isn't used.
use Rattle.std.proofs.Common.{◌≡◌, ◌≢◌, ◌<◌, ◌≤◌, ◌+◌, ℕ, zero, suc, List, [], ◌∷◌, ◌++◌, length, map, drop, Option, Some, None, refl, sym, ap, subst, ◌∙◌, arith, inl, inr, add-zero, add-one, append_assoc}
use Rattle.std.proofs.lemmas.List.{append-nil}
use Rattle.std.specs.Prelude.{slice_get}
use Rattle.std.specs.List.{range_with_len}
use Rattle.std.proofs.lemmas.Bool.{cases_lt}
use Rattle.std.proofs.lemmas.Option.{same_Some, slice_get_within, slice_get-get_or}
use Rattle.defmt_grammar.specs.declared.kind.Kind.{Kind}
use Rattle.defmt_grammar.specs.declared.piece.Use.{Use}
use Rattle.defmt_grammar.specs.declared.positions.Held.{Held}
use Rattle.defmt_grammar.specs.Grammar.{NoGap, HasGap, Occurs}
use Rattle.defmt_grammar.specs.Slots.{kinds_at, positions, slot_of}
use Rattle.defmt_grammar.specs.Positions.{AllFit, IsTable, IsTableOf, params_in, front, count_of, held_slot, UsedFrom, UnusedFrom}
use Rattle.defmt_grammar.proofs.KindsAt.{Among, first_among, use_among, among_use, above_positions, positions_within}
use Rattle.defmt_grammar.proofs.Joins.{slot_held}
use Rattle.defmt_grammar.proofs.Tables.{fits_there}

-- ---- the entries in front

pub front_there : (table : List (Option Held)) (position : ℕ) → position < length (front table) → (held : Held) × (slice_get table position ≡ Some (Some held))
unfolding front
front_there [] position h = absurd (omega arith)
front_there (None ∷ table) position h = absurd (omega arith)
front_there (Some held ∷ table) zero h = (held, refl)
front_there (Some held ∷ table) (suc position) h = front_there table position (omega arith)

pub front_ends : (table : List (Option Held)) → length (front table) < length table → slice_get table (length (front table)) ≡ Some None
unfolding front
front_ends [] h = absurd (omega arith)
front_ends (None ∷ table) h = refl
front_ends (Some held ∷ table) h = front_ends table (omega arith)

pub front_within : (table : List (Option Held)) → length (front table) ≤ length table
unfolding front
front_within [] = omega arith
front_within (None ∷ table) = omega arith
front_within (Some held ∷ table) = omega (arith, front_within table)

-- what is told of each entry in front, in order
pub front_map : {A : Type 0} (f : Held → A) (g : ℕ → A) (table : List (Option Held)) (from : ℕ) → ((position : ℕ) (held : Held) → slice_get table position ≡ Some (Some held) → f held ≡ g (from + position)) → map f (front table) ≡ map g (range_with_len from (length (front table)))
unfolding front
front_map f g [] from h = refl
front_map f g (None ∷ table) from h = refl
front_map f g (Some held ∷ table) from h =
    let first : f held ≡ g from = h 0 held refl ∙ ap g (add-zero from) in
    let rest = front_map f g table (from + 1) (λ position more e. h (suc position) more e ∙ ap g (omega arith)) in
    rw first (rw rest refl)

-- ---- positions

-- a position has a use where its entry is used
pub used : (table : List (Option Held)) (us : List Use) (position : ℕ) (held : Held) → IsTable table (params_in us) → slice_get table position ≡ Some (Some held) → (kind : Kind) × Among kind (kinds_at position (params_in us))
used table us position held t e = first_among (kinds_at position (params_in us)) (t position (Some held) e).some

pub occurs : (us : List Use) (position : ℕ) (kind : Kind) → Among kind (kinds_at position (params_in us)) → Occurs us position
occurs us position kind a = let there = among_use position us kind a in (there.index, there.use_there, there.there, there.position_is)

unused : (table : List (Option Held)) (us : List Use) (position : ℕ) → IsTable table (params_in us) → slice_get table position ≡ Some None → Occurs us position → ⊥
unused table us position t e (i, u, g, h) =
    let none : Among u.param.kind [] = subst (Among u.param.kind) (t position None e) (use_among position us i u g h) in none

-- where an entry behind the front is used, a position is left out
pub gap_found : (table : List (Option Held)) (us : List Use) → IsTable table (params_in us) → UsedFrom table (length (front table)) → HasGap us
gap_found table us t (position, held, le, e) =
    let within = slice_get_within table position (Some held) e in
    let ends = front_ends table (omega arith) in
    let some = used table us position held t e in
    let there = among_use position us some.0 some.1 in
    let other : length (front table) ≢ position = λ (same : length (front table) ≡ position). (let both : Some None ≡ Some (Some held) = sym ends ∙ ap (slice_get table) same ∙ e in let bad : None ≡ Some held = same_Some None (Some held) both in cc) in
    let at = there.position_is in
    (there.index, there.use_there, there.there, (length (front table), omega (arith, at), unused table us (length (front table)) t ends))

-- each use has a position in front
pub in_front : (table : List (Option Held)) (us : List Use) → IsTableOf table us → AllFit us → UnusedFrom table (length (front table)) → (i : ℕ) (u : Use) → slice_get us i ≡ Some u → u.param.position < length (front table)
in_front table us t f n i u e = elim (cases_lt u.param.position (length (front table))) [
  | inl lt ↦ lt
  | inr le ↦ absurd (behind (slice_get-get_or table u.param.position None (let few = (fits_there us i u f e).few in let size = t.size in omega arith)) le)
]
  where
    behind : {entry : Option Held} → slice_get table u.param.position ≡ Some entry → length (front table) ≤ u.param.position → ⊥
    behind {entry} g le = at_entry entry g le
      where
        at_entry : (entry : Option Held) → slice_get table u.param.position ≡ Some entry → length (front table) ≤ u.param.position → ⊥
        at_entry None g le = unused table us u.param.position t.entries g (i, u, e, refl)
        at_entry (Some held) g le = n u.param.position held le g

pub no_gap : (table : List (Option Held)) (us : List Use) → IsTableOf table us → AllFit us → UnusedFrom table (length (front table)) → NoGap us
no_gap table us t f n i u e position lt =
    let within = in_front table us t f n i u e in
    let there = front_there table position (omega arith) in
    let some = used table us position there.0 t.entries there.1 in
    occurs us position some.0 some.1

-- the front has as many entries as there are positions
pub front_is : (table : List (Option Held)) (us : List Use) → IsTableOf table us → AllFit us → UnusedFrom table (length (front table)) → positions (params_in us) ≡ length (front table)
front_is table us t f n =
    let within = positions_within us (length (front table)) (in_front table us t f n) in
    let above = at_least (length (front table)) (λ position lt. (let there = front_there table position lt in let some = used table us position there.0 t.entries there.1 in above_positions position us some.0 some.1)) in
    omega arith
  where
    at_least : (count : ℕ) → ((position : ℕ) → position < count → position < positions (params_in us)) → count ≤ positions (params_in us)
    at_least zero h = omega arith
    at_least (suc count) h = let less = h count (omega arith) in omega arith

-- ---- what is kept beside the pieces

pub front_slots : (table : List (Option Held)) (us : List Use) → IsTableOf table us → AllFit us → UnusedFrom table (length (front table)) → map held_slot (front table) ≡ map (λ position. slot_of (kinds_at position (params_in us))) (range_with_len 0 (positions (params_in us)))
front_slots table us t f n =
    front_map held_slot (λ position. slot_of (kinds_at position (params_in us))) table 0 (λ position held e. slot_held held (kinds_at position (params_in us)) (t.entries position (Some held) e) ∙ ap (λ (q : ℕ). slot_of (kinds_at q (params_in us))) (omega arith))
    ∙ ap (λ (count : ℕ). map (λ position. slot_of (kinds_at position (params_in us))) (range_with_len 0 count)) (sym (front_is table us t f n))

pub front_counts : (table : List (Option Held)) (us : List Use) → IsTableOf table us → AllFit us → UnusedFrom table (length (front table)) → map count_of (front table) ≡ map (λ position. length (kinds_at position (params_in us))) (range_with_len 0 (positions (params_in us)))
front_counts table us t f n =
    front_map count_of (λ position. length (kinds_at position (params_in us))) table 0 (λ position held e. (t.entries position (Some held) e).uses ∙ ap (λ (q : ℕ). length (kinds_at q (params_in us))) (omega arith))
    ∙ ap (λ (count : ℕ). map (λ position. length (kinds_at position (params_in us))) (range_with_len 0 count)) (sym (front_is table us t f n))

-- ---- the loop over the entries

front_drop : {A : Type 0} (f : Held → A) (table : List (Option Held)) (i : ℕ) (held : Held) → slice_get table i ≡ Some (Some held) → map f (front (drop i table)) ≡ f held ∷ map f (front (drop (suc i) table))
unfolding front
front_drop f [] i held e = absurd cc
front_drop f (None ∷ table) zero held e = absurd (let bad : None ≡ Some held = same_Some None (Some held) e in cc)
front_drop f (Some h ∷ table) zero held e = let both : Some h ≡ Some held = same_Some (Some h) (Some held) e in ap (λ (x : Held). f x ∷ map f (front table)) (same_Some h held both)
front_drop f (x ∷ table) (suc i) held e = front_drop f table i held e

front_stops : {A : Type 0} (f : Held → A) (table : List (Option Held)) (i : ℕ) → slice_get table i ≡ Some None → map f (front (drop i table)) ≡ []
unfolding front
front_stops f [] i e = absurd cc
front_stops f (None ∷ table) zero e = refl
front_stops f (Some h ∷ table) zero e = absurd (let bad : Some h ≡ None = same_Some (Some h) None e in cc)
front_stops f (x ∷ table) (suc i) e = front_stops f table i e

front_past : {A : Type 0} (f : Held → A) (table : List (Option Held)) (i : ℕ) → length table ≤ i → map f (front (drop i table)) ≡ []
unfolding front
front_past f [] zero le = refl
front_past f [] (suc i) le = refl
front_past f (x ∷ table) zero le = absurd (omega arith)
front_past f (x ∷ table) (suc i) le = front_past f table i (omega arith)

pub front_more : (A : Type 0) (f : Held → A) (table : List (Option Held)) (i : ℕ) (all so_far : List A) (held : Held) → slice_get table i ≡ Some (Some held) → all ≡ so_far ++ map f (front (drop i table)) → all ≡ (so_far ++ f held ∷ []) ++ map f (front (drop (i + 1) table))
front_more A f table i all so_far held e h =
    let next : map f (front (drop i table)) ≡ f held ∷ map f (front (drop (i + 1) table)) = rw add-one (front_drop f table i held e) in
    h ∙ ap (λ (xs : List A). so_far ++ xs) next ∙ sym (append_assoc so_far (f held ∷ []) (map f (front (drop (i + 1) table))))

pub front_done : (A : Type 0) (f : Held → A) (table : List (Option Held)) (i : ℕ) (all so_far : List A) → slice_get table i ≡ Some None → all ≡ so_far ++ map f (front (drop i table)) → so_far ≡ all
front_done A f table i all so_far e h = sym (h ∙ ap (λ (xs : List A). so_far ++ xs) (front_stops f table i e) ∙ append-nil so_far)

pub front_over : (A : Type 0) (f : Held → A) (table : List (Option Held)) (i : ℕ) (all so_far : List A) → length table ≤ i → all ≡ so_far ++ map f (front (drop i table)) → so_far ≡ all
front_over A f table i all so_far le h = sym (h ∙ ap (λ (xs : List A). so_far ++ xs) (front_past f table i le) ∙ append-nil so_far)

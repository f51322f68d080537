-- The kinds for which a position is used.
use Rattle.std.proofs.Common.{◌≡◌, ◌≢◌, ◌<◌, ◌≤◌, ◌+◌, ℕ, zero, suc, Bool, true, false, cond, eqb, List, [], ◌∷◌, ◌++◌, length, take, Some, refl, sym, ap, ◌∙◌, arith, ◌⊎◌, inl, inr, max}
use Rattle.std.specs.Prelude.{slice_get}
use Rattle.std.proofs.lemmas.Bool.Decides.{nat_tests}
use Rattle.std.proofs.lemmas.List.{append-nil}
use Rattle.std.proofs.lemmas.Option.{same_Some}
use Rattle.defmt_grammar.specs.declared.kind.Kind.{Kind}
use Rattle.defmt_grammar.specs.declared.param.Param.{Param}
use Rattle.defmt_grammar.specs.declared.piece.Use.{Use}
use Rattle.defmt_grammar.specs.Slots.{kinds_at, positions}
use Rattle.defmt_grammar.specs.Positions.{params_in}

-- ---- one parameter more

more_or_same : (b : Bool) (k : Kind) (xs ys zs : List Kind) → ys ≡ xs ++ zs → cond b (k ∷ ys) ys ≡ cond b (k ∷ xs) xs ++ zs
more_or_same true k xs ys zs e = ap (λ (t : List Kind). k ∷ t) e
more_or_same false k xs ys zs e = e

pub kinds_at-push : (position : ℕ) (ps : List Param) (p : Param) → kinds_at position (ps ++ p ∷ []) ≡ kinds_at position ps ++ cond (eqb p.position position) (p.kind ∷ []) []
unfolding kinds_at
kinds_at-push position [] p = refl
kinds_at-push position (x ∷ xs) p = more_or_same (eqb x.position position) x.kind (kinds_at position xs) (kinds_at position (xs ++ p ∷ [])) (cond (eqb p.position position) (p.kind ∷ []) []) (kinds_at-push position xs p)

here_test : (x y : ℕ) → x ≡ y → eqb x y ≡ true
here_test x y e = grind (arith, nat_tests)

other_test : (x y : ℕ) → x ≢ y → eqb x y ≡ false
other_test x y e = grind (arith, nat_tests)

pub kinds_at-here : (position : ℕ) (ps : List Param) (p : Param) → p.position ≡ position → kinds_at position (ps ++ p ∷ []) ≡ kinds_at position ps ++ p.kind ∷ []
kinds_at-here position ps p e = kinds_at-push position ps p ∙ ap (λ (b : Bool). kinds_at position ps ++ cond b (p.kind ∷ []) []) (here_test p.position position e)

pub kinds_at-other : (position : ℕ) (ps : List Param) (p : Param) → p.position ≢ position → kinds_at position (ps ++ p ∷ []) ≡ kinds_at position ps
kinds_at-other position ps p e = kinds_at-push position ps p ∙ ap (λ (b : Bool). kinds_at position ps ++ cond b (p.kind ∷ []) []) (other_test p.position position e) ∙ append-nil (kinds_at position ps)

-- ---- a kind among others

abbrev pub Among : Kind → List Kind → Type 0
Among kind [] = ⊥
Among kind (k ∷ ks) = (kind ≡ k) ⊎ Among kind ks

pub among_some : (kind : Kind) (ks : List Kind) → Among kind ks → 0 < length ks
among_some kind [] h = absurd h
among_some kind (k ∷ ks) h = omega arith

pub first_among : (ks : List Kind) → 0 < length ks → (kind : Kind) × Among kind ks
first_among [] h = absurd (omega arith)
first_among (k ∷ ks) h = (k, inl refl)

among_here : (b : Bool) (kind k : Kind) (ks : List Kind) → b ≡ true → kind ≡ k → Among kind (cond b (k ∷ ks) ks)
among_here true kind k ks t e = inl e
among_here false kind k ks t e = absurd cc

among_rest : (b : Bool) (kind k : Kind) (ks : List Kind) → Among kind ks → Among kind (cond b (k ∷ ks) ks)
among_rest true kind k ks h = inr h
among_rest false kind k ks h = h

pub use_among : (position : ℕ) (us : List Use) (j : ℕ) (v : Use) → slice_get us j ≡ Some v → v.param.position ≡ position → Among v.param.kind (kinds_at position (params_in us))
unfolding kinds_at
use_among position [] j v e h = absurd cc
use_among position (u ∷ us) zero v e h =
    let same : u ≡ v = same_Some u v e in
    among_here (eqb u.param.position position) v.param.kind u.param.kind (kinds_at position (params_in us)) (here_test u.param.position position (ap (λ (w : Use). w.param.position) same ∙ h)) (ap (λ (w : Use). w.param.kind) (sym same))
use_among position (u ∷ us) (suc j) v e h = among_rest (eqb u.param.position position) v.param.kind u.param.kind (kinds_at position (params_in us)) (use_among position us j v e h)

-- a use of a position for a kind
pub record IsUse (us : List Use) (position : ℕ) (kind : Kind) : Type 0 where
  pub index : ℕ
  pub use_there : Use
  pub there : slice_get us index ≡ Some use_there
  pub position_is : use_there.param.position ≡ position
  pub kind_is : use_there.param.kind ≡ kind

use_later : (u : Use) (us : List Use) (position : ℕ) (kind : Kind) → IsUse us position kind → IsUse (u ∷ us) position kind
use_later u us position kind h = record { index = suc h.index; use_there = h.use_there; there = h.there; position_is = h.position_is; kind_is = h.kind_is }

use_first : (b : Bool) (u : Use) (us : List Use) (position : ℕ) (kind : Kind) (ks : List Kind) → eqb u.param.position position ≡ b → (Among kind ks → IsUse us position kind) → Among kind (cond b (u.param.kind ∷ ks) ks) → IsUse (u ∷ us) position kind
use_first true u us position kind ks e f (inl h) = record { index = 0; use_there = u; there = refl; position_is = (grind (arith, nat_tests)); kind_is = sym h }
use_first true u us position kind ks e f (inr h) = use_later u us position kind (f h)
use_first false u us position kind ks e f h = use_later u us position kind (f h)

pub among_use : (position : ℕ) (us : List Use) (kind : Kind) → Among kind (kinds_at position (params_in us)) → IsUse us position kind
unfolding kinds_at
among_use position [] kind h = absurd h
among_use position (u ∷ us) kind h = use_first (eqb u.param.position position) u us position kind (kinds_at position (params_in us)) refl (among_use position us kind) h

-- ---- the greatest position

pub above_positions : (position : ℕ) (us : List Use) (kind : Kind) → Among kind (kinds_at position (params_in us)) → position < positions (params_in us)
unfolding kinds_at positions
above_positions position [] kind h = absurd h
above_positions position (u ∷ us) kind h = above_case (eqb u.param.position position) position u.param.position (positions (params_in us)) u.param.kind kind (kinds_at position (params_in us)) refl (above_positions position us kind) h
  where
    above_case : (b : Bool) (position own rest : ℕ) (k kind : Kind) (ks : List Kind) → eqb own position ≡ b → (Among kind ks → position < rest) → Among kind (cond b (k ∷ ks) ks) → position < max (own + 1) rest
    above_case true position own rest k kind ks e f (inl h) = let same : own ≡ position = grind (arith, nat_tests) in omega arith
    above_case true position own rest k kind ks e f (inr h) = let less = f h in omega arith
    above_case false position own rest k kind ks e f h = let less = f h in omega arith

pub positions_within : (us : List Use) (limit : ℕ) → ((j : ℕ) (v : Use) → slice_get us j ≡ Some v → v.param.position < limit) → positions (params_in us) ≤ limit
unfolding positions
positions_within [] limit f = omega arith
positions_within (u ∷ us) limit f = let a = f 0 u refl in let b = positions_within us limit (λ j v e. f (suc j) v e) in omega arith

-- ---- what was read so far

pub get_take : {X : Type 0} (n : ℕ) (xs : List X) (i : ℕ) → i < n → slice_get (take n xs) i ≡ slice_get xs i
get_take zero xs i h = absurd (omega arith)
get_take (suc n) [] i h = refl
get_take (suc n) (x ∷ xs) zero h = refl
get_take (suc n) (x ∷ xs) (suc i) h = get_take n xs i (omega arith)

pub got_taken : {X : Type 0} (n : ℕ) (xs : List X) (i : ℕ) (x : X) → slice_get (take n xs) i ≡ Some x → (i < n) × (slice_get xs i ≡ Some x)
got_taken zero xs i x e = absurd cc
got_taken (suc n) [] i x e = absurd cc
got_taken (suc n) (y ∷ xs) zero x e = (omega arith, e)
got_taken (suc n) (y ∷ xs) (suc i) x e = let k = got_taken n xs i x e in (omega arith, k.1)

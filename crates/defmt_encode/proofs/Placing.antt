-- The place of a message, written and read.
use Rattle.std.proofs.Common.{◌≡◌, ◌≤◌, ◌%◌, ℕ, List, length, Option, Some, None, Ok, refl, ap, ◌∙◌, subst, arith}
use Rattle.defmt_intern.specs.declared.table.Profile.{Profile}
use Rattle.defmt_intern.specs.declared.table.Profile.TheVariants as profiles
use Rattle.defmt_encode.specs.Fields.{FoundPlace}
use Rattle.defmt_encode.specs.Met.{MetPlace}
use Rattle.defmt_encode.specs.Placed.{HasPlace, place_in, place_bytes}
use Rattle.defmt_encode.specs.Read.{Read, ◌⇒◌, number_at, place_at}
use Rattle.defmt_encode.specs.declared.cause.Cause.{Cause}
use Rattle.defmt_encode.proofs.Chains.{done, refused, same, bound, breaks, before_last}
use Rattle.defmt_encode.proofs.Numbers.{AreBytes, number_back, number_found, number_cut, cut_number, length_little}

abbrev pub Place2 : Type 0
Place2 = Option ℕ × List ℕ

-- a number as a place
abbrev as_place : ℕ × List ℕ → Read Place2
as_place r = Ok (Some r.0, r.1)

pub place_back : (p : Profile) (place : Option ℕ) (from rest : List ℕ) → FoundPlace p place from rest → place_at p from ≡ done (place, rest)
place_back profiles.One None from rest f = ap (λ (x : List ℕ). done {A = Place2} (None, x)) f.carries
place_back profiles.One (Some n) from rest f = absurd f.has
place_back profiles.Two None from rest f = absurd f.has
place_back profiles.Two (Some n) from rest f =
    ap (λ (x : List ℕ). place_at profiles.Two x) f.carries ∙ ap (λ (q : Read (ℕ × List ℕ)). q ⇒ as_place) (number_back 2 n rest f.has)

pub place_found : (p : Profile) (from : List ℕ) (y : Place2) → AreBytes from → place_at p from ≡ done y → FoundPlace p y.0 from y.1
place_found profiles.One from y h e = subst (λ (z : Place2). FoundPlace profiles.One z.0 from z.1) (same (None, from) y e) (record { has = tt; carries = refl })
place_found profiles.Two from y h e =
    let b = bound (number_at 2 from) as_place y e in
    let n = number_found 2 from b.0 h b.1 in
    subst (λ (z : Place2). FoundPlace profiles.Two z.0 from z.1) (same (Some b.0.0, b.0.1) y b.2) (record { has = n.small; carries = n.carries })

pub place_broken : (p : Profile) (from : List ℕ) (c : Cause) → place_at p from ≡ refused Place2 c → MetPlace p from c
place_broken profiles.One from c e = absurd (cc)
place_broken profiles.Two from c e = number_cut 2 from c (before_last (number_at 2 from) (λ r. (Some r.0, r.1)) c e)

pub place_met : (p : Profile) (from : List ℕ) (c : Cause) → MetPlace p from c → place_at p from ≡ refused Place2 c
place_met profiles.One from c m = absurd m
place_met profiles.Two from c m = breaks (number_at 2 from) as_place c (cut_number 2 from c m)

-- ---- places of marks

pub placed : (p : Profile) (n : ℕ) → HasPlace p (place_in p n)
placed profiles.One n = tt
placed profiles.Two n = omega arith

pub place_few : (place : Option ℕ) → length (place_bytes place) ≤ 2
place_few None = omega arith
place_few (Some n) = omega (arith, length_little 2 n)

pub place_alike : (p : Profile) (m n : ℕ) → length (place_bytes (place_in p m)) ≡ length (place_bytes (place_in p n))
place_alike profiles.One m n = refl
place_alike profiles.Two m n = omega (arith, length_little 2 (m % 65536), length_little 2 (n % 65536))

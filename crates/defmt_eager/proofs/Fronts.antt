-- How many bytes stand in front of a statement's text.
use Rattle.std.proofs.Common.{◌≡◌, ◌≤◌, ◌+◌, ◌-◌, ℕ, List, ◌++◌, length, length-append, take, codes, arith, ap, ◌∙◌, Option, None, Some, IfSome}
use Rattle.std.proofs.lemmas.List.{take_all}
use Rattle.std.specs.Borrow.{Bor}
use Rattle.std.specs.Option.{option_map}
use Rattle.defmt_eager.specs.Line.{front_text, sizes_at, stamp_space, stamp_text}
use Rattle.defmt_intern.specs.Table.{Map}
use Rattle.defmt_values.specs.Plain.{Vals}

-- a stamp, a space where there is one, a level and a space
pub front_length : (t : Map) (at : Option ℕ) (stamp : Vals) (l : List ℕ) → length l ≡ 5 → length (front_text t at stamp (Some l)) ≡ length (stamp_text t at stamp) + (length (stamp_space at) + 6)
front_length t at stamp l five =
    let whole = length-append (stamp_text t at stamp ++ stamp_space at) (l ++ codes " ") in
    omega (arith, whole, length-append (stamp_text t at stamp) (stamp_space at), length-append l (codes " "), five)

pub space_length : (at : Option ℕ) → length (stamp_space at) ≤ 1
space_length None = omega arith
space_length (Some index) = omega arith

pub front_most : (t : Map) (at : Option ℕ) (stamp : Vals) (level : Option (List ℕ)) → IfSome level (λ l. length l ≡ 5) → length (stamp_text t at stamp) ≤ 65536 → length (front_text t at stamp level) ≤ 65543
front_most t at stamp None five few = omega arith
front_most t at stamp (Some l) five few = omega (arith, front_length t at stamp l five, space_length at, few)

-- the width of a level that is referred to
pub width_now : (level : Option (Bor (List ℕ))) → IfSome level (λ l. length l.now ≡ 5) → IfSome (option_map (λ l. l.now) level) (λ l. length l ≡ 5)
width_now None five = tt
width_now (Some l) five = five

-- ---- the sizes of a front, by how many bytes it has in all

pub sizes_none : (t : Map) (at : Option ℕ) (stamp : Vals) (size : ℕ) → size ≡ length (front_text t at stamp None) → record { stamp = 0; size = size } ≡ sizes_at t at stamp None
sizes_none t at stamp size e = ap (λ (n : ℕ). record { stamp = 0; size = n }) e

pub sizes_some : (t : Map) (at : Option ℕ) (stamp : Vals) (l : List ℕ) (size named : ℕ) → length l ≡ 5 → named ≡ length (stamp_space at) + 6 → size ≡ length (front_text t at stamp (Some l)) → record { stamp = size - named; size = size } ≡ sizes_at t at stamp (Some l)
sizes_some t at stamp l size named five is e =
    let text : size - named ≡ length (stamp_text t at stamp) = omega (arith, e, is, front_length t at stamp l five) in
    ap (λ (n : ℕ). record { stamp = n; size = size }) text ∙ ap (λ (n : ℕ). record { stamp = length (stamp_text t at stamp); size = n }) e

-- the name of a level has five bytes
pub name_is : (l : List ℕ) → length l ≡ 5 → take 5 l ≡ l
name_is l five = take_all 5 l (omega (arith, five))

-- What a name is made of.
use Rattle.std.proofs.Common.{◌≡◌, ◌≤◌, ℕ, true, ◌&&◌, leb, List, [], ◌∷◌, length, refl, sym}
use Rattle.std.specs.Char.{is_ascii_alphabetic}
use Rattle.std.specs.List.{list_all}
use Rattle.std.proofs.lemmas.Bool.{and_parts, leb-true, true≢false}
use Rattle.defmt_shapes.specs.Shape.{IsName, is_word}

pub record NameParts (name : List ℕ) : Type 0 where
  pub first : ℕ
  pub more : List ℕ
  pub name_is : name ≡ first ∷ more
  pub letter : is_ascii_alphabetic first ≡ true
  pub words : list_all is_word more ≡ true
  pub few : length more ≤ 31

pub name_parts : (name : List ℕ) → IsName name → NameParts name
name_parts [] h = absurd (true≢false (sym h))
name_parts (c ∷ cs) h =
    let p = and_parts (is_ascii_alphabetic c && list_all is_word cs) (leb (length cs) 31) h in
    let q = and_parts (is_ascii_alphabetic c) (list_all is_word cs) p.0 in
    record { first = c; more = cs; name_is = refl; letter = q.0; words = q.1; few = leb-true (length cs) 31 p.1 }

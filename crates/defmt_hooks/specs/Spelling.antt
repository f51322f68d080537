-- How rules are spelled as a text: a floor, then up to 32 packages, each behind a comma and with an equals sign and its floor.
use Rattle.std.specs.Prelude.{◌≡◌, ◌≢◌, ◌≤◌, ℕ, List, [], ◌∷◌, ◌++◌, length, codes}
use Rattle.std.specs.List.{AllByRecursion}
use Rattle.defmt_hooks.specs.declared.level.Level.TheVariants.{Trace, Debug, Info, Warn, Error}
use Rattle.defmt_hooks.specs.declared.level.Floor.{Floor}
use Rattle.defmt_hooks.specs.declared.level.Floor.TheVariants.{At, Off}
use Rattle.defmt_hooks.specs.declared.rules.Rules.{Rules}

-- the word of a floor
abbrev pub word_of : Floor → List ℕ
word_of (At Trace) = codes "trace"
word_of (At Debug) = codes "debug"
word_of (At Info) = codes "info"
word_of (At Warn) = codes "warn"
word_of (At Error) = codes "error"
word_of Off = codes "off"

-- a package's name: one or more characters, none a comma or an equals sign
pub record IsName (name : List ℕ) : Type 0 where
  pub some : name ≢ []
  pub plain : AllByRecursion (λ c. (c ≢ 44) × (c ≢ 61)) name

-- PACKAGE=FLOOR
abbrev pub pair_text : List ℕ × Floor → List ℕ
pair_text p = p.0 ++ 61 ∷ word_of p.1

-- the pairs, each behind a comma
abbrev pub pairs_text : List (List ℕ × Floor) → List ℕ
pairs_text [] = []
pairs_text (p ∷ ps) = 44 ∷ (pair_text p ++ pairs_text ps)

-- no package is that of a later pair too
abbrev pub NoneTwice : List (List ℕ × Floor) → Type 0
NoneTwice [] = Unit {0}
NoneTwice (p ∷ ps) = AllByRecursion (λ q. p.0 ≢ q.0) ps × NoneTwice ps

-- pairs that can be spelled
pub record AreListed (pairs : List (List ℕ × Floor)) : Type 0 where
  pub few : length pairs ≤ 32
  pub named : AllByRecursion (λ p. IsName p.0) pairs
  pub once : NoneTwice pairs

-- the whole text spells the rules
pub record Spells (text : List ℕ) (rules : Rules) : Type 0 where
  pub whole : text ≡ word_of rules.rest ++ pairs_text rules.packages
  pub listed : AreListed rules.packages

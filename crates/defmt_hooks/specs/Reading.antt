-- The reading of rules, as functions on lists.
use Rattle.std.specs.Prelude.{◌≡◌, ◌==◌, ◌&&◌, ℕ, not, List, [], ◌∷◌, ◌++◌, length, Option, Some, None, Result, Ok, Err, option_map, option_and_then, if◌then◌else◌, nat_lt}
use Rattle.std.specs.List.{list_any, slice_split}
use Rattle.std.specs.Str.{bytes_eq}
use Rattle.std.specs.Borrow.{Bor}
use Rattle.defmt_grammar.specs.Cut.{cut}
use Rattle.defmt_hooks.specs.declared.fault.RuleFault.{RuleFault}
use Rattle.defmt_hooks.specs.declared.fault.RuleFault.TheVariants.{Spelling, Memory}
use Rattle.defmt_hooks.specs.Levels.{level_named}
use Rattle.defmt_hooks.specs.Spelling.{word_of}
use Rattle.defmt_hooks.specs.declared.level.Level.{Level}
use Rattle.defmt_hooks.specs.declared.level.Floor.{Floor}
use Rattle.defmt_hooks.specs.declared.level.Floor.TheVariants.{At, Off}
use Rattle.defmt_hooks.specs.declared.rules.Rules.{Rules}

-- the floor that a word names: the level that it names, or `off`
abbrev pub floor_or : List ℕ → Option Level → Option Floor
floor_or word (Some level) = Some (At level)
floor_or word None = if bytes_eq word (word_of Off) then Some Off else None

unfoldable pub floor_in : List ℕ → Option Floor
floor_in word = floor_or word (level_named word)

-- a name, and the word behind the first equals sign
abbrev pub pair_by : Option (List ℕ × List ℕ) → Option (List ℕ × Floor)
pair_by None = None
pair_by (Some p) = if length p.0 == 0 then None else option_map (λ f. (p.0, f)) (floor_in p.1)

abbrev pub pair_in : List ℕ → Option (List ℕ × Floor)
pair_in part = pair_by (cut 61 part)

-- one more pair behind others, where there is room for it and none of them has its package
abbrev pub behind : List (List ℕ × Floor) → List ℕ × Floor → Option (List (List ℕ × Floor))
behind pairs pair =
    if nat_lt (length pairs) 32 && not (list_any (λ p. bytes_eq p.0 pair.0) pairs)
    then Some (pairs ++ pair ∷ []) else None

unfoldable pub added : List (List ℕ × Floor) → List ℕ → Option (List (List ℕ × Floor))
added pairs part = option_and_then (behind pairs) (pair_in part)

abbrev pub all_added : List (List ℕ × Floor) → List (List ℕ) → Option (List (List ℕ × Floor))
all_added pairs [] = Some pairs
all_added pairs (part ∷ parts) = option_and_then (λ more. all_added more parts) (added pairs part)

-- a text cut at each comma
abbrev pub parts : List ℕ → List (List ℕ)
parts text = slice_split (λ c. c == 44) text

abbrev pub rules_by : Option Floor → Option (List (List ℕ × Floor)) → Option Rules
rules_by rest pairs =
    option_and_then (λ f. option_map (λ ps. record { rest = f; packages = ps }) pairs) rest

abbrev pub rules_of : List (List ℕ) → Option Rules
rules_of [] = None
rules_of (word ∷ more) = rules_by (floor_in word) (all_added [] more)

unfoldable pub rules_in : List ℕ → Option Rules
rules_in text = rules_of (parts text)

-- ---- answers

-- what reading answers, unless memory runs out
abbrev pub Reads : {T : Type 0} → Option T → Result T RuleFault → Type 0
Reads read (Ok x) = read ≡ Some x
Reads read (Err Spelling) = read ≡ None
Reads read (Err Memory) = Unit {0}

-- what a call that changes its list answers, and the list that it leaves
abbrev pub Leaves : {T : Type 0} → Option T → Result (Unit {0}) RuleFault → T → Type 0
Leaves read (Ok done) new = read ≡ Some new
Leaves read (Err Spelling) new = read ≡ None
Leaves read (Err Memory) new = Unit {0}

-- a call answers this value or want of memory
abbrev pub GivesOnly : {T : Type 0} → Result T RuleFault → T → Type 0
GivesOnly (Ok y) x = y ≡ x
GivesOnly (Err Spelling) x = ⊥
GivesOnly (Err Memory) x = Unit {0}

-- the name and the floor, as plain data
abbrev pub pair_view : Bor (List ℕ) × Floor → List ℕ × Floor
pair_view p = (p.0.now, p.1)

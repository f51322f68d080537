-- How far the parts of a text are read, and what that answers.
use Rattle.std.proofs.Common.{◌≡◌, ◌<◌, ℕ, List, [], ◌∷◌, length, Option, Some, None, Result, Ok, Err, option_and_then, sym, ap, subst, ◌∙◌, arith, length-append, IfOk, IsErrOf}
use Rattle.defmt_grammar.specs.Cut.{cut}
use Rattle.defmt_grammar.proofs.Cuts.{cut_found}
use Rattle.defmt_hooks.specs.declared.fault.RuleFault.{RuleFault}
use Rattle.defmt_hooks.specs.declared.fault.RuleFault.TheVariants.{Spelling, Memory}
use Rattle.defmt_hooks.specs.declared.level.Floor.{Floor}
use Rattle.defmt_hooks.specs.declared.rules.Rules.{Rules}
use Rattle.defmt_hooks.specs.Spelling.{Spells}
use Rattle.defmt_hooks.specs.Reading.{floor_in, added, all_added, parts, rules_by, rules_of, rules_in, Reads, Leaves, GivesOnly}
use Rattle.defmt_hooks.proofs.Spelled.{parts_none, parts_some, rules_found, rules_again}

abbrev Pairs : Type 0
Pairs = List (List ℕ × Floor)

abbrev going : List (List ℕ) → Option Pairs → Option Pairs
going words o = option_and_then (λ more. all_added more words) o

pub goes_on : (pairs next : Pairs) (rest part after : List ℕ) → Some (part, after) ≡ cut 44 rest → added pairs part ≡ Some next → all_added next (parts after) ≡ all_added pairs (parts rest)
goes_on pairs next rest part after is e = sym (ap (all_added pairs) (parts_some rest (part, after) (sym is)) ∙ ap (going (parts after)) e)

stops : (pairs : Pairs) (rest part after : List ℕ) → Some (part, after) ≡ cut 44 rest → added pairs part ≡ None → all_added pairs (parts rest) ≡ None
stops pairs rest part after is e = ap (all_added pairs) (parts_some rest (part, after) (sym is)) ∙ ap (going (parts after)) e

last : (pairs : Pairs) (rest : List ℕ) (o : Option Pairs) → None ≡ cut 44 rest → added pairs rest ≡ o → all_added pairs (parts rest) ≡ going [] o
last pairs rest o is e = ap (all_added pairs) (parts_none rest (sym is)) ∙ ap (going []) e

pub ends : (pairs next : Pairs) (rest : List ℕ) → None ≡ cut 44 rest → added pairs rest ≡ Some next → all_added pairs (parts rest) ≡ Some next
ends pairs next rest is e = last pairs rest (Some next) is e

pub shorter : (rest part after : List ℕ) → Some (part, after) ≡ cut 44 rest → length after < length rest
shorter rest part after is =
    let f = cut_found 44 rest (part, after) (sym is) in
    omega (arith, ap length f.0, length-append part (44 ∷ after))

-- ---- refusals

pub stopped : (fault : RuleFault) (pairs new : Pairs) (rest part after : List ℕ) (whole : Option Pairs) → Some (part, after) ≡ cut 44 rest → Leaves (added pairs part) (Err fault) new → all_added pairs (parts rest) ≡ whole → Reads whole (Err fault)
stopped Spelling pairs new rest part after whole is e w = sym w ∙ stops pairs rest part after is e
stopped Memory pairs new rest part after whole is e w = tt

pub ended : (fault : RuleFault) (pairs new : Pairs) (rest : List ℕ) (whole : Option Pairs) → None ≡ cut 44 rest → Leaves (added pairs rest) (Err fault) new → all_added pairs (parts rest) ≡ whole → Reads whole (Err fault)
ended Spelling pairs new rest whole is e w = sym w ∙ last pairs rest None is e
ended Memory pairs new rest whole is e w = tt

-- ---- the whole rules

pub one_word : (text : List ℕ) (o : Option Floor) → None ≡ cut 44 text → floor_in text ≡ o → rules_in text ≡ rules_by o (Some [])
unfolding rules_in
one_word text o is e = ap rules_of (parts_none text (sym is)) ∙ ap (λ (f : Option Floor). rules_by f (Some [])) e

pub first_word : (text word more : List ℕ) (o : Option Floor) → Some (word, more) ≡ cut 44 text → floor_in word ≡ o → rules_in text ≡ rules_by o (all_added [] (parts more))
unfolding rules_in
first_word text word more o is e = ap rules_of (parts_some text (word, more) (sym is)) ∙ ap (λ (f : Option Floor). rules_by f (all_added [] (parts more))) e

pub by_pairs : (text word more : List ℕ) (f : Floor) (fault : RuleFault) → Some (word, more) ≡ cut 44 text → floor_in word ≡ Some f → Reads (all_added [] (parts more)) (Err fault) → Reads (rules_in text) (Err fault)
by_pairs text word more f Spelling is e p = first_word text word more (Some f) is e ∙ ap (rules_by (Some f)) p
by_pairs text word more f Memory is e p = tt

-- ---- by the spelling

pub spelled_by : (text : List ℕ) (r : Result Rules RuleFault) → Reads (rules_in text) r → IfOk r (Spells text)
spelled_by text (Ok rules) h = rules_found text rules h
spelled_by text (Err fault) h = tt

pub refused_by : (text : List ℕ) (r : Result Rules RuleFault) → Reads (rules_in text) r → IsErrOf r Spelling → (rules : Rules) → Spells text rules → ⊥
refused_by text r h e rules s =
    let none : rules_in text ≡ None = subst (Reads (rules_in text)) e h in
    let some : rules_in text ≡ Some rules = rules_again text rules s in
    absurd cc

pub gives_only : (text : List ℕ) (r : Result Rules RuleFault) → Reads (rules_in text) r → (rules : Rules) → Spells text rules → GivesOnly r rules
gives_only text (Ok read) h rules s = let some : rules_in text ≡ Some rules = rules_again text rules s in cc
gives_only text (Err Spelling) h rules s = let some : rules_in text ≡ Some rules = rules_again text rules s in cc
gives_only text (Err Memory) h rules s = tt

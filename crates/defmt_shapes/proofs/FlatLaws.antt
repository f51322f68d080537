-- Numbers and spaces between brackets.
use Rattle.std.proofs.Common.{◌≡◌, ◌<◌, ◌≤◌, ◌||◌, ℕ, zero, suc, Bool, true, false, eqb, ltb, List, [], ◌∷◌, ◌++◌, length, Some, refl, sym, ap, subst, ◌∙◌, arith, inl, inr, length-append}
use Rattle.std.specs.Char.{digit_value}
use Rattle.std.specs.List.{list_all}
use Rattle.std.specs.Str.Parse.{digits_value}
use Rattle.std.proofs.lemmas.Bool.{and_parts, cases_eq, ne_eqb}
use Rattle.defmt_grammar.specs.Cut.{behind}
use Rattle.defmt_grammar.proofs.Cuts.{behind_found}
use Rattle.defmt_grammar.specs.declared.language.Language.{Language}
use Rattle.defmt_shapes.specs.declared.parts.Class.TheVariants.{Decimal, Numbers}
use Rattle.defmt_shapes.specs.declared.scan.Bracket.{Bracket}
use Rattle.defmt_shapes.specs.declared.scan.Bracket.TheVariants.{Round}
use Rattle.defmt_shapes.specs.declared.scan.Place.{Place}
use Rattle.defmt_shapes.specs.declared.scan.Place.TheVariants.{Before, After}
use Rattle.defmt_shapes.specs.declared.scan.Step.TheVariants.{Open}
use Rattle.defmt_shapes.specs.Runs.{in_class, run}
use Rattle.defmt_shapes.specs.Scan.{Encloses, InBrackets, IsStep, Leaves}
use Rattle.defmt_shapes.specs.Shape.{Shapes, no_shapes, shape, decimal, EndsThere, SpellsShapes}
use Rattle.defmt_shapes.proofs.LeadFound.{number_in}
use Rattle.defmt_shapes.proofs.ReaderLaws.{end_size, step_left}
use Rattle.defmt_shapes.proofs.OneLaws.{shapes_one}
use Rattle.defmt_shapes.proofs.RunLaws.{FailsThere, pass_digits, run_found}
use Rattle.defmt_shapes.proofs.ScanLaws.{goes_on, step_sound, step_shorter}
use Rattle.defmt_shapes.proofs.ShapeLaws.{shapes_spaced}

or_second : (a b : Bool) → a ≡ false → (a || b) ≡ true → b ≡ true
or_second true b e h = absurd (cc)
or_second false b e h = h

-- no digit and no other byte than a digit or a space: a space
space_is : (c : ℕ) → in_class Decimal c ≡ false → in_class Numbers c ≡ true → c ≡ 32
space_is c f h = elim (cases_eq c 32) [
  | inl e ↦ e
  | inr other ↦ let t : in_class Decimal c ≡ true = or_second (eqb c 32) (ltb (digit_value c) 10) (ne_eqb c 32 other) h in absurd (cc)
]

ends_there : (rest : List ℕ) → FailsThere (in_class Decimal) rest → list_all (in_class Numbers) rest ≡ true → EndsThere rest
ends_there [] f h = tt
ends_there (c ∷ cs) f h = space_is c f (and_parts (in_class Numbers c) (list_all (in_class Numbers) cs) h).0

all_behind : (test : ℕ → Bool) (front rest : List ℕ) → list_all test (front ++ rest) ≡ true → list_all test rest ≡ true
all_behind test [] rest h = h
all_behind test (c ∷ front) rest h = all_behind test front rest (and_parts (test c) (list_all test (front ++ rest)) h).1

run_some : (test : ℕ → Bool) (c : ℕ) (cs : List ℕ) → test c ≡ true → 0 < length (run test (c ∷ cs)).0
unfolding run
run_some test c cs h = rw h (omega arith)

-- numbers and spaces spell values
numbers_spell : (lang : Language) (n : ℕ) (text : List ℕ) → length text ≤ n → list_all (in_class Numbers) text ≡ true → (ss : Shapes) × SpellsShapes lang text ss
numbers_spell lang n [] le h = (no_shapes, tt)
numbers_spell lang zero (c ∷ cs) le h = absurd (omega arith)
numbers_spell lang (suc n) (c ∷ cs) le h =
    let parts = and_parts (in_class Numbers c) (list_all (in_class Numbers) cs) h in
    elim (cases_eq c 32) [
      | inl e ↦
          let more = numbers_spell lang n cs (omega arith) parts.1 in
          (more.0, subst (λ (d : ℕ). SpellsShapes lang (d ∷ cs) more.0) (sym e) (shapes_spaced lang (32 ∷ []) cs more.0 (refl, tt) more.1))
      | inr other ↦
          let digit : in_class Decimal c ≡ true = or_second (eqb c 32) (ltb (digit_value c) 10) (ne_eqb c 32 other) parts.0 in
          let digits : List ℕ = (run (in_class Decimal) (c ∷ cs)).0 in
          let rest : List ℕ = (run (in_class Decimal) (c ∷ cs)).1 in
          let r = run_found (in_class Decimal) (c ∷ cs) in
          let some : 0 < length digits = run_some (in_class Decimal) c cs digit in
          let left : list_all (in_class Numbers) rest ≡ true = all_behind (in_class Numbers) digits rest (subst (λ (t : List ℕ). list_all (in_class Numbers) t ≡ true) r.text_is h) in
          let more = numbers_spell lang n rest (omega (arith, le, some, ap length r.text_is, length-append digits rest)) left in
          (shape (decimal (digits_value 10 digits)) more.0, ([], digits, rest, tt, number_in 10 digits some (pass_digits 10 digits r.passes), ends_there rest r.ends left, more.1, r.text_is))
    ]

pub numbers_there : (lang : Language) (text inside after rest : List ℕ) → inside ≡ (run (in_class Numbers) text).0 → after ≡ (run (in_class Numbers) text).1 → behind 41 after ≡ Some rest → Encloses lang Round text inside rest
numbers_there lang text inside after rest i a b =
    let r = run_found (in_class Numbers) text in
    let all : list_all (in_class Numbers) inside ≡ true = ap (list_all (in_class Numbers)) i ∙ r.passes in
    record {
      stands = numbers_spell lang (length inside) inside (omega arith) all;
      text_is = r.text_is ∙ ap (λ (t : List ℕ). t ++ (run (in_class Numbers) text).1) (sym i) ∙ ap (λ (t : List ℕ). inside ++ t) (sym a) ∙ ap (λ (t : List ℕ). inside ++ t) (behind_found 41 after rest b);
    }

-- ---- a bracket and what it encloses, passed over at once

pub opened : (lang : Language) (first b c : Bracket) (text : List ℕ) (bs : List Bracket) (place : Place) (rest after : List ℕ) → InBrackets lang first text b bs place rest → IsStep lang b place rest (goes_on (Open c) after) → InBrackets lang first text c (b ∷ bs) Before after
opened lang first b c text bs place rest after h s = record {
  sound = step_sound lang first b text bs place rest (Open c, after) s h.sound;
  complete = λ inside end k. step_left lang b bs place rest end (Open c, after) (h.complete inside end k) s;
}

over : (lang : Language) (first b : Bracket) (text : List ℕ) (bs : List Bracket) (after inside behind : List ℕ) → InBrackets lang first text Round (b ∷ bs) Before after → Encloses lang Round after inside behind → InBrackets lang first text b bs After behind
over lang first b text bs after inside behind h f = record {
  sound = h.sound inside behind f.text_is f.stands;
  complete = λ front end k.
      let m = h.complete front end k in
      let same : m.after ≡ behind = (shapes_one lang 41 (inl refl) m.stands.0 f.stands.0 m.inside m.after inside behind m.stands.1 f.stands.1 (sym m.rest_is ∙ f.text_is)).1 in
      let l : Leaves lang (b ∷ bs) behind end = subst (λ (t : List ℕ). Leaves lang (b ∷ bs) t end) same m.outer in
      record { inside = l.0; after = l.1; rest_is = l.2; stands = l.3; outer = l.4 };
}

-- only a round bracket is passed over
pub go_over : (lang : Language) (first b c : Bracket) (text : List ℕ) (bs : List Bracket) (place : Place) (rest after behind : List ℕ) → c ≡ Round → InBrackets lang first text b bs place rest → IsStep lang b place rest (goes_on (Open c) after) → (inside : List ℕ) × Encloses lang c after inside behind → InBrackets lang first text b bs After behind
go_over lang first b c text bs place rest after behind round h s f =
    over lang first b text bs after f.0 behind
    (opened lang first b Round text bs place rest after h (subst (λ (d : Bracket). IsStep lang b place rest (goes_on (Open d) after)) round s))
    (subst (λ (d : Bracket). Encloses lang d after f.0 behind) round f.1)

pub over_shorter : (lang : Language) (b c : Bracket) (place : Place) (rest after inside behind : List ℕ) → IsStep lang b place rest (goes_on (Open c) after) → Encloses lang c after inside behind → length behind < length rest
over_shorter lang b c place rest after inside behind s f =
    omega (arith, step_shorter lang b place rest (Open c, after) s, end_size lang c after inside behind f)

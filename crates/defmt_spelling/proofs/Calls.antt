-- Calls that go up to the end of a text, and texts that spell values.
use Rattle.std.proofs.Common.{◌≡◌, ◌<◌, ◌+◌, inr, ℕ, List, [], ◌∷◌, length, drop, drop_of_length-le, None, Err, sym, ap, subst, ◌∙◌, arith, length-append}
use Rattle.defmt_grammar.proofs.Cuts.{skip_found}
use Rattle.defmt_grammar.specs.Cut.{skip_spaces}
use Rattle.defmt_grammar.specs.declared.slot.Slot.{Slot}
use Rattle.defmt_grammar.specs.declared.language.Language.{Language}
use Rattle.defmt_intern.specs.Table.{Map}
use Rattle.defmt_shapes.proofs.LastCalls.{call_there}
use Rattle.defmt_shapes.proofs.ShapeLaws.{join_shape}
use Rattle.defmt_shapes.specs.Shape.{HeadShape, Shape, Shapes, SpellsShapes, StartsThere, call, shape}
use Rattle.defmt_shapes.specs.Spelling.{IsLastCall}
use Rattle.defmt_spelling.proofs.Heads.{starts}
use Rattle.defmt_spelling.specs.Meaning.{meant_val}
use Rattle.defmt_spelling.specs.Names.{NameMap}
use Rattle.defmt_spelling.specs.Reading.{GivesValue, ReadsFront, SpellsSome}
use Rattle.defmt_spelling.specs.declared.fault.ArgFault.{ArgFault}
use Rattle.defmt_spelling.specs.declared.fault.ArgFault.TheVariants as faults
use Rattle.defmt_values.specs.Scan.{scan_val}

-- what stands behind it is nothing
pub at_end : (lang : Language) (text skipped rest : List ℕ) (s : Shape) → skipped ≡ skip_spaces text → HeadShape lang skipped s [] → rest ≡ drop (length text) text → HeadShape lang (skip_spaces text) s rest
at_end lang text skipped rest s e h back =
    let none : rest ≡ [] = back ∙ drop_of_length-le text (omega arith) in
    subst (λ (r : List ℕ). HeadShape lang (skip_spaces text) s r) (sym none) (subst (λ (x : List ℕ). HeadShape lang x s []) e h)

-- where its inside spells values, its fault is that of the text
pub call_exit : (names : NameMap) (t : Map) (left : ℕ) (slot : Slot) (weight sum : ℕ) (text skipped name inside : List ℕ) (fault : ArgFault) (s : SpellsSome t.language inside) → skipped ≡ skip_spaces text → IsLastCall skipped name inside
    → GivesValue (Err fault) (meant_val names t slot (call name None s.shapes)) (scan_val t left slot weight sum (meant_val names t slot (call name None s.shapes))) → ReadsFront names t left slot weight sum text (Err fault)
call_exit names t left slot weight sum text skipped name inside (faults.Refused c) s e is h =
    inr (inr (call name None s.shapes, [], subst (λ (x : List ℕ). HeadShape t.language x (call name None s.shapes) []) e (call_there t.language skipped name inside s.shapes is s.spelled), h))
call_exit names t left slot weight sum text skipped name inside faults.Memory s e is h = tt

-- ---- one value after another

-- what follows a value is shorter than the text
no_start : (text : List ℕ) → length text ≡ 0 → StartsThere text → ⊥
no_start [] e h = h
no_start (c ∷ cs) e h = omega (arith, e)

pub value_shorter : (lang : Language) (text skipped rest : List ℕ) (s : Shape) → skipped ≡ skip_spaces text → HeadShape lang skipped s rest → length rest < length text
value_shorter lang text skipped rest s e h =
    let f = skip_found text in
    let whole : length text ≡ length f.0 + length (skip_spaces text) = ap length f.2 ∙ length-append f.0 (skip_spaces text) in
    let part : length skipped ≡ length h.front + length rest = ap length h.text_is ∙ length-append h.front rest in
    let same : length skipped ≡ length (skip_spaces text) = ap length e in
    let some : length h.front ≡ 0 → ⊥ = λ none. no_start h.front none (starts lang h.front s h.spelled) in
    grind (arith, whole, part, same, some)

-- values behind one more value
pub more_values : (lang : Language) (text skipped rest : List ℕ) (s : Shape) (ss : Shapes) → skipped ≡ skip_spaces text → HeadShape lang skipped s rest → SpellsShapes lang rest ss → SpellsShapes lang text (shape s ss)
more_values lang text skipped rest s ss e h others = join_shape lang text rest s ss (subst (λ (x : List ℕ). HeadShape lang x s rest) e h) others

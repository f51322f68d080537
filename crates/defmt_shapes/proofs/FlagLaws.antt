-- The words of truth values.
use Rattle.std.proofs.Common.{◌≡◌, ℕ, Bool, true, false, List, ◌++◌, get_or, sym, ap, subst, ◌∙◌, arith, drop}
use Rattle.defmt_grammar.specs.declared.language.Language.{Language}
use Rattle.defmt_shapes.specs.Shape.{HeadShape, EndsThere, flag, flag_word}

same_rest : (a b : Bool) (more rest : List ℕ) → flag_word a ++ more ≡ flag_word b ++ rest → rest ≡ more
same_rest true true more rest e = ap (drop 4) (sym e)
same_rest false false more rest e = ap (drop 5) (sym e)
same_rest true false more rest e = absurd (let k : 116 ≡ 102 = ap (λ (t : List ℕ). get_or t 0 0) e in omega (arith, k))
same_rest false true more rest e = absurd (let k : 102 ≡ 116 = ap (λ (t : List ℕ). get_or t 0 0) e in omega (arith, k))

-- what stands behind a truth value's word is what follows the value
pub flag_ends : (lang : Language) (text more rest : List ℕ) (a b : Bool) → text ≡ flag_word a ++ more → HeadShape lang text (flag b) rest → EndsThere more
flag_ends lang text more rest a b e h =
    let w : text ≡ flag_word b ++ rest = h.text_is ∙ ap (λ (t : List ℕ). t ++ rest) h.spelled in
    subst EndsThere (same_rest a b more rest (sym e ∙ w)) h.ends

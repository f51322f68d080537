-- The plans of the strings of Format values.
use Rattle.std.proofs.Common.{◌≡◌, ◌<◌, ◌+◌, ℕ, zero, suc, List, [], ◌∷◌, ◌++◌, length, drop, drop-cons, get_or, sym, ap, ◌∙◌, subst, refl, arith, append_assoc, Some}
use Rattle.std.proofs.lemmas.List.{append-nil}
use Rattle.std.specs.List.{slice_get}
use Rattle.std.specs.Global.{Vec}
use Rattle.defmt_grammar.specs.declared.piece.Piece.{Piece}
use Rattle.defmt_intern.specs.Table.{Map}
use Rattle.defmt_intern.specs.declared.parsed.Parsed.{Parsed}
use Rattle.defmt_intern.specs.declared.parsed.Parsed.TheVariants as parsed
use Rattle.defmt_plan.specs.Forms.{AreFormsIn, AreVariants, IsBody, IsFormIn}
use Rattle.defmt_plan.specs.Steps.{AreSteps}
use Rattle.defmt_plan.specs.declared.forms.Body.{Body}
use Rattle.defmt_plan.specs.declared.forms.Body.TheVariants as bodies
use Rattle.defmt_plan.specs.declared.forms.Form.{Form}
use Rattle.defmt_plan.specs.declared.steps.Step.{Step}

pub forms_more : (t : Map) (forms : List Form) (form : Form) → AreFormsIn t forms → IsFormIn t form → AreFormsIn t (forms ++ form ∷ [])
forms_more t [] form h is = (is, tt)
forms_more t (f ∷ forms) form h is = (h.0, forms_more t forms form h.1 is)

pub form_there : (t : Map) (forms : List Form) (number : ℕ) (form : Form) → AreFormsIn t forms → number < length forms → form ≡ get_or forms number form → IsFormIn t form
form_there t [] number form h lt e = absurd (omega (arith, lt))
form_there t (f ∷ forms) zero form h lt e = subst (λ (g : Form). IsFormIn t g) (sym e) h.0
form_there t (f ∷ forms) (suc number) form h lt e = form_there t forms number form h.1 (omega (arith, lt)) e

-- ---- the variants

-- whatever are the steps of the rest of the variants, behind those that are made they are those of all
abbrev pub MadeVariants : List (List Piece) → List (Vec Step) → List (List Piece) → Type 0
MadeVariants forms made rest = (more : List (Vec Step)) → AreVariants rest more → AreVariants forms (made ++ more)

pub variants_none : (forms : List (List Piece)) → MadeVariants forms [] forms
variants_none forms = λ more h. h

pub variants_more : (forms : List (List Piece)) (made new : List (Vec Step)) (whole rest : List (List Piece)) (pieces : List Piece) (steps : Vec Step) → MadeVariants forms made whole → whole ≡ pieces ∷ rest → AreSteps pieces pieces steps.items → new ≡ made ++ steps ∷ [] → MadeVariants forms new rest
variants_more forms made new whole rest pieces steps h e are p = λ more k.
    subst (λ (all : List (Vec Step)). AreVariants forms all) (sym (ap (λ (all : List (Vec Step)). all ++ more) p ∙ append_assoc made (steps ∷ []) more))
    (h (steps ∷ more) (subst (λ (others : List (List Piece)). AreVariants others (steps ∷ more)) (sym e) (are, k)))

pub variants_all : (forms : List (List Piece)) (made : List (Vec Step)) (rest : List (List Piece)) → MadeVariants forms made rest → rest ≡ [] → AreVariants forms made
variants_all forms made rest h e =
    subst (λ (all : List (Vec Step)). AreVariants forms all) (append-nil made) (h [] (subst (λ (others : List (List Piece)). AreVariants others []) (sym e) tt))

pub next_form : (forms : List (List Piece)) (i : ℕ) (pieces : List Piece) → i < length forms → pieces ≡ get_or forms i pieces → drop i forms ≡ pieces ∷ drop (i + 1) forms
next_form forms i pieces lt e = let one : suc i ≡ i + 1 = omega arith in drop-cons forms i pieces lt ∙ ap (λ (q : List Piece). q ∷ drop (suc i) forms) (sym e) ∙ ap (λ (n : ℕ). pieces ∷ drop n forms) one

-- the steps of the variant with this number
pub record VariantIs (forms : List (List Piece)) (v : ℕ) (steps : Vec Step) : Type 0 where
  pub pieces : List Piece
  pub there : slice_get forms v ≡ Some pieces
  pub are : AreSteps pieces pieces steps.items

pub variant_there : (forms : List (List Piece)) (all : List (Vec Step)) (v : ℕ) (steps : Vec Step) → AreVariants forms all → v < length all → steps ≡ get_or all v steps → VariantIs forms v steps
variant_there [] [] v steps h lt e = absurd (omega (arith, lt))
variant_there [] (s ∷ all) v steps h lt e = absurd h
variant_there (f ∷ forms) [] v steps h lt e = absurd h
variant_there (f ∷ forms) (s ∷ all) zero steps h lt e = record { pieces = f; there = refl; are = subst (λ (q : Vec Step). AreSteps f f q.items) (sym e) h.0 }
variant_there (f ∷ forms) (s ∷ all) (suc v) steps h lt e =
    let k = variant_there forms all v steps h.1 (omega (arith, lt)) e in
    record { pieces = k.pieces; there = k.there; are = k.are }

-- ---- what a string stands for

pub record IsOneBody (what : Parsed) (steps : Vec Step) : Type 0 where
  pub pieces : List Piece
  pub is : what ≡ parsed.One pieces
  pub are : AreSteps pieces pieces steps.items

pub one_body : (what : Parsed) (body : Body) (steps : Vec Step) → IsBody what body → body ≡ bodies.One steps → IsOneBody what steps
one_body (parsed.One pieces) (bodies.One own) steps h e = let same : own ≡ steps = cc in record { pieces = pieces; is = refl; are = subst (λ (q : Vec Step). AreSteps pieces pieces q.items) same h }
one_body (parsed.One pieces) (bodies.Variants all) steps h e = absurd h
one_body (parsed.Variants forms) (bodies.One own) steps h e = absurd h
one_body (parsed.Variants forms) (bodies.Variants all) steps h e = absurd (cc e)
one_body parsed.Unsupported body steps h e = absurd h
one_body parsed.Raw body steps h e = absurd h

pub record IsSomeBody (what : Parsed) (all : Vec (Vec Step)) : Type 0 where
  pub forms : List (List Piece)
  pub is : what ≡ parsed.Variants forms
  pub are : AreVariants forms all.items

pub some_body : (what : Parsed) (body : Body) (all : Vec (Vec Step)) → IsBody what body → body ≡ bodies.Variants all → IsSomeBody what all
some_body (parsed.Variants forms) (bodies.Variants own) all h e = let same : own ≡ all = cc in record { forms = forms; is = refl; are = subst (λ (q : Vec (Vec Step)). AreVariants forms q.items) same h }
some_body (parsed.Variants forms) (bodies.One steps) all h e = absurd h
some_body (parsed.One pieces) (bodies.One own) all h e = absurd (cc e)
some_body (parsed.One pieces) (bodies.Variants own) all h e = absurd h
some_body parsed.Unsupported body all h e = absurd h
some_body parsed.Raw body all h e = absurd h

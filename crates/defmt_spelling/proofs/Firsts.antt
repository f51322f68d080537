-- One first value, and one first element.
use Rattle.std.proofs.Common.{◌≡◌, ◌<◌, ◌++◌, ℕ, List, [], ◌∷◌, Option, Some, None, refl, sym, ap, subst, ◌∙◌, arith, append_assoc}
use Rattle.std.specs.Char.{digit_value}
use Rattle.defmt_grammar.specs.declared.language.Language.{Language}
use Rattle.defmt_shapes.specs.Shape.{Shape, Shapes, call, HeadShape, IsName, IsVariant}
use Rattle.defmt_shapes.specs.Spelling.{HeadItem}
use Rattle.defmt_shapes.proofs.ValueLaws.{head_one}

pub one_head : (lang : Language) (text : List ℕ) (s r : Shape) (rest after : List ℕ) → HeadShape lang text s rest → HeadShape lang text r after → (s ≡ r) × (rest ≡ after)
one_head lang text s r rest after h k = head_one lang text rest after s r h k

-- an element behind a name is a Format value
a_name : IsName (97 ∷ [])
a_name = refl

named : (lang : Language) (text rest : List ℕ) (ss : Shapes) → HeadItem lang text None ss rest → HeadShape lang (97 ∷ text) (call (97 ∷ []) None ss) rest
named lang text rest ss h = record {
  front = 97 ∷ 40 ∷ (h.inside ++ 41 ∷ []);
  spelled = ([], h.inside, a_name, refl, h.spelled, refl);
  ends = h.ends;
  text_is = ap (λ (x : List ℕ). 97 ∷ x) (h.text_is ∙ ap (λ (m : List ℕ). m ++ 40 ∷ (h.inside ++ 41 ∷ rest)) h.is_mark ∙ ap (λ (x : List ℕ). 40 ∷ x) (sym (append_assoc h.inside (41 ∷ []) rest)));
}

numbered : (lang : Language) (text rest : List ℕ) (v : ℕ) (ss : Shapes) → HeadItem lang text (Some v) ss rest → HeadShape lang (97 ∷ 58 ∷ text) (call (97 ∷ []) (Some v) ss) rest
numbered lang text rest v ss h = record {
  front = 97 ∷ 58 ∷ (h.mark ++ 40 ∷ (h.inside ++ 41 ∷ []));
  spelled = (58 ∷ h.mark, h.inside, a_name, (h.mark, h.is_mark, refl), h.spelled, refl);
  ends = h.ends;
  text_is = ap (λ (x : List ℕ). 97 ∷ 58 ∷ x) (h.text_is ∙ ap (λ (x : List ℕ). h.mark ++ 40 ∷ x) (sym (append_assoc h.inside (41 ∷ []) rest)) ∙ sym (append_assoc h.mark (40 ∷ (h.inside ++ 41 ∷ [])) rest));
}

no_digit : (mark rest other : List ℕ) (v : ℕ) → IsVariant mark v → mark ++ rest ≡ 40 ∷ other → ⊥
no_digit [] rest other v h e = let k : 0 < 0 = h.number.some in omega (arith, k)
no_digit (c ∷ cs) rest other v h e = let same : c ≡ 40 = cc in let k : 36 < 10 = subst (λ (x : ℕ). digit_value x < 10) same h.number.all.0 in omega (arith, k)

unlike : (lang : Language) (text rest after : List ℕ) (v : ℕ) (ss rs : Shapes) → HeadItem lang text (Some v) ss rest → HeadItem lang text None rs after → ⊥
unlike lang text rest after v ss rs h k = no_digit h.mark (40 ∷ (h.inside ++ 41 ∷ rest)) (k.inside ++ 41 ∷ after) v h.is_mark (sym h.text_is ∙ k.text_is ∙ ap (λ (m : List ℕ). m ++ 40 ∷ (k.inside ++ 41 ∷ after)) k.is_mark)

same_call : (v u : Option ℕ) (ss rs : Shapes) → call (97 ∷ []) v ss ≡ call (97 ∷ []) u rs → (v ≡ u) × (ss ≡ rs)
same_call v u ss rs e = (cc, cc)

pub one_item : (lang : Language) (text : List ℕ) (v u : Option ℕ) (ss rs : Shapes) (rest after : List ℕ) → HeadItem lang text v ss rest → HeadItem lang text u rs after → (v ≡ u) × (ss ≡ rs) × (rest ≡ after)
one_item lang text None None ss rs rest after h k =
    let e = one_head lang (97 ∷ text) (call (97 ∷ []) None ss) (call (97 ∷ []) None rs) rest after (named lang text rest ss h) (named lang text after rs k) in
    let p = same_call None None ss rs e.0 in
    (p.0, p.1, e.1)
one_item lang text (Some v) (Some u) ss rs rest after h k =
    let e = one_head lang (97 ∷ 58 ∷ text) (call (97 ∷ []) (Some v) ss) (call (97 ∷ []) (Some u) rs) rest after (numbered lang text rest v ss h) (numbered lang text after u rs k) in
    let p = same_call (Some v) (Some u) ss rs e.0 in
    (p.0, p.1, e.1)
one_item lang text None (Some u) ss rs rest after h k = absurd (unlike lang text after rest u rs ss k h)
one_item lang text (Some v) None ss rs rest after h k = absurd (unlike lang text rest after v ss rs h k)

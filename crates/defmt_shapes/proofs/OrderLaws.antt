-- Values and elements one by one.
use Rattle.std.proofs.Common.{◌≡◌, ℕ, List, [], ◌∷◌, ◌++◌, refl, sym, ap, subst, ◌∙◌, Option, inl}
use Rattle.defmt_grammar.specs.Cut.{AreSpaces, skip_spaces}
use Rattle.defmt_grammar.proofs.Cuts.{skip_again, skip_found}
use Rattle.std.proofs.lemmas.List.{append-nil}
use Rattle.defmt_grammar.specs.declared.language.Language.{Language}
use Rattle.defmt_shapes.specs.Shape.{Shape, Shapes, Items, no_shapes, item, SpellsShape, SpellsShapes, SpellsItems, HeadShape}
use Rattle.defmt_shapes.specs.Spelling.{HeadItem, SameHead, FirstItem}
use Rattle.defmt_shapes.proofs.OneLaws.{shape_one, shapes_one, items_one}
use Rattle.defmt_shapes.proofs.ShapeLaws.{mark_starts, starts_skip}
use Rattle.defmt_shapes.proofs.ValueLaws.{head_one}

pub one_value : (lang : Language) (text : List ℕ) (s t : Shape) → SpellsShape lang text s → SpellsShape lang text t → s ≡ t
one_value lang text s t h k = (shape_one lang s t text [] text [] h tt k tt refl).0

pub one_list : (lang : Language) (text : List ℕ) (ss ts : Shapes) → SpellsShapes lang text ss → SpellsShapes lang text ts → ss ≡ ts
one_list lang text ss ts h k = (shapes_one lang 41 (inl refl) ss ts text [] text [] h k refl).0

pub one_elements : (lang : Language) (text : List ℕ) (items others : Items) → SpellsItems lang text items → SpellsItems lang text others → items ≡ others
one_elements lang text items others h k = (items_one lang items others text [] text [] h k refl).0

pub same_head : (lang : Language) (text rest tail : List ℕ) (s t : Shape) → HeadShape lang text s rest → HeadShape lang text t tail → SameHead s t rest tail
same_head lang text rest tail s t h k = let e = head_one lang text rest tail s t h k in record { shape = e.0; rest_is = e.1 }

pub no_more : (lang : Language) (text : List ℕ) → skip_spaces text ≡ [] → SpellsShapes lang text no_shapes
no_more lang text e =
    let k = skip_found text in
    subst AreSpaces (sym (k.2 ∙ ap (λ (t : List ℕ). k.0 ++ t) e ∙ append-nil k.0)) k.1

pub first_element : (lang : Language) (text : List ℕ) (v : Option ℕ) (ss : Shapes) (items : Items) → SpellsItems lang text (item v ss items) → FirstItem lang text v ss items
first_element lang text v ss items (spaces, mark, inside, rest, a, im, spelled, ends, last, e) =
    let body : List ℕ = mark ++ 40 ∷ (inside ++ 41 ∷ rest) in
    let skipped : skip_spaces text ≡ body = ap skip_spaces e ∙ skip_again spaces body a (starts_skip body (mark_starts mark (inside ++ 41 ∷ rest) v im)) in
    (rest, record { mark = mark; inside = inside; is_mark = im; spelled = spelled; ends = ends; text_is = skipped }, last)

pub join_element : (lang : Language) (text rest : List ℕ) (v : Option ℕ) (ss : Shapes) (items : Items) → HeadItem lang (skip_spaces text) v ss rest → SpellsItems lang rest items → SpellsItems lang text (item v ss items)
join_element lang text rest v ss items h more =
    let k = skip_found text in
    (k.0, h.mark, h.inside, rest, k.1, h.is_mark, h.spelled, h.ends, more, k.2 ∙ ap (λ (t : List ℕ). k.0 ++ t) h.text_is)

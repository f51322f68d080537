-- The values at the front of a text, and behind spaces.
use Rattle.std.proofs.Common.{◌≡◌, ◌≢◌, ◌<◌, ◌+◌, ◌++◌, ◌⊎◌, inl, inr, ℕ, List, [], ◌∷◌, length, Option, refl, sym, ap, subst, ◌∙◌, arith, length-append}
use Rattle.std.proofs.lemmas.Bool.{cases_eq}
use Rattle.std.proofs.lemmas.List.{append-nil}
use Rattle.defmt_grammar.proofs.Cuts.{skip_found, skip_again}
use Rattle.defmt_grammar.specs.Cut.{skip_spaces, AreSpaces}
use Rattle.defmt_grammar.specs.declared.language.Language.{Language}
use Rattle.defmt_shapes.proofs.ShapeLaws.{mark_starts, starts_skip, value_starts}
use Rattle.defmt_shapes.specs.Shape.{Shape, Shapes, shape, Items, item, SpellsShape, SpellsShapes, SpellsItems, HeadShape, StartsThere}
use Rattle.defmt_shapes.specs.Spelling.{HeadItem}

-- a value has a first character, which is no space
pub starts : (lang : Language) (text : List ℕ) (s : Shape) → SpellsShape lang text s → StartsThere text
starts lang text s h = let v = value_starts lang s text h in subst StartsThere (sym v.text_is) v.no_space

pub starts_longer : (front rest : List ℕ) → StartsThere front → StartsThere (front ++ rest)
starts_longer [] rest h = absurd h
starts_longer (c ∷ cs) rest h = h

-- ---- behind spaces

pub all_spaces : (text : List ℕ) → skip_spaces text ≡ [] → AreSpaces text
all_spaces text h = let f = skip_found text in subst AreSpaces (sym (f.2 ∙ ap (λ (x : List ℕ). f.0 ++ x) h ∙ append-nil f.0)) f.1

skipped_by : (c : ℕ) (cs : List ℕ) → (skip_spaces cs ≡ []) ⊎ StartsThere (skip_spaces cs) → (c ≡ 32) ⊎ (c ≢ 32) → (skip_spaces (c ∷ cs) ≡ []) ⊎ StartsThere (skip_spaces (c ∷ cs))
unfolding skip_spaces
skipped_by c cs h (inl e) = rw e h
skipped_by c cs h (inr n) = inr (subst StartsThere (sym (starts_skip (c ∷ cs) n)) n)

-- behind the spaces there is nothing, or something that is none
pub skipped : (text : List ℕ) → (skip_spaces text ≡ []) ⊎ StartsThere (skip_spaces text)
unfolding skip_spaces
skipped [] = inl refl
skipped (c ∷ cs) = skipped_by c cs (skipped cs) (cases_eq c 32)

pub empty_starts : (text : List ℕ) → text ≡ [] → StartsThere text → ⊥
empty_starts text e h = subst StartsThere e h

pub head_starts : (lang : Language) (text rest : List ℕ) (s : Shape) → HeadShape lang text s rest → StartsThere text
head_starts lang text rest s h = subst StartsThere (sym h.text_is) (starts_longer h.front rest (starts lang h.front s h.spelled))

-- the first of some values, and the others
pub record Split (lang : Language) (text : List ℕ) (s : Shape) (ss : Shapes) : Type 0 where
  pub rest : List ℕ
  pub head : HeadShape lang (skip_spaces text) s rest
  pub others : SpellsShapes lang rest ss

pub split : (lang : Language) (text : List ℕ) (s : Shape) (ss : Shapes) → SpellsShapes lang text (shape s ss) → Split lang text s ss
split lang text s ss h = record {
  rest = h.2;
  head = record {
    front = h.1;
    spelled = h.4;
    ends = h.5;
    text_is = ap skip_spaces h.7 ∙ skip_again h.0 (h.1 ++ h.2) h.3 (starts_skip (h.1 ++ h.2) (starts_longer h.1 h.2 (starts lang h.1 s h.4)));
  };
  others = h.6;
}

-- ---- elements

pub item_starts : (lang : Language) (text rest : List ℕ) (variant : Option ℕ) (ss : Shapes) → HeadItem lang text variant ss rest → StartsThere text
item_starts lang text rest variant ss h = subst StartsThere (sym h.text_is) (mark_starts h.mark (h.inside ++ 41 ∷ rest) variant h.is_mark)

-- the first of some elements, and the others
pub record SplitItem (lang : Language) (text : List ℕ) (variant : Option ℕ) (ss : Shapes) (more : Items) : Type 0 where
  pub rest : List ℕ
  pub head : HeadItem lang (skip_spaces text) variant ss rest
  pub others : SpellsItems lang rest more

pub split_item : (lang : Language) (text : List ℕ) (variant : Option ℕ) (ss : Shapes) (more : Items) → SpellsItems lang text (item variant ss more) → SplitItem lang text variant ss more
split_item lang text variant ss more h = record {
  rest = h.3;
  head = record {
    mark = h.1;
    inside = h.2;
    is_mark = h.5;
    spelled = h.6;
    ends = h.7;
    text_is = ap skip_spaces h.9 ∙ skip_again h.0 (h.1 ++ 40 ∷ (h.2 ++ 41 ∷ h.3)) h.4 (starts_skip (h.1 ++ 40 ∷ (h.2 ++ 41 ∷ h.3)) (mark_starts h.1 (h.2 ++ 41 ∷ h.3) variant h.5));
  };
  others = h.8;
}

-- what follows an element is shorter than the text
pub item_shorter : (lang : Language) (text rest : List ℕ) (variant : Option ℕ) (ss : Shapes) → HeadItem lang (skip_spaces text) variant ss rest → length rest < length text
item_shorter lang text rest variant ss h =
    let f = skip_found text in
    let whole : length text ≡ length f.0 + length (skip_spaces text) = ap length f.2 ∙ length-append f.0 (skip_spaces text) in
    let part : length (skip_spaces text) ≡ length h.mark + length (40 ∷ (h.inside ++ 41 ∷ rest)) = ap length h.text_is ∙ length-append h.mark (40 ∷ (h.inside ++ 41 ∷ rest)) in
    omega (arith, whole, part, length-append h.inside (41 ∷ rest))

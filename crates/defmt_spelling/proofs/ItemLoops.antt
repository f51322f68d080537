-- The elements of a list, one after another.
use Rattle.std.proofs.Common.{◌≡◌, ◌<◌, ℕ, List, [], length, Option, Some, None, Result, Ok, Err, Bor, refl, sym, ap, subst, ◌∙◌}
use Rattle.defmt_grammar.specs.Cut.{skip_spaces}
use Rattle.defmt_grammar.specs.declared.language.Language.{Language}
use Rattle.defmt_intern.specs.Table.{Map}
use Rattle.defmt_intern.specs.declared.parsed.Parsed.{Parsed}
use Rattle.defmt_shapes.specs.Shape.{Shapes, Items, no_items, item, SpellsShapes, SpellsItems}
use Rattle.defmt_shapes.specs.Spelling.{HeadItem, HoldsVariant, IsItem}
use Rattle.defmt_shapes.specs.declared.spelling.Item.{Item}
use Rattle.defmt_shapes.specs.declared.number.Number.{Number}
use Rattle.defmt_spelling.proofs.Arms.{elem_is, places_there}
use Rattle.defmt_spelling.proofs.Heads.{empty_starts, item_starts, split_item, item_shorter}
use Rattle.defmt_spelling.specs.Meaning.{meant_val, meant_vals, meant_elems}
use Rattle.defmt_spelling.specs.Names.{NameMap}
use Rattle.defmt_spelling.specs.Reading.{GivesElems, GivesItem, item_scan, meant_inside}
use Rattle.defmt_spelling.specs.declared.fault.ArgFault.{ArgFault}
use Rattle.defmt_spelling.specs.declared.fault.ArgFault.TheVariants as faults
use Rattle.defmt_values.specs.Plain.{Vals, Elems, no_elems, elem, snoc_elem, join_elems}
use Rattle.defmt_values.specs.Scan.{◌>>=◌, form_at, scan_val, scan_elems}
use Rattle.defmt_values.proofs.Joins.{join_snoc_elem, join_no_elems}

-- ---- the elements of a list

-- some elements are still to be read: they are spelled, and with those so far make the whole
pub record ItemsLeft (names : NameMap) (t : Map) (left weight : ℕ) (form : Parsed) (index sum : ℕ) (items : Items) (done : Elems) (total : ℕ) (rest : List ℕ) : Type 0 where
  pub others : Items
  pub spelled : SpellsItems t.language rest others
  pub joined : join_elems done (meant_elems names t index others) ≡ meant_elems names t index items
  pub scan : scan_elems t left form weight total (meant_elems names t index others) ≡ scan_elems t left form weight sum (meant_elems names t index items)

module _ (names : NameMap) (t : Map) (left weight : ℕ) (form : Parsed) (index sum : ℕ) (items : Items) (there : form_at t index ≡ Ok form) where
  pub all_left : (text : List ℕ) → SpellsItems t.language text items → ItemsLeft names t left weight form index sum items no_elems sum text
  all_left text s = record { others = items; spelled = s; joined = refl; scan = refl }

  first_meant : (variant : Option ℕ) (ss : Shapes) (more : Items) → meant_elems names t index (item variant ss more) ≡ elem variant (meant_inside names t form variant ss) (meant_elems names t index more)
  unfolding meant_val
  first_meant variant ss more = ap (λ places. elem variant (meant_vals names t places ss) (meant_elems names t index more)) (places_there t index form variant there)

  module _ (done : Elems) (total : ℕ) (rest : List ℕ) (f : ItemsLeft names t left weight form index sum items done total rest) where
    pub no_items_left : f.others ≡ no_items → (done ≡ meant_elems names t index items) × (scan_elems t left form weight sum (meant_elems names t index items) ≡ Ok total)
    unfolding scan_val meant_val
    no_items_left e =
        let nothing : meant_elems names t index f.others ≡ no_elems = ap (meant_elems names t index) e in
        (sym (join_no_elems done) ∙ ap (join_elems done) (sym nothing) ∙ f.joined, sym f.scan ∙ ap (scan_elems t left form weight total) nothing)

    module _ (variant : Option ℕ) (ss : Shapes) (more : Items) (e : f.others ≡ item variant ss more) where
      head_meant : meant_elems names t index f.others ≡ elem variant (meant_inside names t form variant ss) (meant_elems names t index more)
      head_meant = ap (meant_elems names t index) e ∙ first_meant variant ss more

      head_scan : scan_elems t left form weight sum (meant_elems names t index items) ≡ (item_scan t left form weight total variant (meant_inside names t form variant ss) >>= λ r. scan_elems t left form weight r (meant_elems names t index more))
      head_scan = sym f.scan ∙ ap (scan_elems t left form weight total) head_meant ∙ elem_is t left form weight total variant (meant_inside names t form variant ss) (meant_elems names t index more)

      pub item_refused : (c : ℕ) → item_scan t left form weight total variant (meant_inside names t form variant ss) ≡ Err c → scan_elems t left form weight sum (meant_elems names t index items) ≡ Err c
      item_refused c h = head_scan ∙ ap (λ (x : Result ℕ ℕ). x >>= λ r. scan_elems t left form weight r (meant_elems names t index more)) h

      pub item_exit : (fault : ArgFault) → GivesItem (Err fault) variant (meant_inside names t form variant ss) (item_scan t left form weight total variant (meant_inside names t form variant ss)) → GivesElems (Err fault) (meant_elems names t index items) (scan_elems t left form weight sum (meant_elems names t index items))
      item_exit (faults.Refused c) h = item_refused c h
      item_exit faults.Memory h = tt

      pub item_done : (given : Option ℕ) (args : Vals) (next : ℕ) (new : Elems) (after : List ℕ) → given ≡ variant → args ≡ meant_inside names t form variant ss → item_scan t left form weight total variant (meant_inside names t form variant ss) ≡ Ok next
          → new ≡ snoc_elem done given args → SpellsItems t.language after more → ItemsLeft names t left weight form index sum items new next after
      item_done given args next new after v a h is s =
          let same_new : new ≡ snoc_elem done variant (meant_inside names t form variant ss) = is ∙ ap (λ (o : Option ℕ). snoc_elem done o args) v ∙ ap (snoc_elem done variant) a in
          record {
            others = more;
            spelled = s;
            joined = ap (λ (es : Elems). join_elems es (meant_elems names t index more)) same_new
                ∙ join_snoc_elem done variant (meant_inside names t form variant ss) (meant_elems names t index more)
                ∙ ap (join_elems done) (sym head_meant) ∙ f.joined;
            scan = sym (head_scan ∙ ap (λ (x : Result ℕ ℕ). x >>= λ r. scan_elems t left form weight r (meant_elems names t index more)) h);
          }

-- the element that the code tells is the first of those that are spelled
pub record ToldItem (lang : Language) (others : Items) (number : Option Number) (inside rest : List ℕ) : Type 0 where
  pub variant : Option ℕ
  pub shapes : Shapes
  pub more : Items
  pub is : others ≡ item variant shapes more
  pub holds : HoldsVariant number variant
  pub spelled : SpellsShapes lang inside shapes
  pub later : SpellsItems lang rest more

none_there : (lang : Language) (text : List ℕ) (others : Items) → SpellsItems lang text others → ((v : Option ℕ) (ss : Shapes) (rest : List ℕ) → HeadItem lang (skip_spaces text) v ss rest → ⊥) → others ≡ no_items
none_there lang text no_items s n = refl
none_there lang text (item v ss more) s n = let h = split_item lang text v ss more s in absurd (n v ss h.rest h.head)

pub told_none : (lang : Language) (text behind : List ℕ) (others : Items) (o : Option (Item × Bor (List ℕ))) → behind ≡ skip_spaces text → IsItem lang behind o → o ≡ None → SpellsItems lang text others → others ≡ no_items
told_none lang text behind others o e h is s = none_there lang text others s (subst (λ (x : List ℕ). IsItem lang x None) e (subst (IsItem lang behind) is h))

nothing_skipped : (text : List ℕ) → text ≡ [] → skip_spaces text ≡ []
unfolding skip_spaces
nothing_skipped text e = rw e refl

module _ (one : (lang : Language) (text : List ℕ) (v u : Option ℕ) (ss rs : Shapes) (rest after : List ℕ) → HeadItem lang text v ss rest → HeadItem lang text u rs after → (v ≡ u) × (ss ≡ rs) × (rest ≡ after)) where
  first_told : (lang : Language) (text : List ℕ) (others : Items) (number : Option Number) (inside rest : List ℕ) (v : Option ℕ) (rs : Shapes) → SpellsItems lang text others → HeadItem lang (skip_spaces text) v rs rest → HoldsVariant number v → SpellsShapes lang inside rs → ToldItem lang others number inside rest
  first_told lang text no_items number inside rest v rs s h holds spelled = absurd (empty_starts (skip_spaces text) (nothing_skipped text s) (item_starts lang (skip_spaces text) rest v rs h))
  first_told lang text (item u ss more) number inside rest v rs s h holds spelled =
      let k = split_item lang text u ss more s in
      let e = one lang (skip_spaces text) v u rs ss rest k.rest h k.head in
      record {
        variant = u;
        shapes = ss;
        more = more;
        is = refl;
        holds = subst (HoldsVariant number) e.0 holds;
        spelled = subst (SpellsShapes lang inside) e.1 spelled;
        later = subst (λ (x : List ℕ). SpellsItems lang x more) (sym e.2) k.others;
      }

  pub told_item : (lang : Language) (text behind : List ℕ) (others : Items) (o : Option (Item × Bor (List ℕ))) (told : Item) (rest : Bor (List ℕ)) → behind ≡ skip_spaces text → IsItem lang behind o → o ≡ Some (told, rest) → SpellsItems lang text others → ToldItem lang others told.variant told.inside.now rest.now
  told_item lang text behind others o told rest e h is s =
      let k = subst (λ (x : List ℕ). IsItem lang x (Some (told, rest))) e (subst (IsItem lang behind) is h) in
      first_told lang text others told.variant told.inside.now rest.now k.0 k.1 s k.2 k.3 k.4

pub told_shorter : (lang : Language) (text behind : List ℕ) (o : Option (Item × Bor (List ℕ))) (told : Item) (rest : Bor (List ℕ)) → behind ≡ skip_spaces text → IsItem lang behind o → o ≡ Some (told, rest) → length rest.now < length text
told_shorter lang text behind o told rest e h is =
    let k = subst (λ (x : List ℕ). IsItem lang x (Some (told, rest))) e (subst (IsItem lang behind) is h) in
    item_shorter lang text rest.now k.0 k.1 k.2

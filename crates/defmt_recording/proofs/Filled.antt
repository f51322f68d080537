-- Lines of statements by their templates.
use Rattle.std.proofs.Common.{◌≡◌, ◌&&◌, ◌++◌, ◌∷◌, [], ◌∙◌, ℕ, zero, suc, Bool, true, false, List, take, drop, Option, Some, None, refl, ap, subst, sym}
use Rattle.std.specs.Prelude.{Result, IfOk, IfSome, is_some, slice_index_or, slice_set, if◌then◌else◌}
use Rattle.std.proofs.lemmas.Option.{IfSome_then}
use Rattle.std.proofs.lemmas.Result.{IfOk-weaker}
use Rattle.defmt_forms.specs.Json.{line_object}
use Rattle.defmt_forms.specs.Template.{IsColor, IsJson, IsPlain, IsSized, some_if, stamp_if}
use Rattle.defmt_forms.specs.Terminal.{color_line}
use Rattle.defmt_forms.specs.declared.template.Template.{Template}
use Rattle.defmt_hooks.specs.declared.level.Level.{Level}
use Rattle.defmt_intern.specs.Stamp.{stamp_of as table_stamp}
use Rattle.defmt_intern.specs.Table.{Map}
use Rattle.defmt_places.specs.Places.{Map as PlaceMap}
use Rattle.defmt_plan.specs.declared.message.Parts.{Parts}
use Rattle.defmt_recording.specs.Output.{ended}
use Rattle.defmt_recording.specs.Styled.{level_at, package_at, place_at, stamp_by, text_in_form}
use Rattle.defmt_recording.specs.Templates.{AreTemplates, IsTemplate, SameSlots, filled, stamp_of}
use Rattle.defmt_words.specs.declared.style.Form.{Form}
use Rattle.defmt_words.specs.declared.style.Form.TheVariants.{Plain, Color, Json}
use Rattle.defmt_words.specs.declared.style.Style.{Style}

-- ---- one template

-- a stamp where both are there
some_by : (at : Option ℕ) (level : Option Level) (text : List ℕ) → some_if (is_some at && is_some level) text ≡ stamp_by at level text
some_by None level text = refl
some_by (Some at) None text = refl
some_by (Some at) (Some level) text = refl

front_by : (stamped : Bool) (count : ℕ) (text : List ℕ) → take (if stamped then count else 0) text ≡ stamp_if stamped (take count text)
front_by true count text = refl
front_by false count text = refl

module _ (style : Style) (table : Map) (places : PlaceMap) (index : ℕ) where
  abbrev Fills : Template → Form → Type 0
  Fills t form = (parts : Parts) (text : List ℕ) → filled form t parts text ≡ ended (text_in_form form table places index parts text)

  by_form : (t : Template) (form : Form) → style.form ≡ form → IsSized t → Fills t form → IsTemplate style table places index t
  by_form t form formed sized fills = record { sized = sized; fills = subst (Fills t) (sym formed) fills }

  -- whether its lines have stamps
  abbrev stamped : Bool
  stamped = is_some (table_stamp table) && is_some (level_at table index)

  stamp_is : (t : Template) → t.stamped ≡ stamped → (parts : Parts) (text : List ℕ) → stamp_of t parts text ≡ stamp_if stamped (take parts.stamp text)
  stamp_is t same parts text = front_by t.stamped parts.stamp text ∙ ap (λ (b : Bool). stamp_if b (take parts.stamp text)) same

  color_fills : (t : Template) → t.stamped ≡ stamped → IsColor t stamped (level_at table index) (place_at places index) → Fills t Color
  color_fills t same is parts text =
      rw (stamp_is t same parts text)
      (is (take parts.stamp text) (drop parts.front text)
      ∙ ap (λ (o : Option (List ℕ)). ended (color_line o (level_at table index) (drop parts.front text) (place_at places index)))
      (some_by (table_stamp table) (level_at table index) (take parts.stamp text)))

  json_fills : (t : Template) → t.stamped ≡ stamped → IsJson t index stamped (level_at table index) (package_at table index) (place_at places index) → Fills t Json
  json_fills t same is parts text =
      rw (stamp_is t same parts text)
      (is parts.bytes (take parts.stamp text) (drop parts.front text)
      ∙ ap (λ (o : Option (List ℕ)). ended (line_object index parts.bytes o (level_at table index) (package_at table index) (drop parts.front text) (place_at places index)))
      (some_by (table_stamp table) (level_at table index) (take parts.stamp text)))

  pub plain_made : {E : Type 0} (r : Result (Option Template) E) (place : Option (List ℕ)) → style.form ≡ Plain → place ≡ place_at places index
      → IfOk r (λ made. IfSome made (λ t. IsSized t × IsPlain t place)) → IfOk r (λ made. IfSome made (λ t. IsTemplate style table places index t))
  plain_made r place formed placed =
      IfOk-weaker r _ _ (λ made h. IfSome_then made h (λ t is.
      by_form t Plain formed is.0 (λ parts text. subst (λ (o : Option (List ℕ)). IsPlain t o) placed is.1 text)))

  -- what was made for an index is one
  module _ {E : Type 0} (r : Result (Option Template) E) (flag : Bool) (at : Option ℕ) (level : Option Level) (place : Option (List ℕ))
      (flagged : flag ≡ (is_some at && is_some level)) (stamped_at : at ≡ table_stamp table) (levelled : level ≡ level_at table index) (placed : place ≡ place_at places index) where
    flag_is : flag ≡ stamped
    flag_is = flagged ∙ ap (λ (a : Option ℕ). is_some a && is_some level) stamped_at ∙ ap (λ (l : Option Level). is_some (table_stamp table) && is_some l) levelled

    pub color_made : style.form ≡ Color → IfOk r (λ made. IfSome made (λ t. IsSized t × (t.stamped ≡ flag) × IsColor t flag level place))
        → IfOk r (λ made. IfSome made (λ t. IsTemplate style table places index t))
    color_made formed =
        IfOk-weaker r _ _ (λ made h. IfSome_then made h (λ t is.
        by_form t Color formed is.0 (color_fills t (is.1 ∙ flag_is)
        (subst (λ (b : Bool). IsColor t b (level_at table index) (place_at places index)) flag_is
        (subst (λ (l : Option Level). IsColor t flag l (place_at places index)) levelled
        (subst (λ (o : Option (List ℕ)). IsColor t flag level o) placed is.2))))))

    pub json_made : style.form ≡ Json → (owner : List ℕ) → owner ≡ package_at table index → IfOk r (λ made. IfSome made (λ t. IsSized t × (t.stamped ≡ flag) × IsJson t index flag level owner place))
        → IfOk r (λ made. IfSome made (λ t. IsTemplate style table places index t))
    json_made formed owner owned =
        IfOk-weaker r _ _ (λ made h. IfSome_then made h (λ t is.
        by_form t Json formed is.0 (json_fills t (is.1 ∙ flag_is)
        (subst (λ (b : Bool). IsJson t index b (level_at table index) (package_at table index) (place_at places index)) flag_is
        (subst (λ (l : Option Level). IsJson t index flag l (package_at table index) (place_at places index)) levelled
        (subst (λ (w : List ℕ). IsJson t index flag level w (place_at places index)) owned
        (subst (λ (o : Option (List ℕ)). IsJson t index flag level owner o) placed is.2)))))))

-- ---- all templates

-- an empty slot more
pub none_more : (templates : List (Option Template)) → SameSlots templates (templates ++ None ∷ [])
none_more [] zero = refl
none_more [] (suc n) = refl
none_more (t ∷ ts) zero = refl
none_more (t ∷ ts) (suc n) = none_more ts n

put_by : (P : ℕ → Template → Type 0) (templates : List (Option Template)) (at : ℕ) (made : Option Template)
    → ((index : ℕ) (t : Template) → slice_index_or templates index None ≡ Some t → P index t) → IfSome made (P at)
    → (index : ℕ) (t : Template) → slice_index_or (slice_set templates at made) index None ≡ Some t → P index t
put_by P [] at made h m index t is = h index t is
put_by P (x ∷ xs) zero made h m zero t is = subst (λ (o : Option Template). IfSome o (P 0)) is m
put_by P (x ∷ xs) zero made h m (suc n) t is = h (suc n) t is
put_by P (x ∷ xs) (suc at) made h m zero t is = h zero t is
put_by P (x ∷ xs) (suc at) made h m (suc n) t is = put_by (λ k. P (suc k)) xs at made (λ k s e. h (suc k) s e) m n t is

module _ (style : Style) (table : Map) (places : PlaceMap) where
  pub same_are : (old new : List (Option Template)) → AreTemplates style table places old → SameSlots old new → AreTemplates style table places new
  same_are old new are same index t is = are index t (sym (same index) ∙ is)

  -- one more
  pub put_are : (old new : List (Option Template)) (at : ℕ) (made : Option Template) → AreTemplates style table places old → SameSlots old new
      → IfSome made (λ t. IsTemplate style table places at t) → AreTemplates style table places (slice_set new at made)
  put_are old new at made are same is = put_by (λ i t. IsTemplate style table places i t) new at made (same_are old new are same) is

-- The value or element that a text begins with.
use Rattle.std.proofs.Common.{◌≡◌, ℕ, true, false, eqb, is_some, List, [], ◌∷◌, ◌++◌, length, refl, sym, ap, subst, ◌∙◌, arith, Option, Some, None, inl, inr, append_assoc}
use Rattle.std.proofs.lemmas.Bool.{eqb-true, or_cases, or_right, both_ways}
use Rattle.std.proofs.lemmas.Option.{same_Some, none-some}
use Rattle.defmt_grammar.specs.Cut.{behind}
use Rattle.defmt_grammar.proofs.Cuts.{behind_again, behind_found}
use Rattle.defmt_grammar.specs.declared.language.Language.{Language}
use Rattle.defmt_shapes.specs.declared.head.Whole.{Whole}
use Rattle.defmt_shapes.specs.declared.head.Whole.TheVariants as wholes
use Rattle.defmt_shapes.specs.declared.scan.Bracket.TheVariants.{Round, Square, Angle}
use Rattle.defmt_shapes.specs.Shape.{Shape, Shapes, Items, AreCalls, SpellsShapes, SpellsItems, StartsThere, EndsThere, HeadShape}
use Rattle.defmt_shapes.specs.Shape as shapes
use Rattle.defmt_shapes.specs.Leads.{Lead, call, sequence, nodes, IsLeadIn, view_whole, item_of, IsMark, Leads, IsWhole}
use Rattle.defmt_shapes.specs.Scan.{Encloses, IsEnclosed}
use Rattle.defmt_shapes.specs.Spelling.{ends_there, HeadItem}
use Rattle.defmt_shapes.proofs.LeadForms.{StopsThere}
use Rattle.defmt_shapes.proofs.LeadAgain.{begins}
use Rattle.defmt_shapes.proofs.BeginLaws.{Begins, begins_with}
use Rattle.defmt_shapes.proofs.LeadFound.{whole_found}
use Rattle.defmt_shapes.proofs.FullLeads.{found_in, one_in}
use Rattle.defmt_shapes.proofs.ScanLaws.{item_found, item_again}
use Rattle.defmt_shapes.proofs.OneLaws.{shape_one, shapes_one, items_one}
use Rattle.defmt_shapes.proofs.OneLead.{whole_same}

-- ---- ends

some_test : (rest : List ℕ) (o : Option (List ℕ)) → behind 32 rest ≡ o → is_some o ≡ true → EndsThere rest
some_test rest None e h = absurd (both_ways false refl h)
some_test rest (Some more) e h = subst EndsThere (sym (behind_found 32 rest more e)) refl

pub ends_found : (rest : List ℕ) → ends_there rest ≡ true → EndsThere rest
ends_found [] h = tt
ends_found (c ∷ cs) h = elim (or_cases (eqb (length (c ∷ cs)) 0) (is_some (behind 32 (c ∷ cs))) h) [
  | inl e ↦ absurd (let k : length (c ∷ cs) ≡ 0 = eqb-true (length (c ∷ cs)) 0 e in omega (arith, k))
  | inr e ↦ some_test (c ∷ cs) (behind 32 (c ∷ cs)) refl e
]

ends_again : (rest : List ℕ) → EndsThere rest → ends_there rest ≡ true
ends_again [] h = refl
ends_again (c ∷ cs) h =
    let k : behind 32 (c ∷ cs) ≡ Some cs = ap (λ (x : ℕ). behind 32 (x ∷ cs)) h ∙ behind_again 32 cs in
    or_right (eqb (length (c ∷ cs)) 0) (is_some (behind 32 (c ∷ cs))) (ap is_some k)

pub ends_not : (rest : List ℕ) → ends_there rest ≡ false → EndsThere rest → ⊥
ends_not rest h k = both_ways (ends_there rest) h (ends_again rest k)

pub ends_stop : (rest : List ℕ) → EndsThere rest → StopsThere rest
ends_stop [] h = tt
ends_stop (c ∷ cs) h = inl h

-- ---- the lead of a value

head_begins : (lang : Language) (text rest : List ℕ) (s : Shape) → HeadShape lang text s rest → Begins lang s text rest
head_begins lang text rest s h = subst (λ (t : List ℕ). Begins lang s t rest) (sym h.text_is) (begins_with lang s h.front rest h.spelled (ends_stop rest h.ends))

pub head_leads : (lang : Language) (text after rest : List ℕ) (lead : Lead) (s : Shape) → IsLeadIn lang text (begins lead after) → HeadShape lang text s rest → Leads lang lead after rest s
head_leads lang text after rest lead s l h =
    let x = head_begins lang text rest s h in
    let same = same_Some (x.lead, x.after) (lead, after) (one_in lang text (begins x.lead x.after) (begins lead after) x.is_lead l) in
    subst (λ (p : Lead × List ℕ). Leads lang p.0 p.1 rest s) same x.leads

pub no_head : (lang : Language) (text : List ℕ) → IsLeadIn lang text None → (s : Shape) (rest : List ℕ) → HeadShape lang text s rest → ⊥
no_head lang text l s rest h =
    let x = head_begins lang text rest s h in
    none-some (x.lead, x.after) (one_in lang text None (begins x.lead x.after) l x.is_lead)

-- a text begins with one value
pub head_one : (lang : Language) (text rest tail : List ℕ) (s t : Shape) → HeadShape lang text s rest → HeadShape lang text t tail → (s ≡ t) × (rest ≡ tail)
head_one lang text rest tail s t h k = shape_one lang s t h.front rest k.front tail h.spelled (ends_stop rest h.ends) k.spelled (ends_stop tail k.ends) (sym h.text_is ∙ k.text_is)

-- ---- values without values inside

pub is_whole : (whole : Whole) → IsWhole (view_whole whole)
is_whole (wholes.Decimal digits) = tt
is_whole (wholes.Hexadecimal digits) = tt
is_whole (wholes.Negative digits) = tt
is_whole (wholes.Flag b) = tt
is_whole (wholes.Character c) = tt
is_whole (wholes.Quoted inside) = tt
is_whole (wholes.Interned name) = tt
is_whole (wholes.Bytes digits) = tt
is_whole wholes.Empty = tt
is_whole (wholes.Float text) = tt

pub whole_value : (lang : Language) (text after : List ℕ) (lead : Lead) → IsWhole lead → IsLeadIn lang text (begins lead after) → EndsThere after → (s : Shape) × HeadShape lang text s after × Leads lang lead after after s
whole_value lang text after lead w l ends =
    let f = whole_found lang text lead after w (found_in lang text lead after l) in
    (f.1, record { front = f.0; spelled = f.2; ends = ends; text_is = f.3 }, f.4)

pub whole_open : (lang : Language) (text after : List ℕ) (lead : Lead) → IsWhole lead → IsLeadIn lang text (begins lead after) → (EndsThere after → ⊥) → (s : Shape) (rest : List ℕ) → HeadShape lang text s rest → ⊥
whole_open lang text after lead w l goes s rest h =
    let f = whole_found lang text lead after w (found_in lang text lead after l) in
    goes (subst EndsThere (whole_same lang lead after rest after s f.1 w (head_leads lang text after rest lead s l h) f.4).1 h.ends)

-- ---- calls

pub call_value : (lang : Language) (text after name inside rest : List ℕ) (m : Option (List ℕ)) → IsLeadIn lang text (begins (call name m) after) → Encloses lang Round after inside rest → EndsThere rest → (v : Option ℕ) × (ss : Shapes) × HeadShape lang text (shapes.call name v ss) rest × IsMark m v × SpellsShapes lang inside ss
call_value lang text after name inside rest m l e ends =
    let f = found_in lang text (call name m) after l in
    let front : List ℕ = name ++ (f.0 ++ 40 ∷ (inside ++ 41 ∷ [])) in
    let whole : text ≡ front ++ rest =
    f.5 ∙ ap (λ (t : List ℕ). name ++ (f.0 ++ 40 ∷ t)) (e.text_is ∙ sym (append_assoc inside (41 ∷ []) rest))
    ∙ ap (λ (t : List ℕ). name ++ t) (sym (append_assoc f.0 (40 ∷ (inside ++ 41 ∷ [])) rest))
    ∙ sym (append_assoc name (f.0 ++ 40 ∷ (inside ++ 41 ∷ [])) rest) in
    (f.1, e.stands.0, record { front = front; spelled = (f.0, inside, f.2, f.3, e.stands.1, refl); ends = ends; text_is = whole }, f.4, e.stands.1)

pub call_none : (lang : Language) (text after name : List ℕ) (m : Option (List ℕ)) → IsLeadIn lang text (begins (call name m) after) → IsEnclosed lang Round after None → (s : Shape) (rest : List ℕ) → HeadShape lang text s rest → ⊥
call_none lang text after name m l none s rest h =
    let x = head_leads lang text after rest (call name m) s l h in
    none x.2 rest (record { stands = (x.1, x.5); text_is = x.6 })

pub call_open : (lang : Language) (text after name inside rest : List ℕ) (m : Option (List ℕ)) → IsLeadIn lang text (begins (call name m) after) → Encloses lang Round after inside rest → (EndsThere rest → ⊥) → (s : Shape) (tail : List ℕ) → HeadShape lang text s tail → ⊥
call_open lang text after name inside rest m l e goes s tail h =
    let x = head_leads lang text after tail (call name m) s l h in
    let same = shapes_one lang 41 (inl refl) x.1 e.stands.0 x.2 tail inside rest x.5 e.stands.1 (sym x.6 ∙ e.text_is) in
    goes (subst EndsThere same.1 h.ends)

-- ---- lists

pub sequence_value : (lang : Language) (text after name inside rest : List ℕ) → IsLeadIn lang text (begins (sequence name) after) → Encloses lang Square after inside rest → EndsThere rest → (items : Items) × HeadShape lang text (shapes.sequence name items) rest × StartsThere inside × SpellsItems lang inside items
sequence_value lang text after name inside rest l e ends =
    let f = found_in lang text (sequence name) after l in
    let front : List ℕ = name ++ 91 ∷ (inside ++ 93 ∷ []) in
    let whole : text ≡ front ++ rest =
    f.1 ∙ ap (λ (t : List ℕ). name ++ 91 ∷ t) (e.text_is ∙ sym (append_assoc inside (93 ∷ []) rest)) ∙ sym (append_assoc name (91 ∷ (inside ++ 93 ∷ [])) rest) in
    (e.stands.0, record { front = front; spelled = (inside, f.0, e.stands.1, e.stands.2, refl); ends = ends; text_is = whole }, e.stands.1, e.stands.2)

pub sequence_none : (lang : Language) (text after name : List ℕ) → IsLeadIn lang text (begins (sequence name) after) → IsEnclosed lang Square after None → (s : Shape) (rest : List ℕ) → HeadShape lang text s rest → ⊥
sequence_none lang text after name l none s rest h =
    let x = head_leads lang text after rest (sequence name) s l h in
    none x.1 rest (record { stands = (x.0, x.3, x.4); text_is = x.5 })

pub sequence_open : (lang : Language) (text after name inside rest : List ℕ) → IsLeadIn lang text (begins (sequence name) after) → Encloses lang Square after inside rest → (EndsThere rest → ⊥) → (s : Shape) (tail : List ℕ) → HeadShape lang text s tail → ⊥
sequence_open lang text after name inside rest l e goes s tail h =
    let x = head_leads lang text after tail (sequence name) s l h in
    let same = items_one lang x.0 e.stands.0 x.1 tail inside rest x.4 e.stands.2 (sym x.5 ∙ e.text_is) in
    goes (subst EndsThere same.1 h.ends)

-- ---- Format values between angles

pub nodes_value : (lang : Language) (text after inside rest : List ℕ) → IsLeadIn lang text (begins nodes after) → Encloses lang Angle after inside rest → EndsThere rest → (ss : Shapes) × HeadShape lang text (shapes.nodes ss) rest × AreCalls ss × SpellsShapes lang inside ss
nodes_value lang text after inside rest l e ends =
    let f = found_in lang text nodes after l in
    let front : List ℕ = 60 ∷ (inside ++ 62 ∷ []) in
    let whole : text ≡ front ++ rest = f.1 ∙ ap (λ (t : List ℕ). 60 ∷ t) (e.text_is ∙ sym (append_assoc inside (62 ∷ []) rest)) in
    (e.stands.0, record { front = front; spelled = (inside, f.0, e.stands.1, e.stands.2, refl); ends = ends; text_is = whole }, e.stands.1, e.stands.2)

pub nodes_none : (lang : Language) (text after : List ℕ) → IsLeadIn lang text (begins nodes after) → IsEnclosed lang Angle after None → (s : Shape) (rest : List ℕ) → HeadShape lang text s rest → ⊥
nodes_none lang text after l none s rest h =
    let x = head_leads lang text after rest nodes s l h in
    none x.1 rest (record { stands = (x.0, x.4, x.5); text_is = x.6 })

pub nodes_open : (lang : Language) (text after inside rest : List ℕ) → IsLeadIn lang text (begins nodes after) → Encloses lang Angle after inside rest → (EndsThere rest → ⊥) → (s : Shape) (tail : List ℕ) → HeadShape lang text s tail → ⊥
nodes_open lang text after inside rest l e goes s tail h =
    let x = head_leads lang text after tail nodes s l h in
    let same = shapes_one lang 62 (inr refl) x.0 e.stands.0 x.1 tail inside rest x.5 e.stands.2 (sym x.6 ∙ e.text_is) in
    goes (subst EndsThere same.1 h.ends)

-- ---- elements

abbrev parted : Option (List ℕ) → List ℕ → Option (Option (List ℕ) × List ℕ)
parted m after = Some (m, after)

pub item_value : (lang : Language) (text after inside rest : List ℕ) (m : Option (List ℕ)) → parted m after ≡ item_of text → Encloses lang Round after inside rest → EndsThere rest → (v : Option ℕ) × (ss : Shapes) × HeadItem lang text v ss rest × IsMark m v × SpellsShapes lang inside ss
item_value lang text after inside rest m i e ends =
    let f = item_found text (m, after) (sym i) in
    (f.variant, e.stands.0, record { mark = f.mark; inside = inside; is_mark = f.is_mark; spelled = e.stands.1; ends = ends; text_is = f.text_is ∙ ap (λ (t : List ℕ). f.mark ++ 40 ∷ t) e.text_is }, f.means, e.stands.1)

reads_item : (lang : Language) (text rest : List ℕ) (v : Option ℕ) (ss : Shapes) (h : HeadItem lang text v ss rest) → (m : Option (List ℕ)) × (item_of text ≡ parted m (h.inside ++ 41 ∷ rest))
reads_item lang text rest v ss h =
    let k = item_again h.mark (h.inside ++ 41 ∷ rest) v h.is_mark in
    (k.0, ap item_of h.text_is ∙ k.2)

pub no_item : (lang : Language) (text : List ℕ) → None ≡ item_of text → (v : Option ℕ) (ss : Shapes) (rest : List ℕ) → HeadItem lang text v ss rest → ⊥
no_item lang text i v ss rest h = let k = reads_item lang text rest v ss h in none-some (k.0, h.inside ++ 41 ∷ rest) (i ∙ k.1)

item_after : (lang : Language) (text after rest : List ℕ) (m : Option (List ℕ)) (v : Option ℕ) (ss : Shapes) (h : HeadItem lang text v ss rest) → parted m after ≡ item_of text → after ≡ h.inside ++ 41 ∷ rest
item_after lang text after rest m v ss h i =
    let k = reads_item lang text rest v ss h in
    ap (λ (p : Option (List ℕ) × List ℕ). p.1) (same_Some (m, after) (k.0, h.inside ++ 41 ∷ rest) (i ∙ k.1))

pub item_none : (lang : Language) (text after : List ℕ) (m : Option (List ℕ)) → parted m after ≡ item_of text → IsEnclosed lang Round after None → (v : Option ℕ) (ss : Shapes) (rest : List ℕ) → HeadItem lang text v ss rest → ⊥
item_none lang text after m i none v ss rest h = none h.inside rest (record { stands = (ss, h.spelled); text_is = item_after lang text after rest m v ss h i })

pub item_open : (lang : Language) (text after inside rest : List ℕ) (m : Option (List ℕ)) → parted m after ≡ item_of text → Encloses lang Round after inside rest → (EndsThere rest → ⊥) → (v : Option ℕ) (ss : Shapes) (tail : List ℕ) → HeadItem lang text v ss tail → ⊥
item_open lang text after inside rest m i e goes v ss tail h =
    let same = shapes_one lang 41 (inl refl) ss e.stands.0 h.inside tail inside rest h.spelled e.stands.1 (sym (item_after lang text after tail m v ss h i) ∙ e.text_is) in
    goes (subst EndsThere same.1 h.ends)

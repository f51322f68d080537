-- A text spells at most one shape.
use Rattle.std.proofs.Common.{◌≡◌, ◌≢◌, ℕ, List, [], ◌∷◌, ◌++◌, refl, sym, ap, subst, ◌∙◌, arith, Option, Some, None, inl, inr, append_assoc}
use Rattle.std.proofs.lemmas.Option.{same_Some, none-some}
use Rattle.defmt_grammar.specs.Cut.{AreSpaces, behind, skip_spaces}
use Rattle.defmt_grammar.proofs.Cuts.{skip_again}
use Rattle.defmt_grammar.specs.declared.language.Language.{Language}
use Rattle.defmt_shapes.specs.Shape.{Shape, Shapes, Items, no_shapes, shape, no_items, item, SpellsShape, SpellsShapes, SpellsItems, EndsThere, HeadShape}
use Rattle.defmt_shapes.specs.Shape as shapes
use Rattle.defmt_shapes.specs.Runs.{run}
use Rattle.defmt_shapes.specs.Leads.{Lead, IsLeadIn, item_of, IsMark, Leads}
use Rattle.defmt_shapes.specs.Leads as leads
use Rattle.defmt_shapes.proofs.LeadForms.{StopsThere}
use Rattle.defmt_shapes.proofs.LeadAgain.{begins}
use Rattle.defmt_shapes.proofs.BeginLaws.{begins_with}
use Rattle.defmt_shapes.proofs.FullLeads.{one_in}
use Rattle.defmt_shapes.proofs.ShapeLaws.{IsClosing, closing_no_space, not_closing, value_starts, skip_more, skip_all, first_shape, mark_starts, starts_skip}
use Rattle.defmt_shapes.proofs.ScanLaws.{item_again}
use Rattle.defmt_shapes.proofs.OneLead.{IsPlain, call_lead, mark_one, nodes_lead, plain_lead, sequence_lead, whole_same}

-- ---- two readings of one text

pub record TwoLeads (lang : Language) (s t : Shape) (rest tail : List ℕ) : Type 0 where
  pub lead : Lead
  pub after : List ℕ
  pub left : Leads lang lead after rest s
  pub right : Leads lang lead after tail t

two_leads : (lang : Language) (s t : Shape) (front rest fore tail : List ℕ) → SpellsShape lang front s → StopsThere rest → SpellsShape lang fore t → StopsThere tail → front ++ rest ≡ fore ++ tail → TwoLeads lang s t rest tail
two_leads lang s t front rest fore tail h a k b e =
    let x = begins_with lang s front rest h a in
    let y = begins_with lang t fore tail k b in
    let same = same_Some (x.lead, x.after) (y.lead, y.after) (one_in lang (fore ++ tail) (begins x.lead x.after) (begins y.lead y.after) (subst (λ (u : List ℕ). IsLeadIn lang u (begins x.lead x.after)) e x.is_lead) y.is_lead) in
    record { lead = y.lead; after = y.after; left = subst (λ (p : Lead × List ℕ). Leads lang p.0 p.1 rest s) same x.leads; right = y.leads }

pub record TwoCalls (lang : Language) (name : List ℕ) (v : Option ℕ) (ss : Shapes) (t : Shape) (rest tail : List ℕ) : Type 0 where
  pub others : Shapes
  pub t_is : shapes.call name v others ≡ t
  pub inside : List ℕ
  pub within : List ℕ
  pub left : SpellsShapes lang inside ss
  pub right : SpellsShapes lang within others
  pub same : inside ++ 41 ∷ rest ≡ within ++ 41 ∷ tail

two_calls : (lang : Language) (name : List ℕ) (v : Option ℕ) (ss : Shapes) (t : Shape) (rest tail : List ℕ) → TwoLeads lang (shapes.call name v ss) t rest tail → TwoCalls lang name v ss t rest tail
two_calls lang name v ss t rest tail h =
    let c = call_lead lang h.lead h.after rest name v ss h.left in
    let r : Leads lang (leads.call name c.mark) h.after tail t = subst (λ (l : Lead). Leads lang l h.after tail t) c.lead_is h.right in
    record {
      others = r.1;
      t_is = ap (λ (x : Option ℕ). shapes.call name x r.1) (mark_one c.mark v r.0 c.means r.4) ∙ sym r.3;
      inside = c.inside;
      within = r.2;
      left = c.spelled;
      right = r.5;
      same = sym c.after_is ∙ r.6;
    }

pub record TwoSequences (lang : Language) (name : List ℕ) (items : Items) (t : Shape) (rest tail : List ℕ) : Type 0 where
  pub others : Items
  pub t_is : shapes.sequence name others ≡ t
  pub inside : List ℕ
  pub within : List ℕ
  pub left : SpellsItems lang inside items
  pub right : SpellsItems lang within others
  pub same : inside ++ 93 ∷ rest ≡ within ++ 93 ∷ tail

two_sequences : (lang : Language) (name : List ℕ) (items : Items) (t : Shape) (rest tail : List ℕ) → TwoLeads lang (shapes.sequence name items) t rest tail → TwoSequences lang name items t rest tail
two_sequences lang name items t rest tail h =
    let c = sequence_lead lang h.lead h.after rest name items h.left in
    let r : Leads lang (leads.sequence name) h.after tail t = subst (λ (l : Lead). Leads lang l h.after tail t) c.lead_is h.right in
    record { others = r.0; t_is = sym r.2; inside = c.inside; within = r.1; left = c.spelled; right = r.4; same = sym c.after_is ∙ r.5 }

pub record TwoNodes (lang : Language) (ss : Shapes) (t : Shape) (rest tail : List ℕ) : Type 0 where
  pub others : Shapes
  pub t_is : shapes.nodes others ≡ t
  pub inside : List ℕ
  pub within : List ℕ
  pub left : SpellsShapes lang inside ss
  pub right : SpellsShapes lang within others
  pub same : inside ++ 62 ∷ rest ≡ within ++ 62 ∷ tail

two_nodes : (lang : Language) (ss : Shapes) (t : Shape) (rest tail : List ℕ) → TwoLeads lang (shapes.nodes ss) t rest tail → TwoNodes lang ss t rest tail
two_nodes lang ss t rest tail h =
    let c = nodes_lead lang h.lead h.after rest ss h.left in
    let r : Leads lang leads.nodes h.after tail t = subst (λ (l : Lead). Leads lang l h.after tail t) c.lead_is h.right in
    record { others = r.0; t_is = sym r.2; inside = c.inside; within = r.1; left = c.spelled; right = r.5; same = sym c.after_is ∙ r.6 }

pub stops_inside : (close : ℕ) (more after : List ℕ) → IsClosing close → EndsThere more → StopsThere (more ++ close ∷ after)
stops_inside close [] after is h = inr is
stops_inside close (c ∷ cs) after is h = inl h

-- values up to the bracket that closes them
pub record TwoFirsts (lang : Language) (close : ℕ) (s : Shape) (ss : Shapes) (t : Shape) (tt' : Shapes) (rest tail : List ℕ) : Type 0 where
  pub front : List ℕ
  pub more : List ℕ
  pub fore : List ℕ
  pub others : List ℕ
  pub left : SpellsShape lang front s
  pub left_ends : EndsThere more
  pub left_more : SpellsShapes lang more ss
  pub right : SpellsShape lang fore t
  pub right_ends : EndsThere others
  pub right_more : SpellsShapes lang others tt'
  pub same : front ++ (more ++ close ∷ rest) ≡ fore ++ (others ++ close ∷ tail)

first_part : (lang : Language) (close : ℕ) → IsClosing close → (inside rest : List ℕ) (s : Shape) (k : (more : List ℕ) × HeadShape lang (skip_spaces inside) s more × Unit {0}) → skip_spaces (inside ++ close ∷ rest) ≡ k.1.front ++ (k.0 ++ close ∷ rest)
first_part lang close is inside rest s k = skip_more inside rest close (closing_no_space close is) ∙ ap (λ (t : List ℕ). t ++ close ∷ rest) k.1.text_is ∙ append_assoc k.1.front k.0 (close ∷ rest)

two_firsts : (lang : Language) (close : ℕ) → IsClosing close → (s : Shape) (ss : Shapes) (t : Shape) (tt' : Shapes) (inside rest fore tail : List ℕ) → SpellsShapes lang inside (shape s ss) → SpellsShapes lang fore (shape t tt') → inside ++ close ∷ rest ≡ fore ++ close ∷ tail → TwoFirsts lang close s ss t tt' rest tail
two_firsts lang close is s ss t tt' inside rest fore tail h k e =
    let x = first_shape lang inside s ss h in
    let y = first_shape lang fore t tt' k in
    record {
      front = x.1.front;
      more = x.0;
      fore = y.1.front;
      others = y.0;
      left = x.1.spelled;
      left_ends = x.1.ends;
      left_more = x.2;
      right = y.1.spelled;
      right_ends = y.1.ends;
      right_more = y.2;
      same = sym (first_part lang close is inside rest s (x.0, x.1, tt)) ∙ ap skip_spaces e ∙ first_part lang close is fore tail t (y.0, y.1, tt);
    }

-- no value begins where the bracket closes
no_value : (lang : Language) (close : ℕ) → IsClosing close → (s : Shape) (ss : Shapes) (inside rest fore tail : List ℕ) → SpellsShapes lang fore no_shapes → SpellsShapes lang inside (shape s ss) → inside ++ close ∷ rest ≡ fore ++ close ∷ tail → ⊥
no_value lang close is s ss inside rest fore tail none h e =
    let x = first_shape lang inside s ss h in
    let f = value_starts lang s x.1.front x.1.spelled in
    let whole : f.first ∷ (f.more ++ (x.0 ++ close ∷ rest)) ≡ close ∷ tail =
    ap (λ (t : List ℕ). t ++ (x.0 ++ close ∷ rest)) (sym f.text_is) ∙ sym (first_part lang close is inside rest s (x.0, x.1, tt)) ∙ ap skip_spaces e
    ∙ skip_more fore tail close (closing_no_space close is) ∙ ap (λ (t : List ℕ). t ++ close ∷ tail) (skip_all fore none) in
    not_closing x.1.front f close is (let k : f.first ≡ close = cc in k)

both_closed : (close : ℕ) → IsClosing close → (inside rest fore tail : List ℕ) → AreSpaces inside → AreSpaces fore → inside ++ close ∷ rest ≡ fore ++ close ∷ tail → rest ≡ tail
both_closed close is inside rest fore tail h k e =
    let whole : close ∷ rest ≡ close ∷ tail =
    ap (λ (t : List ℕ). t ++ close ∷ rest) (sym (skip_all inside h)) ∙ sym (skip_more inside rest close (closing_no_space close is)) ∙ ap skip_spaces e
    ∙ skip_more fore tail close (closing_no_space close is) ∙ ap (λ (t : List ℕ). t ++ close ∷ tail) (skip_all fore k) in
    let f : rest ≡ tail = cc in f

-- ---- elements up to their `]`

square_no_space : ◌≢◌ {A = ℕ} 93 32
square_no_space e = omega arith

pub record ItemParts (lang : Language) (v : Option ℕ) (ss : Shapes) (more : Items) (text rest : List ℕ) : Type 0 where
  pub mark : Option (List ℕ)
  pub means : IsMark mark v
  pub inside : List ℕ
  pub others : List ℕ
  pub spelled : SpellsShapes lang inside ss
  pub spelled_more : SpellsItems lang others more
  pub read : item_of (skip_spaces (text ++ 93 ∷ rest)) ≡ Some (mark, inside ++ 41 ∷ (others ++ 93 ∷ rest))

item_parts : (lang : Language) (v : Option ℕ) (ss : Shapes) (more : Items) (text rest : List ℕ) → SpellsItems lang text (item v ss more) → ItemParts lang v ss more text rest
item_parts lang v ss more text rest (spaces, mark, inside, others, a, im, spelled, ends, last, e) =
    let body : List ℕ = mark ++ 40 ∷ (inside ++ 41 ∷ others) in
    let k = item_again mark (inside ++ 41 ∷ (others ++ 93 ∷ rest)) v im in
    let skipped : skip_spaces text ≡ body = ap skip_spaces e ∙ skip_again spaces body a (starts_skip body (mark_starts mark (inside ++ 41 ∷ others) v im)) in
    let whole : skip_spaces (text ++ 93 ∷ rest) ≡ mark ++ 40 ∷ (inside ++ 41 ∷ (others ++ 93 ∷ rest)) =
    skip_more text rest 93 square_no_space ∙ ap (λ (t : List ℕ). t ++ 93 ∷ rest) skipped ∙ append_assoc mark (40 ∷ (inside ++ 41 ∷ others)) (93 ∷ rest)
    ∙ ap (λ (t : List ℕ). mark ++ 40 ∷ t) (append_assoc inside (41 ∷ others) (93 ∷ rest)) in
    record { mark = k.0; means = k.1; inside = inside; others = others; spelled = spelled; spelled_more = last; read = ap item_of whole ∙ k.2 }

no_item : (rest : List ℕ) → item_of (skip_spaces (93 ∷ rest)) ≡ None
unfolding item_of run behind skip_spaces
no_item rest = refl

closed_first : (lang : Language) (v : Option ℕ) (ss : Shapes) (more : Items) (text rest fore tail : List ℕ) → fore ≡ [] → SpellsItems lang text (item v ss more) → text ++ 93 ∷ rest ≡ fore ++ 93 ∷ tail → ⊥
closed_first lang v ss more text rest fore tail none h e =
    let x = item_parts lang v ss more text rest h in
    none-some (x.mark, x.inside ++ 41 ∷ (x.others ++ 93 ∷ rest))
    (sym (no_item tail) ∙ ap (λ (t : List ℕ). item_of (skip_spaces t)) (ap (λ (t : List ℕ). t ++ 93 ∷ tail) (sym none) ∙ sym e) ∙ x.read)

both_ended : (inside rest fore tail : List ℕ) → inside ≡ [] → fore ≡ [] → inside ++ 93 ∷ rest ≡ fore ++ 93 ∷ tail → rest ≡ tail
both_ended inside rest fore tail h k e =
    let whole : 93 ∷ rest ≡ 93 ∷ tail = ap (λ (t : List ℕ). t ++ 93 ∷ rest) (sym h) ∙ e ∙ ap (λ (t : List ℕ). t ++ 93 ∷ tail) k in
    let f : rest ≡ tail = cc in f

pub record TwoItems (lang : Language) (v : Option ℕ) (ss : Shapes) (more : Items) (w : Option ℕ) (tt' : Shapes) (others : Items) (rest tail : List ℕ) : Type 0 where
  pub variant : v ≡ w
  pub inside : List ℕ
  pub within : List ℕ
  pub left : SpellsShapes lang inside ss
  pub right : SpellsShapes lang within tt'
  pub last : List ℕ
  pub final : List ℕ
  pub left_more : SpellsItems lang last more
  pub right_more : SpellsItems lang final others
  pub same : inside ++ 41 ∷ (last ++ 93 ∷ rest) ≡ within ++ 41 ∷ (final ++ 93 ∷ tail)

two_items : (lang : Language) (v : Option ℕ) (ss : Shapes) (more : Items) (w : Option ℕ) (tt' : Shapes) (others : Items) (text rest fore tail : List ℕ) → SpellsItems lang text (item v ss more) → SpellsItems lang fore (item w tt' others) → text ++ 93 ∷ rest ≡ fore ++ 93 ∷ tail → TwoItems lang v ss more w tt' others rest tail
two_items lang v ss more w tt' others text rest fore tail h k e =
    let x = item_parts lang v ss more text rest h in
    let y = item_parts lang w tt' others fore tail k in
    let p : Option (List ℕ) × List ℕ = (x.mark, x.inside ++ 41 ∷ (x.others ++ 93 ∷ rest)) in
    let q : Option (List ℕ) × List ℕ = (y.mark, y.inside ++ 41 ∷ (y.others ++ 93 ∷ tail)) in
    let same : p ≡ q = same_Some p q (sym x.read ∙ ap (λ (t : List ℕ). item_of (skip_spaces t)) e ∙ y.read) in
    record {
      variant = mark_one y.mark v w (subst (λ (m : Option (List ℕ)). IsMark m v) (ap (λ (r : Option (List ℕ) × List ℕ). r.0) same) x.means) y.means;
      inside = x.inside;
      within = y.inside;
      left = x.spelled;
      right = y.spelled;
      last = x.others;
      final = y.others;
      left_more = x.spelled_more;
      right_more = y.spelled_more;
      same = ap (λ (r : Option (List ℕ) × List ℕ). r.1) same;
    }

-- ---- one reading

plain_one : (lang : Language) (s t : Shape) (front rest fore tail : List ℕ) → IsPlain s → SpellsShape lang front s → StopsThere rest → SpellsShape lang fore t → StopsThere tail → front ++ rest ≡ fore ++ tail → (s ≡ t) × (rest ≡ tail)
plain_one lang s t front rest fore tail p h a k b e =
    let x = two_leads lang s t front rest fore tail h a k b e in
    whole_same lang x.lead x.after rest tail s t (plain_lead lang x.lead x.after rest s p x.left) x.left x.right

mutual
  pub shape_one : (lang : Language) (s t : Shape) (front rest fore tail : List ℕ) → SpellsShape lang front s → StopsThere rest → SpellsShape lang fore t → StopsThere tail → front ++ rest ≡ fore ++ tail → (s ≡ t) × (rest ≡ tail)
  shape_one lang (shapes.call name v ss) t front rest fore tail h a k b e =
      let x = two_calls lang name v ss t rest tail (two_leads lang (shapes.call name v ss) t front rest fore tail h a k b e) in
      let y = shapes_one lang 41 (inl refl) ss x.others x.inside rest x.within tail x.left x.right x.same in
      (ap (λ (u : Shapes). shapes.call name v u) y.0 ∙ x.t_is, y.1)
  shape_one lang (shapes.sequence name items) t front rest fore tail h a k b e =
      let x = two_sequences lang name items t rest tail (two_leads lang (shapes.sequence name items) t front rest fore tail h a k b e) in
      let y = items_one lang items x.others x.inside rest x.within tail x.left x.right x.same in
      (ap (λ (u : Items). shapes.sequence name u) y.0 ∙ x.t_is, y.1)
  shape_one lang (shapes.nodes ss) t front rest fore tail h a k b e =
      let x = two_nodes lang ss t rest tail (two_leads lang (shapes.nodes ss) t front rest fore tail h a k b e) in
      let y = shapes_one lang 62 (inr refl) ss x.others x.inside rest x.within tail x.left x.right x.same in
      (ap (λ (u : Shapes). shapes.nodes u) y.0 ∙ x.t_is, y.1)
  shape_one lang s t front rest fore tail h a k b e = plain_one lang s t front rest fore tail tt h a k b e

  pub shapes_one : (lang : Language) (close : ℕ) → IsClosing close → (ss tt' : Shapes) (inside rest fore tail : List ℕ) → SpellsShapes lang inside ss → SpellsShapes lang fore tt' → inside ++ close ∷ rest ≡ fore ++ close ∷ tail → (ss ≡ tt') × (rest ≡ tail)
  shapes_one lang close is no_shapes no_shapes inside rest fore tail h k e = (refl, both_closed close is inside rest fore tail h k e)
  shapes_one lang close is no_shapes (shape t tt') inside rest fore tail h k e = absurd (no_value lang close is t tt' fore tail inside rest h k (sym e))
  shapes_one lang close is (shape s ss) no_shapes inside rest fore tail h k e = absurd (no_value lang close is s ss inside rest fore tail k h e)
  shapes_one lang close is (shape s ss) (shape t tt') inside rest fore tail h k e =
      let x = two_firsts lang close is s ss t tt' inside rest fore tail h k e in
      let y = shape_one lang s t x.front (x.more ++ close ∷ rest) x.fore (x.others ++ close ∷ tail) x.left (stops_inside close x.more rest is x.left_ends) x.right (stops_inside close x.others tail is x.right_ends) x.same in
      let z = shapes_one lang close is ss tt' x.more rest x.others tail x.left_more x.right_more y.1 in
      (ap (λ (u : Shape). shape u ss) y.0 ∙ ap (λ (u : Shapes). shape t u) z.0, z.1)

  pub items_one : (lang : Language) (items jtems : Items) (inside rest fore tail : List ℕ) → SpellsItems lang inside items → SpellsItems lang fore jtems → inside ++ 93 ∷ rest ≡ fore ++ 93 ∷ tail → (items ≡ jtems) × (rest ≡ tail)
  items_one lang no_items no_items inside rest fore tail h k e = (refl, both_ended inside rest fore tail h k e)
  items_one lang no_items (item w tt' others) inside rest fore tail h k e = absurd (closed_first lang w tt' others fore tail inside rest h k (sym e))
  items_one lang (item v ss more) no_items inside rest fore tail h k e = absurd (closed_first lang v ss more inside rest fore tail k h e)
  items_one lang (item v ss more) (item w tt' others) inside rest fore tail h k e =
      let x = two_items lang v ss more w tt' others inside rest fore tail h k e in
      let y = shapes_one lang 41 (inl refl) ss tt' x.inside (x.last ++ 93 ∷ rest) x.within (x.final ++ 93 ∷ tail) x.left x.right x.same in
      let z = items_one lang more others x.last rest x.final tail x.left_more x.right_more y.1 in
      (ap (λ (u : Option ℕ). item u ss more) x.variant ∙ ap (λ (u : Shapes). item w u more) y.0 ∙ ap (λ (u : Items). item w tt' u) z.0, z.1)

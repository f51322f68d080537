-- What stands between brackets: where the text is enclosed, each step goes on to its end.
use Rattle.std.proofs.Common.{◌≡◌, ◌≢◌, ℕ, List, [], ◌∷◌, ◌++◌, refl, sym, ap, subst, ◌∙◌, arith, Option, Some, None, inl, append_assoc}
use Rattle.std.proofs.lemmas.Option.{none-some}
use Rattle.defmt_grammar.specs.Cut.{skip_spaces}
use Rattle.defmt_grammar.proofs.Cuts.{behind_again, skip_again}
use Rattle.defmt_grammar.specs.declared.language.Language.{Language}
use Rattle.defmt_shapes.specs.declared.scan.Bracket.{Bracket}
use Rattle.defmt_shapes.specs.declared.scan.Bracket.TheVariants.{Round, Square, Angle}
use Rattle.defmt_shapes.specs.declared.scan.Place.TheVariants.{Before, After}
use Rattle.defmt_shapes.specs.declared.scan.Step.{Step}
use Rattle.defmt_shapes.specs.declared.scan.Step.TheVariants.{Begin, End, Open, Close}
use Rattle.defmt_shapes.specs.Shape.{Shape, Shapes, Items, no_shapes, shape, no_items, item, SpellsShape, SpellsShapes, SpellsItems, EndsThere, StartsThere}
use Rattle.defmt_shapes.specs.Leads.{Lead, IsLeadIn, item_of, Leads}
use Rattle.defmt_shapes.specs.Leads as leads
use Rattle.defmt_shapes.specs.Scan.{closing, MayStand, step_of_lead, lead_step, after_step, item_step, IsValueStep, Leaves, LeavesAt}
use Rattle.defmt_shapes.proofs.EscapeLaws.{behind_other}
use Rattle.defmt_shapes.proofs.LeadAgain.{begins}
use Rattle.defmt_shapes.proofs.BeginLaws.{begins_with}
use Rattle.defmt_shapes.proofs.FullLeads.{one_in}
use Rattle.defmt_shapes.proofs.ShapeLaws.{value_starts, skip_more, shapes_skip, skip_one, mark_starts, starts_skip}
use Rattle.defmt_shapes.proofs.ScanLaws.{goes_on, item_again}
use Rattle.defmt_shapes.proofs.OneLaws.{stops_inside}

abbrev pub LeavesNext : (lang : Language) → Bracket → List Bracket → Step → List ℕ → List ℕ → Type 0
LeavesNext lang b bs Begin rest end = LeavesAt lang b bs Before rest end
LeavesNext lang b bs End rest end = LeavesAt lang b bs After rest end
LeavesNext lang b bs (Open c) rest end = LeavesAt lang c (b ∷ bs) Before rest end
LeavesNext lang b bs Close rest end = Leaves lang bs rest end

pub record HasStep (lang : Language) (b : Bracket) (bs : List Bracket) (o : Option (Step × List ℕ)) (end : List ℕ) : Type 0 where
  pub step : Step
  pub after : List ℕ
  pub goes : o ≡ goes_on step after
  pub leaves : LeavesNext lang b bs step after end

-- ---- behind a value or an element

pub no_space : (b : Bracket) → closing b ≢ 32
no_space Round = λ e. omega arith
no_space Square = λ e. omega arith
no_space Angle = λ e. omega arith

pub close_step : (b : Bracket) (after : List ℕ) → after_step b (closing b ∷ after) ≡ goes_on Close after
close_step b after = rw (behind_again (closing b) after) refl

pub space_step : (b : Bracket) (more : List ℕ) → after_step b (32 ∷ more) ≡ goes_on Begin (skip_spaces more)
space_step b more = rw (behind_other (closing b) 32 more (λ e. no_space b (sym e)), behind_again 32 more) refl

pub has_close : (lang : Language) (b : Bracket) (bs : List Bracket) (inside after rest end : List ℕ) (o : Option (Step × List ℕ)) → inside ≡ [] → rest ≡ inside ++ closing b ∷ after → Leaves lang bs after end → o ≡ after_step b rest → HasStep lang b bs o end
has_close lang b bs inside after rest end o i e l s = record {
  step = Close;
  after = after;
  goes = s ∙ ap (after_step b) (e ∙ ap (λ (t : List ℕ). t ++ closing b ∷ after) i) ∙ close_step b after;
  leaves = l;
}

pub has_space : (lang : Language) (b : Bracket) (bs : List Bracket) (inside t after rest end : List ℕ) (o : Option (Step × List ℕ)) → inside ≡ 32 ∷ t → rest ≡ inside ++ closing b ∷ after → MayStand lang b Before (skip_spaces t) → Leaves lang bs after end → o ≡ after_step b rest → HasStep lang b bs o end
has_space lang b bs inside t after rest end o i e m l s = record {
  step = Begin;
  after = skip_spaces (t ++ closing b ∷ after);
  goes = s ∙ ap (after_step b) (e ∙ ap (λ (x : List ℕ). x ++ closing b ∷ after) i) ∙ space_step b (t ++ closing b ∷ after);
  leaves = record { inside = skip_spaces t; after = after; rest_is = skip_more t after (closing b) (no_space b); stands = m; outer = l };
}

-- spaces or nothing, where no value follows
has_none : (lang : Language) (bs : List Bracket) (inside after rest end : List ℕ) (o : Option (Step × List ℕ)) → SpellsShapes lang inside no_shapes → rest ≡ inside ++ 41 ∷ after → Leaves lang bs after end → o ≡ after_step Round rest → HasStep lang Round bs o end
has_none lang bs [] after rest end o h e l s = has_close lang Round bs [] after rest end o refl e l s
has_none lang bs (c ∷ t) after rest end o h e l s =
    has_space lang Round bs (c ∷ t) t after rest end o (ap (λ (x : ℕ). x ∷ t) h.0) e (no_shapes, shapes_skip lang t no_shapes h.1) l s

-- spaces in front of a value
has_spaced : (lang : Language) (bs : List Bracket) (inside t after rest end : List ℕ) (ss : Shapes) (o : Option (Step × List ℕ)) → SpellsShapes lang inside ss → inside ≡ 32 ∷ t → rest ≡ inside ++ 41 ∷ after → Leaves lang bs after end → o ≡ after_step Round rest → HasStep lang Round bs o end
has_spaced lang bs inside t after rest end ss o h i e l s =
    let k : SpellsShapes lang (skip_spaces t) ss = subst (λ (x : List ℕ). SpellsShapes lang x ss) (ap skip_spaces i ∙ skip_one t) (shapes_skip lang inside ss h) in
    has_space lang Round bs inside t after rest end o i e (ss, k) l s

-- ---- a value

pub after_none : (text more : List ℕ) (c : ℕ) → text ≡ c ∷ more → c ≢ 32 → c ≢ 41 → after_step Round text ≡ None
after_none text more c e n m = ap (after_step Round) e ∙ rw (behind_other 41 c more m, behind_other 32 c more n) refl

lead_leaves : (lang : Language) (lead : Lead) (bs : List Bracket) (after tail end : List ℕ) (s : Shape) → Leads lang lead after tail s → LeavesAt lang Round bs After tail end → LeavesNext lang Round bs (step_of_lead lead) after end
lead_leaves lang (leads.decimal digits) bs after tail end s h k = subst (λ (t : List ℕ). LeavesAt lang Round bs After t end) (sym h.3) k
lead_leaves lang (leads.hexadecimal digits) bs after tail end s h k = subst (λ (t : List ℕ). LeavesAt lang Round bs After t end) (sym h.3) k
lead_leaves lang (leads.negative digits) bs after tail end s h k = subst (λ (t : List ℕ). LeavesAt lang Round bs After t end) (sym h.3) k
lead_leaves lang (leads.flag b) bs after tail end s h k = subst (λ (t : List ℕ). LeavesAt lang Round bs After t end) (sym h.1) k
lead_leaves lang (leads.character c) bs after tail end s h k = subst (λ (t : List ℕ). LeavesAt lang Round bs After t end) (sym h.1) k
lead_leaves lang (leads.quoted inside) bs after tail end s h k = subst (λ (t : List ℕ). LeavesAt lang Round bs After t end) (sym h.3) k
lead_leaves lang (leads.interned name) bs after tail end s h k = subst (λ (t : List ℕ). LeavesAt lang Round bs After t end) (sym h.1) k
lead_leaves lang (leads.bytes digits) bs after tail end s h k = subst (λ (t : List ℕ). LeavesAt lang Round bs After t end) (sym h.3) k
lead_leaves lang leads.empty bs after tail end s h k = subst (λ (t : List ℕ). LeavesAt lang Round bs After t end) (sym h.1) k
lead_leaves lang (leads.float x) bs after tail end s h k = subst (λ (t : List ℕ). LeavesAt lang Round bs After t end) (sym h.3) k
lead_leaves lang leads.nodes bs after tail end s (ss, inside, e, full, calls, spelled, f) k = record {
  inside = inside;
  after = tail;
  rest_is = f;
  stands = (ss, calls, spelled);
  outer = (k.inside, k.after, k.rest_is, k.stands, k.outer);
}
lead_leaves lang (leads.call name m) bs after tail end s (v, ss, inside, e, means, spelled, f) k = record {
  inside = inside;
  after = tail;
  rest_is = f;
  stands = (ss, spelled);
  outer = (k.inside, k.after, k.rest_is, k.stands, k.outer);
}
lead_leaves lang (leads.sequence name) bs after tail end s (items, inside, e, starts, spelled, f) k = record {
  inside = inside;
  after = tail;
  rest_is = f;
  stands = (items, starts, spelled);
  outer = (k.inside, k.after, k.rest_is, k.stands, k.outer);
}

has_value : (lang : Language) (bs : List Bracket) (s : Shape) (ss : Shapes) (front more after rest end : List ℕ) (o : Option (Step × List ℕ)) → SpellsShape lang front s → EndsThere more → SpellsShapes lang more ss → rest ≡ front ++ (more ++ 41 ∷ after) → Leaves lang bs after end → IsValueStep lang rest (after_step Round rest) o → HasStep lang Round bs o end
has_value lang bs s ss front more after rest end o spelled ends others e l v =
    let f = value_starts lang s front spelled in
    let none : after_step Round rest ≡ None = after_none rest (f.more ++ (more ++ 41 ∷ after)) f.first (e ∙ ap (λ (t : List ℕ). t ++ (more ++ 41 ∷ after)) f.text_is) f.no_space f.no_close in
    let w : IsValueStep lang rest None o = subst (λ (x : Option (Step × List ℕ)). IsValueStep lang rest x o) none v in
    let b = begins_with lang s front (more ++ 41 ∷ after) spelled (stops_inside 41 more after (inl refl) ends) in
    let same : w.0 ≡ begins b.lead b.after = one_in lang rest w.0 (begins b.lead b.after) w.1 (subst (λ (t : List ℕ). IsLeadIn lang t (begins b.lead b.after)) (sym e) b.is_lead) in
    record {
      step = step_of_lead b.lead;
      after = b.after;
      goes = w.2 ∙ ap lead_step same;
      leaves = lead_leaves lang b.lead bs b.after (more ++ 41 ∷ after) end s b.leads (record { inside = more; after = after; rest_is = refl; stands = (ss, ends, others); outer = l });
    }

-- the step behind spaces or a bracket is the same where a value may begin
as_after : (lang : Language) (text : List ℕ) (o x : Option (Step × List ℕ)) (p : Step × List ℕ) → after_step Round text ≡ x → x ≡ Some p → IsValueStep lang text x o → o ≡ x
as_after lang text o None p e h v = absurd (none-some p h)
as_after lang text o (Some q) p e h v = v

after_before : (lang : Language) (bs : List Bracket) (text end : List ℕ) (o : Option (Step × List ℕ)) → HasStep lang Round bs (after_step Round text) end → IsValueStep lang text (after_step Round text) o → HasStep lang Round bs o end
after_before lang bs text end o h v = record {
  step = h.step;
  after = h.after;
  goes = as_after lang text o (after_step Round text) (h.step, h.after) refl h.goes v ∙ h.goes;
  leaves = h.leaves;
}

pub round_before : (lang : Language) (bs : List Bracket) (ss : Shapes) (inside after rest end : List ℕ) (o : Option (Step × List ℕ)) → SpellsShapes lang inside ss → rest ≡ inside ++ 41 ∷ after → Leaves lang bs after end → IsValueStep lang rest (after_step Round rest) o → HasStep lang Round bs o end
round_before lang bs no_shapes inside after rest end o h e l v = after_before lang bs rest end o (has_none lang bs inside after rest end (after_step Round rest) h e l refl) v
round_before lang bs (shape s ss) inside after rest end o ([], front, more, a, spelled, ends, others, i) e l v =
    has_value lang bs s ss front more after rest end o spelled ends others (e ∙ ap (λ (t : List ℕ). t ++ 41 ∷ after) i ∙ append_assoc front more (41 ∷ after)) l v
round_before lang bs (shape s ss) inside after rest end o (c ∷ sp, front, more, a, spelled, ends, others, i) e l v =
    let j : inside ≡ 32 ∷ (sp ++ (front ++ more)) = i ∙ ap (λ (x : ℕ). x ∷ (sp ++ (front ++ more))) a.0 in
    after_before lang bs rest end o
    (has_spaced lang bs inside (sp ++ (front ++ more)) after rest end (shape s ss) (after_step Round rest) (c ∷ sp, front, more, a, spelled, ends, others, i) j e l refl) v

pub round_after : (lang : Language) (bs : List Bracket) (ss : Shapes) (inside after rest end : List ℕ) (o : Option (Step × List ℕ)) → EndsThere inside → SpellsShapes lang inside ss → rest ≡ inside ++ 41 ∷ after → Leaves lang bs after end → o ≡ after_step Round rest → HasStep lang Round bs o end
round_after lang bs ss [] after rest end o ends h e l s = has_close lang Round bs [] after rest end o refl e l s
round_after lang bs ss (c ∷ t) after rest end o ends h e l s = has_spaced lang bs (c ∷ t) t after rest end ss o h (ap (λ (x : ℕ). x ∷ t) ends) e l s

-- ---- elements

pub not_both : (text : List ℕ) → EndsThere text → StartsThere text → ⊥
not_both [] h k = k
not_both (c ∷ cs) h k = k h

pub square_after : (lang : Language) (bs : List Bracket) (items : Items) (inside after rest end : List ℕ) (o : Option (Step × List ℕ)) → EndsThere inside → SpellsItems lang inside items → rest ≡ inside ++ 93 ∷ after → Leaves lang bs after end → o ≡ after_step Square rest → HasStep lang Square bs o end
square_after lang bs no_items inside after rest end o ends h e l s = has_close lang Square bs inside after rest end o h e l s
square_after lang bs (item v ss more) inside after rest end o ends ([], mark, within, tail, a, im, spelled, ends', others, i) e l s =
    absurd (not_both inside ends (subst StartsThere (sym i) (mark_starts mark (within ++ 41 ∷ tail) v im)))
square_after lang bs (item v ss more) inside after rest end o ends (c ∷ sp, mark, within, tail, a, im, spelled, ends', others, i) e l s =
    let body : List ℕ = mark ++ 40 ∷ (within ++ 41 ∷ tail) in
    let starts : StartsThere body = mark_starts mark (within ++ 41 ∷ tail) v im in
    let j : inside ≡ 32 ∷ (sp ++ body) = i ∙ ap (λ (x : ℕ). x ∷ (sp ++ body)) a.0 in
    let skipped : skip_spaces (sp ++ body) ≡ body = skip_again sp body a.1 (starts_skip body starts) in
    has_space lang Square bs inside (sp ++ body) after rest end o j e
    (subst (MayStand lang Square Before) (sym skipped) (item v ss more, starts, ([], mark, within, tail, tt, im, spelled, ends', others, refl))) l s

pub square_before : (lang : Language) (bs : List Bracket) (items : Items) (inside after rest end : List ℕ) (o : Option (Step × List ℕ)) → StartsThere inside → SpellsItems lang inside items → rest ≡ inside ++ 93 ∷ after → Leaves lang bs after end → o ≡ item_step (item_of rest) → HasStep lang Square bs o end
square_before lang bs no_items inside after rest end o starts h e l s = absurd (subst StartsThere h starts)
square_before lang bs (item v ss more) inside after rest end o starts (c ∷ sp, mark, within, tail, a, im, spelled, ends, others, i) e l s =
    absurd (subst StartsThere i starts a.0)
square_before lang bs (item v ss more) inside after rest end o starts ([], mark, within, tail, a, im, spelled, ends, others, i) e l s =
    let k = item_again mark (within ++ 41 ∷ (tail ++ 93 ∷ after)) v im in
    let whole : rest ≡ mark ++ 40 ∷ (within ++ 41 ∷ (tail ++ 93 ∷ after)) =
    e ∙ ap (λ (t : List ℕ). t ++ 93 ∷ after) i ∙ append_assoc mark (40 ∷ (within ++ 41 ∷ tail)) (93 ∷ after)
    ∙ ap (λ (t : List ℕ). mark ++ 40 ∷ t) (append_assoc within (41 ∷ tail) (93 ∷ after)) in
    record {
      step = Open Round;
      after = within ++ 41 ∷ (tail ++ 93 ∷ after);
      goes = s ∙ ap (λ (t : List ℕ). item_step (item_of t)) whole ∙ ap item_step k.2;
      leaves = record { inside = within; after = tail ++ 93 ∷ after; rest_is = refl; stands = (ss, spelled); outer = (tail, after, refl, (more, ends, others), l) };
    }

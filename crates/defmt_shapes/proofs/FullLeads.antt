-- What a text begins with in a language: what is read is spelled in front, and there is one reading.
use Rattle.std.proofs.Common.{◌≡◌, ◌<◌, ◌≤◌, ◌-◌, ℕ, true, false, List, [], ◌∷◌, ◌++◌, length, get_or, take, drop, refl, sym, ap, subst, ◌∙◌, arith, Option, Some, None, inl, inr, append_assoc, length-append, codes}
use Rattle.std.specs.Str.Parse.{digits_value}
use Rattle.std.specs.Str.{IsCharBoundary}
use Rattle.std.proofs.lemmas.Bool.{both_ways, cases_Bool, cases_lt, ne_eqb}
use Rattle.std.proofs.lemmas.Str.{IsCharBoundary-before_ascii}
use Rattle.std.proofs.lemmas.List.{take_at}
use Rattle.std.proofs.lemmas.Option.{same_Some}
use Rattle.defmt_grammar.specs.Cut.{behind, strip}
use Rattle.defmt_grammar.specs.declared.language.Language.{Language}
use Rattle.defmt_grammar.specs.declared.language.Language.TheVariants.{Base, Full}
use Rattle.defmt_grammar.proofs.Cuts.{behind_again, behind_found}
use Rattle.defmt_shapes.specs.Shape.{Shape, IsFull, IsFloat, IsScale, AreDigits}
use Rattle.defmt_shapes.specs.Shape as shapes
use Rattle.defmt_shapes.specs.declared.parts.Class.TheVariants.{Word}
use Rattle.defmt_shapes.specs.Runs.{run}
use Rattle.defmt_shapes.specs.Leads.{Lead, decimal, negative, float, nodes, IsLead, IsLeadIn, IsWhole, Leads, after_float, ended_float, float_lead, other_lead, opens, settles, stops_there, full_lead, decimal_lead, negative_lead, word_lead, plain_lead, marked_lead, flag_lead}
use Rattle.defmt_shapes.specs.Leads as leads
use Rattle.defmt_shapes.proofs.EscapeLaws.{behind_other, either_found, guarded}
use Rattle.defmt_shapes.proofs.FloatLaws.{float_after, float_again, scale_first, scale_ends, unsigned_unmarked}
use Rattle.defmt_shapes.proofs.LeadAgain.{begins, as_marked, decimal_leads, marked_negative, named_alone, named_leads, negative_leads}
use Rattle.defmt_shapes.proofs.LeadForms.{StopsThere, stops_class}
use Rattle.defmt_shapes.proofs.LeadFound.{Found, Finds, lead_found, lead_one, either_cases, number_in}
use Rattle.defmt_shapes.proofs.RunLaws.{get_at}

-- ---- where a value may end

pub stops_again : (rest : List ℕ) → StopsThere rest → stops_there rest ≡ true
stops_again [] h = refl
stops_again (c ∷ cs) (inl e) = rw e refl
stops_again (c ∷ cs) (inr (inl e)) = rw e refl
stops_again (c ∷ cs) (inr (inr e)) = rw e refl

-- a value's front, or a whole value where one may end
pub settled : (lang : Language) (lead : Lead) (after rest : List ℕ) (s : Shape) → Leads lang lead after rest s → StopsThere rest → settles (begins lead after) ≡ true
settled lang (leads.decimal digits) after rest s h stops = ap stops_there h.3 ∙ stops_again rest stops
settled lang (leads.hexadecimal digits) after rest s h stops = ap stops_there h.3 ∙ stops_again rest stops
settled lang (leads.negative digits) after rest s h stops = ap stops_there h.3 ∙ stops_again rest stops
settled lang (leads.flag b) after rest s h stops = ap stops_there h.1 ∙ stops_again rest stops
settled lang (leads.character c) after rest s h stops = ap stops_there h.1 ∙ stops_again rest stops
settled lang (leads.quoted inside) after rest s h stops = ap stops_there h.3 ∙ stops_again rest stops
settled lang (leads.interned name) after rest s h stops = ap stops_there h.1 ∙ stops_again rest stops
settled lang (leads.bytes digits) after rest s h stops = ap stops_there h.3 ∙ stops_again rest stops
settled lang leads.empty after rest s h stops = ap stops_there h.1 ∙ stops_again rest stops
settled lang (leads.float t) after rest s h stops = ap stops_there h.3 ∙ stops_again rest stops
settled lang (leads.call name m) after rest s h stops = refl
settled lang (leads.sequence name) after rest s h stops = refl
settled lang leads.nodes after rest s h stops = refl

pub lead_in : (lang : Language) (text after : List ℕ) (lead : Lead) → IsLead text (begins lead after) → settles (begins lead after) ≡ true → IsLeadIn lang text (begins lead after)
lead_in Base text after lead h s = h
lead_in Full text after lead h s = (begins lead after, h, rw s refl)

-- ---- floats

front_of : (t rest : List ℕ) → take (length (t ++ rest) - length rest) (t ++ rest) ≡ t
front_of t rest =
    let size : length (t ++ rest) - length rest ≡ length t = omega (arith, length-append t rest) in
    ap (λ (n : ℕ). take n (t ++ rest)) size ∙ take_at t rest (length t) refl

back_of : (t rest : List ℕ) → drop (length (t ++ rest) - length rest) (t ++ rest) ≡ rest
back_of t rest =
    let size : length (t ++ rest) - length rest ≡ length t = omega (arith, length-append t rest) in
    ap (λ (n : ℕ). drop n (t ++ rest)) size ∙ behind_front t rest
  where
    behind_front : (xs ys : List ℕ) → drop (length xs) (xs ++ ys) ≡ ys
    behind_front [] ys = refl
    behind_front (x ∷ xs) ys = behind_front xs ys

stop_small : (c : ℕ) (cs : List ℕ) → stops_there (c ∷ cs) ≡ true → c < 128
stop_small c cs h = elim (cases_lt c 128) [
  | inl lt ↦ lt
  | inr le ↦ absurd (both_ways (stops_there (c ∷ cs)) (rw (ne_eqb c 32 (λ e. omega arith), ne_eqb c 41 (λ e. omega arith), ne_eqb c 62 (λ e. omega arith)) refl) h)
]

-- a float that was found in front ends at a character's boundary
pub float_size : (text rest : List ℕ) → Some rest ≡ after_float text → length rest ≤ length text
float_size text rest h = let f = float_after text rest (sym h) in omega (arith, ap length f.2, length-append f.0 rest)

boundary : (text t rest : List ℕ) → text ≡ t ++ rest → stops_there rest ≡ true → IsCharBoundary text (length text - length rest)
boundary text t [] e h = (omega arith, λ lt. absurd (omega (arith, lt)))
boundary text t (c ∷ cs) e h =
    let size : length t ≡ length text - length (c ∷ cs) = omega (arith, ap length e, length-append t (c ∷ cs)) in
    let there : get_or text (length t) 0 ≡ c = ap (λ (x : List ℕ). get_or x (length t) 0) e ∙ get_at t cs c in
    subst (IsCharBoundary text) size
    (IsCharBoundary-before_ascii text (length t) (omega (arith, ap length e, length-append t (c ∷ cs))) (omega (arith, there, stop_small c cs h)))

pub float_boundary : (text rest : List ℕ) → Some rest ≡ after_float text → stops_there rest ≡ true → IsCharBoundary text (length text - length rest)
float_boundary text rest h stops = let f = float_after text rest (sym h) in boundary text f.0 rest f.2 stops

pub float_parts : (text rest front back : List ℕ) → Some rest ≡ after_float text → stops_there rest ≡ true → front ≡ take (length text - length rest) text → back ≡ drop (length text - length rest) text → begins (float front) back ≡ float_lead text
unfolding float_lead
float_parts text rest front back h stops f b =
    let k = float_after text rest (sym h) in
    let same : drop (length text - length rest) text ≡ rest = ap (λ (t : List ℕ). drop (length t - length rest) t) k.2 ∙ back_of k.0 rest in
    rw (← h) (rw (stops, f, b, same) refl)

float_leads : (t rest : List ℕ) → IsFloat t → StopsThere rest → float_lead (t ++ rest) ≡ begins (float t) rest
unfolding float_lead
float_leads t rest h stops = rw (float_again t rest h stops) (rw (stops_again rest stops) (ap (λ (x : List ℕ). begins (float x) rest) (front_of t rest)))

float_found : (lang : Language) (text : List ℕ) (p : Lead × List ℕ) → IsFull lang → float_lead text ≡ Some p → Finds lang text p
unfolding float_lead
float_found lang text p full h =
    let b = either_found (after_float text) (ended_float text) p h in
    let f = float_after text b.0 b.1 in
    let g = guarded (stops_there b.0) (begins (float (take (length text - length b.0) text)) b.0) p b.2 in
    let front : take (length text - length b.0) text ≡ f.0 = ap (λ (t : List ℕ). take (length t - length b.0) t) f.2 ∙ front_of f.0 b.0 in
    let same : (float f.0, b.0) ≡ p = ap (λ (t : List ℕ). (float t, b.0)) (sym front) ∙ same_Some (float (take (length text - length b.0) text), b.0) p g.1 in
    subst (Finds lang text) same (f.0, shapes.float f.0, (full, f.1, refl), f.2, (refl, full, f.1, refl))

-- no other value stands in front of a float
pub record Unsettled (text : List ℕ) : Type 0 where
  pub lead : Option (Lead × List ℕ)
  pub is : IsLead text lead
  pub unsettled : settles lead ≡ false

no_flag : (rest : List ℕ) → (flag_lead (codes "NaN") rest ≡ None) × (flag_lead (codes "inf") rest ≡ None)
unfolding flag_lead
no_flag rest = (refl, refl)

nan_open : (rest : List ℕ) → StopsThere rest → Unsettled (codes "NaN" ++ rest)
nan_open rest stops = record { lead = None; is = named_leads (codes "NaN") rest None refl (stops_class Word rest refl stops) (named_alone (codes "NaN") rest stops ∙ (no_flag rest).0); unsettled = refl }

inf_open : (rest : List ℕ) → StopsThere rest → Unsettled (codes "inf" ++ rest)
inf_open rest stops = record { lead = None; is = named_leads (codes "inf") rest None refl (stops_class Word rest refl stops) (named_alone (codes "inf") rest stops ∙ (no_flag rest).1); unsettled = refl }

scale_open : (s rest : List ℕ) → IsScale s → stops_there (s ++ rest) ≡ false
scale_open s rest h = let k = scale_first s h in elim k.3 [ inl c ↦ rw (k.2, c) refl | inr c ↦ rw (k.2, c) refl ]

scaled_open : (whole scale rest : List ℕ) → AreDigits whole → IsScale scale → Unsettled (whole ++ (scale ++ rest))
scaled_open whole scale rest d s = record {
  lead = begins (decimal whole) (scale ++ rest);
  is = decimal_leads whole (scale ++ rest) (digits_value 10 whole) (number_in 10 whole d.0 d.1) (scale_ends scale rest s);
  unsettled = scale_open scale rest s;
}

below_open : (whole scale rest : List ℕ) → AreDigits whole → IsScale scale → Unsettled (45 ∷ (whole ++ (scale ++ rest)))
below_open whole scale rest d s = record {
  lead = begins (negative whole) (scale ++ rest);
  is = negative_leads whole (scale ++ rest) (digits_value 10 whole) (number_in 10 whole d.0 d.1) (scale_ends scale rest s).fails;
  unsettled = scale_open scale rest s;
}

no_digits : (rest : List ℕ) → negative_lead (codes "inf" ++ rest) ≡ None
unfolding negative_lead run
no_digits rest = refl

minus_open : (rest : List ℕ) → Unsettled (45 ∷ (codes "inf" ++ rest))
minus_open rest = record {
  lead = None;
  is = subst (IsLead (45 ∷ (codes "inf" ++ rest))) (marked_negative (codes "inf" ++ rest) ∙ no_digits rest) (as_marked 45 (codes "inf" ++ rest) (λ e. omega arith) (λ e. omega arith));
  unsettled = refl;
}

float_open : (t rest : List ℕ) → IsFloat t → StopsThere rest → Unsettled (t ++ rest)
float_open t rest (inl e) stops = rw e (nan_open rest stops)
float_open t rest (inr (inl (inl (whole, scale, d, s, e)))) stops = rw (e, append_assoc whole scale rest) (scaled_open whole scale rest d s)
float_open t rest (inr (inl (inr e))) stops = rw e (inf_open rest stops)
float_open t rest (inr (inr (u, inl (whole, scale, d, s, f), e))) stops = rw (e, f, append_assoc whole scale rest) (below_open whole scale rest d s)
float_open t rest (inr (inr (u, inr f, e))) stops = rw (e, f) (minus_open rest)

nan_angle : (rest : List ℕ) → behind 60 (codes "NaN" ++ rest) ≡ None
unfolding behind
nan_angle rest = refl

float_angle : (t rest : List ℕ) → IsFloat t → behind 60 (t ++ rest) ≡ None
float_angle t rest (inl e) = rw e (nan_angle rest)
float_angle t rest (inr (inl u)) = (unsigned_unmarked t rest u).no_angle
float_angle t rest (inr (inr (u, h, e))) = rw e (behind_other 60 45 (u ++ rest) (λ k. omega arith))

pub float_in : (t rest : List ℕ) → IsFloat t → StopsThere rest → IsLeadIn Full (t ++ rest) (begins (float t) rest)
float_in t rest h stops =
    let k = float_open t rest h stops in
    (k.lead, k.is, sym (rw k.unsettled (rw (float_angle t rest h) (float_leads t rest h stops))))

-- ---- angles

angle_none : (more : List ℕ) → marked_lead (60 ∷ more) ≡ None
unfolding marked_lead behind strip plain_lead decimal_lead word_lead run
angle_none more = refl

pub angle_in : (more : List ℕ) → IsLeadIn Full (60 ∷ more) (begins nodes more)
angle_in more = (
  None,
  subst (IsLead (60 ∷ more)) (angle_none more) (as_marked 60 more (λ e. omega arith) (λ e. omega arith)),
  sym (rw (behind_again 60 more) refl),
)

-- ---- what is read

other_found : (lang : Language) (text : List ℕ) (p : Lead × List ℕ) → IsFull lang → other_lead text ≡ Some p → Finds lang text p
other_found lang text p full h =
    elim (either_cases (behind 60 text) (λ (more : List ℕ). begins nodes more) (float_lead text) p h) [
      | inl k ↦ subst (Finds lang text) (same_Some (nodes, k.0) p k.2) (full, behind_found 60 text k.0 k.1)
      | inr k ↦ float_found lang text p full k.1
    ]

full_found : (lang : Language) (text : List ℕ) (l : Option (Lead × List ℕ)) (p : Lead × List ℕ) → IsFull lang → IsLead text l → Some p ≡ full_lead text l → Finds lang text p
full_found lang text l p full h e = elim (cases_Bool (settles l)) [
  | inl s ↦ (
      let same : l ≡ Some p = sym (rw s at e) in
      lead_found lang text p.0 p.1 (subst (IsLead text) same h))
  | inr s ↦ other_found lang text p full (sym (rw s at e))
]

-- what is read is spelled in front
pub found_in : (lang : Language) (text : List ℕ) (lead : Lead) (after : List ℕ) → IsLeadIn lang text (Some (lead, after)) → Found lang text lead after
found_in Base text lead after h = lead_found Base text lead after h
found_in Full text lead after h = full_found Full text h.0 (lead, after) tt h.1 h.2

-- a text has one lead
pub one_in : (lang : Language) (text : List ℕ) (o r : Option (Lead × List ℕ)) → IsLeadIn lang text o → IsLeadIn lang text r → o ≡ r
one_in Base text o r h k = lead_one text o r h k
one_in Full text o r h k = h.2 ∙ ap (full_lead text) (lead_one text h.0 k.0 h.1 k.1) ∙ sym k.2

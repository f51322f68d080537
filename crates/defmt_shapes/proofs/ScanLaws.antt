-- What stands between brackets: each step keeps what the reader knows.
use Rattle.std.proofs.Common.{◌≡◌, ◌<◌, ◌≤◌, ℕ, Bool, true, false, cond, option_map, List, [], ◌∷◌, ◌++◌, length, refl, sym, ap, subst, ◌∙◌, arith, Option, Some, None, inl, inr, append_assoc, length-append}
use Rattle.std.proofs.lemmas.Option.{same_Some, none-some}
use Rattle.defmt_grammar.specs.Cut.{AreSpaces, behind, skip_spaces}
use Rattle.defmt_grammar.specs.Param.{has_leading_zero}
use Rattle.defmt_grammar.proofs.Cuts.{behind_again, behind_found, skip_found}
use Rattle.std.specs.Str.Parse.{AllDigits, digits_value}
use Rattle.defmt_grammar.specs.declared.language.Language.{Language}
use Rattle.defmt_shapes.specs.declared.parts.Class.TheVariants.{Decimal}
use Rattle.defmt_shapes.specs.declared.head.Whole.{Whole}
use Rattle.defmt_shapes.specs.declared.head.Whole.TheVariants as wholes
use Rattle.defmt_shapes.specs.declared.scan.Bracket.{Bracket}
use Rattle.defmt_shapes.specs.declared.scan.Bracket.TheVariants.{Round, Square, Angle}
use Rattle.defmt_shapes.specs.declared.scan.Place.{Place}
use Rattle.defmt_shapes.specs.declared.scan.Place.TheVariants.{Before, After}
use Rattle.defmt_shapes.specs.declared.scan.Step.{Step}
use Rattle.defmt_shapes.specs.declared.scan.Step.TheVariants.{Begin, End, Open, Close}
use Rattle.defmt_shapes.specs.Shape.{Shape, AreCalls, IsCall, no_shapes, shape, no_items, item, IsVariant, IsItemMark, SpellsShape}
use Rattle.defmt_shapes.specs.Shape as shapes
use Rattle.defmt_shapes.specs.Runs.{in_class, run, either}
use Rattle.defmt_shapes.specs.Leads.{Lead, call, sequence, nodes, IsLeadIn, mark_of, item_of, view_whole, IsMark}
use Rattle.defmt_shapes.specs.Leads as leads
use Rattle.defmt_shapes.specs.Scan.{closing, MayStand, step_of_lead, lead_step, call_of_lead, call_step, after_step, IsValueStep, IsCallStep, IsStep, Ends, Awaits}
use Rattle.defmt_shapes.proofs.RunLaws.{run_found, run_again, digits_pass, pass_digits}
use Rattle.defmt_shapes.proofs.EscapeLaws.{mapped}
use Rattle.defmt_shapes.proofs.LeadForms.{no_zero_again, no_zero_found}
use Rattle.defmt_shapes.proofs.LeadFound.{Found, FoundWhole, whole_found, either_cases, number_in}
use Rattle.defmt_shapes.proofs.FullLeads.{found_in}
use Rattle.defmt_shapes.proofs.ShapeLaws.{shapes_spaced, items_spaced, value_starts, mark_starts}

abbrev pub goes_on : Step → List ℕ → Option (Step × List ℕ)
goes_on step rest = Some (step, rest)

-- ---- elements

-- what is read as an element's front
pub record ItemFront (text : List ℕ) (m : Option (List ℕ)) (after : List ℕ) : Type 0 where
  pub mark : List ℕ
  pub variant : Option ℕ
  pub is_mark : IsItemMark mark variant
  pub means : IsMark m variant
  pub text_is : text ≡ mark ++ 40 ∷ after

abbrev fronts : Option (List ℕ) → List ℕ → Option (Option (List ℕ) × List ℕ)
fronts m after = Some (m, after)

item_front : (text digits rest : List ℕ) (p : Option (List ℕ) × List ℕ) (after : List ℕ) → text ≡ digits ++ rest → AllDigits 10 digits → has_leading_zero digits ≡ false → behind 40 rest ≡ Some after → (mark_of digits, after) ≡ p → ItemFront text p.0 p.1
item_front text [] rest p after e all zero b h =
    subst (λ (q : Option (List ℕ) × List ℕ). ItemFront text q.0 q.1) h (record { mark = []; variant = None; is_mark = refl; means = tt; text_is = e ∙ behind_found 40 rest after b })
item_front text (d ∷ ds) rest p after e all zero b h =
    let v : IsVariant (d ∷ ds) (digits_value 10 (d ∷ ds)) = record { number = number_in 10 (d ∷ ds) (omega arith) all; no_leading_zero = no_zero_found (d ∷ ds) zero } in
    subst (λ (q : Option (List ℕ) × List ℕ). ItemFront text q.0 q.1) h
    (record { mark = d ∷ ds; variant = Some (digits_value 10 (d ∷ ds)); is_mark = v; means = v; text_is = e ∙ ap (λ (t : List ℕ). (d ∷ ds) ++ t) (behind_found 40 rest after b) })

otherwise : {A : Type 0} (b : Bool) (o : Option A) (x : A) → cond b None o ≡ Some x → (b ≡ false) × (o ≡ Some x)
otherwise true o x h = absurd (none-some x h)
otherwise false o x h = (refl, h)

pub item_found : (text : List ℕ) (p : Option (List ℕ) × List ℕ) → item_of text ≡ Some p → ItemFront text p.0 p.1
unfolding item_of
item_found text p h =
    let d = run (in_class Decimal) text in
    let r = run_found (in_class Decimal) text in
    let o = otherwise (has_leading_zero d.0) (option_map (λ (inside : List ℕ). (mark_of d.0, inside)) (behind 40 d.1)) p h in
    let m = mapped (behind 40 d.1) (λ (inside : List ℕ). (mark_of d.0, inside)) p o.1 in
    item_front text d.0 d.1 p m.0 r.text_is (pass_digits 10 d.0 r.passes) o.0 m.1 m.2

marks : (digits : List ℕ) → 0 < length digits → mark_of digits ≡ Some digits
marks [] h = absurd (omega arith)
marks (d ∷ ds) h = refl

item_plain : (after : List ℕ) → item_of (40 ∷ after) ≡ fronts None after
unfolding item_of run behind
item_plain after = refl

item_variant : (digits after : List ℕ) (v : ℕ) → IsVariant digits v → item_of (digits ++ 40 ∷ after) ≡ fronts (Some digits) after
unfolding item_of
item_variant digits after v h =
    rw (run_again (in_class Decimal) digits (40 ∷ after) (digits_pass 10 digits h.number.all) refl)
    (rw (no_zero_again digits h.no_leading_zero, behind_again 40 after, marks digits h.number.some) refl)

pub item_again : (mark after : List ℕ) (v : Option ℕ) → IsItemMark mark v → (m : Option (List ℕ)) × IsMark m v × (item_of (mark ++ 40 ∷ after) ≡ fronts m after)
item_again mark after None h = (None, tt, ap (λ (t : List ℕ). item_of (t ++ 40 ∷ after)) h ∙ item_plain after)
item_again mark after (Some v) h = (Some mark, h, item_variant mark after v h)

-- ---- what a step asks of what follows

abbrev pub AwaitsNext : (lang : Language) → Bracket → List ℕ → Bracket → List Bracket → Step → List ℕ → Type 0
AwaitsNext lang first text b bs Begin rest = Awaits lang first text b bs Before rest
AwaitsNext lang first text b bs End rest = Awaits lang first text b bs After rest
AwaitsNext lang first text b bs (Open c) rest = Awaits lang first text c (b ∷ bs) Before rest
AwaitsNext lang first text b bs Close rest = Ends lang first text bs rest

abbrev Awaited : (lang : Language) → Bracket → List ℕ → Bracket → List Bracket → Step × List ℕ → Type 0
Awaited lang first text b bs p = AwaitsNext lang first text b bs p.0 p.1

close_at : (lang : Language) (first b : Bracket) (text : List ℕ) (bs : List Bracket) (place : Place) (rest after : List ℕ) → MayStand lang b place [] → Awaits lang first text b bs place rest → rest ≡ closing b ∷ after → Ends lang first text bs after
close_at lang first b text bs place rest after none h e = h [] after e none

space_at : (lang : Language) (first b : Bracket) (text : List ℕ) (bs : List Bracket) (place : Place) (rest more : List ℕ)
    → ((sp inside : List ℕ) → AreSpaces sp → MayStand lang b Before inside → MayStand lang b place (32 ∷ (sp ++ inside)))
    → Awaits lang first text b bs place rest → rest ≡ 32 ∷ more → Awaits lang first text b bs Before (skip_spaces more)
space_at lang first b text bs place rest more spaced h e = λ inside after f m.
    let k = skip_found more in
    h (32 ∷ (k.0 ++ inside)) after
    (e ∙ ap (λ (t : List ℕ). 32 ∷ t) (k.2 ∙ ap (λ (t : List ℕ). k.0 ++ t) f ∙ sym (append_assoc k.0 inside (closing b ∷ after))))
    (spaced k.0 inside k.1 m)

after_sound : (lang : Language) (first b : Bracket) (text : List ℕ) (bs : List Bracket) (place : Place) (rest : List ℕ) (p : Step × List ℕ) → MayStand lang b place []
    → ((sp inside : List ℕ) → AreSpaces sp → MayStand lang b Before inside → MayStand lang b place (32 ∷ (sp ++ inside)))
    → Awaits lang first text b bs place rest → after_step b rest ≡ Some p → Awaited lang first text b bs p
after_sound lang first b text bs place rest p none spaced h e =
    elim (either_cases (behind (closing b) rest) (λ (after : List ℕ). goes_on Close after) (either (behind 32 rest) (λ (after : List ℕ). goes_on Begin (skip_spaces after)) None) p e) [
      | inl k ↦ subst (Awaited lang first text b bs) (same_Some (Close, k.0) p k.2) (close_at lang first b text bs place rest k.0 none h (behind_found (closing b) rest k.0 k.1))
      | inr k ↦ elim (either_cases (behind 32 rest) (λ (after : List ℕ). goes_on Begin (skip_spaces after)) None p k.1) [
        | inl m ↦ subst (Awaited lang first text b bs) (same_Some (Begin, skip_spaces m.0) p m.2) (space_at lang first b text bs place rest m.0 spaced h (behind_found 32 rest m.0 m.1))
        | inr m ↦ absurd (none-some p m.1)
      ]
    ]

round_spaced : (lang : Language) (sp inside : List ℕ) → AreSpaces sp → MayStand lang Round Before inside → MayStand lang Round Before (32 ∷ (sp ++ inside))
round_spaced lang sp inside a (ss, h) = (ss, shapes_spaced lang (32 ∷ sp) inside ss (refl, a) h)

round_spaced_after : (lang : Language) (sp inside : List ℕ) → AreSpaces sp → MayStand lang Round Before inside → MayStand lang Round After (32 ∷ (sp ++ inside))
round_spaced_after lang sp inside a (ss, h) = (ss, refl, shapes_spaced lang (32 ∷ sp) inside ss (refl, a) h)

square_spaced : (lang : Language) (sp inside : List ℕ) → AreSpaces sp → MayStand lang Square Before inside → MayStand lang Square After (32 ∷ (sp ++ inside))
square_spaced lang sp inside a (items, starts, h) = (items, refl, items_spaced lang (32 ∷ sp) inside items (refl, a) starts h)

angle_spaced : (lang : Language) (sp inside : List ℕ) → AreSpaces sp → MayStand lang Angle Before inside → MayStand lang Angle Before (32 ∷ (sp ++ inside))
angle_spaced lang sp inside a (ss, calls, h) = (ss, calls, shapes_spaced lang (32 ∷ sp) inside ss (refl, a) h)

angle_spaced_after : (lang : Language) (sp inside : List ℕ) → AreSpaces sp → MayStand lang Angle Before inside → MayStand lang Angle After (32 ∷ (sp ++ inside))
angle_spaced_after lang sp inside a (ss, calls, h) = (ss, calls, refl, shapes_spaced lang (32 ∷ sp) inside ss (refl, a) h)

-- a value in front
read_value : (lang : Language) (first : Bracket) (text : List ℕ) (bs : List Bracket) (rest front after : List ℕ) (s : Shape) → Awaits lang first text Round bs Before rest → SpellsShape lang front s → rest ≡ front ++ after → Ends lang first text (Round ∷ bs) after
read_value lang first text bs rest front after s h spelled e = λ inside end f m.
    h (front ++ inside) end (e ∙ ap (λ (t : List ℕ). front ++ t) f ∙ sym (append_assoc front inside (41 ∷ end)))
    (shape s m.0, ([], front, inside, tt, spelled, m.1, m.2, refl))

whole_sound : (lang : Language) (first : Bracket) (text : List ℕ) (bs : List Bracket) (rest after : List ℕ) (lead : Lead) → FoundWhole lang rest lead after → Awaits lang first text Round bs Before rest → Awaits lang first text Round bs After after
whole_sound lang first text bs rest after lead f h = read_value lang first text bs rest f.0 after f.1 h f.2 f.3

closed_text : (inside after : List ℕ) (c : ℕ) → inside ++ c ∷ after ≡ (inside ++ c ∷ []) ++ after
closed_text inside after c = sym (append_assoc inside (c ∷ []) after)

call_sound : (lang : Language) (first : Bracket) (text : List ℕ) (bs : List Bracket) (rest after name : List ℕ) (m : Option (List ℕ)) → Found lang rest (call name m) after → Awaits lang first text Round bs Before rest → Awaits lang first text Round (Round ∷ bs) Before after
call_sound lang first text bs rest after name m (mark, v, n, cm, means, e) h = λ inside end f k.
    read_value lang first text bs rest (name ++ (mark ++ 40 ∷ (inside ++ 41 ∷ []))) end (shapes.call name v k.0) h (mark, inside, n, cm, k.1, refl)
    (e ∙ ap (λ (t : List ℕ). name ++ (mark ++ 40 ∷ t)) (f ∙ closed_text inside end 41)
    ∙ ap (λ (t : List ℕ). name ++ t) (sym (append_assoc mark (40 ∷ (inside ++ 41 ∷ [])) end))
    ∙ sym (append_assoc name (mark ++ 40 ∷ (inside ++ 41 ∷ [])) end))

sequence_sound : (lang : Language) (first : Bracket) (text : List ℕ) (bs : List Bracket) (rest after name : List ℕ) → Found lang rest (sequence name) after → Awaits lang first text Round bs Before rest → Awaits lang first text Square (Round ∷ bs) Before after
sequence_sound lang first text bs rest after name (n, e) h = λ inside end f k.
    read_value lang first text bs rest (name ++ 91 ∷ (inside ++ 93 ∷ [])) end (shapes.sequence name k.0) h (inside, n, k.1, k.2, refl)
    (e ∙ ap (λ (t : List ℕ). name ++ 91 ∷ t) (f ∙ closed_text inside end 93) ∙ sym (append_assoc name (91 ∷ (inside ++ 93 ∷ [])) end))

nodes_sound : (lang : Language) (first : Bracket) (text : List ℕ) (bs : List Bracket) (rest after : List ℕ) → Found lang rest nodes after → Awaits lang first text Round bs Before rest → Awaits lang first text Angle (Round ∷ bs) Before after
nodes_sound lang first text bs rest after (full, e) h = λ inside end f k.
    read_value lang first text bs rest (60 ∷ (inside ++ 62 ∷ [])) end (shapes.nodes k.0) h (inside, full, k.1, k.2, refl)
    (e ∙ ap (λ (t : List ℕ). 60 ∷ t) (f ∙ closed_text inside end 62))

-- a Format value between angles
element_sound : (lang : Language) (first : Bracket) (text : List ℕ) (bs : List Bracket) (rest after name : List ℕ) (m : Option (List ℕ)) → Found lang rest (call name m) after → Awaits lang first text Angle bs Before rest → Awaits lang first text Round (Angle ∷ bs) Before after
element_sound lang first text bs rest after name m (mark, v, n, cm, means, e) h = λ inside end f k. λ more last g x.
    let front : List ℕ = name ++ (mark ++ 40 ∷ (inside ++ 41 ∷ [])) in
    let whole : rest ≡ front ++ end =
    e ∙ ap (λ (t : List ℕ). name ++ (mark ++ 40 ∷ t)) (f ∙ closed_text inside end 41)
    ∙ ap (λ (t : List ℕ). name ++ t) (sym (append_assoc mark (40 ∷ (inside ++ 41 ∷ [])) end))
    ∙ sym (append_assoc name (mark ++ 40 ∷ (inside ++ 41 ∷ [])) end) in
    h (front ++ more) last (whole ∙ ap (λ (t : List ℕ). front ++ t) g ∙ sym (append_assoc front more (62 ∷ last)))
    (shape (shapes.call name v k.0) x.0, (tt, x.1), ([], front, more, tt, (mark, inside, n, cm, k.1, refl), x.2, x.3, refl))

found_sound : (lang : Language) (first : Bracket) (text : List ℕ) (bs : List Bracket) (rest after : List ℕ) (lead : Lead) → Found lang rest lead after → Awaits lang first text Round bs Before rest → AwaitsNext lang first text Round bs (step_of_lead lead) after
found_sound lang first text bs rest after (leads.call name m) f h = call_sound lang first text bs rest after name m f h
found_sound lang first text bs rest after (leads.sequence name) f h = sequence_sound lang first text bs rest after name f h
found_sound lang first text bs rest after leads.nodes f h = nodes_sound lang first text bs rest after f h
found_sound lang first text bs rest after lead f h = whole_sound lang first text bs rest after lead (whole_found lang rest lead after tt f) h

item_sound : (lang : Language) (first : Bracket) (text : List ℕ) (bs : List Bracket) (rest after : List ℕ) (m : Option (List ℕ)) → ItemFront rest m after → Awaits lang first text Square bs Before rest → Awaits lang first text Round (Square ∷ bs) Before after
item_sound lang first text bs rest after m f h = λ inside end e k. λ more last g n.
    h (f.mark ++ 40 ∷ (inside ++ 41 ∷ more)) last
    (f.text_is ∙ ap (λ (t : List ℕ). f.mark ++ 40 ∷ t) (e ∙ ap (λ (t : List ℕ). inside ++ 41 ∷ t) g ∙ sym (append_assoc inside (41 ∷ more) (93 ∷ last)))
    ∙ sym (append_assoc f.mark (40 ∷ (inside ++ 41 ∷ more)) (93 ∷ last)))
    (item f.variant k.0 n.0, mark_starts f.mark (inside ++ 41 ∷ more) f.variant f.is_mark, ([], f.mark, inside, more, tt, f.is_mark, k.1, n.1, n.2, refl))

lead_sound : (lang : Language) (first : Bracket) (text : List ℕ) (bs : List Bracket) (rest : List ℕ) (l : Option (Lead × List ℕ)) (p : Step × List ℕ) → IsLeadIn lang rest l → lead_step l ≡ Some p → Awaits lang first text Round bs Before rest → Awaited lang first text Round bs p
lead_sound lang first text bs rest None p l e h = absurd (none-some p e)
lead_sound lang first text bs rest (Some q) p l e h =
    subst (Awaited lang first text Round bs) (same_Some (step_of_lead q.0, q.1) p e) (found_sound lang first text bs rest q.1 q.0 (found_in lang rest q.0 q.1 l) h)

value_sound : (lang : Language) (first : Bracket) (text : List ℕ) (bs : List Bracket) (rest : List ℕ) (o : Option (Step × List ℕ)) (p : Step × List ℕ) → after_step Round rest ≡ o → IsValueStep lang rest o (Some p) → Awaits lang first text Round bs Before rest → Awaited lang first text Round bs p
value_sound lang first text bs rest None p e k h = lead_sound lang first text bs rest k.0 p k.1 (sym k.2) h
value_sound lang first text bs rest (Some q) p e k h = after_sound lang first Round text bs Before rest p (no_shapes, tt) (round_spaced lang) h (e ∙ sym k)

call_found : (lang : Language) (first : Bracket) (text : List ℕ) (bs : List Bracket) (rest after : List ℕ) (lead : Lead) (p : Step × List ℕ) → Found lang rest lead after → call_of_lead lead after ≡ Some p → Awaits lang first text Angle bs Before rest → Awaited lang first text Angle bs p
call_found lang first text bs rest after (leads.call name m) p f e h = subst (Awaited lang first text Angle bs) (same_Some (Open Round, after) p e) (element_sound lang first text bs rest after name m f h)
call_found lang first text bs rest after lead p f e h = absurd (none-some p e)

calls_sound : (lang : Language) (first : Bracket) (text : List ℕ) (bs : List Bracket) (rest : List ℕ) (l : Option (Lead × List ℕ)) (p : Step × List ℕ) → IsLeadIn lang rest l → call_step l ≡ Some p → Awaits lang first text Angle bs Before rest → Awaited lang first text Angle bs p
calls_sound lang first text bs rest None p l e h = absurd (none-some p e)
calls_sound lang first text bs rest (Some q) p l e h = call_found lang first text bs rest q.1 q.0 p (found_in lang rest q.0 q.1 l) e h

angle_sound : (lang : Language) (first : Bracket) (text : List ℕ) (bs : List Bracket) (rest : List ℕ) (o : Option (Step × List ℕ)) (p : Step × List ℕ) → after_step Angle rest ≡ o → IsCallStep lang rest o (Some p) → Awaits lang first text Angle bs Before rest → Awaited lang first text Angle bs p
angle_sound lang first text bs rest None p e k h = calls_sound lang first text bs rest k.0 p k.1 (sym k.2) h
angle_sound lang first text bs rest (Some q) p e k h = after_sound lang first Angle text bs Before rest p (no_shapes, tt, tt) (angle_spaced lang) h (e ∙ sym k)

pub step_sound : (lang : Language) (first b : Bracket) (text : List ℕ) (bs : List Bracket) (place : Place) (rest : List ℕ) (p : Step × List ℕ) → IsStep lang b place rest (Some p) → Awaits lang first text b bs place rest → Awaited lang first text b bs p
step_sound lang first Round text bs Before rest p k h = value_sound lang first text bs rest (after_step Round rest) p refl k h
step_sound lang first Round text bs After rest p k h = after_sound lang first Round text bs After rest p (no_shapes, tt, tt) (round_spaced_after lang) h (sym k)
step_sound lang first Square text bs Before rest p k h =
    let m = mapped (item_of rest) (λ (q : Option (List ℕ) × List ℕ). (Open Round, q.1)) p (sym k) in
    subst (Awaited lang first text Square bs) m.2 (item_sound lang first text bs rest m.0.1 m.0.0 (item_found rest m.0 m.1) h)
step_sound lang first Square text bs After rest p k h = after_sound lang first Square text bs After rest p (no_items, tt, refl) (square_spaced lang) h (sym k)
step_sound lang first Angle text bs Before rest p k h = angle_sound lang first text bs rest (after_step Angle rest) p refl k h
step_sound lang first Angle text bs After rest p k h = after_sound lang first Angle text bs After rest p (no_shapes, tt, tt, tt) (angle_spaced_after lang) h (sym k)

-- ---- a step goes on

skip_shorter : (text : List ℕ) → length (skip_spaces text) ≤ length text
skip_shorter text = let k = skip_found text in omega (arith, ap length k.2, length-append k.0 (skip_spaces text))

abbrev Shorter : List ℕ → Step × List ℕ → Type 0
Shorter text p = length p.1 < length text

after_shorter : (b : Bracket) (text : List ℕ) (p : Step × List ℕ) → after_step b text ≡ Some p → Shorter text p
after_shorter b text p e =
    elim (either_cases (behind (closing b) text) (λ (after : List ℕ). goes_on Close after) (either (behind 32 text) (λ (after : List ℕ). goes_on Begin (skip_spaces after)) None) p e) [
      | inl k ↦ subst (Shorter text) (same_Some (Close, k.0) p k.2) (omega (arith, ap length (behind_found (closing b) text k.0 k.1)))
      | inr k ↦ elim (either_cases (behind 32 text) (λ (after : List ℕ). goes_on Begin (skip_spaces after)) None p k.1) [
        | inl m ↦ subst (Shorter text) (same_Some (Begin, skip_spaces m.0) p m.2) (omega (arith, ap length (behind_found 32 text m.0 m.1), skip_shorter m.0))
        | inr m ↦ absurd (none-some p m.1)
      ]
    ]

whole_shorter : (lang : Language) (text : List ℕ) (lead : Lead) (after : List ℕ) → FoundWhole lang text lead after → length after < length text
whole_shorter lang text lead after f =
    let k = value_starts lang f.1 f.0 f.2 in
    omega (arith, ap length f.3, length-append f.0 after, ap length k.text_is)

found_shorter : (lang : Language) (text : List ℕ) (lead : Lead) (after : List ℕ) → Found lang text lead after → length after < length text
found_shorter lang text (leads.call name m) after (mark, v, n, cm, means, e) = omega (arith, ap length e, length-append name (mark ++ 40 ∷ after), length-append mark (40 ∷ after))
found_shorter lang text (leads.sequence name) after (n, e) = omega (arith, ap length e, length-append name (91 ∷ after))
found_shorter lang text leads.nodes after (full, e) = omega (arith, ap length e)
found_shorter lang text lead after f = whole_shorter lang text lead after (whole_found lang text lead after tt f)

lead_shorter : (lang : Language) (text : List ℕ) (l : Option (Lead × List ℕ)) (p : Step × List ℕ) → IsLeadIn lang text l → lead_step l ≡ Some p → Shorter text p
lead_shorter lang text None p l e = absurd (none-some p e)
lead_shorter lang text (Some q) p l e = subst (Shorter text) (same_Some (step_of_lead q.0, q.1) p e) (found_shorter lang text q.0 q.1 (found_in lang text q.0 q.1 l))

value_shorter : (lang : Language) (text : List ℕ) (o : Option (Step × List ℕ)) (p : Step × List ℕ) → after_step Round text ≡ o → IsValueStep lang text o (Some p) → Shorter text p
value_shorter lang text None p e k = lead_shorter lang text k.0 p k.1 (sym k.2)
value_shorter lang text (Some q) p e k = after_shorter Round text p (e ∙ sym k)

call_shorter : (lang : Language) (text after : List ℕ) (lead : Lead) (p : Step × List ℕ) → Found lang text lead after → call_of_lead lead after ≡ Some p → Shorter text p
call_shorter lang text after (leads.call name m) p f e = subst (Shorter text) (same_Some (Open Round, after) p e) (found_shorter lang text (leads.call name m) after f)
call_shorter lang text after lead p f e = absurd (none-some p e)

calls_shorter : (lang : Language) (text : List ℕ) (l : Option (Lead × List ℕ)) (p : Step × List ℕ) → IsLeadIn lang text l → call_step l ≡ Some p → Shorter text p
calls_shorter lang text None p l e = absurd (none-some p e)
calls_shorter lang text (Some q) p l e = call_shorter lang text q.1 q.0 p (found_in lang text q.0 q.1 l) e

angle_shorter : (lang : Language) (text : List ℕ) (o : Option (Step × List ℕ)) (p : Step × List ℕ) → after_step Angle text ≡ o → IsCallStep lang text o (Some p) → Shorter text p
angle_shorter lang text None p e k = calls_shorter lang text k.0 p k.1 (sym k.2)
angle_shorter lang text (Some q) p e k = after_shorter Angle text p (e ∙ sym k)

pub step_shorter : (lang : Language) (b : Bracket) (place : Place) (text : List ℕ) (p : Step × List ℕ) → IsStep lang b place text (Some p) → length p.1 < length text
step_shorter lang Round Before text p k = value_shorter lang text (after_step Round text) p refl k
step_shorter lang Round After text p k = after_shorter Round text p (sym k)
step_shorter lang Square Before text p k =
    let m = mapped (item_of text) (λ (q : Option (List ℕ) × List ℕ). (Open Round, q.1)) p (sym k) in
    let f = item_found text m.0 m.1 in
    subst (Shorter text) m.2 (omega (arith, ap length f.text_is, length-append f.mark (40 ∷ m.0.1)))
step_shorter lang Square After text p k = after_shorter Square text p (sym k)
step_shorter lang Angle Before text p k = angle_shorter lang text (after_step Angle text) p refl k
step_shorter lang Angle After text p k = after_shorter Angle text p (sym k)

pub whole_ends : (whole : Whole) → step_of_lead (view_whole whole) ≡ End
whole_ends (wholes.Decimal digits) = refl
whole_ends (wholes.Hexadecimal digits) = refl
whole_ends (wholes.Negative digits) = refl
whole_ends (wholes.Flag b) = refl
whole_ends (wholes.Character c) = refl
whole_ends (wholes.Quoted inside) = refl
whole_ends (wholes.Interned name) = refl
whole_ends (wholes.Bytes digits) = refl
whole_ends wholes.Empty = refl
whole_ends (wholes.Float text) = refl

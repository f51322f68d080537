-- The reader of what stands between brackets, and where it ends.
use Rattle.std.proofs.Common.{◌≡◌, ◌<◌, ◌-◌, ◌+◌, ℕ, List, [], ◌∷◌, ◌++◌, length, get_or, take, refl, sym, ap, subst, ◌∙◌, arith, Option, Some, None, length-append, reverse}
use Rattle.std.specs.Str.{IsCharBoundary}
use Rattle.std.proofs.lemmas.List.{take_at, reverse-append}
use Rattle.std.proofs.lemmas.Option.{same_Some, none-some}
use Rattle.std.proofs.lemmas.Str.{IsCharBoundary-before_ascii}
use Rattle.defmt_grammar.specs.declared.language.Language.{Language}
use Rattle.defmt_shapes.specs.declared.scan.Bracket.{Bracket}
use Rattle.defmt_shapes.specs.declared.scan.Bracket.TheVariants.{Round, Square, Angle}
use Rattle.defmt_shapes.specs.declared.scan.Place.{Place}
use Rattle.defmt_shapes.specs.declared.scan.Place.TheVariants.{Before, After}
use Rattle.defmt_shapes.specs.declared.scan.Step.{Step}
use Rattle.defmt_shapes.specs.declared.scan.Step.TheVariants.{Begin, End, Open, Close}
use Rattle.defmt_shapes.specs.Scan.{closing, Encloses, IsEnclosed, IsStep, Awaits, LeavesAt, InBrackets}
use Rattle.defmt_shapes.proofs.RunLaws.{get_at}
use Rattle.defmt_shapes.proofs.ScanLaws.{goes_on, step_sound}
use Rattle.defmt_shapes.proofs.AngleLaws.{angle_before, angle_after}
use Rattle.defmt_shapes.proofs.LeaveLaws.{LeavesNext, HasStep, round_before, round_after, square_before, square_after}

-- ---- steps

pub has_step : (lang : Language) (b : Bracket) (bs : List Bracket) (place : Place) (rest end : List ℕ) (o : Option (Step × List ℕ)) → LeavesAt lang b bs place rest end → IsStep lang b place rest o → HasStep lang b bs o end
has_step lang Round bs Before rest end o h s = round_before lang bs h.stands.0 h.inside h.after rest end o h.stands.1 h.rest_is h.outer s
has_step lang Round bs After rest end o h s = round_after lang bs h.stands.0 h.inside h.after rest end o h.stands.1 h.stands.2 h.rest_is h.outer s
has_step lang Square bs Before rest end o h s = square_before lang bs h.stands.0 h.inside h.after rest end o h.stands.1 h.stands.2 h.rest_is h.outer s
has_step lang Square bs After rest end o h s = square_after lang bs h.stands.0 h.inside h.after rest end o h.stands.1 h.stands.2 h.rest_is h.outer s
has_step lang Angle bs Before rest end o h s = angle_before lang bs h.stands.0 h.inside h.after rest end o h.stands.1 h.stands.2 h.rest_is h.outer s
has_step lang Angle bs After rest end o h s = angle_after lang bs h.stands.0 h.inside h.after rest end o h.stands.1 h.stands.2 h.stands.3 h.rest_is h.outer s

pub step_left : (lang : Language) (b : Bracket) (bs : List Bracket) (place : Place) (rest end : List ℕ) (p : Step × List ℕ) → LeavesAt lang b bs place rest end → IsStep lang b place rest (Some p) → LeavesNext lang b bs p.0 p.1 end
step_left lang b bs place rest end p h s =
    let m = has_step lang b bs place rest end (Some p) h s in
    subst (λ (q : Step × List ℕ). LeavesNext lang b bs q.0 q.1 end) (sym (same_Some p (m.step, m.after) m.goes)) m.leaves

-- ---- the reader

pub go_begin : (lang : Language) (first b : Bracket) (text : List ℕ) (bs : List Bracket) (place : Place) (rest after : List ℕ) → InBrackets lang first text b bs place rest → IsStep lang b place rest (goes_on Begin after) → InBrackets lang first text b bs Before after
go_begin lang first b text bs place rest after h s = record {
  sound = step_sound lang first b text bs place rest (Begin, after) s h.sound;
  complete = λ inside end k. step_left lang b bs place rest end (Begin, after) (h.complete inside end k) s;
}

pub go_end : (lang : Language) (first b : Bracket) (text : List ℕ) (bs : List Bracket) (place : Place) (rest after : List ℕ) → InBrackets lang first text b bs place rest → IsStep lang b place rest (goes_on End after) → InBrackets lang first text b bs After after
go_end lang first b text bs place rest after h s = record {
  sound = step_sound lang first b text bs place rest (End, after) s h.sound;
  complete = λ inside end k. step_left lang b bs place rest end (End, after) (h.complete inside end k) s;
}

pub go_open : (lang : Language) (first b c : Bracket) (text : List ℕ) (below : List Bracket) (place : Place) (rest after : List ℕ) → InBrackets lang first text b (reverse below) place rest → IsStep lang b place rest (goes_on (Open c) after) → InBrackets lang first text c (reverse (below ++ b ∷ [])) Before after
go_open lang first b c text below place rest after h s =
    subst (λ (bs : List Bracket). InBrackets lang first text c bs Before after) (sym (reverse-append below (b ∷ [])))
    (record {
      sound = step_sound lang first b text (reverse below) place rest (Open c, after) s h.sound;
      complete = λ inside end k. step_left lang b (reverse below) place rest end (Open c, after) (h.complete inside end k) s;
    })

pub out_of : (lang : Language) (first b d : Bracket) (text : List ℕ) (bs : List Bracket) (place : Place) (rest after : List ℕ) → InBrackets lang first text b (d ∷ bs) place rest → IsStep lang b place rest (goes_on Close after) → InBrackets lang first text d bs After after
out_of lang first b d text bs place rest after h s = record {
  sound = step_sound lang first b text (d ∷ bs) place rest (Close, after) s h.sound;
  complete = λ inside end k.
      let m = step_left lang b (d ∷ bs) place rest end (Close, after) (h.complete inside end k) s in
      record { inside = m.0; after = m.1; rest_is = m.2; stands = m.3; outer = m.4 };
}

pub go_close : (lang : Language) (first b d : Bracket) (text : List ℕ) (below outer : List Bracket) (place : Place) (rest after : List ℕ) → InBrackets lang first text b (reverse below) place rest → IsStep lang b place rest (goes_on Close after) → below ≡ outer ++ d ∷ [] → InBrackets lang first text d (reverse outer) After after
go_close lang first b d text below outer place rest after h s e =
    out_of lang first b d text (reverse outer) place rest after
    (subst (λ (bs : List Bracket). InBrackets lang first text b bs place rest) (ap reverse e ∙ reverse-append outer (d ∷ [])) h) s

pub is_stuck : (lang : Language) (first b : Bracket) (text : List ℕ) (bs : List Bracket) (place : Place) (rest : List ℕ) → InBrackets lang first text b bs place rest → IsStep lang b place rest None → IsEnclosed lang first text None
is_stuck lang first b text bs place rest h s = λ inside end k.
    let m = has_step lang b bs place rest end None (h.complete inside end k) s in
    none-some (m.step, m.after) m.goes

-- ---- the end

pub at_end : (lang : Language) (first b : Bracket) (text : List ℕ) (place : Place) (rest after : List ℕ) (below : List Bracket) → InBrackets lang first text b (reverse below) place rest → below ≡ [] → IsStep lang b place rest (goes_on Close after) → (inside : List ℕ) × Encloses lang first text inside after
at_end lang first b text place rest after below h none s =
    step_sound lang first b text [] place rest (Close, after) s (subst (λ (bs : List Bracket). Awaits lang first text b (reverse bs) place rest) none h.sound)

pub end_size : (lang : Language) (first : Bracket) (text inside after : List ℕ) → Encloses lang first text inside after → length text ≡ length inside + 1 + length after
end_size lang first text inside after h = omega (arith, ap length h.text_is, length-append inside (closing first ∷ after))

pub end_inside : (lang : Language) (first : Bracket) (text inside after front : List ℕ) → Encloses lang first text front after → inside ≡ take (length text - length after - 1) text → Encloses lang first text inside after
end_inside lang first text inside after front h e =
    let size : length text - length after - 1 ≡ length front = omega (arith, end_size lang first text front after h) in
    let same : inside ≡ front = e ∙ ap (λ (n : ℕ). take n text) size ∙ ap (take (length front)) h.text_is ∙ take_at front (closing first ∷ after) (length front) refl in
    subst (λ (t : List ℕ). Encloses lang first text t after) (sym same) h

closing_ascii : (b : Bracket) → closing b < 128
closing_ascii Round = omega arith
closing_ascii Square = omega arith
closing_ascii Angle = omega arith

pub end_boundary : (lang : Language) (first : Bracket) (text after front : List ℕ) → Encloses lang first text front after → IsCharBoundary text (length text - length after - 1)
end_boundary lang first text after front h =
    let size : length front ≡ length text - length after - 1 = omega (arith, end_size lang first text front after h) in
    let there : get_or text (length front) 0 ≡ closing first = ap (λ (t : List ℕ). get_or t (length front) 0) h.text_is ∙ get_at front after (closing first) in
    subst (IsCharBoundary text) size
    (IsCharBoundary-before_ascii text (length front) (omega (arith, end_size lang first text front after h)) (omega (arith, there, closing_ascii first)))

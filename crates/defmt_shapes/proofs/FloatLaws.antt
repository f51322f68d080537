-- Floats in front of a text: what is read is spelled so, and what is spelled is read so where a value may end.
use Rattle.std.proofs.Common.{◌≡◌, ◌≢◌, ◌<◌, ℕ, eqb, List, [], ◌∷◌, ◌++◌, length, refl, sym, ap, ◌∙◌, arith, Option, Some, None, inl, inr, ◌⊎◌, append_assoc, codes, unwrap_or}
use Rattle.std.proofs.lemmas.Bool.{eqb-false, ne_eqb}
use Rattle.std.proofs.lemmas.Option.{same_Some}
use Rattle.std.proofs.lemmas.Str.Parse.{digit_from_value}
use Rattle.defmt_grammar.specs.Cut.{behind, strip}
use Rattle.defmt_grammar.proofs.Cuts.{behind_again, behind_found, strip_found}
use Rattle.defmt_shapes.specs.declared.parts.Class.TheVariants.{Decimal}
use Rattle.defmt_shapes.specs.Shape.{AreDigits, IsFraction, IsExponent, IsScale, IsUnsigned, IsFloat}
use Rattle.defmt_shapes.specs.Runs.{in_class, run, either}
use Rattle.defmt_shapes.specs.Leads.{after_digits, after_fraction, after_exponent, after_scale, after_unsigned, after_float}
use Rattle.defmt_shapes.proofs.EscapeLaws.{behind_other, either_found}
use Rattle.defmt_shapes.proofs.LeadAgain.{EndsDigits}
use Rattle.defmt_shapes.proofs.LeadForms.{StopsThere, IsInner, stops_behind, stops_class}
use Rattle.defmt_shapes.proofs.LeadFound.{either_cases, elsewise}
use Rattle.defmt_shapes.proofs.RunLaws.{FailsThere, run_found, run_again, digits_pass, pass_digits}

-- ---- what is read

digits_after : (text rest : List ℕ) → after_digits text ≡ Some rest → (ds : List ℕ) × AreDigits ds × (text ≡ ds ++ rest)
unfolding after_digits
digits_after text rest h =
    let d = run (in_class Decimal) text in
    let r = run_found (in_class Decimal) text in
    let k = elsewise (eqb (length d.0) 0) d.1 rest h in
    let n : length d.0 ≢ 0 = eqb-false (length d.0) 0 k.0 in
    (d.0, (omega arith, pass_digits 10 d.0 r.passes), r.text_is ∙ ap (λ (t : List ℕ). d.0 ++ t) k.1)

fraction_after : (text rest : List ℕ) → after_fraction text ≡ Some rest → (f : List ℕ) × IsFraction f × (text ≡ f ++ rest)
unfolding after_fraction
fraction_after text rest h =
    let b = either_found (behind 46 text) after_digits rest h in
    let d = digits_after b.0 rest b.2 in
    (46 ∷ d.0, (d.0, d.1, refl), behind_found 46 text b.0 b.1 ∙ ap (λ (t : List ℕ). 46 ∷ t) d.2)

abbrev signed_after : List ℕ → Option (List ℕ)
signed_after more = either (behind 45 more) after_digits (either (behind 43 more) after_digits (after_digits more))

exponent_after : (text rest : List ℕ) → after_exponent text ≡ Some rest → (e : List ℕ) × IsExponent e × (text ≡ e ++ rest)
unfolding after_exponent
exponent_after text rest h =
    let b = either_found (behind 101 text) signed_after rest h in
    let whole = behind_found 101 text b.0 b.1 in
    elim (either_cases (behind 45 b.0) after_digits (either (behind 43 b.0) after_digits (after_digits b.0)) rest b.2) [
      | inl k ↦ (
          let d = digits_after k.0 rest k.2 in
          (101 ∷ 45 ∷ d.0, (codes "-", d.0, inr (inl refl), d.1, refl), whole ∙ ap (λ (t : List ℕ). 101 ∷ t) (behind_found 45 b.0 k.0 k.1 ∙ ap (λ (t : List ℕ). 45 ∷ t) d.2)))
      | inr k ↦ elim (either_cases (behind 43 b.0) after_digits (after_digits b.0) rest k.1) [
        | inl m ↦ (
            let d = digits_after m.0 rest m.2 in
            (101 ∷ 43 ∷ d.0, (codes "+", d.0, inr (inr refl), d.1, refl), whole ∙ ap (λ (t : List ℕ). 101 ∷ t) (behind_found 43 b.0 m.0 m.1 ∙ ap (λ (t : List ℕ). 43 ∷ t) d.2)))
        | inr m ↦ (
            let d = digits_after b.0 rest m.1 in
            (101 ∷ d.0, ([], d.0, inl refl, d.1, refl), whole ∙ ap (λ (t : List ℕ). 101 ∷ t) d.2))
      ]
    ]

-- an exponent or none behind a fraction
behind_fraction : (text more rest : List ℕ) (o : Option (List ℕ)) → (f : List ℕ) × IsFraction f × (text ≡ f ++ more) → after_exponent more ≡ o → unwrap_or o more ≡ rest → (s : List ℕ) × IsScale s × (text ≡ s ++ rest)
behind_fraction text more rest None f e same = (f.0, inl f.1, f.2 ∙ ap (λ (t : List ℕ). f.0 ++ t) same)
behind_fraction text more rest (Some r) f e same =
    let x = exponent_after more r e in
    (f.0 ++ x.0, inr (inr (f.0, x.0, f.1, x.1, refl)), f.2 ∙ ap (λ (t : List ℕ). f.0 ++ t) (x.2 ∙ ap (λ (t : List ℕ). x.0 ++ t) same) ∙ sym (append_assoc f.0 x.0 rest))

scale_after : (text rest : List ℕ) → after_scale text ≡ Some rest → (s : List ℕ) × IsScale s × (text ≡ s ++ rest)
unfolding after_scale
scale_after text rest h =
    elim (either_cases (after_fraction text) (λ (more : List ℕ). Some (unwrap_or (after_exponent more) more)) (after_exponent text) rest h) [
      | inl k ↦ behind_fraction text k.0 rest (after_exponent k.0) (fraction_after text k.0 k.1) refl (same_Some (unwrap_or (after_exponent k.0) k.0) rest k.2)
      | inr k ↦ (let x = exponent_after text rest k.1 in (x.0, inr (inl x.1), x.2))
    ]

unsigned_after : (text rest : List ℕ) → after_unsigned text ≡ Some rest → (u : List ℕ) × IsUnsigned u × (text ≡ u ++ rest)
unfolding after_unsigned
unsigned_after text rest h =
    elim (either_cases (strip (codes "inf") text) (λ (more : List ℕ). Some more) (either (after_digits text) after_scale None) rest h) [
      | inl k ↦ (codes "inf", inr refl, strip_found (codes "inf") text k.0 k.1 ∙ ap (λ (t : List ℕ). codes "inf" ++ t) (same_Some k.0 rest k.2))
      | inr k ↦ (
          let b = either_found (after_digits text) after_scale rest k.1 in
          let d = digits_after text b.0 b.1 in
          let s = scale_after b.0 rest b.2 in
          (d.0 ++ s.0, inl (d.0, s.0, d.1, s.1, refl), d.2 ∙ ap (λ (t : List ℕ). d.0 ++ t) s.2 ∙ sym (append_assoc d.0 s.0 rest)))
    ]

pub float_after : (text rest : List ℕ) → after_float text ≡ Some rest → (t : List ℕ) × IsFloat t × (text ≡ t ++ rest)
unfolding after_float
float_after text rest h =
    elim (either_cases (strip (codes "NaN") text) (λ (more : List ℕ). Some more) (either (behind 45 text) after_unsigned (after_unsigned text)) rest h) [
      | inl k ↦ (codes "NaN", inl refl, strip_found (codes "NaN") text k.0 k.1 ∙ ap (λ (t : List ℕ). codes "NaN" ++ t) (same_Some k.0 rest k.2))
      | inr k ↦ elim (either_cases (behind 45 text) after_unsigned (after_unsigned text) rest k.1) [
        | inl m ↦ (let u = unsigned_after m.0 rest m.2 in (45 ∷ u.0, inr (inr (u.0, u.1, refl)), behind_found 45 text m.0 m.1 ∙ ap (λ (t : List ℕ). 45 ∷ t) u.2))
        | inr m ↦ (let u = unsigned_after text rest m.1 in (u.0, inr (inl u.1), u.2))
      ]
    ]

-- ---- what is spelled

digits_again : (ds rest : List ℕ) → AreDigits ds → FailsThere (in_class Decimal) rest → after_digits (ds ++ rest) ≡ Some rest
unfolding after_digits
digits_again ds rest h fails =
    let some : 0 < length ds = h.0 in
    rw (run_again (in_class Decimal) ds rest (digits_pass 10 ds h.1) fails) (rw (ne_eqb (length ds) 0 (λ e. omega arith)) refl)

-- digits begin with no character below them
digits_other : (c : ℕ) (ds rest : List ℕ) → AreDigits ds → c < 48 → behind c (ds ++ rest) ≡ None
digits_other c [] rest h low = absurd (let some : 0 < 0 = h.0 in omega arith)
digits_other c (d ∷ ds) rest h low = let r = digit_from_value d h.1.0 in behind_other c d (ds ++ rest) (λ e. omega (arith, r.0))

fraction_again : (f rest : List ℕ) → IsFraction f → FailsThere (in_class Decimal) rest → after_fraction (f ++ rest) ≡ Some rest
unfolding after_fraction
fraction_again f rest (ds, d, e) fails = rw e (rw (behind_again 46 (ds ++ rest)) (digits_again ds rest d fails))

bare_again : (ds rest : List ℕ) → AreDigits ds → FailsThere (in_class Decimal) rest → after_exponent (101 ∷ (ds ++ rest)) ≡ Some rest
unfolding after_exponent
bare_again ds rest d fails = rw (behind_again 101 (ds ++ rest)) (rw (digits_other 45 ds rest d (omega arith), digits_other 43 ds rest d (omega arith)) (digits_again ds rest d fails))

minus_again : (ds rest : List ℕ) → AreDigits ds → FailsThere (in_class Decimal) rest → after_exponent (101 ∷ 45 ∷ (ds ++ rest)) ≡ Some rest
unfolding after_exponent
minus_again ds rest d fails = rw (behind_again 101 (45 ∷ (ds ++ rest))) (rw (behind_again 45 (ds ++ rest)) (digits_again ds rest d fails))

plus_again : (ds rest : List ℕ) → AreDigits ds → FailsThere (in_class Decimal) rest → after_exponent (101 ∷ 43 ∷ (ds ++ rest)) ≡ Some rest
unfolding after_exponent
plus_again ds rest d fails =
    rw (behind_again 101 (43 ∷ (ds ++ rest))) (rw (behind_other 45 43 (ds ++ rest) (λ e. omega arith), behind_again 43 (ds ++ rest)) (digits_again ds rest d fails))

exponent_again : (e rest : List ℕ) → IsExponent e → FailsThere (in_class Decimal) rest → after_exponent (e ++ rest) ≡ Some rest
exponent_again e rest (sign, ds, inl s, d, is) fails = rw (is, s) (bare_again ds rest d fails)
exponent_again e rest (sign, ds, inr (inl s), d, is) fails = rw (is, s) (minus_again ds rest d fails)
exponent_again e rest (sign, ds, inr (inr s), d, is) fails = rw (is, s) (plus_again ds rest d fails)

e_inner : IsInner 101
e_inner = record { no_space = λ e. omega arith; no_round = λ e. omega arith; no_angle = λ e. omega arith }

no_exponent : (rest : List ℕ) → StopsThere rest → after_exponent rest ≡ None
unfolding after_exponent
no_exponent rest stops = rw (stops_behind 101 rest e_inner stops) refl

-- an exponent begins with `e`
no_fraction : (e rest : List ℕ) → IsExponent e → after_fraction (e ++ rest) ≡ None
unfolding after_fraction
no_fraction e rest (sign, ds, s, d, is) = rw is (rw (behind_other 46 101 ((sign ++ ds) ++ rest) (λ k. omega arith)) refl)

exponent_fails : (e rest : List ℕ) → IsExponent e → FailsThere (in_class Decimal) (e ++ rest)
exponent_fails e rest (sign, ds, s, d, is) = rw is refl

scale_again : (s rest : List ℕ) → IsScale s → StopsThere rest → after_scale (s ++ rest) ≡ Some rest
unfolding after_scale
scale_again s rest (inl f) stops = rw (fraction_again s rest f (stops_class Decimal rest refl stops)) (rw (no_exponent rest stops) refl)
scale_again s rest (inr (inl e)) stops = rw (no_fraction s rest e) (exponent_again s rest e (stops_class Decimal rest refl stops))
scale_again s rest (inr (inr (f, e, is_f, is_e, is))) stops =
    rw (is, append_assoc f e rest) (rw (fraction_again f (e ++ rest) is_f (exponent_fails e rest is_e)) (rw (exponent_again e rest is_e (stops_class Decimal rest refl stops)) refl))

-- a scale begins with `.` or `e`
pub scale_first : (s : List ℕ) → IsScale s → (c : ℕ) × (more : List ℕ) × (s ≡ c ∷ more) × ((c ≡ 46) ⊎ (c ≡ 101))
scale_first s (inl (ds, d, is)) = (46, ds, is, inl refl)
scale_first s (inr (inl (sign, ds, x, d, is))) = (101, sign ++ ds, is, inr refl)
scale_first s (inr (inr (f, e, (ds, d, is_f), is_e, is))) = (46, ds ++ e, is ∙ ap (λ (t : List ℕ). t ++ e) is_f, inl refl)

pub scale_ends : (s rest : List ℕ) → IsScale s → EndsDigits (s ++ rest)
unfolding strip
scale_ends s rest h = let k = scale_first s h in elim k.3 [
  | inl c ↦ rw (k.2, c) (record { fails = refl; no_x = refl })
  | inr c ↦ rw (k.2, c) (record { fails = refl; no_x = refl })
]

no_word : (c : ℕ) (word ds rest : List ℕ) → AreDigits ds → 57 < c → strip (c ∷ word) (ds ++ rest) ≡ None
unfolding strip
no_word c word [] rest h high = absurd (let some : 0 < 0 = h.0 in omega arith)
no_word c word (d ∷ ds) rest h high = let r = digit_from_value d h.1.0 in rw (ne_eqb d c (λ e. omega (arith, r.1))) refl

scaled_again : (whole scale rest : List ℕ) → AreDigits whole → IsScale scale → StopsThere rest → after_unsigned (whole ++ (scale ++ rest)) ≡ Some rest
unfolding after_unsigned
scaled_again whole scale rest d s stops =
    rw (no_word 105 (codes "nf") whole (scale ++ rest) d (omega arith)) (rw (digits_again whole (scale ++ rest) d (scale_ends scale rest s).fails) (scale_again scale rest s stops))

inf_again : (rest : List ℕ) → after_unsigned (codes "inf" ++ rest) ≡ Some rest
unfolding after_unsigned strip
inf_again rest = refl

unsigned_again : (u rest : List ℕ) → IsUnsigned u → StopsThere rest → after_unsigned (u ++ rest) ≡ Some rest
unsigned_again u rest (inl (whole, scale, d, s, is)) stops = rw (is, append_assoc whole scale rest) (scaled_again whole scale rest d s stops)
unsigned_again u rest (inr is) stops = rw is (inf_again rest)

-- what has no sign begins neither with `-` nor with `<` nor with `NaN`
pub record HasNoMark (text : List ℕ) : Type 0 where
  pub no_minus : behind 45 text ≡ None
  pub no_angle : behind 60 text ≡ None
  pub no_nan : strip (codes "NaN") text ≡ None

digits_unmarked : (ds rest : List ℕ) → AreDigits ds → HasNoMark (ds ++ rest)
digits_unmarked [] rest h = absurd (let some : 0 < 0 = h.0 in omega arith)
digits_unmarked (d ∷ ds) rest h = let r = digit_from_value d h.1.0 in record {
  no_minus = behind_other 45 d (ds ++ rest) (λ e. omega (arith, r.0));
  no_angle = behind_other 60 d (ds ++ rest) (λ e. omega (arith, r.1));
  no_nan = no_word 78 (codes "aN") (d ∷ ds) rest h (omega arith);
}

inf_unmarked : (rest : List ℕ) → HasNoMark (codes "inf" ++ rest)
unfolding behind strip
inf_unmarked rest = record { no_minus = refl; no_angle = refl; no_nan = refl }

pub unsigned_unmarked : (u rest : List ℕ) → IsUnsigned u → HasNoMark (u ++ rest)
unsigned_unmarked u rest (inl (whole, scale, d, s, is)) = rw (is, append_assoc whole scale rest) (digits_unmarked whole (scale ++ rest) d)
unsigned_unmarked u rest (inr is) = rw is (inf_unmarked rest)

nan_again : (rest : List ℕ) → after_float (codes "NaN" ++ rest) ≡ Some rest
unfolding after_float strip
nan_again rest = refl

plain_again : (u rest : List ℕ) → IsUnsigned u → StopsThere rest → after_float (u ++ rest) ≡ Some rest
unfolding after_float
plain_again u rest h stops = let m = unsigned_unmarked u rest h in rw (m.no_nan, m.no_minus) (unsigned_again u rest h stops)

negative_again : (u rest : List ℕ) → IsUnsigned u → StopsThere rest → after_float (45 ∷ (u ++ rest)) ≡ Some rest
unfolding after_float strip
negative_again u rest h stops = rw (behind_again 45 (u ++ rest)) (unsigned_again u rest h stops)

pub float_again : (t rest : List ℕ) → IsFloat t → StopsThere rest → after_float (t ++ rest) ≡ Some rest
float_again t rest (inl is) stops = rw is (nan_again rest)
float_again t rest (inr (inl u)) stops = plain_again t rest u stops
float_again t rest (inr (inr (u, h, is))) stops = rw is (negative_again u rest h stops)

-- Settings that lines change stay lawful.
use Rattle.std.proofs.Common.{◌≡◌, ◌≤◌, ◌++◌, ℕ, Bool, true, false, List, [], ◌∷◌, Ok, length-append, refl, sym, ap, subst, arith}
use Rattle.std.specs.List.{AllByRecursion}
use Rattle.std.proofs.lemmas.Option.{same_Some}
use Rattle.defmt_lines.proofs.FormLaws.{in_order_on}
use Rattle.defmt_lines.specs.Form.{IsSetting, ReaderMayCome, in_order}
use Rattle.defmt_lines.specs.Settings.{AreLawful, IsTooLate, Sets, SetsLanguage, SetsMode, SetsOrder, SetsProfile, SetsRing, SetsStamp, frames_limit, stamp_limit}
use Rattle.defmt_lines.specs.declared.form.Form.{Form}
use Rattle.defmt_lines.specs.declared.form.Form.TheVariants as forms
use Rattle.defmt_lines.specs.declared.settings.Settings.{Settings}
use Rattle.defmt_script.specs.Steady.{StaysLawful}

language_stays : (s t : Settings) (word : List ℕ) → SetsLanguage word s (Ok t) → AreLawful s → s.late ≡ false → StaysLawful forms.Language s t
language_stays s t word (l, named, is) h live = subst (λ (u : Settings). StaysLawful forms.Language s u) (sym is) (record {
  setting = (1, refl);
  lawful = record { least = h.least; most = h.most; not_late = h.not_late; stamp_within = h.stamp_within; few_orders = h.few_orders; orders_within = h.orders_within };
  language = λ table same. refl;
  not_late = λ _. live;
})

ring_stays : (s t : Settings) (word : List ℕ) → SetsRing word s (Ok t) → AreLawful s → s.late ≡ false → StaysLawful forms.Ring s t
ring_stays s t word (n, number, is) h live = subst (λ (u : Settings). StaysLawful forms.Ring s u) (sym is) (record {
  setting = (1, refl);
  lawful = record { least = number.least; most = number.most; not_late = h.not_late; stamp_within = h.stamp_within; few_orders = h.few_orders; orders_within = h.orders_within };
  language = λ table same. same;
  not_late = λ _. live;
})

mode_stays : (s t : Settings) (word : List ℕ) → SetsMode word s (Ok t) → AreLawful s → s.late ≡ false → StaysLawful forms.Mode s t
mode_stays s t word (m, named, is) h live = subst (λ (u : Settings). StaysLawful forms.Mode s u) (sym is) (record {
  setting = (1, refl);
  lawful = record { least = h.least; most = h.most; not_late = λ _. live; stamp_within = h.stamp_within; few_orders = h.few_orders; orders_within = h.orders_within };
  language = λ table same. same;
  not_late = λ _. live;
})

-- no reader may come behind a reader's line, nor behind a stamp's, a profile's or an order's
no_reader : {P : Type 0} → ReaderMayCome forms.Stamp → P
no_reader may = absurd (let clash : false ≡ true = may in cc clash)

no_reader_behind : {P : Type 0} → ReaderMayCome forms.Profile → P
no_reader_behind may = absurd (let clash : false ≡ true = may in cc clash)

no_reader_last : {P : Type 0} → ReaderMayCome forms.Order → P
no_reader_last may = absurd (let clash : false ≡ true = may in cc clash)

reader_by : (s t : Settings) (late : Bool) → (IsTooLate s late → ⊥) → t ≡ record s { late = late } → AreLawful s → StaysLawful forms.Reader s t
reader_by s t true free is h = subst (λ (u : Settings). StaysLawful forms.Reader s u) (sym is) (record {
  setting = (1, refl);
  lawful = record { least = h.least; most = h.most; not_late = λ block. absurd (free (refl, block)); stamp_within = h.stamp_within; few_orders = h.few_orders; orders_within = h.orders_within };
  language = λ table same. same;
  not_late = λ may. no_reader may;
})
reader_by s t false free is h = subst (λ (u : Settings). StaysLawful forms.Reader s u) (sym is) (record {
  setting = (1, refl);
  lawful = record { least = h.least; most = h.most; not_late = λ _. refl; stamp_within = h.stamp_within; few_orders = h.few_orders; orders_within = h.orders_within };
  language = λ table same. same;
  not_late = λ _. refl;
})

stamp_stays : (s t : Settings) (base step : List ℕ) → SetsStamp base step s (Ok t) → AreLawful s → StaysLawful forms.Stamp s t
stamp_stays s t base step (b, d, are, is) h = subst (λ (u : Settings). StaysLawful forms.Stamp s u) (sym is) (record {
  setting = (2, refl);
  lawful = record {
    least = h.least;
    most = h.most;
    not_late = h.not_late;
    stamp_within = λ p there.
        let pair : (b, d) ≡ p = same_Some (b, d) p there in
        (subst (λ (n : ℕ). n ≤ stamp_limit) (ap (λ (q : ℕ × ℕ). q.0) pair) are.0.most, subst (λ (n : ℕ). n ≤ stamp_limit) (ap (λ (q : ℕ × ℕ). q.1) pair) are.1.most);
    few_orders = h.few_orders;
    orders_within = h.orders_within;
  };
  language = λ table same. same;
  not_late = λ may. no_reader_behind may;
})

-- one order more
all_and_one : {X : Type 0} (P : X → Type 0) (xs : List X) (x : X) → AllByRecursion P xs → P x → AllByRecursion P (xs ++ x ∷ [])
all_and_one P [] x all here = (here, tt)
all_and_one P (y ∷ xs) x all here = (all.0, all_and_one P xs x all.1 here)

order_stays : (s t : Settings) (number word : List ℕ) → SetsOrder number word s (Ok t) → AreLawful s → StaysLawful forms.Order s t
order_stays s t number word (n, level, is_order, fewer, is) h = subst (λ (u : Settings). StaysLawful forms.Order s u) (sym is) (record {
  setting = (2, refl);
  lawful = record {
    least = h.least;
    most = h.most;
    not_late = h.not_late;
    stamp_within = h.stamp_within;
    few_orders = omega (arith, fewer, length-append s.orders ((n, level) ∷ []));
    orders_within = all_and_one (λ order. order.0 ≤ frames_limit) s.orders (n, level) h.orders_within is_order.0.most;
  };
  language = λ table same. same;
  not_late = λ may. no_reader_last may;
})

profile_stays : (s t : Settings) (word : List ℕ) → SetsProfile word s (Ok t) → AreLawful s → StaysLawful forms.Profile s t
profile_stays s t word (p, named, is) h = subst (λ (u : Settings). StaysLawful forms.Profile s u) (sym is) (record {
  setting = (1, refl);
  lawful = record { least = h.least; most = h.most; not_late = h.not_late; stamp_within = h.stamp_within; few_orders = h.few_orders; orders_within = h.orders_within };
  language = λ table same. same;
  not_late = λ may. no_reader_last may;
})

pub stays : (first form : Form) (words : List (List ℕ)) (s t : Settings) → AreLawful s → (ReaderMayCome first → s.late ≡ false) → Sets form words s (Ok t) → in_order first form ≡ true → StaysLawful form s t
stays first forms.Language (word ∷ []) s t h live set order = language_stays s t word set h (live (in_order_on first forms.Language forms.Reader order refl))
stays first forms.Ring (word ∷ []) s t h live set order = ring_stays s t word set h (live (in_order_on first forms.Ring forms.Reader order refl))
stays first forms.Mode (word ∷ []) s t h live set order = mode_stays s t word set h (live (in_order_on first forms.Mode forms.Reader order refl))
stays first forms.Reader (word ∷ []) s t h live set order = reader_by s t set.0 set.2 set.3 h
stays first forms.Stamp (base ∷ step ∷ []) s t h live set order = stamp_stays s t base step set h
stays first forms.Profile (word ∷ []) s t h live set order = profile_stays s t word set h
stays first forms.Order (number ∷ word ∷ []) s t h live set order = order_stays s t number word set h
stays first form words s t h live set order = absurd (cc set)

-- what sets something is a setting
pub is_setting : (form : Form) (words : List (List ℕ)) (s t : Settings) → Sets form words s (Ok t) → IsSetting form
is_setting forms.Language (word ∷ []) s t set = (1, refl)
is_setting forms.Ring (word ∷ []) s t set = (1, refl)
is_setting forms.Mode (word ∷ []) s t set = (1, refl)
is_setting forms.Reader (word ∷ []) s t set = (1, refl)
is_setting forms.Stamp (base ∷ step ∷ []) s t set = (2, refl)
is_setting forms.Profile (word ∷ []) s t set = (1, refl)
is_setting forms.Order (number ∷ word ∷ []) s t set = (2, refl)
is_setting form words s t set = absurd (cc set)

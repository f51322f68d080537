-- What the words of a line set.
use Rattle.std.proofs.Common.{◌≡◌, ◌<◌, ◌≤◌, ◌++◌, ◌&&◌, inl, inr, ℕ, Bool, true, false, cond, List, [], ◌∷◌, Option, Some, None, Result, Ok, Err, length, refl, sym, ◌∙◌, ap, arith}
use Rattle.std.specs.Prelude.{nat_lt}
use Rattle.std.proofs.lemmas.Bool.Decides.{nat_tests}
use Rattle.std.proofs.lemmas.Option.{same_Some}
use Rattle.defmt_grammar.specs.declared.language.Language.{Language}
use Rattle.defmt_hooks.specs.Levels.{level_named}
use Rattle.defmt_hooks.specs.declared.level.Level.{Level}
use Rattle.defmt_intern.specs.declared.table.Profile.{Profile}
use Rattle.defmt_lines.proofs.NumberLaws.{number_again, number_found, one_number}
use Rattle.defmt_lines.specs.Number.{IsNumber, number_within}
use Rattle.defmt_lines.specs.Settings.{IsOrder, Sets, SetsLanguage, SetsMode, SetsOrder, SetsProfile, SetsReader, SetsRing, SetsStamp, frames_limit, is_block, language_of, language_or, late_of, mode_of, mode_or, order_or, orders_limit, profile_of, profile_or, reader_or, ring_or, stamp_limit, stamp_or, with_language, with_mode, with_order, with_profile, with_reader, with_ring, with_stamp, with_words}
use Rattle.defmt_lines.specs.declared.cause.Cause.{Cause}
use Rattle.defmt_lines.specs.declared.cause.Cause.TheVariants as causes
use Rattle.defmt_lines.specs.declared.form.Form.{Form}
use Rattle.defmt_lines.specs.declared.form.Form.TheVariants as forms
use Rattle.defmt_lines.specs.declared.settings.RingMode.{RingMode}
use Rattle.defmt_lines.specs.declared.settings.Settings.{Settings}

-- ---- what is read is so

-- where no number is read there is none
no_number : (low high : ℕ) (text : List ℕ) → number_within low high text ≡ None → (n : ℕ) → IsNumber low high text n → ⊥
no_number low high text none n is = let clash : None ≡ Some n = sym none ∙ number_again low high n text is in absurd (cc clash)

language_by : (s : Settings) (word : List ℕ) (o : Option Language) → language_of word ≡ o → SetsLanguage word s (language_or s o)
language_by s word (Some l) e = (l, e, refl)
language_by s word None e = (e, refl)

language_found : (s : Settings) (word : List ℕ) → SetsLanguage word s (with_language s word)
unfolding with_language
language_found s word = language_by s word (language_of word) refl

ring_by : (s : Settings) (word : List ℕ) (o : Option ℕ) → number_within 16 65536 word ≡ o → SetsRing word s (ring_or s o)
ring_by s word (Some n) e = (n, number_found 16 65536 n word e, refl)
ring_by s word None e = (no_number 16 65536 word e, refl)

ring_found : (s : Settings) (word : List ℕ) → SetsRing word s (with_ring s word)
unfolding with_ring
ring_found s word = ring_by s word (number_within 16 65536 word) refl

mode_by : (s : Settings) (word : List ℕ) (o : Option RingMode) → mode_of word ≡ o → SetsMode word s (mode_or s o)
mode_by s word (Some m) e = (m, e, refl)
mode_by s word None e = (e, refl)

mode_found : (s : Settings) (word : List ℕ) → SetsMode word s (with_mode s word)
unfolding with_mode
mode_found s word = mode_by s word (mode_of word) refl

late_by : (s : Settings) (word : List ℕ) (late block : Bool) → late_of word ≡ Some late → is_block s.mode ≡ block
    → SetsReader word s (cond (late && block) (Err causes.Late) (Ok (record s { late = late })))
late_by s word true true e is = inr (true, e, (refl, is), refl)
late_by s word true false e is = (true, e, λ h. absurd (let clash : true ≡ false = sym h.1 ∙ is in cc clash), refl)
late_by s word false block e is = (false, e, λ h. absurd (let clash : false ≡ true = h.0 in cc clash), refl)

reader_by : (s : Settings) (word : List ℕ) (o : Option Bool) → late_of word ≡ o → SetsReader word s (reader_or s o)
reader_by s word (Some late) e = late_by s word late (is_block s.mode) e refl
reader_by s word None e = inl (e, refl)

reader_found : (s : Settings) (word : List ℕ) → SetsReader word s (with_reader s word)
unfolding with_reader
reader_found s word = reader_by s word (late_of word) refl

stamp_by : (s : Settings) (base step : List ℕ) (o p : Option ℕ) → number_within 0 stamp_limit base ≡ o → number_within 0 stamp_limit step ≡ p → SetsStamp base step s (stamp_or s o p)
stamp_by s base step (Some b) (Some d) e f = (b, d, (number_found 0 stamp_limit b base e, number_found 0 stamp_limit d step f), refl)
stamp_by s base step (Some b) None e f = (λ n m are. no_number 0 stamp_limit step f m are.1, refl)
stamp_by s base step None p e f = (λ n m are. no_number 0 stamp_limit base e n are.0, refl)

stamp_found : (s : Settings) (base step : List ℕ) → SetsStamp base step s (with_stamp s base step)
unfolding with_stamp
stamp_found s base step = stamp_by s base step (number_within 0 stamp_limit base) (number_within 0 stamp_limit step) refl refl

profile_by : (s : Settings) (word : List ℕ) (o : Option Profile) → profile_of word ≡ o → SetsProfile word s (profile_or s o)
profile_by s word (Some p) e = (p, e, refl)
profile_by s word None e = (e, refl)

profile_found : (s : Settings) (word : List ℕ) → SetsProfile word s (with_profile s word)
unfolding with_profile
profile_found s word = profile_by s word (profile_of word) refl

fewer : (count most : ℕ) → nat_lt count most ≡ true → count < most
fewer count most is = grind (arith, nat_tests)

not_fewer : (count most : ℕ) → nat_lt count most ≡ false → most ≤ count
not_fewer count most is = grind (arith, nat_tests)

counted_by : (s : Settings) (number word : List ℕ) (n : ℕ) (level : Level) (b : Bool) → IsOrder number word n level → nat_lt (length s.orders) orders_limit ≡ b
    → SetsOrder number word s (cond b (Ok (record s { orders = s.orders ++ (n, level) ∷ [] })) (Err causes.Many))
counted_by s number word n level true is e = (n, level, is, fewer (length s.orders) orders_limit e, refl)
counted_by s number word n level false is e = inr (n, level, is, not_fewer (length s.orders) orders_limit e, refl)

order_by : (s : Settings) (number word : List ℕ) (o : Option ℕ) (l : Option Level) → number_within 0 frames_limit number ≡ o → level_named word ≡ l → SetsOrder number word s (order_or s o l)
order_by s number word (Some n) (Some level) e f = counted_by s number word n level (nat_lt (length s.orders) orders_limit) (number_found 0 frames_limit n number e, f) refl
order_by s number word (Some n) None e f = inl (λ m level is. let clash : None ≡ Some level = sym f ∙ is.1 in absurd (cc clash), refl)
order_by s number word None l e f = inl (λ m level is. no_number 0 frames_limit number e m is.0, refl)

order_found : (s : Settings) (number word : List ℕ) → SetsOrder number word s (with_order s number word)
unfolding with_order
order_found s number word = order_by s number word (number_within 0 frames_limit number) (level_named word) refl refl

pub set_found : (form : Form) (words : List (List ℕ)) (s : Settings) → Sets form words s (with_words form words s)
set_found forms.Language (word ∷ []) s = language_found s word
set_found forms.Ring (word ∷ []) s = ring_found s word
set_found forms.Mode (word ∷ []) s = mode_found s word
set_found forms.Reader (word ∷ []) s = reader_found s word
set_found forms.Stamp (base ∷ step ∷ []) s = stamp_found s base step
set_found forms.Profile (word ∷ []) s = profile_found s word
set_found forms.Order (number ∷ word ∷ []) s = order_found s number word
set_found form words s = refl

-- ---- one answer

abbrev Answer : Type 0
Answer = Result Settings Cause

one_language : (s : Settings) (word : List ℕ) (a b : Answer) → SetsLanguage word s a → SetsLanguage word s b → a ≡ b
one_language s word (Ok t) (Ok u) p q =
    let same : p.0 ≡ q.0 = same_Some p.0 q.0 (sym p.1 ∙ q.1) in
    ap (λ (x : Settings). let r : Answer = Ok x in r) (p.2 ∙ ap (λ (l : Language). let x : Settings = record s { language = l } in x) same ∙ sym q.2)
one_language s word (Ok t) (Err cause) p q = let clash : Some p.0 ≡ None = sym p.1 ∙ q.0 in absurd (cc clash)
one_language s word (Err cause) (Ok u) p q = let clash : Some q.0 ≡ None = sym q.1 ∙ p.0 in absurd (cc clash)
one_language s word (Err cause) (Err other) p q = ap (λ (c : Cause). let r : Answer = Err c in r) (p.1 ∙ sym q.1)

one_ring : (s : Settings) (word : List ℕ) (a b : Answer) → SetsRing word s a → SetsRing word s b → a ≡ b
one_ring s word (Ok t) (Ok u) p q =
    let same : p.0 ≡ q.0 = one_number 16 65536 p.0 q.0 word p.1 q.1 in
    ap (λ (x : Settings). let r : Answer = Ok x in r) (p.2 ∙ ap (λ (n : ℕ). let x : Settings = record s { ring = n } in x) same ∙ sym q.2)
one_ring s word (Ok t) (Err cause) p q = absurd (q.0 p.0 p.1)
one_ring s word (Err cause) (Ok u) p q = absurd (p.0 q.0 q.1)
one_ring s word (Err cause) (Err other) p q = ap (λ (c : Cause). let r : Answer = Err c in r) (p.1 ∙ sym q.1)

one_mode : (s : Settings) (word : List ℕ) (a b : Answer) → SetsMode word s a → SetsMode word s b → a ≡ b
one_mode s word (Ok t) (Ok u) p q =
    let same : p.0 ≡ q.0 = same_Some p.0 q.0 (sym p.1 ∙ q.1) in
    ap (λ (x : Settings). let r : Answer = Ok x in r) (p.2 ∙ ap (λ (m : RingMode). let x : Settings = record s { mode = m } in x) same ∙ sym q.2)
one_mode s word (Ok t) (Err cause) p q = let clash : Some p.0 ≡ None = sym p.1 ∙ q.0 in absurd (cc clash)
one_mode s word (Err cause) (Ok u) p q = let clash : Some q.0 ≡ None = sym q.1 ∙ p.0 in absurd (cc clash)
one_mode s word (Err cause) (Err other) p q = ap (λ (c : Cause). let r : Answer = Err c in r) (p.1 ∙ sym q.1)

-- a reader who is set isn't refused
set_or_refused : (s : Settings) (word : List ℕ) (t : Settings) (cause : Cause) → SetsReader word s (Ok t) → SetsReader word s (Err cause) → ⊥
set_or_refused s word t cause p (inl q) = let clash : Some p.0 ≡ None = sym p.1 ∙ q.0 in absurd (cc clash)
set_or_refused s word t cause p (inr q) =
    let same : q.0 ≡ p.0 = same_Some q.0 p.0 (sym q.1 ∙ p.1) in p.2 (sym same ∙ q.2.0, q.2.1)

one_refusal : (s : Settings) (word : List ℕ) (c d : Cause) → SetsReader word s (Err c) → SetsReader word s (Err d) → c ≡ d
one_refusal s word c d (inl p) (inl q) = p.1 ∙ sym q.1
one_refusal s word c d (inl p) (inr q) = let clash : Some q.0 ≡ None = sym q.1 ∙ p.0 in absurd (cc clash)
one_refusal s word c d (inr p) (inl q) = let clash : Some p.0 ≡ None = sym p.1 ∙ q.0 in absurd (cc clash)
one_refusal s word c d (inr p) (inr q) = p.3 ∙ sym q.3

one_reader : (s : Settings) (word : List ℕ) (a b : Answer) → SetsReader word s a → SetsReader word s b → a ≡ b
one_reader s word (Ok t) (Ok u) p q =
    let same : p.0 ≡ q.0 = same_Some p.0 q.0 (sym p.1 ∙ q.1) in
    ap (λ (x : Settings). let r : Answer = Ok x in r) (p.3 ∙ ap (λ (late : Bool). let x : Settings = record s { late = late } in x) same ∙ sym q.3)
one_reader s word (Ok t) (Err cause) p q = absurd (set_or_refused s word t cause p q)
one_reader s word (Err cause) (Ok u) p q = absurd (set_or_refused s word u cause q p)
one_reader s word (Err cause) (Err other) p q = ap (λ (c : Cause). let r : Answer = Err c in r) (one_refusal s word cause other p q)

one_stamp : (s : Settings) (base step : List ℕ) (a b : Answer) → SetsStamp base step s a → SetsStamp base step s b → a ≡ b
one_stamp s base step (Ok t) (Ok u) p q =
    let bases : p.0 ≡ q.0 = one_number 0 stamp_limit p.0 q.0 base p.2.0 q.2.0 in
    let steps : p.1 ≡ q.1 = one_number 0 stamp_limit p.1 q.1 step p.2.1 q.2.1 in
    let base_set : record s { stamp = Some (p.0, p.1) } ≡ record s { stamp = Some (q.0, p.1) } = ap (λ (n : ℕ). let x : Settings = record s { stamp = Some (n, p.1) } in x) bases in
    let step_set : record s { stamp = Some (q.0, p.1) } ≡ record s { stamp = Some (q.0, q.1) } = ap (λ (n : ℕ). let x : Settings = record s { stamp = Some (q.0, n) } in x) steps in
    ap (λ (x : Settings). let r : Answer = Ok x in r) (p.3 ∙ base_set ∙ step_set ∙ sym q.3)
one_stamp s base step (Ok t) (Err cause) p q = absurd (q.0 p.0 p.1 p.2)
one_stamp s base step (Err cause) (Ok u) p q = absurd (p.0 q.0 q.1 q.2)
one_stamp s base step (Err cause) (Err other) p q = ap (λ (c : Cause). let r : Answer = Err c in r) (p.1 ∙ sym q.1)

one_profile : (s : Settings) (word : List ℕ) (a b : Answer) → SetsProfile word s a → SetsProfile word s b → a ≡ b
one_profile s word (Ok t) (Ok u) p q =
    let same : p.0 ≡ q.0 = same_Some p.0 q.0 (sym p.1 ∙ q.1) in
    ap (λ (x : Settings). let r : Answer = Ok x in r) (p.2 ∙ ap (λ (m : Profile). let x : Settings = record s { profile = m } in x) same ∙ sym q.2)
one_profile s word (Ok t) (Err cause) p q = let clash : Some p.0 ≡ None = sym p.1 ∙ q.0 in absurd (cc clash)
one_profile s word (Err cause) (Ok u) p q = let clash : Some q.0 ≡ None = sym q.1 ∙ p.0 in absurd (cc clash)
one_profile s word (Err cause) (Err other) p q = ap (λ (c : Cause). let r : Answer = Err c in r) (p.1 ∙ sym q.1)

-- an order that is set isn't refused
ordered_or_refused : (s : Settings) (number word : List ℕ) (t : Settings) (cause : Cause) → SetsOrder number word s (Ok t) → SetsOrder number word s (Err cause) → ⊥
ordered_or_refused s number word t cause p (inl q) = q.0 p.0 p.1 p.2
ordered_or_refused s number word t cause p (inr q) = absurd (omega (arith, p.3, q.3))

one_order_refusal : (s : Settings) (number word : List ℕ) (c d : Cause) → SetsOrder number word s (Err c) → SetsOrder number word s (Err d) → c ≡ d
one_order_refusal s number word c d (inl p) (inl q) = p.1 ∙ sym q.1
one_order_refusal s number word c d (inl p) (inr q) = absurd (p.0 q.0 q.1 q.2)
one_order_refusal s number word c d (inr p) (inl q) = absurd (q.0 p.0 p.1 p.2)
one_order_refusal s number word c d (inr p) (inr q) = p.4 ∙ sym q.4

one_order : (s : Settings) (number word : List ℕ) (a b : Answer) → SetsOrder number word s a → SetsOrder number word s b → a ≡ b
one_order s number word (Ok t) (Ok u) p q =
    let numbers : p.0 ≡ q.0 = one_number 0 frames_limit p.0 q.0 number p.2.0 q.2.0 in
    let levels : p.1 ≡ q.1 = same_Some p.1 q.1 (sym p.2.1 ∙ q.2.1) in
    let number_set : record s { orders = s.orders ++ (p.0, p.1) ∷ [] } ≡ record s { orders = s.orders ++ (q.0, p.1) ∷ [] } = ap (λ (n : ℕ). let x : Settings = record s { orders = s.orders ++ (n, p.1) ∷ [] } in x) numbers in
    let level_set : record s { orders = s.orders ++ (q.0, p.1) ∷ [] } ≡ record s { orders = s.orders ++ (q.0, q.1) ∷ [] } = ap (λ (l : Level). let x : Settings = record s { orders = s.orders ++ (q.0, l) ∷ [] } in x) levels in
    ap (λ (x : Settings). let r : Answer = Ok x in r) (p.4 ∙ number_set ∙ level_set ∙ sym q.4)
one_order s number word (Ok t) (Err cause) p q = absurd (ordered_or_refused s number word t cause p q)
one_order s number word (Err cause) (Ok u) p q = absurd (ordered_or_refused s number word u cause q p)
one_order s number word (Err cause) (Err other) p q = ap (λ (c : Cause). let r : Answer = Err c in r) (one_order_refusal s number word cause other p q)

pub one_setting : (form : Form) (words : List (List ℕ)) (s : Settings) (a b : Answer) → Sets form words s a → Sets form words s b → a ≡ b
one_setting forms.Language (word ∷ []) s a b p q = one_language s word a b p q
one_setting forms.Ring (word ∷ []) s a b p q = one_ring s word a b p q
one_setting forms.Mode (word ∷ []) s a b p q = one_mode s word a b p q
one_setting forms.Reader (word ∷ []) s a b p q = one_reader s word a b p q
one_setting forms.Stamp (base ∷ step ∷ []) s a b p q = one_stamp s base step a b p q
one_setting forms.Profile (word ∷ []) s a b p q = one_profile s word a b p q
one_setting forms.Order (number ∷ word ∷ []) s a b p q = one_order s number word a b p q
one_setting form words s a b p q = p ∙ sym q

-- what is so is read
pub set_again : (form : Form) (words : List (List ℕ)) (s : Settings) (set : Answer) → Sets form words s set → with_words form words s ≡ set
set_again form words s set is = one_setting form words s (with_words form words s) set (set_found form words s) is

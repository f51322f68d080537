-- What is read is spelled so, and there is one reading.
use Rattle.std.proofs.Common.{◌≡◌, ◌≢◌, ◌<◌, ◌%◌, ◌/◌, ◌*◌, ℕ, Bool, true, false, cond, eqb, bytes_eq, List, [], ◌∷◌, ◌++◌, length, refl, sym, ap, subst, ◌∙◌, arith, Option, Some, None, ◌⊎◌, inl, inr, append_assoc, codes, encode_utf8_all}
use Rattle.std.specs.Str.Parse.{AllDigits, digits_value}
use Rattle.std.proofs.lemmas.Bool.{eqb-true, eqb-false}
use Rattle.std.proofs.lemmas.Option.{same_Some, none-some, cond_some}
use Rattle.std.proofs.lemmas.Slice.Eq.{bytes_eq-Decides}
use Rattle.defmt_grammar.specs.Cut.{behind, strip}
use Rattle.defmt_grammar.proofs.Cuts.{behind_found, strip_found}
use Rattle.defmt_grammar.specs.declared.language.Language.{Language}
use Rattle.defmt_shapes.specs.declared.parts.Class.TheVariants.{Decimal, Hexadecimal, Word}
use Rattle.defmt_shapes.specs.Shape.{Shape, IsFull, IsNumber, IsVariant, IsName, is_name, flag_word, IsCallMark, SpellsShape}
use Rattle.defmt_shapes.specs.Shape as shapes
use Rattle.defmt_shapes.specs.Runs.{in_class, run, either, is_variant}
use Rattle.defmt_shapes.specs.Escapes.{IsCharacter, IsQuotedEnd}
use Rattle.defmt_shapes.specs.Leads.{Lead, decimal, hexadecimal, negative, flag, character, quoted, interned, bytes, empty, float, call, sequence, nodes, some_digits, decimal_lead, hexadecimal_lead, negative_lead, interned_lead, bytes_lead, variant_lead, flag_lead, named_lead, word_lead, or_word, plain_lead, marked_lead, quoted_lead, character_lead, IsCharacterLead, IsQuotedLead, IsLead, IsMark, Leads, IsWhole}
use Rattle.defmt_shapes.proofs.RunLaws.{run_found, pass_digits}
use Rattle.defmt_shapes.proofs.CharacterLaws.{character_found, character_one}
use Rattle.defmt_shapes.proofs.EscapeLaws.{either_found, guarded}
use Rattle.defmt_shapes.proofs.QuoteLaws.{quoted_one}
use Rattle.defmt_shapes.proofs.LeadForms.{variant_found, pairs_found}

-- a value that is read whole
abbrev pub FoundWhole : (lang : Language) → List ℕ → Lead → List ℕ → Type 0
FoundWhole lang text lead after = (front : List ℕ) × (s : Shape) × SpellsShape lang front s × (text ≡ front ++ after) × Leads lang lead after after s

-- what the text spells in front, up to the first bracket
abbrev pub Found : (lang : Language) → List ℕ → Lead → List ℕ → Type 0
Found lang text (decimal digits) after = FoundWhole lang text (decimal digits) after
Found lang text (hexadecimal digits) after = FoundWhole lang text (hexadecimal digits) after
Found lang text (negative digits) after = FoundWhole lang text (negative digits) after
Found lang text (flag b) after = FoundWhole lang text (flag b) after
Found lang text (character c) after = FoundWhole lang text (character c) after
Found lang text (quoted inside) after = FoundWhole lang text (quoted inside) after
Found lang text (interned name) after = FoundWhole lang text (interned name) after
Found lang text (bytes digits) after = FoundWhole lang text (bytes digits) after
Found lang text empty after = FoundWhole lang text empty after
Found lang text (float t) after = FoundWhole lang text (float t) after
Found lang text (call name m) after = (mark : List ℕ) × (v : Option ℕ) × IsName name × IsCallMark mark v × IsMark m v × (text ≡ name ++ (mark ++ 40 ∷ after))
Found lang text (sequence name) after = IsName name × (text ≡ name ++ 91 ∷ after)
Found lang text nodes after = IsFull lang × (text ≡ 60 ∷ after)

pub whole_found : (lang : Language) (text : List ℕ) (lead : Lead) (after : List ℕ) → IsWhole lead → Found lang text lead after → FoundWhole lang text lead after
whole_found lang text (decimal digits) after w h = h
whole_found lang text (hexadecimal digits) after w h = h
whole_found lang text (negative digits) after w h = h
whole_found lang text (flag b) after w h = h
whole_found lang text (character c) after w h = h
whole_found lang text (quoted inside) after w h = h
whole_found lang text (interned name) after w h = h
whole_found lang text (bytes digits) after w h = h
whole_found lang text empty after w h = h
whole_found lang text (float t) after w h = h
whole_found lang text (call name m) after w h = absurd w
whole_found lang text (sequence name) after w h = absurd w
whole_found lang text nodes after w h = absurd w

abbrev pub Finds : (lang : Language) → List ℕ → Lead × List ℕ → Type 0
Finds lang text p = Found lang text p.0 p.1

pub either_cases : {A : Type 0} (o : Option (List ℕ)) (f : List ℕ → Option A) (other : Option A) (x : A) → either o f other ≡ Some x → ((rest : List ℕ) × (o ≡ Some rest) × (f rest ≡ Some x)) ⊎ ((o ≡ None) × (other ≡ Some x))
either_cases None f other x h = inr (refl, h)
either_cases (Some rest) f other x h = inl (rest, refl, h)

pub elsewise : {A : Type 0} (b : Bool) (x y : A) → cond b None (Some x) ≡ Some y → (b ≡ false) × (x ≡ y)
elsewise true x y h = absurd (none-some y h)
elsewise false x y h = (refl, same_Some x y h)

-- ---- numbers

digits_found : (make : List ℕ → Lead) (d : List ℕ × List ℕ) (p : Lead × List ℕ) → some_digits make d ≡ Some p → (0 < length d.0) × ((make d.0, d.1) ≡ p)
digits_found make d p h =
    let k = elsewise (eqb (length d.0) 0) (make d.0, d.1) p h in
    let n : length d.0 ≢ 0 = eqb-false (length d.0) 0 k.0 in
    (omega arith, k.1)

pub number_in : (radix : ℕ) (digits : List ℕ) → 0 < length digits → AllDigits radix digits → IsNumber radix digits (digits_value radix digits)
number_in radix digits some all = record { some = some; all = all; value = refl }

decimal_found : (lang : Language) (text : List ℕ) (p : Lead × List ℕ) → decimal_lead text ≡ Some p → Finds lang text p
unfolding decimal_lead
decimal_found lang text p h =
    let d = run (in_class Decimal) text in
    let r = run_found (in_class Decimal) text in
    let k = digits_found decimal d p h in
    let n = number_in 10 d.0 k.0 (pass_digits 10 d.0 r.passes) in
    subst (Finds lang text) k.1 (d.0, shapes.decimal (digits_value 10 d.0), n, r.text_is, (digits_value 10 d.0, refl, n, refl))

hexadecimal_found : (lang : Language) (text more : List ℕ) (p : Lead × List ℕ) → text ≡ 48 ∷ 120 ∷ more → hexadecimal_lead more ≡ Some p → Finds lang text p
unfolding hexadecimal_lead
hexadecimal_found lang text more p e h =
    let d = run (in_class Hexadecimal) more in
    let r = run_found (in_class Hexadecimal) more in
    let k = digits_found hexadecimal d p h in
    let n = number_in 16 d.0 k.0 (pass_digits 16 d.0 r.passes) in
    subst (Finds lang text) k.1 (48 ∷ 120 ∷ d.0, shapes.hexadecimal (digits_value 16 d.0), (d.0, n, refl), e ∙ ap (λ (t : List ℕ). 48 ∷ 120 ∷ t) r.text_is, (digits_value 16 d.0, refl, n, refl))

negative_found : (lang : Language) (text more : List ℕ) (p : Lead × List ℕ) → text ≡ 45 ∷ more → negative_lead more ≡ Some p → Finds lang text p
unfolding negative_lead
negative_found lang text more p e h =
    let d = run (in_class Decimal) more in
    let r = run_found (in_class Decimal) more in
    let k = digits_found negative d p h in
    let n = number_in 10 d.0 k.0 (pass_digits 10 d.0 r.passes) in
    subst (Finds lang text) k.1 (45 ∷ d.0, shapes.negative (digits_value 10 d.0), (d.0, n, refl), e ∙ ap (λ (t : List ℕ). 45 ∷ t) r.text_is, (digits_value 10 d.0, refl, n, refl))

-- ---- names and pairs

interned_found : (lang : Language) (text more : List ℕ) (p : Lead × List ℕ) → text ≡ 64 ∷ more → interned_lead more ≡ Some p → Finds lang text p
unfolding interned_lead
interned_found lang text more p e h =
    let d = run (in_class Word) more in
    let r = run_found (in_class Word) more in
    let k = cond_some (is_name d.0) (interned d.0, d.1) p h in
    subst (Finds lang text) k.1 (64 ∷ d.0, shapes.interned d.0, (k.0, refl), e ∙ ap (λ (t : List ℕ). 64 ∷ t) r.text_is, (refl, refl))

halves : (n : ℕ) → n % 2 ≡ 0 → n ≡ 2 * (n / 2)
halves n h = omega arith

bytes_found : (lang : Language) (text more : List ℕ) (p : Lead × List ℕ) → text ≡ 35 ∷ more → bytes_lead more ≡ Some p → Finds lang text p
unfolding bytes_lead
bytes_found lang text more p e h =
    let d = run (in_class Hexadecimal) more in
    let r = run_found (in_class Hexadecimal) more in
    let k = cond_some (eqb (length d.0 % 2) 0) (bytes d.0, d.1) p h in
    let b = pairs_found (length d.0 / 2) d.0 (halves (length d.0) (eqb-true (length d.0 % 2) 0 k.0)) (pass_digits 16 d.0 r.passes) in
    subst (Finds lang text) k.1 (35 ∷ d.0, shapes.bytes b.0, (d.0, b.1, refl), e ∙ ap (λ (t : List ℕ). 35 ∷ t) r.text_is, (b.0, refl, b.1, refl))

variant_leads_found : (lang : Language) (text name more : List ℕ) (p : Lead × List ℕ) → IsName name → text ≡ name ++ 58 ∷ more → variant_lead name more ≡ Some p → Finds lang text p
unfolding variant_lead
variant_leads_found lang text name more p n e h =
    let d = run (in_class Decimal) more in
    let r = run_found (in_class Decimal) more in
    let all = pass_digits 10 d.0 r.passes in
    let g = guarded (is_variant d.0) (either (behind 40 d.1) (λ (inside : List ℕ). Some (call name (Some d.0), inside)) None) p h in
    let k = either_found (behind 40 d.1) (λ (inside : List ℕ). Some (call name (Some d.0), inside)) p g.1 in
    let v = variant_found d.0 all g.0 in
    let is : IsVariant d.0 (digits_value 10 d.0) = record { number = number_in 10 d.0 v.0 all; no_leading_zero = v.1 } in
    let tail : more ≡ d.0 ++ 40 ∷ k.0 = r.text_is ∙ ap (λ (t : List ℕ). d.0 ++ t) (behind_found 40 d.1 k.0 k.1) in
    subst (Finds lang text) (same_Some (call name (Some d.0), k.0) p k.2)
    (58 ∷ d.0, Some (digits_value 10 d.0), n, (d.0, is, refl), is, e ∙ ap (λ (t : List ℕ). name ++ 58 ∷ t) tail)

flag_is : (lang : Language) (b : Bool) (text name rest : List ℕ) (p : Lead × List ℕ) → text ≡ name ++ rest → bytes_eq name (flag_word b) ≡ true → (flag b, rest) ≡ p → Finds lang text p
flag_is lang b text name rest p e same h =
    let word : name ≡ flag_word b = (bytes_eq-Decides name (flag_word b)).0 same in
    subst (Finds lang text) h (flag_word b, shapes.flag b, refl, e ∙ ap (λ (t : List ℕ). t ++ rest) word, (refl, refl))

flag_test : (lang : Language) (a b : Bool) (text name rest : List ℕ) (p : Lead × List ℕ) → text ≡ name ++ rest → bytes_eq name (codes "true") ≡ a → bytes_eq name (codes "false") ≡ b → cond a (Some (flag true, rest)) (cond b (Some (flag false, rest)) None) ≡ Some p → Finds lang text p
flag_test lang true b text name rest p e t f h = flag_is lang true text name rest p e t (same_Some (flag true, rest) p h)
flag_test lang false true text name rest p e t f h = flag_is lang false text name rest p e f (same_Some (flag false, rest) p h)
flag_test lang false false text name rest p e t f h = absurd (none-some p h)

flag_found : (lang : Language) (text name rest : List ℕ) (p : Lead × List ℕ) → text ≡ name ++ rest → flag_lead name rest ≡ Some p → Finds lang text p
unfolding flag_lead
flag_found lang text name rest p e h = flag_test lang (bytes_eq name (codes "true")) (bytes_eq name (codes "false")) text name rest p e refl refl h

call_at : (lang : Language) (text name rest inside : List ℕ) (p : Lead × List ℕ) → IsName name → text ≡ name ++ rest → behind 40 rest ≡ Some inside → (call name None, inside) ≡ p → Finds lang text p
call_at lang text name rest inside p n e b h = subst (Finds lang text) h ([], None, n, refl, tt, e ∙ ap (λ (t : List ℕ). name ++ t) (behind_found 40 rest inside b))

sequence_at : (lang : Language) (text name rest inside : List ℕ) (p : Lead × List ℕ) → IsName name → text ≡ name ++ rest → behind 91 rest ≡ Some inside → (sequence name, inside) ≡ p → Finds lang text p
sequence_at lang text name rest inside p n e b h = subst (Finds lang text) h (n, e ∙ ap (λ (t : List ℕ). name ++ t) (behind_found 91 rest inside b))

named_found : (lang : Language) (text name rest : List ℕ) (p : Lead × List ℕ) → IsName name → text ≡ name ++ rest → named_lead name rest ≡ Some p → Finds lang text p
unfolding named_lead
named_found lang text name rest p n e h =
    elim (either_cases (behind 40 rest) (λ (inside : List ℕ). Some (call name None, inside)) (either (behind 58 rest) (variant_lead name) (either (behind 91 rest) (λ (inside : List ℕ). Some (sequence name, inside)) (flag_lead name rest))) p h) [
      | inl k ↦ call_at lang text name rest k.0 p n e k.1 (same_Some (call name None, k.0) p k.2)
      | inr k ↦ elim (either_cases (behind 58 rest) (variant_lead name) (either (behind 91 rest) (λ (inside : List ℕ). Some (sequence name, inside)) (flag_lead name rest)) p k.1) [
        | inl m ↦ variant_leads_found lang text name m.0 p n (e ∙ ap (λ (t : List ℕ). name ++ t) (behind_found 58 rest m.0 m.1)) m.2
        | inr m ↦ elim (either_cases (behind 91 rest) (λ (inside : List ℕ). Some (sequence name, inside)) (flag_lead name rest) p m.1) [
          | inl q ↦ sequence_at lang text name rest q.0 p n e q.1 (same_Some (sequence name, q.0) p q.2)
          | inr q ↦ flag_found lang text name rest p e q.1
        ]
      ]
    ]

word_found : (lang : Language) (text : List ℕ) (p : Lead × List ℕ) → word_lead text ≡ Some p → Finds lang text p
unfolding word_lead
word_found lang text p h =
    let d = run (in_class Word) text in
    let r = run_found (in_class Word) text in
    let g = guarded (is_name d.0) (named_lead d.0 d.1) p h in
    named_found lang text d.0 d.1 p g.0 r.text_is g.1

or_word_found : (lang : Language) (text : List ℕ) (o : Option (Lead × List ℕ)) (p : Lead × List ℕ) → decimal_lead text ≡ o → or_word text o ≡ Some p → Finds lang text p
or_word_found lang text None p e h = word_found lang text p h
or_word_found lang text (Some q) p e h = decimal_found lang text p (e ∙ h)

plain_found : (lang : Language) (text : List ℕ) (p : Lead × List ℕ) → plain_lead text ≡ Some p → Finds lang text p
unfolding plain_lead
plain_found lang text p h =
    elim (either_cases (strip (codes "0x") text) hexadecimal_lead (or_word text (decimal_lead text)) p h) [
      | inl k ↦ hexadecimal_found lang text k.0 p (strip_found (codes "0x") text k.0 k.1) k.2
      | inr k ↦ or_word_found lang text (decimal_lead text) p refl k.1
    ]

empty_at : (lang : Language) (text rest : List ℕ) (p : Lead × List ℕ) → text ≡ 91 ∷ 93 ∷ rest → (empty, rest) ≡ p → Finds lang text p
empty_at lang text rest p e h = subst (Finds lang text) h (91 ∷ 93 ∷ [], shapes.empty, refl, e, (refl, refl))

marked_found : (lang : Language) (text : List ℕ) (p : Lead × List ℕ) → marked_lead text ≡ Some p → Finds lang text p
unfolding marked_lead
marked_found lang text p h =
    elim (either_cases (behind 45 text) negative_lead (either (behind 64 text) interned_lead (either (behind 35 text) bytes_lead (either (strip (codes "[]") text) (λ (rest : List ℕ). Some (empty, rest)) (plain_lead text)))) p h) [
      | inl k ↦ negative_found lang text k.0 p (behind_found 45 text k.0 k.1) k.2
      | inr k ↦ elim (either_cases (behind 64 text) interned_lead (either (behind 35 text) bytes_lead (either (strip (codes "[]") text) (λ (rest : List ℕ). Some (empty, rest)) (plain_lead text))) p k.1) [
        | inl m ↦ interned_found lang text m.0 p (behind_found 64 text m.0 m.1) m.2
        | inr m ↦ elim (either_cases (behind 35 text) bytes_lead (either (strip (codes "[]") text) (λ (rest : List ℕ). Some (empty, rest)) (plain_lead text)) p m.1) [
          | inl q ↦ bytes_found lang text q.0 p (behind_found 35 text q.0 q.1) q.2
          | inr q ↦ elim (either_cases (strip (codes "[]") text) (λ (rest : List ℕ). Some (empty, rest)) (plain_lead text) p q.1) [
            | inl x ↦ empty_at lang text x.0 p (strip_found (codes "[]") text x.0 x.1) (same_Some (empty, x.0) p x.2)
            | inr x ↦ plain_found lang text p x.1
          ]
        ]
      ]
    ]

-- ---- quotes

quoted_found : (lang : Language) (text more : List ℕ) (q : Option (List ℕ × List ℕ)) (p : Lead × List ℕ) → text ≡ 34 ∷ more → IsQuotedEnd more q → quoted_lead q ≡ Some p → Finds lang text p
quoted_found lang text more None p e h k = absurd (none-some p k)
quoted_found lang text more (Some q) p e h k =
    let t : List ℕ = encode_utf8_all h.cs in
    subst (Finds lang text) (same_Some (quoted q.0, q.1) p k)
    (34 ∷ (q.0 ++ 34 ∷ []), shapes.quoted t, (q.0, (h.cs, h.spelled, refl), refl), e ∙ ap (λ (x : List ℕ). 34 ∷ x) (h.text_is ∙ sym (append_assoc q.0 (34 ∷ []) q.1)), (t, refl, (h.cs, h.spelled, refl), refl))

character_leads_found : (lang : Language) (text more : List ℕ) (q : Option (ℕ × List ℕ)) (p : Lead × List ℕ) → text ≡ 39 ∷ more → IsCharacter 39 more q → character_lead q ≡ Some p → Finds lang text p
character_leads_found lang text more None p e h k = absurd (none-some p k)
character_leads_found lang text more (Some q) p e h k =
    let f = character_found 39 more q (omega arith) h in
    let b = either_found (behind 39 q.1) (λ (rest : List ℕ). Some (character q.0, rest)) p k in
    let tail : more ≡ f.0 ++ 39 ∷ b.0 = f.2 ∙ ap (λ (t : List ℕ). f.0 ++ t) (behind_found 39 q.1 b.0 b.1) in
    subst (Finds lang text) (same_Some (character q.0, b.0) p b.2)
    (39 ∷ (f.0 ++ 39 ∷ []), shapes.character q.0, (f.0, f.1, refl), e ∙ ap (λ (x : List ℕ). 39 ∷ x) (tail ∙ sym (append_assoc f.0 (39 ∷ []) b.0)), (refl, refl))

single_found : (lang : Language) (text : List ℕ) (o : Option (List ℕ)) (p : Lead × List ℕ) → behind 39 text ≡ o → IsCharacterLead text o (Some p) → Finds lang text p
single_found lang text None p e h = marked_found lang text p (sym h)
single_found lang text (Some more) p e h = character_leads_found lang text more h.0 p (behind_found 39 text more e) h.1 (sym h.2)

double_found : (lang : Language) (text : List ℕ) (o : Option (List ℕ)) (p : Lead × List ℕ) → behind 34 text ≡ o → IsQuotedLead text o (Some p) → Finds lang text p
double_found lang text None p e h = single_found lang text (behind 39 text) p refl h
double_found lang text (Some more) p e h = quoted_found lang text more h.0 p (behind_found 34 text more e) h.1 (sym h.2)

-- what is read is spelled in front
pub lead_found : (lang : Language) (text : List ℕ) (lead : Lead) (after : List ℕ) → IsLead text (Some (lead, after)) → Found lang text lead after
lead_found lang text lead after h = double_found lang text (behind 34 text) (lead, after) refl h

single_one : (text : List ℕ) (m : Option (List ℕ)) (o r : Option (Lead × List ℕ)) → IsCharacterLead text m o → IsCharacterLead text m r → o ≡ r
single_one text None o r h k = h ∙ sym k
single_one text (Some more) o r h k = h.2 ∙ ap character_lead (character_one 39 more h.0 k.0 h.1 k.1) ∙ sym k.2

double_one : (text : List ℕ) (m : Option (List ℕ)) (o r : Option (Lead × List ℕ)) → IsQuotedLead text m o → IsQuotedLead text m r → o ≡ r
double_one text None o r h k = single_one text (behind 39 text) o r h k
double_one text (Some more) o r h k = h.2 ∙ ap quoted_lead (quoted_one more h.0 k.0 h.1 k.1) ∙ sym k.2

-- a text has one lead
pub lead_one : (text : List ℕ) (o r : Option (Lead × List ℕ)) → IsLead text o → IsLead text r → o ≡ r
lead_one text o r h k = double_one text (behind 34 text) o r h k

-- How long the text of a statement is at most, as the text of its entry and the texts of its values tell.
use Rattle.std.proofs.Common.{◌≡◌, ◌≤◌, ◌+◌, ◌*◌, ℕ, zero, suc, List, [], ◌∷◌, length, map, Option, Some, None, refl, sym, ap, subst, ◌∙◌, arith, inl, inr, length-append, cond, true, false, Bool}
use Rattle.std.specs.Prelude.{nat_le}
use Rattle.std.specs.List.{slice_get}
use Rattle.defmt_grammar.specs.Grammar.{Token, char, hole, SpellsTokens, Spells, joined, with_char}
use Rattle.defmt_grammar.specs.Hint.{IsFill, IsWidth, SpellsHint}
use Rattle.defmt_grammar.specs.Language.{lenient_of}
use Rattle.defmt_grammar.specs.Param.{SpellsHintPart}
use Rattle.defmt_grammar.specs.declared.fault.Mode.{Mode}
use Rattle.defmt_grammar.specs.declared.hint.Hint.{Hint}
use Rattle.defmt_grammar.specs.declared.hint.Hint.TheVariants.{Plain, Debug, Radix, Ascii, Micros, Millis, Iso, Clock, Pad}
use Rattle.defmt_grammar.specs.declared.kind.Kind.{Kind}
use Rattle.defmt_grammar.specs.declared.language.Language.{Language}
use Rattle.defmt_grammar.specs.declared.param.Param.{Param}
use Rattle.defmt_grammar.specs.declared.piece.Piece.{Piece}
use Rattle.defmt_grammar.specs.declared.piece.Piece.TheVariants as pieces
use Rattle.defmt_intern.proofs.BodyLaws.{variants_alone}
use Rattle.defmt_intern.proofs.PieceLaws.{pieces_found}
use Rattle.defmt_intern.specs.Body.{variants, forms_of, one_body, forms_body, cut_body, body_by, body_of}
use Rattle.defmt_intern.specs.Pieces.{pieces_of}
use Rattle.defmt_intern.specs.Table.{Map}
use Rattle.defmt_intern.specs.declared.entry.Entry.{Entry}
use Rattle.defmt_intern.specs.declared.entry.Tag.{Tag}
use Rattle.defmt_intern.specs.declared.entry.Tag.TheVariants as tags
use Rattle.defmt_intern.specs.declared.parsed.Parsed.{Parsed}
use Rattle.defmt_intern.specs.declared.parsed.Parsed.TheVariants as bodies
use Rattle.defmt_values.specs.Entries.{look}
use Rattle.defmt_values.specs.Plain.{Val, Vals, no_vals, val}
use Rattle.defmt_values.specs.Scan.{own_in}
use Rattle.defmt_values.specs.View.{plain, vals_of}
use Rattle.defmt_values.specs.declared.value.Value.{Value}
use Rattle.defmt_eager.specs.Answers.{HasAtMost, HaveAtMost, most_bytes}
use Rattle.defmt_eager.specs.Line.{printed_limit}
use Rattle.defmt_eager.specs.Show.{Shown, acting, eager_text, own_pieces, param_text, pieces_in, pieces_text, shown_at, shows}

-- ---- the widths of hints

filled_narrow : (text : List ℕ) (width : ℕ) → IsFill text width → width ≤ 255
filled_narrow text width f = f.5

width_narrow : (text : List ℕ) (width : ℕ) → IsWidth text width → width ≤ 255
width_narrow text width (inl none) = omega (arith, none.1)
width_narrow text width (inr fill) = filled_narrow text width fill

hint_narrow : (language : Language) (text : List ℕ) (hint : Hint) → SpellsHint language text hint → most_bytes (acting Plain hint) ≤ 555
hint_narrow language text Plain s = omega arith
hint_narrow language text Debug s = omega arith
hint_narrow language text (Radix base alt width) s = omega (arith, width_narrow s.0 width s.1)
hint_narrow language text Ascii s = omega arith
hint_narrow language text Micros s = omega arith
hint_narrow language text Millis s = omega arith
hint_narrow language text (Iso unit) s = omega arith
hint_narrow language text (Clock unit) s = omega arith
hint_narrow language text (Pad width) s = omega (arith, filled_narrow text width s.1)

plain_narrow : (hint : Hint) → hint ≡ Plain → most_bytes (acting Plain hint) ≤ 555
plain_narrow hint e = rw e (omega arith)

part_narrow : (mode : Mode) (o : Option (List ℕ)) (hint : Hint) → SpellsHintPart mode o hint → most_bytes (acting Plain hint) ≤ 555
part_narrow mode None hint e = plain_narrow hint e
part_narrow mode (Some text) hint (inl s) = hint_narrow _ text hint s
part_narrow mode (Some text) hint (inr s) = plain_narrow hint s.2

-- ---- values

leaf_more : (t : Map) (v : Val) (one n : ℕ) → one ≤ n → HasAtMost t v one → HasAtMost t v n
leaf_more t v one n few h = λ kind hint narrow. omega (arith, h kind hint narrow, few)

-- the first of some values, and the others
pub values_more : (t : Map) (rest more : List Value) (x : Value) (one n : ℕ) → rest ≡ x ∷ more → one ≤ n → HasAtMost t (plain x) one → HaveAtMost t (vals_of (map plain more)) n
    → HaveAtMost t (vals_of (map plain rest)) n
values_more t rest more x one n e few h others = rw e (leaf_more t (plain x) one n few h, others)

-- ---- pieces

value_few : (t : Map) (vs : Vals) (most : ℕ) → HaveAtMost t vs most → (position : ℕ) (kind : Kind) (hint : Hint) → most_bytes hint ≤ 555
    → length (shown_at (slice_get (shows t vs) position) kind hint) ≤ most
unfolding shows
value_few t no_vals most h position kind hint narrow = omega arith
value_few t (val v vs) most h zero kind hint narrow = h.0 kind hint narrow
value_few t (val v vs) most h (suc position) kind hint narrow = value_few t vs most h.1 position kind hint narrow

char_more : (c : ℕ) (ps : List Piece) (all : List Shown) (most n : ℕ) → length (pieces_text Plain ps all) ≤ n + length ps * most
    → length (pieces_text Plain (with_char c ps) all) ≤ (1 + n) + length (with_char c ps) * most
unfolding pieces_text
char_more c [] all most n h = omega (arith, h)
char_more c (pieces.Literal cs ∷ ps) all most n h = omega (arith, h)
char_more c (pieces.Param p ∷ ps) all most n h = omega (arith, h)

param_more : (p : Param) (ps : List Piece) (all : List Shown) (most n : ℕ) → length (param_text Plain all p.position p.kind p.hint) ≤ most
    → length (pieces_text Plain ps all) ≤ n + length ps * most → length (pieces_text Plain (pieces.Param p ∷ ps) all) ≤ n + length (pieces.Param p ∷ ps) * most
unfolding pieces_text
param_more p ps all most n one h = omega (arith, one, h, length-append (param_text Plain all p.position p.kind p.hint) (pieces_text Plain ps all))

no_one : (b : Bool) (o : Option (List (List Piece))) (ps : List Piece) → cond {A = Parsed} b (forms_body o) bodies.Unsupported ≡ bodies.One ps → ⊥
no_one true None ps h = absurd (cc)
no_one true (Some forms) ps h = absurd (cc)
no_one false o ps h = absurd (cc)

module _ (t : Map) (vs : Vals) (most : ℕ) (few : HaveAtMost t vs most) where
  tokens_few : (mode : Mode) (size next : ℕ) (text : List ℕ) (ts : List Token) (after : ℕ) (rest : List ℕ) → SpellsTokens mode size next text ts after rest
      → length (pieces_text Plain (joined ts) (shows t vs)) ≤ length text + length (joined ts) * most
  unfolding pieces_text
  tokens_few mode size next text [] after rest s = omega arith
  tokens_few mode size next text (char c ∷ ts) after rest s =
      let more : List ℕ = s.1 in
      let here : 1 + length more ≤ length text = elim s.2.1 [
        | inl one ↦ omega (arith, ap length one.1)
        | inr two ↦ omega (arith, ap length two.1)
      ] in
      let h = char_more c (joined ts) (shows t vs) most (length more) (tokens_few mode size s.0 more ts after rest s.3) in
      omega (arith, h, here)
  tokens_few mode size next text (hole at param ∷ ts) after rest s =
      let more : List ℕ = s.1 in
      let token = s.2 in
      let inside : List ℕ = token.0 in
      let here : length more ≤ length text = omega (arith, ap length token.1.text_is, length-append inside (125 ∷ more)) in
      let one = value_few t vs most few param.position param.kind (acting Plain param.hint) (part_narrow mode token.2.parts.hint param.hint token.2.hint) in
      let h = param_more param (joined ts) (shows t vs) most (length more) one (tokens_few mode size s.0 more ts after rest s.3) in
      omega (arith, h, here)

  spelled_few : (mode : Mode) (text : List ℕ) (ps : List Piece) → Spells text mode ps → length (pieces_text Plain ps (shows t vs)) ≤ length text + length ps * most
  spelled_few mode text ps s =
      subst (λ (qs : List Piece). length (pieces_text Plain qs (shows t vs)) ≤ length text + length qs * most) s.joins
      (tokens_few mode (length text) 0 text s.tokens s.after [] s.spelled)

  one_few : (mode : Mode) (text : List ℕ) (o : Option (List Piece)) (ps : List Piece) → pieces_of mode text ≡ o → one_body o ≡ bodies.One ps
      → length (pieces_text Plain ps (shows t vs)) ≤ length text + length ps * most
  one_few mode text None ps e h = absurd (cc)
  one_few mode text (Some qs) ps e h =
      let same : qs ≡ ps = cc in
      spelled_few mode text ps (pieces_found mode text ps (e ∙ ap (λ (x : List Piece). Some x) same))

  cut_few : (mode : Mode) (text : List ℕ) (all : List (List ℕ)) (ps : List Piece) → variants text ≡ all → cut_body mode all ≡ bodies.One ps
      → length (pieces_text Plain ps (shows t vs)) ≤ length text + length ps * most
  unfolding cut_body
  cut_few mode text [] ps e h = absurd (cc)
  cut_few mode text (v ∷ []) ps e h =
      let whole : v ∷ [] ≡ text ∷ [] = sym e ∙ variants_alone text (ap length e) in
      let same : v ≡ text = cc in
      one_few mode text (pieces_of mode text) ps refl (ap (λ (x : List ℕ). one_body (pieces_of mode x)) (sym same) ∙ h)
  cut_few mode text (v ∷ w ∷ more) ps e h = absurd (no_one (nat_le (length (v ∷ w ∷ more)) 255) (forms_of mode (v ∷ w ∷ more)) ps h)

  body_few : (mode : Mode) (tag : Tag) (text : List ℕ) (ps : List Piece) → body_by mode tag text ≡ bodies.One ps
      → length (pieces_text Plain ps (shows t vs)) ≤ length text + length ps * most
  body_few mode tags.Prim text ps h = cut_few mode text (variants text) ps refl h
  body_few mode tags.Derived text ps h = cut_few mode text (variants text) ps refl h
  body_few mode tags.Write text ps h = cut_few mode text (variants text) ps refl h
  body_few mode tags.Interned text ps h = absurd (cc)
  body_few mode (tags.Other name) text ps h = absurd (cc)
  body_few mode tags.Trace text ps h = one_few mode text (pieces_of mode text) ps refl h
  body_few mode tags.Debug text ps h = one_few mode text (pieces_of mode text) ps refl h
  body_few mode tags.Info text ps h = one_few mode text (pieces_of mode text) ps refl h
  body_few mode tags.Warn text ps h = one_few mode text (pieces_of mode text) ps refl h
  body_few mode tags.Error text ps h = one_few mode text (pieces_of mode text) ps refl h
  body_few mode tags.Println text ps h = one_few mode text (pieces_of mode text) ps refl h
  body_few mode tags.Timestamp text ps h = one_few mode text (pieces_of mode text) ps refl h

  own_few : (mode : Mode) (tag : Tag) (text : List ℕ) (body : Parsed) → body_by mode tag text ≡ body
      → length (pieces_text Plain (pieces_in (own_in body)) (shows t vs)) ≤ length text + length (pieces_in (own_in body)) * most
  unfolding pieces_text
  own_few mode tag text bodies.Unsupported h = omega arith
  own_few mode tag text bodies.Raw h = omega arith
  own_few mode tag text (bodies.One ps) h = body_few mode tag text ps h
  own_few mode tag text (bodies.Variants forms) h = omega arith

none_short : (t : Map) (vs : Vals) (ps : List Piece) → ps ≡ [] → length (pieces_text Plain ps (shows t vs)) ≤ 0
unfolding pieces_text
none_short t vs ps e = rw e (omega arith)

-- where nothing is at the index there is no text
pub none_there : (t : Map) (index : ℕ) (vs : Vals) → look t index ≡ None → length (eager_text t index vs) ≤ 0
none_there t index vs e = none_short t vs (own_pieces t index) (rw e refl)

short_by : (t : Map) (vs : Vals) (most size : ℕ) (ps : List Piece) → (HaveAtMost t vs most → length (pieces_text Plain ps (shows t vs)) ≤ size + length ps * most)
    → (most ≤ printed_limit → HaveAtMost t vs most) → length ps * most + size ≤ printed_limit → length (pieces_text Plain ps (shows t vs)) ≤ printed_limit
short_by t vs most size [] few have low = omega (arith, none_short t vs [] refl)
short_by t vs most size (p ∷ ps) few have low =
    let one : most ≤ printed_limit = omega (arith, low) in
    omega (arith, few (have one), low)

-- the text of a statement of this entry
pub text_short : (t : Map) (index : ℕ) (e : Entry) (vs : Vals) (most : ℕ) → look t index ≡ Some e → (most ≤ printed_limit → HaveAtMost t vs most)
    → length (pieces_in (own_in (body_of t.language e))) * most + length e.text ≤ printed_limit → length (eager_text t index vs) ≤ printed_limit
text_short t index e vs most there have low =
    let body : Parsed = body_of t.language e in
    rw there (short_by t vs most (length e.text) (pieces_in (own_in body)) (λ few. own_few t vs most few (lenient_of t.language) e.tag e.text body refl) have low)

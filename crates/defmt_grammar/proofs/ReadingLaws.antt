-- How a reader comes forward.
use Rattle.std.proofs.Common.{◌≡◌, ◌<◌, ◌≤◌, ◌+◌, ◌-◌, ℕ, suc, eqb, false, List, [], ◌∷◌, ◌++◌, length, map, refl, sym, ap, subst, ◌∙◌, arith, append_assoc}
use Rattle.std.specs.Str.{IsUtf8}
use Rattle.std.proofs.lemmas.Bool.Decides.{nat_tests}
use Rattle.std.proofs.lemmas.List.{append-nil}
use Rattle.defmt_grammar.specs.declared.fault.Fault.{Fault}
use Rattle.defmt_grammar.specs.declared.fault.Mode.{Mode}
use Rattle.defmt_grammar.specs.declared.param.Param.{Param}
use Rattle.defmt_grammar.specs.declared.piece.Piece.{Piece}
use Rattle.defmt_grammar.specs.declared.piece.Piece.TheVariants as pieces
use Rattle.defmt_grammar.specs.declared.piece.Use.{Use}
use Rattle.defmt_grammar.specs.Step.{run, hole as hole_step}
use Rattle.defmt_grammar.specs.Grammar.{Token, char, hole, SpellsTokens, with_char, joined, uses_of, HasTokenFault, HasFirstFault}
use Rattle.defmt_grammar.specs.Reading.{IsRead, flushed, Progress}
use Rattle.defmt_grammar.proofs.StepLaws.{then_tokens, StepSpells, token_place, token_few, token_shorter}

-- ---- lengths

pub tokens_shorter : (mode : Mode) (size next : ℕ) (text : List ℕ) (ts : List Token) (after : ℕ) (rest : List ℕ) → SpellsTokens mode size next text ts after rest → length rest + length ts ≤ length text
tokens_shorter mode size next text [] after rest h = omega (arith, ap length h.1)
tokens_shorter mode size next text (t ∷ ts) after rest h =
    omega (arith, token_shorter mode size next text t h.0 h.1 h.2, tokens_shorter mode size h.0 h.1 ts after rest h.3)

length-chars : (cs : List ℕ) → length (map char cs) ≡ length cs
length-chars [] = refl
length-chars (c ∷ cs) = ap suc (length-chars cs)

pub run_shorter : (mode : Mode) (size next : ℕ) (text cs rest : List ℕ) → StepSpells mode size next text (run cs, rest) → length rest < length text
run_shorter mode size next text cs rest h = omega (arith, h.0, tokens_shorter mode size next text (map char cs) next rest h.1, length-chars cs)

-- ---- characters make one piece

abbrev pub NoLiteralFirst : List Piece → Type 0
NoLiteralFirst [] = Unit {0}
NoLiteralFirst (pieces.Literal cs ∷ ps) = ⊥
NoLiteralFirst (pieces.Param p ∷ ps) = Unit {0}

pub flushed_some : (c : ℕ) (cs : List ℕ) → flushed (c ∷ cs) ≡ pieces.Literal (c ∷ cs) ∷ []
flushed_some c cs = let k : eqb (suc (length cs)) 0 ≡ false = grind (arith, nat_tests) in rw k refl

with_first : (c : ℕ) (ps : List Piece) → NoLiteralFirst ps → with_char c ps ≡ pieces.Literal (c ∷ []) ∷ ps
with_first c [] h = refl
with_first c (pieces.Literal cs ∷ ps) h = absurd h
with_first c (pieces.Param p ∷ ps) h = refl

with_flushed : (c : ℕ) (cs : List ℕ) (ps : List Piece) → NoLiteralFirst ps → with_char c (flushed cs ++ ps) ≡ pieces.Literal (c ∷ cs) ∷ ps
with_flushed c [] ps h = with_first c ps h
with_flushed c (d ∷ cs) ps h = ap (λ (qs : List Piece). with_char c (qs ++ ps)) (flushed_some d cs)

pub joined_chars : (cs : List ℕ) (us : List Token) → NoLiteralFirst (joined us) → joined (map char cs ++ us) ≡ flushed cs ++ joined us
joined_chars [] us h = refl
joined_chars (c ∷ cs) us h = ap (with_char c) (joined_chars cs us h) ∙ with_flushed c cs (joined us) h ∙ ap (λ (qs : List Piece). qs ++ joined us) (sym (flushed_some c cs))

uses_chars : (cs : List ℕ) (us : List Token) → uses_of (map char cs ++ us) ≡ uses_of us
uses_chars [] us = refl
uses_chars (c ∷ cs) us = uses_chars cs us

chars_append : (cs ds : List ℕ) (us : List Token) → map char (cs ++ ds) ++ us ≡ map char cs ++ (map char ds ++ us)
chars_append [] ds us = refl
chars_append (c ∷ cs) ds us = ap (λ (ts : List Token). char c ∷ ts) (chars_append cs ds us)

-- ---- steps

pub goes_by_run : (text : List ℕ) (mode : Mode) (ps : List Piece) (uses : List Use) (literal : List ℕ) (next : ℕ) (rest cs after : List ℕ) → Progress text mode ps uses literal next rest → StepSpells mode (length text) next rest (run cs, after) → IsUtf8 after → Progress text mode ps uses (literal ++ cs) next after
goes_by_run text mode ps uses literal next rest cs after p s u = record {
  tokens = p.tokens ++ map char cs;
  spelled = then_tokens mode (length text) 0 next next text rest after p.tokens (map char cs) p.spelled s.1;
  joins = λ us. ap joined (append_assoc p.tokens (map char cs) us) ∙ p.joins (map char cs ++ us) ∙ ap (λ (ts : List Token). ps ++ joined ts) (sym (chars_append literal cs us));
  uses_are = λ us. ap uses_of (append_assoc p.tokens (map char cs) us) ∙ p.uses_are (map char cs ++ us) ∙ ap (λ (xs : List Use). uses ++ xs) (uses_chars cs us);
  few = p.few;
  shorter = omega (arith, p.shorter, run_shorter mode (length text) next rest cs after s);
  utf8 = u;
}

pub goes_by_hole : (text : List ℕ) (mode : Mode) (ps : List Piece) (uses : List Use) (literal : List ℕ) (next : ℕ) (rest : List ℕ) (param : Param) (n : ℕ) (after : List ℕ) → Progress text mode ps uses literal next rest → StepSpells mode (length text) next rest (hole_step param n, after) → IsUtf8 after
    → Progress text mode ((ps ++ flushed literal) ++ pieces.Param param ∷ []) (uses ++ record { at = length text - length rest; param = param } ∷ []) [] n after
goes_by_hole text mode ps uses literal next rest param n after p s u =
    let at = length text - length rest in
    let one : SpellsTokens mode (length text) next rest (hole at param ∷ []) n after = (n, after, s, (refl, refl)) in
    record {
      tokens = p.tokens ++ hole at param ∷ [];
      spelled = then_tokens mode (length text) 0 next n text rest after p.tokens (hole at param ∷ []) p.spelled one;
      joins = λ us. ap joined (append_assoc p.tokens (hole at param ∷ []) us) ∙ p.joins (hole at param ∷ us) ∙ ap (λ (qs : List Piece). ps ++ qs) (joined_chars literal (hole at param ∷ us) tt) ∙ sym (append_assoc ps (flushed literal) (pieces.Param param ∷ joined us)) ∙ sym (append_assoc (ps ++ flushed literal) (pieces.Param param ∷ []) (joined us));
      uses_are = λ us. ap uses_of (append_assoc p.tokens (hole at param ∷ []) us) ∙ p.uses_are (hole at param ∷ us) ∙ sym (append_assoc uses (record { at = at; param = param } ∷ []) (uses_of us));
      few = token_few mode (length text) next rest (hole at param) n after p.few s;
      shorter = omega (arith, p.shorter, token_shorter mode (length text) next rest (hole at param) n after s);
      utf8 = u;
    }

pub has_read : (text : List ℕ) (mode : Mode) (ps : List Piece) (uses : List Use) (literal : List ℕ) (next : ℕ) (rest : List ℕ) → Progress text mode ps uses literal next rest → rest ≡ [] → IsRead text mode (ps ++ flushed literal) uses
has_read text mode ps uses literal next rest p e = record {
  tokens = p.tokens;
  after = next;
  spelled = subst (SpellsTokens mode (length text) 0 text p.tokens next) e p.spelled;
  joins = ap joined (sym (append-nil p.tokens)) ∙ p.joins [] ∙ ap (λ (qs : List Piece). ps ++ qs) (joined_chars literal [] tt ∙ append-nil (flushed literal));
  uses_are = ap uses_of (sym (append-nil p.tokens)) ∙ p.uses_are [] ∙ append-nil uses;
}

pub has_failed : (text : List ℕ) (mode : Mode) (ps : List Piece) (uses : List Use) (literal : List ℕ) (next : ℕ) (rest : List ℕ) (f : Fault) → Progress text mode ps uses literal next rest → HasTokenFault mode next rest f → HasFirstFault text mode f.cause (length text - length rest + f.at)
has_failed text mode ps uses literal next rest f p h = record { tokens = p.tokens; after = next; rest = rest; spelled = p.spelled; fault = f; has = h; cause_is = refl; place = refl }

pub place_fits : (text : List ℕ) (mode : Mode) (ps : List Piece) (uses : List Use) (literal : List ℕ) (next : ℕ) (rest : List ℕ) (f : Fault) → Progress text mode ps uses literal next rest → HasTokenFault mode next rest f → length text - length rest + f.at ≤ length text
place_fits text mode ps uses literal next rest f p h = omega (arith, p.shorter, token_place mode next rest f h)

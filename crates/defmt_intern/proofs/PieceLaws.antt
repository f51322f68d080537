-- The pieces of a text as a function are those that the grammar says.
use Rattle.std.proofs.Common.{◌≡◌, ◌<◌, ◌≤◌, ◌-◌, ◌⊎◌, ◌++◌, ◌==◌, inl, inr, ℕ, suc, zero, Bool, true, false, cond, List, [], ◌∷◌, length, map, Option, Some, None, option_map, option_and_then, Result, Ok, Err, refl, sym, ap, subst, ◌∙◌, arith}
use Rattle.std.specs.Prelude.{slice_get, ◌&&◌, ◌||◌}
use Rattle.std.specs.Bool.{Decides}
use Rattle.std.specs.List.{list_all}
use Rattle.std.proofs.lemmas.Bool.{cases_Bool, cases_eq, cond-true, cond-false, eqb-true, eq-eqb, ne_eqb, true≢false}
use Rattle.std.proofs.lemmas.Bool.Decides.{Decides-and, Decides-or, Decides-like, Decides-below_and}
use Rattle.std.proofs.lemmas.Option.{same_Some, slice_get_within}
use Rattle.defmt_grammar.specs.declared.fault.Fault.{Fault}
use Rattle.defmt_grammar.specs.declared.fault.Mode.{Mode}
use Rattle.defmt_grammar.specs.declared.kind.FloatSize.{FloatSize}
use Rattle.defmt_grammar.specs.declared.kind.FloatSize.TheVariants as floats
use Rattle.defmt_grammar.specs.declared.kind.IntSize.{IntSize}
use Rattle.defmt_grammar.specs.declared.kind.IntSize.TheVariants as sizes
use Rattle.defmt_grammar.specs.declared.kind.Kind.{Kind}
use Rattle.defmt_grammar.specs.declared.kind.Kind.TheVariants as kinds
use Rattle.defmt_grammar.specs.declared.piece.Piece.{Piece}
use Rattle.defmt_grammar.specs.declared.piece.Use.{Use}
use Rattle.defmt_grammar.specs.Grammar.{Token, char, hole, SpellsTokens, HasTokenFault, joined, uses_of, IsBits, Clash, NoClash, Occurs, HasBelow, NoGap, Spells}
use Rattle.defmt_grammar.specs.Step.{Read, run, hole as hole_step, step_of}
use Rattle.defmt_grammar.proofs.StepLaws.{next_token, then_tokens, step_spells, step_fails, token_shorter}
use Rattle.defmt_grammar.proofs.ReadingLaws.{run_shorter}
use Rattle.defmt_grammar.proofs.Unique.{one_reading, spells_one, spells_no_fault}
use Rattle.defmt_intern.specs.Pieces.{with_more, tokens_by, is_size, is_float_size, is_kind, is_bits, go_together, agree, all_agree, occurs, all_occur, is_gapless, pieces_by, pieces_of}

-- ---- a text is tokens, or has a first fault

pub record Broken (mode : Mode) (size next : ℕ) (text : List ℕ) : Type 0 where
  pub tokens : List Token
  pub after : ℕ
  pub rest : List ℕ
  pub fault : Fault
  pub spelled : SpellsTokens mode size next text tokens after rest
  pub has : HasTokenFault mode after rest fault

-- all of the text is these tokens, or it has a fault
abbrev pub TokensAre : Mode → ℕ → ℕ → List ℕ → Option (List Token) → Type 0
TokensAre mode size next text (Some ts) = (after : ℕ) × SpellsTokens mode size next text ts after []
TokensAre mode size next text None = Broken mode size next text

behind : (mode : Mode) (size next : ℕ) (text : List ℕ) (ts : List Token) (n : ℕ) (rest : List ℕ) (o : Option (List Token)) → SpellsTokens mode size next text ts n rest → TokensAre mode size n rest o
    → TokensAre mode size next text (option_map (λ us. ts ++ us) o)
behind mode size next text ts n rest (Some us) s w = (w.0, then_tokens mode size next n w.0 text rest [] ts us s w.1)
behind mode size next text ts n rest None s b = record {
  tokens = _;
  after = b.after;
  rest = b.rest;
  fault = b.fault;
  spelled = then_tokens mode size next n b.after text rest b.rest ts b.tokens s b.spelled;
  has = b.has;
}

by_step : (mode : Mode) (size next : ℕ) (text : List ℕ) (more : ℕ → List ℕ → Option (List Token)) (r : Result (Read × List ℕ) Fault) → step_of mode next text ≡ r → 0 < length text
    → ((n : ℕ) (rest : List ℕ) → length rest < length text → TokensAre mode size n rest (more n rest)) → TokensAre mode size next text (with_more (size - length text) next more r)
by_step mode size next text more (Ok (run cs, rest)) e some each =
    let s = step_spells mode size next text (run cs, rest) e in
    behind mode size next text (map char cs) next rest (more next rest) s.1 (each next rest (run_shorter mode size next text cs rest s))
by_step mode size next text more (Ok (hole_step param after, rest)) e some each =
    let s = step_spells mode size next text (hole_step param after, rest) e in
    let at = size - length text in
    behind mode size next text (hole at param ∷ []) after rest (more after rest) (after, rest, s, (refl, refl)) (each after rest (token_shorter mode size next text (hole at param) after rest s))
by_step mode size next text more (Err f) e some each = record { tokens = []; after = next; rest = text; fault = f; spelled = (refl, refl); has = step_fails mode next text f some e }

pub tokens_are : (most : ℕ) (mode : Mode) (size next : ℕ) (text : List ℕ) → length text ≤ most → TokensAre mode size next text (tokens_by most mode size next text)
unfolding tokens_by
tokens_are most mode size next [] le = (next, (refl, refl))
tokens_are zero mode size next (c ∷ cs) le = absurd (omega arith)
tokens_are (suc most) mode size next (c ∷ cs) le =
    by_step mode size next (c ∷ cs) (λ n rest. tokens_by most mode size n rest) (step_of mode next (c ∷ cs)) refl (omega arith)
    (λ n rest shorter. tokens_are most mode size n rest (omega arith))

-- ---- tests on kinds

eqb-Decides : (a b : ℕ) → Decides (a == b) (a ≡ b)
eqb-Decides a b = (eqb-true a b, eq-eqb a b)

size-Decides : (s t : IntSize) → Decides (is_size s t) (s ≡ t)
size-Decides sizes.W8 sizes.W8 = (λ _. refl, λ _. refl)
size-Decides sizes.W16 sizes.W16 = (λ _. refl, λ _. refl)
size-Decides sizes.W32 sizes.W32 = (λ _. refl, λ _. refl)
size-Decides sizes.W64 sizes.W64 = (λ _. refl, λ _. refl)
size-Decides sizes.W128 sizes.W128 = (λ _. refl, λ _. refl)
size-Decides sizes.Native sizes.Native = (λ _. refl, λ _. refl)
size-Decides s t = (λ e. absurd (true≢false (sym e)), λ e. absurd cc)

float_size-Decides : (s t : FloatSize) → Decides (is_float_size s t) (s ≡ t)
float_size-Decides floats.W32 floats.W32 = (λ _. refl, λ _. refl)
float_size-Decides floats.W64 floats.W64 = (λ _. refl, λ _. refl)
float_size-Decides s t = (λ e. absurd (true≢false (sym e)), λ e. absurd cc)

bits_same : (a b c d : ℕ) → (a ≡ c) × (b ≡ d) → kinds.Bits a b ≡ kinds.Bits c d
bits_same a b c d e = ap (λ (n : ℕ). kinds.Bits n b) e.0 ∙ ap (kinds.Bits c) e.1

bits_parts : (a b c d : ℕ) → kinds.Bits a b ≡ kinds.Bits c d → (a ≡ c) × (b ≡ d)
bits_parts a b c d e = let f : a ≡ c = cc in let g : b ≡ d = cc in (f, g)

kind-Decides : (k l : Kind) → Decides (is_kind k l) (k ≡ l)
kind-Decides (kinds.Uint s) (kinds.Uint t) = Decides-like (is_size s t) (λ e. ap kinds.Uint e) (λ e. let f : s ≡ t = cc in f) (size-Decides s t)
kind-Decides (kinds.Int s) (kinds.Int t) = Decides-like (is_size s t) (λ e. ap kinds.Int e) (λ e. let f : s ≡ t = cc in f) (size-Decides s t)
kind-Decides kinds.Bool kinds.Bool = (λ _. refl, λ _. refl)
kind-Decides kinds.Char kinds.Char = (λ _. refl, λ _. refl)
kind-Decides kinds.Str kinds.Str = (λ _. refl, λ _. refl)
kind-Decides kinds.Istr kinds.Istr = (λ _. refl, λ _. refl)
kind-Decides kinds.Bytes kinds.Bytes = (λ _. refl, λ _. refl)
kind-Decides (kinds.ByteArray m) (kinds.ByteArray n) = Decides-like (m == n) (λ e. ap kinds.ByteArray e) (λ e. let f : m ≡ n = cc in f) (eqb-Decides m n)
kind-Decides kinds.Format kinds.Format = (λ _. refl, λ _. refl)
kind-Decides kinds.FormatSlice kinds.FormatSlice = (λ _. refl, λ _. refl)
kind-Decides (kinds.FormatArray m) (kinds.FormatArray n) = Decides-like (m == n) (λ e. ap kinds.FormatArray e) (λ e. let f : m ≡ n = cc in f) (eqb-Decides m n)
kind-Decides (kinds.Float s) (kinds.Float t) = Decides-like (is_float_size s t) (λ e. ap kinds.Float e) (λ e. let f : s ≡ t = cc in f) (float_size-Decides s t)
kind-Decides kinds.Debug kinds.Debug = (λ _. refl, λ _. refl)
kind-Decides kinds.Display kinds.Display = (λ _. refl, λ _. refl)
kind-Decides kinds.Sequence kinds.Sequence = (λ _. refl, λ _. refl)
kind-Decides (kinds.Bits a b) (kinds.Bits c d) =
    Decides-like (a == c && b == d) (bits_same a b c d) (bits_parts a b c d)
    (Decides-and (a == c) (b == d) (eqb-Decides a c) (eqb-Decides b d))
kind-Decides k l = (λ e. absurd (true≢false (sym e)), λ e. absurd cc)

bits-Decides : (k : Kind) → Decides (is_bits k) (IsBits k)
bits-Decides (kinds.Bits a b) = (λ _. tt, λ _. refl)
bits-Decides k = (λ e. absurd (true≢false (sym e)), λ h. absurd h)

-- the kinds are the same, or both are bit fields
together-Decides : (k l : Kind) → Decides (go_together k l) ((k ≡ l) ⊎ (IsBits k × IsBits l))
together-Decides k l = Decides-or (is_kind k l) (is_bits k && is_bits l) (kind-Decides k l) (Decides-and (is_bits k) (is_bits l) (bits-Decides k) (bits-Decides l))

-- ---- tests on uses

-- kinds that don't go together clash
pub apart : (u v : Use) → u.param.position ≡ v.param.position → go_together u.param.kind v.param.kind ≡ false → Clash u v
apart u v position e =
    let d = together-Decides u.param.kind v.param.kind in
    record {
      position = position;
      kind = λ same. true≢false (sym (d.1 (inl same)) ∙ e);
      no_bits = λ a b. true≢false (sym (d.1 (inr (a, b))) ∙ e);
    }

no_clash_by : (u v : Use) → (u.param.kind ≡ v.param.kind) ⊎ (IsBits u.param.kind × IsBits v.param.kind) → Clash u v → ⊥
no_clash_by u v (inl same) c = c.kind same
no_clash_by u v (inr bits) c = c.no_bits bits.0 bits.1

together_by : (u v : Use) → u.param.position ≡ v.param.position → (Clash u v → ⊥) → go_together u.param.kind v.param.kind ≡ true
together_by u v position none = elim (cases_Bool (go_together u.param.kind v.param.kind)) [
  | inl e ↦ e
  | inr e ↦ absurd (none (apart u v position e))
]

pub agree-Decides : (u v : Use) → Decides (agree u v) (Clash u v → ⊥)
agree-Decides u v = elim (cases_eq u.param.position v.param.position) [
  | inl same ↦
      let is : agree u v ≡ go_together u.param.kind v.param.kind =
      cond-true (u.param.position == v.param.position) (go_together u.param.kind v.param.kind) true (eq-eqb u.param.position v.param.position same) in
      (λ e. no_clash_by u v ((together-Decides u.param.kind v.param.kind).0 (sym is ∙ e)), λ none. is ∙ together_by u v same none)
  | inr other ↦
      let is : agree u v ≡ true = cond-false (u.param.position == v.param.position) (go_together u.param.kind v.param.kind) true (ne_eqb u.param.position v.param.position other) in
      (λ _ c. other c.position, λ _. is)
]

-- a test that each use of a list passes
each_more : (P : Use → Type 0) (v : Use) (vs : List Use) → P v × ((i : ℕ) (u : Use) → slice_get vs i ≡ Some u → P u) → (i : ℕ) (u : Use) → slice_get (v ∷ vs) i ≡ Some u → P u
each_more P v vs h zero u there = subst P (same_Some v u there) h.0
each_more P v vs h (suc i) u there = h.1 i u there

each-Decides : (p : Use → Bool) (P : Use → Type 0) → ((u : Use) → Decides (p u) (P u)) → (us : List Use) → Decides (list_all p us) ((i : ℕ) (u : Use) → slice_get us i ≡ Some u → P u)
each-Decides p P d [] = (λ _ i u there. absurd (omega (arith, slice_get_within [] i u there)), λ _. refl)
each-Decides p P d (v ∷ vs) =
    Decides-like (p v && list_all p vs) (each_more P v vs) (λ all. (all 0 v refl, λ i u there. all (suc i) u there))
    (Decides-and (p v) (list_all p vs) (d v) (each-Decides p P d vs))

-- none clashes with the first, and none of the others with one in front of it
clash_more : (v : Use) (vs : List Use) → ((i : ℕ) (u : Use) → slice_get vs i ≡ Some u → Clash v u → ⊥) × NoClash vs → NoClash (v ∷ vs)
clash_more v vs h zero j a b before there earlier c = absurd (omega arith)
clash_more v vs h (suc i) zero a b before there earlier c = h.0 i a there (subst (λ (u : Use). Clash u a) (sym (same_Some v b earlier)) c)
clash_more v vs h (suc i) (suc j) a b before there earlier c = h.1 i j a b (omega arith) there earlier c

clash_less : (v : Use) (vs : List Use) → NoClash (v ∷ vs) → ((i : ℕ) (u : Use) → slice_get vs i ≡ Some u → Clash v u → ⊥) × NoClash vs
clash_less v vs none = (
  λ i u there c. none (suc i) 0 u v (omega arith) there refl c,
  λ i j a b before there earlier c. none (suc i) (suc j) a b (omega arith) there earlier c,
)

clash-Decides : (us : List Use) → Decides (all_agree us) (NoClash us)
clash-Decides [] = (λ _ i j a b before there earlier c. absurd (omega (arith, slice_get_within [] i a there)), λ _. refl)
clash-Decides (v ∷ vs) =
    Decides-like (list_all (λ u. agree v u) vs && all_agree vs) (clash_more v vs) (clash_less v vs)
    (Decides-and (list_all (λ u. agree v u) vs) (all_agree vs) (each-Decides (λ u. agree v u) (λ u. Clash v u → ⊥) (agree-Decides v) vs) (clash-Decides vs))

occurs_more : (v : Use) (vs : List Use) (position : ℕ) → (v.param.position ≡ position) ⊎ Occurs vs position → Occurs (v ∷ vs) position
occurs_more v vs position (inl here) = (0, v, refl, here)
occurs_more v vs position (inr o) = (suc o.0, o.1, o.2, o.3)

occurs_less : (v : Use) (vs : List Use) (position i : ℕ) (u : Use) → slice_get (v ∷ vs) i ≡ Some u → u.param.position ≡ position → (v.param.position ≡ position) ⊎ Occurs vs position
occurs_less v vs position zero u there is = inl (ap (λ (w : Use). w.param.position) (same_Some v u there) ∙ is)
occurs_less v vs position (suc i) u there is = inr (i, u, there, is)

pub occurs-Decides : (us : List Use) (position : ℕ) → Decides (occurs us position) (Occurs us position)
occurs-Decides [] position = (λ e. absurd (true≢false (sym e)), λ o. absurd (omega (arith, slice_get_within [] o.0 o.1 o.2)))
occurs-Decides (v ∷ vs) position =
    Decides-like (v.param.position == position || occurs vs position) (occurs_more v vs position) (λ o. occurs_less v vs position o.0 o.1 o.2 o.3)
    (Decides-or (v.param.position == position) (occurs vs position) (eqb-Decides v.param.position position) (occurs-Decides vs position))

below-Decides : (us : List Use) (limit : ℕ) → Decides (all_occur us limit) (HasBelow us limit)
below-Decides us limit = Decides-below_and (λ n. occurs us n) (λ n. Occurs us n) (λ n. all_occur us n) (λ n. occurs-Decides us n) refl (λ n. refl) limit

pub gap-Decides : (us : List Use) → Decides (is_gapless us) (NoGap us)
gap-Decides us = each-Decides (λ u. all_occur us u.param.position) (λ u. HasBelow us u.param.position) (λ u. below-Decides us u.param.position) us

uses-Decides : (us : List Use) → Decides (all_agree us && is_gapless us) (NoClash us × NoGap us)
uses-Decides us = Decides-and (all_agree us) (is_gapless us) (clash-Decides us) (gap-Decides us)

-- ---- texts

-- what is told of a text: the pieces that it spells, or that it spells none
abbrev PiecesAre : Mode → List ℕ → Option (List Piece) → Type 0
PiecesAre mode text (Some ps) = Spells text mode ps
PiecesAre mode text None = (ps : List Piece) → Spells text mode ps → ⊥

-- two readings of the whole text are one
one_whole : (mode : Mode) (text : List ℕ) (ts us : List Token) (m n : ℕ) → SpellsTokens mode (length text) 0 text ts m [] → SpellsTokens mode (length text) 0 text us n [] → ts ≡ us
unfolding next_token
one_whole mode text ts us m n a b = (one_reading mode (length text) 0 text ts m [] us n [] a b tt tt).tokens

by_uses : (mode : Mode) (text : List ℕ) (ts : List Token) (after : ℕ) → SpellsTokens mode (length text) 0 text ts after [] → (b : Bool) → (all_agree (uses_of ts) && is_gapless (uses_of ts)) ≡ b
    → PiecesAre mode text (cond b (Some (joined ts)) None)
by_uses mode text ts after spelled true e =
    let both = (uses-Decides (uses_of ts)).0 e in
    record { tokens = ts; after = after; spelled = spelled; joins = refl; no_clash = both.0; no_gap = both.1 }
by_uses mode text ts after spelled false e = λ ps s.
    let same : s.tokens ≡ ts = one_whole mode text s.tokens ts s.after after s.spelled spelled in
    let both = subst (λ (us : List Token). NoClash (uses_of us) × NoGap (uses_of us)) same (s.no_clash, s.no_gap) in
    true≢false (sym ((uses-Decides (uses_of ts)).1 both) ∙ e)

by_tokens : (mode : Mode) (text : List ℕ) (o : Option (List Token)) → TokensAre mode (length text) 0 text o → PiecesAre mode text (option_and_then (λ ts. pieces_by ts) o)
by_tokens mode text (Some ts) w = by_uses mode text ts w.0 w.1 (all_agree (uses_of ts) && is_gapless (uses_of ts)) refl
by_tokens mode text None b = λ ps s. spells_no_fault text mode ps b.fault.cause _ s
    (inl (record { tokens = b.tokens; after = b.after; rest = b.rest; spelled = b.spelled; fault = b.fault; has = b.has; cause_is = refl; place = refl }))

pieces_are : (mode : Mode) (text : List ℕ) → PiecesAre mode text (pieces_of mode text)
unfolding pieces_of
pieces_are mode text =
    by_tokens mode text (tokens_by (length text) mode (length text) 0 text) (tokens_are (length text) mode (length text) 0 text (omega arith))

-- ---- the function and the grammar say the same

found_in : (mode : Mode) (text : List ℕ) (o : Option (List Piece)) (ps : List Piece) → PiecesAre mode text o → o ≡ Some ps → Spells text mode ps
found_in mode text (Some qs) ps s e = subst (Spells text mode) (same_Some qs ps e) s
found_in mode text None ps n e = absurd cc

again_in : (mode : Mode) (text : List ℕ) (o : Option (List Piece)) (ps : List Piece) → PiecesAre mode text o → Spells text mode ps → o ≡ Some ps
again_in mode text (Some qs) ps s t = ap Some (spells_one text mode qs ps s t)
again_in mode text None ps n t = absurd (n ps t)

none_in : (mode : Mode) (text : List ℕ) (o : Option (List Piece)) → PiecesAre mode text o → ((ps : List Piece) → Spells text mode ps → ⊥) → o ≡ None
none_in mode text (Some qs) s none = absurd (none qs s)
none_in mode text None n none = refl

pub pieces_found : (mode : Mode) (text : List ℕ) (ps : List Piece) → pieces_of mode text ≡ Some ps → Spells text mode ps
pieces_found mode text ps e = found_in mode text (pieces_of mode text) ps (pieces_are mode text) e

pub pieces_again : (mode : Mode) (text : List ℕ) (ps : List Piece) → Spells text mode ps → pieces_of mode text ≡ Some ps
pieces_again mode text ps s = again_in mode text (pieces_of mode text) ps (pieces_are mode text) s

pub pieces_none : (mode : Mode) (text : List ℕ) → ((ps : List Piece) → Spells text mode ps → ⊥) → pieces_of mode text ≡ None
pieces_none mode text none = none_in mode text (pieces_of mode text) (pieces_are mode text) none

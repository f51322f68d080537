-- Each text begins with a value or with none: the steps of the reader, followed on lists.
use Rattle.std.proofs.Common.{◌≡◌, ◌⊎◌, ◌<◌, ◌≤◌, ℕ, zero, suc, false, List, [], ◌∷◌, ◌++◌, length, refl, sym, ap, subst, ◌∙◌, arith, Option, Some, None, inl, inr, encode_utf8}
use Rattle.std.specs.Char.{IsScalar}
use Rattle.std.proofs.lemmas.Bool.{and_right, both_ways, cases_Bool, cases_eq, cases_lt, le-ltb}
use Rattle.std.proofs.lemmas.Option.{none-some}
use Rattle.defmt_grammar.specs.Cut.{behind, strip}
use Rattle.defmt_grammar.specs.declared.language.Language.{Language}
use Rattle.defmt_grammar.specs.declared.language.Language.TheVariants.{Base, Full}
use Rattle.defmt_grammar.proofs.Cuts.{behind_found, strip_again, strip_found}
use Rattle.defmt_shapes.specs.declared.scan.Bracket.{Bracket}
use Rattle.defmt_shapes.specs.declared.scan.Bracket.TheVariants.{Round, Square, Angle}
use Rattle.defmt_shapes.specs.declared.scan.Place.{Place}
use Rattle.defmt_shapes.specs.declared.scan.Place.TheVariants.{Before, After}
use Rattle.defmt_shapes.specs.declared.scan.Step.{Step}
use Rattle.defmt_shapes.specs.declared.scan.Step.TheVariants.{Begin, End, Open, Close}
use Rattle.defmt_shapes.specs.Escapes.{IsFirstChar, IsPlainCharacter, IsCharacterAt, IsCharacter, IsQuotedEnd, InQuotes, escape_of, scalar_of}
use Rattle.defmt_shapes.specs.Leads.{Lead, IsWhole, IsLeadIn, IsCharacterLead, IsQuotedLead, character_lead, full_lead, item_of, marked_lead, quoted_lead}
use Rattle.defmt_shapes.specs.Leads as leads
use Rattle.defmt_shapes.specs.Scan.{IsEnclosed, IsStep, IsValueStep, IsCallStep, InBrackets, after_step, call_step, item_step, lead_step}
use Rattle.defmt_shapes.specs.Shape.{Shape, HeadShape}
use Rattle.defmt_shapes.specs.Spelling.{ends_there}
use Rattle.defmt_shapes.proofs.CharacterLaws.{character_shorter}
use Rattle.defmt_shapes.proofs.FlatLaws.{opened}
use Rattle.defmt_shapes.proofs.LeadAgain.{begins}
use Rattle.defmt_shapes.proofs.NumberLaws.{scalar_again, scalar_found}
use Rattle.defmt_shapes.proofs.QuoteLaws.{is_open, next_quotes}
use Rattle.defmt_shapes.proofs.QuoteLaws as quotes
use Rattle.defmt_shapes.proofs.ReaderLaws.{at_end, go_begin, go_end, is_stuck, out_of}
use Rattle.defmt_shapes.proofs.ScanLaws.{step_shorter}
use Rattle.defmt_shapes.proofs.ValueLaws.{call_none, call_open, call_value, ends_found, ends_not, no_head, nodes_none, nodes_open, nodes_value, sequence_none, sequence_open, sequence_value, whole_open, whole_value}
use lib.Utf8.{scalar}

-- ---- characters

scalar_far : (c : ℕ) → 1114112 ≤ c → scalar c ≡ false
scalar_far c le = rw (le-ltb c 55296 (omega (arith, le)), le-ltb c 1114112 le) (and_right _ false refl)

scalar_small : (c : ℕ) → IsScalar c → c < 1114112
scalar_small c s = elim (cases_lt c 1114112) [ inl lt ↦ lt | inr le ↦ absurd (both_ways (scalar c) (scalar_far c le) s) ]

abbrev HasChar : List ℕ → Type 0
HasChar text = (p : ℕ × List ℕ) × IsFirstChar text (Some p)

abbrev LacksChar : List ℕ → ℕ → Type 0
LacksChar text c = (rest : List ℕ) → IsScalar c → text ≡ encode_utf8 c ++ rest → ⊥

at_front : (text : List ℕ) (c : ℕ) (o : Option (List ℕ)) → strip (encode_utf8 c) text ≡ o → IsScalar c → HasChar text ⊎ LacksChar text c
at_front text c None e s = inr (λ rest t same. none-some rest (sym e ∙ ap (strip (encode_utf8 c)) same ∙ strip_again (encode_utf8 c) rest))
at_front text c (Some rest) e s = inl ((c, rest), (s, strip_found (encode_utf8 c) text rest e))

char_at : (text : List ℕ) (c : ℕ) (o : Option ℕ) → scalar_of c ≡ o → HasChar text ⊎ LacksChar text c
char_at text c None e = inr (λ rest s same. none-some c (sym e ∙ scalar_again c s))
char_at text c (Some d) e = at_front text c (strip (encode_utf8 c) text) refl (scalar_found c d e).1

char_below : (n : ℕ) (text : List ℕ) → HasChar text ⊎ ((c : ℕ) → c < n → LacksChar text c)
char_below zero text = inr (λ c lt. absurd (omega (arith, lt)))
char_below (suc n) text = elim (char_below n text) [
  | inl h ↦ inl h
  | inr below ↦ elim (char_at text n (scalar_of n) refl) [
    | inl h ↦ inl h
    | inr there ↦ inr (λ c lt. elim (cases_eq c n) [ inl e ↦ subst (LacksChar text) (sym e) there | inr other ↦ below c (omega (arith, lt, other)) ])
  ]
]

first_below : (n : ℕ) (text : List ℕ) → ((c : ℕ) → IsScalar c → c < n) → (o : Option (ℕ × List ℕ)) × IsFirstChar text o
first_below n text small = elim (char_below n text) [ inl h ↦ (Some h.0, h.1) | inr none ↦ (None, λ c rest s e. none c (small c s) rest s e) ]

plain_some : (text : List ℕ) (m : Option (List ℕ)) → (o : Option (ℕ × List ℕ)) × IsPlainCharacter text m o
plain_some text None = first_below 1114112 text scalar_small
plain_some text (Some more) = (None, refl)

character_at : (quote : ℕ) (text : List ℕ) (m : Option (List ℕ)) → (o : Option (ℕ × List ℕ)) × IsCharacterAt quote text m o
character_at quote text None = plain_some text (behind quote text)
character_at quote text (Some more) = (escape_of more, refl)

character_some : (quote : ℕ) (text : List ℕ) → (o : Option (ℕ × List ℕ)) × IsCharacter quote text o
character_some quote text = character_at quote text (behind 92 text)

-- ---- texts in quotes

module _ (text : List ℕ) where
  abbrev Quoted : Type 0
  Quoted = (o : Option (List ℕ × List ℕ)) × IsQuotedEnd text o

  quoted_past : (n : ℕ) (rest : List ℕ) → (o : Option (ℕ × List ℕ)) × IsCharacter 34 rest o → behind 34 rest ≡ None → length rest ≤ suc n → InQuotes text rest → ((after : List ℕ) → length after ≤ n → InQuotes text after → Quoted) → Quoted
  quoted_past n rest (None, c) e le h go = (None, quotes.is_stuck text rest h e c)
  quoted_past n rest (Some p, c) e le h go = go p.1 (omega (arith, le, character_shorter 34 rest p (omega arith) c)) (next_quotes text rest p h c)

  quoted_at : (n : ℕ) (rest : List ℕ) (m : Option (List ℕ)) → behind 34 rest ≡ m → length rest ≤ suc n → InQuotes text rest → ((after : List ℕ) → length after ≤ n → InQuotes text after → Quoted) → Quoted
  quoted_at n rest (Some after) e le h go =
      let k = h.sound [] after (record { cs = []; spelled = refl; text_is = behind_found 34 rest after e }) in
      (Some (k.0, after), k.1)
  quoted_at n rest None e le h go = quoted_past n rest (character_some 34 rest) e le h go

  quoted_from : (n : ℕ) (rest : List ℕ) → length rest ≤ n → InQuotes text rest → Quoted
  quoted_from n [] le h = (None, is_open text [] h refl)
  quoted_from zero (c ∷ cs) le h = absurd (omega (arith, le))
  quoted_from (suc n) (c ∷ cs) le h = quoted_at n (c ∷ cs) (behind 34 (c ∷ cs)) refl le h (quoted_from n)

quoted_some : (text : List ℕ) → (o : Option (List ℕ × List ℕ)) × IsQuotedEnd text o
quoted_some text = quoted_from text (length text) text (omega arith) (record { sound = λ inside after q. (inside, q); complete = λ inside after q. (inside, q) })

-- ---- leads

single_some : (text : List ℕ) (m : Option (List ℕ)) → (o : Option (Lead × List ℕ)) × IsCharacterLead text m o
single_some text None = (marked_lead text, refl)
single_some text (Some more) = let q = character_some 39 more in (character_lead q.0, (q.0, q.1, refl))

double_some : (text : List ℕ) (m : Option (List ℕ)) → (o : Option (Lead × List ℕ)) × IsQuotedLead text m o
double_some text None = single_some text (behind 39 text)
double_some text (Some more) = let q = quoted_some more in (quoted_lead q.0, (q.0, q.1, refl))

lead_some : (lang : Language) (text : List ℕ) → (o : Option (Lead × List ℕ)) × IsLeadIn lang text o
lead_some Base text = double_some text (behind 34 text)
lead_some Full text = let l = double_some text (behind 34 text) in (full_lead text l.0, (l.0, l.1, refl))

-- ---- steps

value_step : (lang : Language) (text : List ℕ) (m : Option (Step × List ℕ)) → (o : Option (Step × List ℕ)) × IsValueStep lang text m o
value_step lang text None = let l = lead_some lang text in (lead_step l.0, (l.0, l.1, refl))
value_step lang text (Some p) = (Some p, refl)

angle_step : (lang : Language) (text : List ℕ) (m : Option (Step × List ℕ)) → (o : Option (Step × List ℕ)) × IsCallStep lang text m o
angle_step lang text None = let l = lead_some lang text in (call_step l.0, (l.0, l.1, refl))
angle_step lang text (Some p) = (Some p, refl)

step_some : (lang : Language) (b : Bracket) (place : Place) (text : List ℕ) → (o : Option (Step × List ℕ)) × IsStep lang b place text o
step_some lang Round Before text = value_step lang text (after_step Round text)
step_some lang Round After text = (after_step Round text, refl)
step_some lang Square Before text = (item_step (item_of text), refl)
step_some lang Square After text = (after_step Square text, refl)
step_some lang Angle Before text = angle_step lang text (after_step Angle text)
step_some lang Angle After text = (after_step Angle text, refl)

-- ---- what stands between brackets

module _ (lang : Language) (first : Bracket) (text : List ℕ) where
  abbrev Enclosed : Type 0
  Enclosed = (o : Option (List ℕ × List ℕ)) × IsEnclosed lang first text o

  abbrev Goes : ℕ → Type 0
  Goes n = (b : Bracket) (bs : List Bracket) (place : Place) (rest : List ℕ) → length rest < n → InBrackets lang first text b bs place rest → Enclosed

  closed_past : (n : ℕ) (b : Bracket) (bs : List Bracket) (place : Place) (rest : List ℕ) → (o : Option (Step × List ℕ)) × IsStep lang b place rest o → length rest < suc n → InBrackets lang first text b bs place rest → Goes n → Enclosed
  closed_past n b bs place rest (None, s) lt h go = (None, is_stuck lang first b text bs place rest h s)
  closed_past n b bs place rest (Some (Begin, after), s) lt h go = go b bs Before after (omega (arith, lt, step_shorter lang b place rest (Begin, after) s)) (go_begin lang first b text bs place rest after h s)
  closed_past n b bs place rest (Some (End, after), s) lt h go = go b bs After after (omega (arith, lt, step_shorter lang b place rest (End, after) s)) (go_end lang first b text bs place rest after h s)
  closed_past n b bs place rest (Some (Open c, after), s) lt h go = go c (b ∷ bs) Before after (omega (arith, lt, step_shorter lang b place rest (Open c, after) s)) (opened lang first b c text bs place rest after h s)
  closed_past n b [] place rest (Some (Close, after), s) lt h go = let e = at_end lang first b text place rest after [] h refl s in (Some (e.0, after), e.1)
  closed_past n b (d ∷ ds) place rest (Some (Close, after), s) lt h go = go d ds After after (omega (arith, lt, step_shorter lang b place rest (Close, after) s)) (out_of lang first b d text ds place rest after h s)

  closed_from : (n : ℕ) → Goes n
  closed_from zero b bs place rest lt h = absurd (omega (arith, lt))
  closed_from (suc n) b bs place rest lt h = closed_past n b bs place rest (step_some lang b place rest) lt h (closed_from n)

enclosed_some : (lang : Language) (b : Bracket) (text : List ℕ) → (o : Option (List ℕ × List ℕ)) × IsEnclosed lang b text o
enclosed_some lang b text = closed_from lang b text (suc (length text)) b [] Before text (omega arith) (record {
  sound = λ inside after e m. (inside, record { stands = m; text_is = e });
  complete = λ inside end k. record { inside = inside; after = end; rest_is = k.text_is; stands = k.stands; outer = refl };
})

-- ---- values

module _ (lang : Language) (text : List ℕ) where
  abbrev pub HasHead : Type 0
  HasHead = ((s : Shape) × (rest : List ℕ) × HeadShape lang text s rest) ⊎ ((s : Shape) (rest : List ℕ) → HeadShape lang text s rest → ⊥)

  whole_head : (lead : Lead) (after : List ℕ) → IsWhole lead → IsLeadIn lang text (begins lead after) → HasHead
  whole_head lead after w l = elim (cases_Bool (ends_there after)) [
    | inl e ↦ (let v = whole_value lang text after lead w l (ends_found after e) in inl (v.0, after, v.1))
    | inr e ↦ inr (whole_open lang text after lead w l (ends_not after e))
  ]

  call_head : (name : List ℕ) (m : Option (List ℕ)) (after : List ℕ) → IsLeadIn lang text (begins (leads.call name m) after) → (o : Option (List ℕ × List ℕ)) × IsEnclosed lang Round after o → HasHead
  call_head name m after l (None, none) = inr (call_none lang text after name m l none)
  call_head name m after l (Some p, e) = elim (cases_Bool (ends_there p.1)) [
    | inl ends ↦ (let v = call_value lang text after name p.0 p.1 m l e (ends_found p.1 ends) in inl (_, p.1, v.2))
    | inr goes ↦ inr (call_open lang text after name p.0 p.1 m l e (ends_not p.1 goes))
  ]

  sequence_head : (name after : List ℕ) → IsLeadIn lang text (begins (leads.sequence name) after) → (o : Option (List ℕ × List ℕ)) × IsEnclosed lang Square after o → HasHead
  sequence_head name after l (None, none) = inr (sequence_none lang text after name l none)
  sequence_head name after l (Some p, e) = elim (cases_Bool (ends_there p.1)) [
    | inl ends ↦ (let v = sequence_value lang text after name p.0 p.1 l e (ends_found p.1 ends) in inl (_, p.1, v.1))
    | inr goes ↦ inr (sequence_open lang text after name p.0 p.1 l e (ends_not p.1 goes))
  ]

  nodes_head : (after : List ℕ) → IsLeadIn lang text (begins leads.nodes after) → (o : Option (List ℕ × List ℕ)) × IsEnclosed lang Angle after o → HasHead
  nodes_head after l (None, none) = inr (nodes_none lang text after l none)
  nodes_head after l (Some p, e) = elim (cases_Bool (ends_there p.1)) [
    | inl ends ↦ (let v = nodes_value lang text after p.0 p.1 l e (ends_found p.1 ends) in inl (_, p.1, v.1))
    | inr goes ↦ inr (nodes_open lang text after p.0 p.1 l e (ends_not p.1 goes))
  ]

  lead_head : (lead : Lead) (after : List ℕ) → IsLeadIn lang text (begins lead after) → HasHead
  lead_head (leads.decimal digits) after l = whole_head (leads.decimal digits) after tt l
  lead_head (leads.hexadecimal digits) after l = whole_head (leads.hexadecimal digits) after tt l
  lead_head (leads.negative digits) after l = whole_head (leads.negative digits) after tt l
  lead_head (leads.flag b) after l = whole_head (leads.flag b) after tt l
  lead_head (leads.character c) after l = whole_head (leads.character c) after tt l
  lead_head (leads.quoted inside) after l = whole_head (leads.quoted inside) after tt l
  lead_head (leads.interned name) after l = whole_head (leads.interned name) after tt l
  lead_head (leads.bytes digits) after l = whole_head (leads.bytes digits) after tt l
  lead_head leads.empty after l = whole_head leads.empty after tt l
  lead_head (leads.float t) after l = whole_head (leads.float t) after tt l
  lead_head (leads.call name m) after l = call_head name m after l (enclosed_some lang Round after)
  lead_head (leads.sequence name) after l = sequence_head name after l (enclosed_some lang Square after)
  lead_head leads.nodes after l = nodes_head after l (enclosed_some lang Angle after)

  head_of : (o : Option (Lead × List ℕ)) × IsLeadIn lang text o → HasHead
  head_of (None, l) = inr (no_head lang text l)
  head_of (Some (lead, after), l) = lead_head lead after l

-- a text begins with a value, or with none
pub some_head : (lang : Language) (text : List ℕ) → HasHead lang text
some_head lang text = head_of lang text (lead_some lang text)

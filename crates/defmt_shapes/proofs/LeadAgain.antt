-- What is spelled is read so, whatever follows.
use Rattle.std.proofs.Common.{◌≡◌, ◌≢◌, ◌<◌, ℕ, Bool, true, false, cond, eqb, List, [], ◌∷◌, ◌++◌, length, refl, sym, ap, subst, ◌∙◌, arith, Option, Some, None, inl, inr, codes}
use Rattle.std.specs.Char.{is_ascii_alphabetic}
use Rattle.std.specs.Int.{IsInRange}
use Rattle.std.specs.Str.Parse.{AllDigits}
use Rattle.std.proofs.lemmas.Bool.{ne_eqb}
use Rattle.std.proofs.lemmas.Str.Parse.{digit_from_value}
use Rattle.defmt_grammar.specs.Cut.{behind, strip}
use Rattle.defmt_grammar.proofs.Cuts.{behind_again}
use Rattle.defmt_shapes.specs.declared.parts.Class.TheVariants.{Decimal, Hexadecimal, Word}
use Rattle.defmt_shapes.specs.Shape.{Shape, IsNumber, IsVariant, IsName, flag_word, SpellsBytes, SpellsCharacter, IsCallMark, SpellsShape}
use Rattle.defmt_shapes.specs.Shape as shapes
use Rattle.defmt_shapes.specs.Runs.{in_class, run}
use Rattle.defmt_shapes.specs.Escapes.{IsCharacter, IsQuotedEnd}
use Rattle.defmt_shapes.specs.Leads.{Lead, decimal, hexadecimal, negative, flag, character, quoted, interned, bytes, empty, call, sequence, some_digits, decimal_lead, hexadecimal_lead, negative_lead, interned_lead, bytes_lead, variant_lead, flag_lead, named_lead, word_lead, plain_lead, marked_lead, quoted_lead, character_lead, IsCharacterLead, IsQuotedLead, IsLead, IsMark}
use Rattle.defmt_shapes.proofs.NameLaws.{name_parts}
use Rattle.defmt_shapes.proofs.RunLaws.{FailsThere, run_again, digits_pass}
use Rattle.defmt_shapes.proofs.CharacterLaws.{character_again, reads}
use Rattle.defmt_shapes.proofs.EscapeLaws.{behind_other}
use Rattle.defmt_shapes.proofs.LeadForms.{StopsThere, IsInner, stops_behind, stops_class, letter_range, letter_no_digit, name_words, variant_again, bytes_pass, pairs_again}

abbrev pub begins : Lead → List ℕ → Option (Lead × List ℕ)
begins lead after = Some (lead, after)

-- ---- the first byte decides

pub as_marked : (c : ℕ) (cs : List ℕ) → c ≢ 34 → c ≢ 39 → IsLead (c ∷ cs) (marked_lead (c ∷ cs))
as_marked c cs n m =
    let o = marked_lead (c ∷ cs) in
    subst (λ (q : Option (List ℕ)). IsQuotedLead (c ∷ cs) q o) (sym (behind_other 34 c cs n))
    (subst (λ (q : Option (List ℕ)). IsCharacterLead (c ∷ cs) q o) (sym (behind_other 39 c cs m)) refl)

-- a character that marks no other kind
pub record IsPlainStart (c : ℕ) : Type 0 where
  pub no_double : c ≢ 34
  pub no_single : c ≢ 39
  pub no_minus : c ≢ 45
  pub no_at : c ≢ 64
  pub no_hash : c ≢ 35
  pub no_bracket : c ≢ 91

marked_plain : (c : ℕ) (cs : List ℕ) → IsPlainStart c → marked_lead (c ∷ cs) ≡ plain_lead (c ∷ cs)
unfolding marked_lead strip
marked_plain c cs h = rw (behind_other 45 c cs h.no_minus, behind_other 64 c cs h.no_at, behind_other 35 c cs h.no_hash, ne_eqb c 91 h.no_bracket) refl

as_plain : (c : ℕ) (cs : List ℕ) (o : Option (Lead × List ℕ)) → IsPlainStart c → plain_lead (c ∷ cs) ≡ o → IsLead (c ∷ cs) o
as_plain c cs o h e = subst (IsLead (c ∷ cs)) (marked_plain c cs h ∙ e) (as_marked c cs h.no_double h.no_single)

digit_start : (d : ℕ) → IsInRange 48 57 d → IsPlainStart d
digit_start d h = record { no_double = λ e. omega (arith, h.0); no_single = λ e. omega (arith, h.0); no_minus = λ e. omega (arith, h.0); no_at = λ e. omega (arith, h.1); no_hash = λ e. omega (arith, h.0); no_bracket = λ e. omega (arith, h.1) }

letter_start : (c : ℕ) → is_ascii_alphabetic c ≡ true → IsPlainStart c
letter_start c h =
    let r = letter_range c h in
    record { no_double = λ e. omega (arith, r.0); no_single = λ e. omega (arith, r.0); no_minus = λ e. omega (arith, r.0); no_at = λ e. omega (arith, r.0); no_hash = λ e. omega (arith, r.0); no_bracket = r.1 }

-- ---- numbers

some_again : (make : List ℕ → Lead) (digits rest : List ℕ) → 0 < length digits → some_digits make (digits, rest) ≡ begins (make digits) rest
some_again make digits rest h = rw (ne_eqb (length digits) 0 (λ e. omega arith)) refl

-- no digit follows, and no `x`
pub record EndsDigits (rest : List ℕ) : Type 0 where
  pub fails : FailsThere (in_class Decimal) rest
  pub no_x : strip (codes "x") rest ≡ None

decimal_again : (digits rest : List ℕ) → 0 < length digits → AllDigits 10 digits → FailsThere (in_class Decimal) rest → decimal_lead (digits ++ rest) ≡ begins (decimal digits) rest
unfolding decimal_lead
decimal_again digits rest some all fails = rw (run_again (in_class Decimal) digits rest (digits_pass 10 digits all) fails) (some_again decimal digits rest some)

hexadecimal_again : (digits rest : List ℕ) → 0 < length digits → AllDigits 16 digits → StopsThere rest → hexadecimal_lead (digits ++ rest) ≡ begins (hexadecimal digits) rest
unfolding hexadecimal_lead
hexadecimal_again digits rest some all stops = rw (run_again (in_class Hexadecimal) digits rest (digits_pass 16 digits all) (stops_class Hexadecimal rest refl stops)) (some_again hexadecimal digits rest some)

negative_again : (digits rest : List ℕ) → 0 < length digits → AllDigits 10 digits → FailsThere (in_class Decimal) rest → negative_lead (digits ++ rest) ≡ begins (negative digits) rest
unfolding negative_lead
negative_again digits rest some all fails = rw (run_again (in_class Decimal) digits rest (digits_pass 10 digits all) fails) (some_again negative digits rest some)

both_none : {A : Type 0} (b : Bool) (o : Option A) → o ≡ None → cond b o None ≡ None
both_none true o e = e
both_none false o e = refl

no_x_stop : (rest : List ℕ) → StopsThere rest → strip (codes "x") rest ≡ None
unfolding strip
no_x_stop [] h = refl
no_x_stop (c ∷ cs) (inl e) = rw e refl
no_x_stop (c ∷ cs) (inr (inl e)) = rw e refl
no_x_stop (c ∷ cs) (inr (inr e)) = rw e refl

pub stops_digits : (rest : List ℕ) → StopsThere rest → EndsDigits rest
stops_digits rest h = record { fails = stops_class Decimal rest refl h; no_x = no_x_stop rest h }

no_x : (ds rest : List ℕ) → AllDigits 10 ds → EndsDigits rest → strip (codes "x") (ds ++ rest) ≡ None
unfolding strip
no_x [] rest all ends = ends.no_x
no_x (d ∷ ds) rest all ends = let r = digit_from_value d all.0 in rw (ne_eqb d 120 (λ e. omega (arith, r.1))) refl

-- decimal digits don't begin with `0x`
no_hexadecimal : (d : ℕ) (ds rest : List ℕ) → AllDigits 10 ds → EndsDigits rest → strip (codes "0x") (d ∷ (ds ++ rest)) ≡ None
unfolding strip
no_hexadecimal d ds rest all ends = both_none (eqb d 48) (strip (codes "x") (ds ++ rest)) (no_x ds rest all ends)

plain_decimal : (d : ℕ) (ds rest : List ℕ) → AllDigits 10 (d ∷ ds) → EndsDigits rest → plain_lead (d ∷ (ds ++ rest)) ≡ begins (decimal (d ∷ ds)) rest
unfolding plain_lead
plain_decimal d ds rest all ends = rw (no_hexadecimal d ds rest all.1 ends, decimal_again (d ∷ ds) rest (omega arith) all ends.fails) refl

pub decimal_leads : (digits rest : List ℕ) (n : ℕ) → IsNumber 10 digits n → EndsDigits rest → IsLead (digits ++ rest) (begins (decimal digits) rest)
decimal_leads [] rest n h ends = absurd (omega (arith, h.some))
decimal_leads (d ∷ ds) rest n h ends = as_plain d (ds ++ rest) (begins (decimal (d ∷ ds)) rest) (digit_start d (digit_from_value d h.all.0)) (plain_decimal d ds rest h.all ends)

plain_hexadecimal : (more : List ℕ) → plain_lead (48 ∷ 120 ∷ more) ≡ hexadecimal_lead more
unfolding plain_lead strip
plain_hexadecimal more = refl

pub hexadecimal_leads : (digits rest : List ℕ) (n : ℕ) → IsNumber 16 digits n → StopsThere rest → IsLead (48 ∷ 120 ∷ (digits ++ rest)) (begins (hexadecimal digits) rest)
hexadecimal_leads digits rest n h stops =
    as_plain 48 (120 ∷ (digits ++ rest)) (begins (hexadecimal digits) rest) (digit_start 48 (omega arith, omega arith))
    (plain_hexadecimal (digits ++ rest) ∙ hexadecimal_again digits rest h.some h.all stops)

pub marked_negative : (more : List ℕ) → marked_lead (45 ∷ more) ≡ negative_lead more
unfolding marked_lead behind
marked_negative more = refl

pub negative_leads : (digits rest : List ℕ) (n : ℕ) → IsNumber 10 digits n → FailsThere (in_class Decimal) rest → IsLead (45 ∷ (digits ++ rest)) (begins (negative digits) rest)
negative_leads digits rest n h fails =
    subst (IsLead (45 ∷ (digits ++ rest))) (marked_negative (digits ++ rest) ∙ negative_again digits rest h.some h.all fails)
    (as_marked 45 (digits ++ rest) (λ e. omega arith) (λ e. omega arith))

-- ---- names

marked_interned : (more : List ℕ) → marked_lead (64 ∷ more) ≡ interned_lead more
unfolding marked_lead behind
marked_interned more = refl

interned_again : (name rest : List ℕ) → IsName name → StopsThere rest → interned_lead (name ++ rest) ≡ begins (interned name) rest
unfolding interned_lead
interned_again name rest h stops = rw (run_again (in_class Word) name rest (name_words name h) (stops_class Word rest refl stops)) (rw h refl)

pub interned_leads : (name rest : List ℕ) → IsName name → StopsThere rest → IsLead (64 ∷ (name ++ rest)) (begins (interned name) rest)
interned_leads name rest h stops =
    subst (IsLead (64 ∷ (name ++ rest))) (marked_interned (name ++ rest) ∙ interned_again name rest h stops)
    (as_marked 64 (name ++ rest) (λ e. omega arith) (λ e. omega arith))

marked_bytes : (more : List ℕ) → marked_lead (35 ∷ more) ≡ bytes_lead more
unfolding marked_lead behind
marked_bytes more = refl

bytes_again : (digits rest bs : List ℕ) → SpellsBytes digits bs → StopsThere rest → bytes_lead (digits ++ rest) ≡ begins (bytes digits) rest
unfolding bytes_lead
bytes_again digits rest bs h stops =
    let k = bytes_pass digits bs h in
    rw (run_again (in_class Hexadecimal) digits rest k.0 (stops_class Hexadecimal rest refl stops)) (rw (pairs_again (length digits) (length bs) k.1) refl)

pub bytes_leads : (digits rest bs : List ℕ) → SpellsBytes digits bs → StopsThere rest → IsLead (35 ∷ (digits ++ rest)) (begins (bytes digits) rest)
bytes_leads digits rest bs h stops =
    subst (IsLead (35 ∷ (digits ++ rest))) (marked_bytes (digits ++ rest) ∙ bytes_again digits rest bs h stops)
    (as_marked 35 (digits ++ rest) (λ e. omega arith) (λ e. omega arith))

marked_empty : (rest : List ℕ) → marked_lead (91 ∷ 93 ∷ rest) ≡ begins empty rest
unfolding marked_lead behind strip
marked_empty rest = refl

pub empty_leads : (rest : List ℕ) → IsLead (91 ∷ 93 ∷ rest) (begins empty rest)
empty_leads rest = subst (IsLead (91 ∷ 93 ∷ rest)) (marked_empty rest) (as_marked 91 (93 ∷ rest) (λ e. omega arith) (λ e. omega arith))

-- what begins with a letter begins with a name
letter_decimal : (c : ℕ) (cs : List ℕ) → is_ascii_alphabetic c ≡ true → decimal_lead (c ∷ cs) ≡ None
unfolding decimal_lead run
letter_decimal c cs h = rw (letter_no_digit c h) refl

letter_plain : (c : ℕ) (cs : List ℕ) → is_ascii_alphabetic c ≡ true → plain_lead (c ∷ cs) ≡ word_lead (c ∷ cs)
unfolding plain_lead strip
letter_plain c cs h = let r = letter_range c h in rw (ne_eqb c 48 (λ e. omega (arith, r.0)), letter_decimal c cs h) refl

word_again : (name rest : List ℕ) → IsName name → FailsThere (in_class Word) rest → word_lead (name ++ rest) ≡ named_lead name rest
unfolding word_lead
word_again name rest h fails = rw (run_again (in_class Word) name rest (name_words name h) fails) (rw h refl)

pub named_leads : (name rest : List ℕ) (o : Option (Lead × List ℕ)) → IsName name → FailsThere (in_class Word) rest → named_lead name rest ≡ o → IsLead (name ++ rest) o
named_leads name rest o h fails e =
    let n = name_parts name h in
    let whole : n.first ∷ (n.more ++ rest) ≡ name ++ rest = ap (λ (t : List ℕ). t ++ rest) (sym n.name_is) in
    subst (λ (t : List ℕ). IsLead t o) whole
    (as_plain n.first (n.more ++ rest) o (letter_start n.first n.letter)
    (letter_plain n.first (n.more ++ rest) n.letter ∙ ap word_lead whole ∙ word_again name rest h fails ∙ e))

round_inner : IsInner 40
round_inner = record { no_space = λ e. omega arith; no_round = λ e. omega arith; no_angle = λ e. omega arith }

colon_inner : IsInner 58
colon_inner = record { no_space = λ e. omega arith; no_round = λ e. omega arith; no_angle = λ e. omega arith }

square_inner : IsInner 91
square_inner = record { no_space = λ e. omega arith; no_round = λ e. omega arith; no_angle = λ e. omega arith }

-- a name that no bracket and no `:` follows is a truth value or none
pub named_alone : (name rest : List ℕ) → StopsThere rest → named_lead name rest ≡ flag_lead name rest
unfolding named_lead
named_alone name rest stops = rw (stops_behind 40 rest round_inner stops, stops_behind 58 rest colon_inner stops, stops_behind 91 rest square_inner stops) refl

named_flag : (b : Bool) (rest : List ℕ) → StopsThere rest → named_lead (flag_word b) rest ≡ begins (flag b) rest
unfolding flag_lead
named_flag true rest stops = named_alone (flag_word true) rest stops
named_flag false rest stops = named_alone (flag_word false) rest stops

flag_name : (b : Bool) → IsName (flag_word b)
flag_name true = refl
flag_name false = refl

pub flag_leads : (b : Bool) (rest : List ℕ) → StopsThere rest → IsLead (flag_word b ++ rest) (begins (flag b) rest)
flag_leads b rest stops = named_leads (flag_word b) rest (begins (flag b) rest) (flag_name b) (stops_class Word rest refl stops) (named_flag b rest stops)

named_call : (name after : List ℕ) → named_lead name (40 ∷ after) ≡ begins (call name None) after
unfolding named_lead behind
named_call name after = refl

named_variant : (name more : List ℕ) → named_lead name (58 ∷ more) ≡ variant_lead name more
unfolding named_lead behind
named_variant name more = refl

variant_leads : (name digits after : List ℕ) (v : ℕ) → IsVariant digits v → variant_lead name (digits ++ 40 ∷ after) ≡ begins (call name (Some digits)) after
unfolding variant_lead
variant_leads name digits after v h =
    rw (run_again (in_class Decimal) digits (40 ∷ after) (digits_pass 10 digits h.number.all) refl)
    (rw (variant_again digits v h, behind_again 40 after) refl)

-- a name, a variant or none, and `(`
pub call_leads : (name mark after : List ℕ) (variant : Option ℕ) → IsName name → IsCallMark mark variant → (m : Option (List ℕ)) × IsMark m variant × IsLead (name ++ (mark ++ 40 ∷ after)) (begins (call name m) after)
call_leads name mark after None h k = (
  None,
  tt,
  subst (λ (t : List ℕ). IsLead (name ++ (t ++ 40 ∷ after)) (begins (call name None) after)) (sym k)
      (named_leads name (40 ∷ after) (begins (call name None) after) h refl (named_call name after)),
)
call_leads name mark after (Some v) h (digits, k, e) = (
  Some digits,
  k,
  subst (λ (t : List ℕ). IsLead (name ++ (t ++ 40 ∷ after)) (begins (call name (Some digits)) after)) (sym e)
      (named_leads name (58 ∷ (digits ++ 40 ∷ after)) (begins (call name (Some digits)) after) h refl (named_variant name (digits ++ 40 ∷ after) ∙ variant_leads name digits after v k)),
)

named_sequence : (name after : List ℕ) → named_lead name (91 ∷ after) ≡ begins (sequence name) after
unfolding named_lead behind
named_sequence name after = refl

pub sequence_leads : (name after : List ℕ) → IsName name → IsLead (name ++ 91 ∷ after) (begins (sequence name) after)
sequence_leads name after h = named_leads name (91 ∷ after) (begins (sequence name) after) h refl (named_sequence name after)

-- ---- quotes

quote_marks : (more : List ℕ) (o : Option (Lead × List ℕ)) (q : Option (List ℕ × List ℕ)) → IsQuotedEnd more q → o ≡ quoted_lead q → IsLead (34 ∷ more) o
unfolding behind
quote_marks more o q h e = (q, h, e)

pub quoted_leads : (inside rest cs : List ℕ) → shapes.SpellsCharacters 34 inside cs → IsLead (34 ∷ (inside ++ 34 ∷ rest)) (begins (quoted inside) rest)
quoted_leads inside rest cs h = quote_marks (inside ++ 34 ∷ rest) (begins (quoted inside) rest) (Some (inside, rest)) (record { cs = cs; spelled = h; text_is = refl }) refl

single_marks : (more : List ℕ) (o : Option (Lead × List ℕ)) (p : Option (ℕ × List ℕ)) → IsCharacter 39 more p → o ≡ character_lead p → IsLead (39 ∷ more) o
unfolding behind
single_marks more o p h e = (p, h, e)

pub character_leads : (inside rest : List ℕ) (c : ℕ) → SpellsCharacter 39 inside c → IsLead (39 ∷ (inside ++ 39 ∷ rest)) (begins (character c) rest)
character_leads inside rest c h =
    single_marks (inside ++ 39 ∷ rest) (begins (character c) rest) (reads c (39 ∷ rest)) (character_again 39 inside (39 ∷ rest) c (omega arith) h)
    (rw (behind_again 39 rest) refl)

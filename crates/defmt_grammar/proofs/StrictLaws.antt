-- What a text spells in one mode it spells in another that takes the same parameters: the modes differ in kind and hint texts alone.
use Rattle.std.proofs.Common.{◌≡◌, inl, inr, ℕ, List, [], ◌∷◌, Option, Some, None, length}
use Rattle.defmt_grammar.specs.Grammar.{Token, char, hole, SpellsToken, SpellsTokens, Spells}
use Rattle.defmt_grammar.specs.Kind.{KindShape, named, float, array, format_array, bits, base_kind_names, full_kind_names, SpellsShape, kind_in_range}
use Rattle.defmt_grammar.specs.Hint.{SpellsHint}
use Rattle.defmt_grammar.specs.Language.{strict_of, lenient_of, language_of}
use Rattle.defmt_grammar.specs.Param.{SpellsKindPart, SpellsHintPart, SpellsParam}
use Rattle.defmt_grammar.specs.declared.language.Language.{Language}
use Rattle.defmt_grammar.specs.declared.language.Language.TheVariants.{Base, Full}
use Rattle.defmt_grammar.specs.declared.fault.Mode.{Mode}
use Rattle.defmt_grammar.specs.declared.fault.Mode.TheVariants.{Strict, StrictFull}
use Rattle.defmt_grammar.specs.declared.kind.Kind.{Kind}
use Rattle.defmt_grammar.specs.declared.hint.Hint.{Hint}
use Rattle.defmt_grammar.specs.declared.hint.Hint.TheVariants.{Plain, Debug, Radix, Ascii, Micros, Millis, Iso, Clock, Pad}
use Rattle.defmt_grammar.specs.declared.param.Param.{Param}
use Rattle.defmt_grammar.specs.declared.piece.Piece.{Piece}
use Rattle.defmt_grammar.proofs.Words.{at_front}
use Rattle.defmt_grammar.proofs.KindLaws.{okay}

-- the second mode takes each kind and each hint of the first
record Takes (m n : Mode) : Type 0 where
  kind : (text : Option (List ℕ)) (kind : Kind) → SpellsKindPart (language_of m) text kind → SpellsKindPart (language_of n) text kind
  hint : (text : Option (List ℕ)) (hint : Hint) → SpellsHintPart m text hint → SpellsHintPart n text hint

taken_param : (m n : Mode) → Takes m n → (next : ℕ) (inside : List ℕ) (param : Param) (after : ℕ) → SpellsParam m next inside param after → SpellsParam n next inside param after
taken_param m n t next inside param after s = record {
  parts = s.parts;
  writes = s.writes;
  position = s.position;
  few = s.few;
  kind = t.kind s.parts.kind param.kind s.kind;
  hint = t.hint s.parts.hint param.hint s.hint;
  after_is = s.after_is;
}

taken_token : (m n : Mode) → Takes m n → (size next : ℕ) (text : List ℕ) (t : Token) (after : ℕ) (rest : List ℕ) → SpellsToken m size next text t after rest → SpellsToken n size next text t after rest
taken_token m n takes size next text (char c) after rest s = s
taken_token m n takes size next text (hole at param) after rest s = (s.0, s.1, taken_param m n takes next s.0 param after s.2, s.3)

taken_tokens : (m n : Mode) → Takes m n → (size next : ℕ) (text : List ℕ) (ts : List Token) (after : ℕ) (rest : List ℕ) → SpellsTokens m size next text ts after rest → SpellsTokens n size next text ts after rest
taken_tokens m n takes size next text [] after rest s = s
taken_tokens m n takes size next text (t ∷ ts) after rest s = (s.0, s.1, taken_token m n takes size next text t s.0 s.1 s.2, taken_tokens m n takes size s.0 s.1 ts after rest s.3)

spells_taken : (m n : Mode) → Takes m n → (text : List ℕ) (ps : List Piece) → Spells text m ps → Spells text n ps
spells_taken m n takes text ps s = record {
  tokens = s.tokens;
  after = s.after;
  spelled = taken_tokens m n takes (length text) 0 text s.tokens s.after [] s.spelled;
  joins = s.joins;
  no_clash = s.no_clash;
  no_gap = s.no_gap;
}

-- ---- leniently

lenient_kind : (language : Language) (text : Option (List ℕ)) (kind : Kind) → SpellsKindPart (language_of (strict_of language)) text kind → SpellsKindPart (language_of (lenient_of language)) text kind
lenient_kind Base text kind h = h
lenient_kind Full text kind h = h

lenient_hint : (language : Language) (text : Option (List ℕ)) (hint : Hint) → SpellsHintPart (strict_of language) text hint → SpellsHintPart (lenient_of language) text hint
lenient_hint language None hint h = h
lenient_hint Base (Some text) hint (inl h) = inl h
lenient_hint Full (Some text) hint (inl h) = inl h
lenient_hint Base (Some text) hint (inr h) = absurd (let k = h.0 in cc)
lenient_hint Full (Some text) hint (inr h) = absurd (let k = h.0 in cc)

pub spells_leniently : (language : Language) (text : List ℕ) (ps : List Piece) → Spells text (strict_of language) ps → Spells text (lenient_of language) ps
spells_leniently language = spells_taken (strict_of language) (lenient_of language) (record { kind = lenient_kind language; hint = lenient_hint language })

-- ---- in the full language

full_shape : (text : List ℕ) (shape : KindShape) (kind : Kind) → SpellsShape Base text shape → kind_in_range shape ≡ okay kind → SpellsShape Full text shape
full_shape text (named k) kind s h = at_front text base_kind_names (full_kind_names Full) k s
full_shape text float kind s h = absurd cc
full_shape text (array n) kind s h = s
full_shape text (format_array n) kind s h = s
full_shape text (bits lo hi) kind s h = s

full_kind : (text : Option (List ℕ)) (kind : Kind) → SpellsKindPart Base text kind → SpellsKindPart Full text kind
full_kind None kind h = h
full_kind (Some text) kind (shape, s, e) = (shape, full_shape text shape kind s e, e)

full_hint : (text : List ℕ) (hint : Hint) → SpellsHint Base text hint → SpellsHint Full text hint
full_hint text Plain h = h
full_hint text Debug h = h
full_hint text Ascii h = h
full_hint text Micros h = h
full_hint text Millis h = h
full_hint text (Radix base alt width) h = h
full_hint text (Iso unit) h = absurd (let k = h.0 in cc)
full_hint text (Clock unit) h = absurd (let k = h.0 in cc)
full_hint text (Pad width) h = absurd (let k = h.0 in cc)

full_hint_part : (text : Option (List ℕ)) (hint : Hint) → SpellsHintPart Strict text hint → SpellsHintPart StrictFull text hint
full_hint_part None hint h = h
full_hint_part (Some text) hint (inl h) = inl (full_hint text hint h)
full_hint_part (Some text) hint (inr h) = absurd (let k = h.0 in cc)

pub spells_fully : (text : List ℕ) (ps : List Piece) → Spells text Strict ps → Spells text StrictFull ps
spells_fully = spells_taken Strict StrictFull (record { kind = full_kind; hint = full_hint_part })

-- Texts and bytes, as far as they have been read. Each text stands for one text and one list of bytes, and a spelled
-- one for what it spells.
use Rattle.std.proofs.Common.{◌≡◌, ◌<◌, ◌≤◌, ◌+◌, ◌*◌, ℕ, List, [], ◌∷◌, ◌++◌, length, refl, sym, ap, subst, ◌∙◌, arith, None, append_assoc, length-append, encode_utf8, encode_utf8_all}
use Rattle.std.specs.Char.{digit_value}
use Rattle.std.proofs.lemmas.List.{append-nil}
use Rattle.std.proofs.lemmas.Option.{none-some}
use Rattle.defmt_shapes.specs.Shape.{SpellsCharacters, SpellsQuoted, SpellsBytes}
use Rattle.defmt_shapes.specs.Escapes.{IsCharacter}
use Rattle.defmt_shapes.specs.Meaning.{NoCharacter, MeansText, FirstByte, NoByte, MeansBytes}
use Rattle.defmt_shapes.proofs.CharacterLaws.{character_again, character_found, character_one, reads, front_some}
use Rattle.defmt_shapes.proofs.QuoteLaws.{same_character}

-- ---- how far a reader has come

-- what the rest stands for, behind the text so far, is what the whole stands for
pub record TextLeft (inside text rest : List ℕ) : Type 0 where
  pub goes : (left : List ℕ) → MeansText rest left → MeansText inside (text ++ left)

-- the same of bytes
pub record BytesLeft (digits bytes rest : List ℕ) : Type 0 where
  pub goes : (left : List ℕ) → MeansBytes rest left → MeansBytes digits (bytes ++ left)

-- ---- texts

pub begin_text : (inside : List ℕ) → TextLeft inside [] inside
begin_text inside = record { goes = λ left h. h }

one_more : (rest after left : List ℕ) (c : ℕ) → IsCharacter 34 rest (reads c after) → MeansText after left → MeansText rest (encode_utf8 c ++ left)
one_more rest after left c k h =
    let f = character_found 34 rest (c, after) (omega arith) k in
    record {
      front = f.0 ++ h.front;
      rest = h.rest;
      inside_is = f.2 ∙ ap (λ (t : List ℕ). f.0 ++ t) h.inside_is ∙ sym (append_assoc f.0 h.front h.rest);
      spelled = (c ∷ h.spelled.0, (f.0, h.front, f.1, h.spelled.1, refl), ap (λ (t : List ℕ). encode_utf8 c ++ t) h.spelled.2);
      ends = h.ends;
    }

pub next_text : (inside text rest after : List ℕ) (c : ℕ) → TextLeft inside text rest → IsCharacter 34 rest (reads c after) → TextLeft inside (text ++ encode_utf8 c) after
next_text inside text rest after c h k = record {
  goes = λ left m. subst (λ (t : List ℕ). MeansText inside t) (sym (append_assoc text (encode_utf8 c) left)) (h.goes (encode_utf8 c ++ left) (one_more rest after left c k m));
}

none_means : (rest : List ℕ) → IsCharacter 34 rest None → MeansText rest []
none_means rest k = record {
  front = [];
  rest = rest;
  inside_is = refl;
  spelled = ([], refl, refl);
  ends = λ c front more t same.
      none-some (c, more) (character_one 34 rest None (reads c more) k (subst (λ (x : List ℕ). IsCharacter 34 x (reads c more)) (sym same) (character_again 34 front more c (omega arith) t)));
}

pub whole_text : (inside text rest : List ℕ) → TextLeft inside text rest → IsCharacter 34 rest None → MeansText inside text
whole_text inside text rest h k = subst (λ (t : List ℕ). MeansText inside t) (append-nil text) (h.goes [] (none_means rest k))

same_characters : (cs ds front rest fore tail : List ℕ) → front ++ rest ≡ fore ++ tail → SpellsCharacters 34 front cs → SpellsCharacters 34 fore ds → NoCharacter rest → NoCharacter tail → cs ≡ ds
same_characters [] [] front rest fore tail e h k n m = refl
same_characters [] (d ∷ ds) front rest fore tail e h (x, y, t, others, like) n m =
    absurd (n d x (y ++ tail) t (ap (λ (u : List ℕ). u ++ rest) (sym h) ∙ e ∙ ap (λ (u : List ℕ). u ++ tail) like ∙ append_assoc x y tail))
same_characters (c ∷ cs) [] front rest fore tail e (a, b, s, more, same) k n m =
    absurd (m c a (b ++ rest) s (ap (λ (u : List ℕ). u ++ tail) (sym k) ∙ sym e ∙ ap (λ (u : List ℕ). u ++ rest) same ∙ append_assoc a b rest))
same_characters (c ∷ cs) (d ∷ ds) front rest fore tail e (a, b, s, more, same) (x, y, t, others, like) n m =
    let first : a ++ (b ++ rest) ≡ x ++ (y ++ tail) = sym (append_assoc a b rest) ∙ ap (λ (u : List ℕ). u ++ rest) (sym same) ∙ e ∙ ap (λ (u : List ℕ). u ++ tail) like ∙ append_assoc x y tail in
    let g = same_character a (b ++ rest) x (y ++ tail) c d s t first in
    ap (λ (u : ℕ). u ∷ cs) g.0 ∙ ap (λ (u : List ℕ). d ∷ u) (same_characters cs ds b rest y tail g.1 more others n m)

-- there is one text that a text stands for
one_meaning : (inside text other : List ℕ) → MeansText inside text → MeansText inside other → text ≡ other
one_meaning inside text other h k =
    sym h.spelled.2 ∙ ap encode_utf8_all (same_characters h.spelled.0 k.spelled.0 h.front h.rest k.front k.rest (sym h.inside_is ∙ k.inside_is) h.spelled.1 k.spelled.1 h.ends k.ends) ∙ k.spelled.2

nothing_there : NoCharacter []
nothing_there = λ c front rest s e. omega (arith, ap length e, length-append front rest, front_some 34 front c s)

spelled_means : (inside s : List ℕ) → SpellsQuoted inside s → MeansText inside s
spelled_means inside s k = record { front = inside; rest = []; inside_is = sym (append-nil inside); spelled = k; ends = nothing_there }

-- a spelled text stands for what it spells
pub one_text : (inside text s : List ℕ) → MeansText inside text → SpellsQuoted inside s → text ≡ s
one_text inside text s h k = one_meaning inside text s h (spelled_means inside s k)

-- ---- bytes

apart : (n : ℕ) → n < 16 → 16 ≤ n → ⊥
apart n small large = omega arith

pub few_digits : (digits : List ℕ) → length digits < 2 → NoByte digits
few_digits digits few = λ byte rest h. omega (arith, few, ap length h.digits_are)

pub no_first : (digits rest : List ℕ) (first second : ℕ) → digits ≡ first ∷ second ∷ rest → 16 ≤ digit_value first → NoByte digits
no_first digits rest first second e large = λ byte tail h.
    let both : h.high ∷ h.low ∷ tail ≡ first ∷ second ∷ rest = sym h.digits_are ∙ e in
    let same : h.high ≡ first = cc in
    apart (digit_value first) (subst (λ (n : ℕ). digit_value n < 16) same h.is_high) large

pub no_second : (digits rest : List ℕ) (first second : ℕ) → digits ≡ first ∷ second ∷ rest → 16 ≤ digit_value second → NoByte digits
no_second digits rest first second e large = λ byte tail h.
    let both : h.high ∷ h.low ∷ tail ≡ first ∷ second ∷ rest = sym h.digits_are ∙ e in
    let same : h.low ≡ second = cc in
    apart (digit_value second) (subst (λ (n : ℕ). digit_value n < 16) same h.is_low) large

pub two_digits : (digits rest : List ℕ) (first second high low byte : ℕ) → digits ≡ first ∷ second ∷ rest → (high ≡ digit_value first) × (high < 16) → (low ≡ digit_value second) × (low < 16) → byte ≡ 16 * high + low → FirstByte digits byte rest
two_digits digits rest first second high low byte e h l b = record {
  high = first;
  low = second;
  is_high = subst (λ (n : ℕ). n < 16) h.0 h.1;
  is_low = subst (λ (n : ℕ). n < 16) l.0 l.1;
  byte_is = b ∙ ap (λ (n : ℕ). 16 * n + low) h.0 ∙ ap (λ (n : ℕ). 16 * digit_value first + n) l.0;
  digits_are = e;
}

pub begin_bytes : (digits : List ℕ) → BytesLeft digits [] digits
begin_bytes digits = record { goes = λ left h. h }

one_byte_more : (rest after left : List ℕ) (byte : ℕ) → FirstByte rest byte after → MeansBytes after left → MeansBytes rest (byte ∷ left)
one_byte_more rest after left byte k h = record {
  front = k.high ∷ k.low ∷ h.front;
  rest = h.rest;
  digits_are = k.digits_are ∙ ap (λ (t : List ℕ). k.high ∷ k.low ∷ t) h.digits_are;
  spelled = (k.high, k.low, h.front, k.is_high, k.is_low, k.byte_is, h.spelled, refl);
  ends = h.ends;
}

pub next_bytes : (digits bytes rest after : List ℕ) (byte : ℕ) → BytesLeft digits bytes rest → FirstByte rest byte after → BytesLeft digits (bytes ++ byte ∷ []) after
next_bytes digits bytes rest after byte h k = record {
  goes = λ left m. subst (λ (t : List ℕ). MeansBytes digits t) (sym (append_assoc bytes (byte ∷ []) left)) (h.goes (byte ∷ left) (one_byte_more rest after left byte k m));
}

pub fewer_digits : (rest after : List ℕ) (byte : ℕ) → FirstByte rest byte after → length after < length rest
fewer_digits rest after byte k = omega (arith, ap length k.digits_are)

pub whole_bytes : (digits bytes rest : List ℕ) → BytesLeft digits bytes rest → NoByte rest → MeansBytes digits bytes
whole_bytes digits bytes rest h n =
    subst (λ (t : List ℕ). MeansBytes digits t) (append-nil bytes) (h.goes [] (record { front = []; rest = rest; digits_are = refl; spelled = refl; ends = n }))

same_bytes : (bs cs front rest fore tail : List ℕ) → front ++ rest ≡ fore ++ tail → SpellsBytes front bs → SpellsBytes fore cs → NoByte rest → NoByte tail → bs ≡ cs
same_bytes [] [] front rest fore tail e h k n m = refl
same_bytes [] (c ∷ cs) front rest fore tail e h (upper, lower, behind, u, v, g, others, like) n m =
    absurd (n c (behind ++ tail) (record { high = upper; low = lower; is_high = u; is_low = v; byte_is = g; digits_are = ap (λ (t : List ℕ). t ++ rest) (sym h) ∙ e ∙ ap (λ (t : List ℕ). t ++ tail) like }))
same_bytes (b ∷ bs) [] front rest fore tail e (high, low, after, x, y, f, more, text) k n m =
    absurd (m b (after ++ rest) (record { high = high; low = low; is_high = x; is_low = y; byte_is = f; digits_are = ap (λ (t : List ℕ). t ++ tail) (sym k) ∙ sym e ∙ ap (λ (t : List ℕ). t ++ rest) text }))
same_bytes (b ∷ bs) (c ∷ cs) front rest fore tail e (high, low, after, x, y, f, more, text) (upper, lower, behind, u, v, g, others, like) n m =
    let same : high ∷ low ∷ (after ++ rest) ≡ upper ∷ lower ∷ (behind ++ tail) = ap (λ (t : List ℕ). t ++ rest) (sym text) ∙ e ∙ ap (λ (t : List ℕ). t ++ tail) like in
    let first : high ≡ upper = cc in
    let second : low ≡ lower = cc in
    let rests : after ++ rest ≡ behind ++ tail = cc in
    let byte : b ≡ c = f ∙ ap (λ (i : ℕ). 16 * digit_value i + digit_value low) first ∙ ap (λ (i : ℕ). 16 * digit_value upper + digit_value i) second ∙ sym g in
    ap (λ (i : ℕ). i ∷ bs) byte ∙ ap (λ (t : List ℕ). c ∷ t) (same_bytes bs cs after rest behind tail rests more others n m)

-- there is one list of bytes that digits stand for
one_list : (digits bytes other : List ℕ) → MeansBytes digits bytes → MeansBytes digits other → bytes ≡ other
one_list digits bytes other h k = same_bytes bytes other h.front h.rest k.front k.rest (sym h.digits_are ∙ k.digits_are) h.spelled k.spelled h.ends k.ends

spelled_bytes : (digits bs : List ℕ) → SpellsBytes digits bs → MeansBytes digits bs
spelled_bytes digits bs k = record { front = digits; rest = []; digits_are = sym (append-nil digits); spelled = k; ends = few_digits [] (omega arith) }

-- spelled digits stand for the bytes that they spell
pub one_bytes : (digits bytes bs : List ℕ) → MeansBytes digits bytes → SpellsBytes digits bs → bytes ≡ bs
one_bytes digits bytes bs h k = one_list digits bytes bs h (spelled_bytes digits bs k)

-- Characters: what is read is spelled so, what is spelled so is read, and there is one reading.
use Rattle.std.proofs.Common.{◌≡◌, ◌≢◌, ◌<◌, ℕ, List, ◌∷◌, ◌++◌, length, refl, sym, ap, subst, ◌∙◌, arith, Option, Some, None, inl, inr, length-append, encode_utf8}
use Rattle.std.proofs.lemmas.Option.{none-some}
use Rattle.std.proofs.lemmas.Str.{encode_same, encode_ascii, length-encode, len_utf8_bounds}
use Rattle.defmt_grammar.specs.Cut.{behind}
use Rattle.defmt_grammar.proofs.Cuts.{behind_again, behind_found}
use Rattle.defmt_shapes.specs.Shape.{SpellsCharacter}
use Rattle.defmt_shapes.specs.Escapes.{IsFirstChar, IsPlainCharacter, IsCharacterAt, IsCharacter}
use Rattle.defmt_shapes.proofs.EscapeLaws.{escape_again, escape_found}

-- ---- characters

pub no_char : (text : List ℕ) → length text ≡ 0 → IsFirstChar text None
no_char text e = λ c rest s same. omega (arith, e, ap length same, length-append (encode_utf8 c) rest, length-encode c, (len_utf8_bounds c).0)

front_at : (a c : ℕ) (rest : List ℕ) (o : Option (List ℕ)) → a < 128 → c ≢ a → behind a (encode_utf8 c ++ rest) ≡ o → o ≡ None
front_at a c rest None small n e = refl
front_at a c rest (Some r) small n e =
    absurd (n (encode_same c a rest r (behind_found a (encode_utf8 c ++ rest) r e ∙ ap (λ (t : List ℕ). t ++ r) (sym (encode_ascii a small)))).0)

no_front : (a c : ℕ) (rest : List ℕ) → a < 128 → c ≢ a → behind a (encode_utf8 c ++ rest) ≡ None
no_front a c rest small n = front_at a c rest (behind a (encode_utf8 c ++ rest)) small n refl

not_front : (a c : ℕ) (text rest : List ℕ) → a < 128 → behind a text ≡ None → text ≡ encode_utf8 c ++ rest → c ≢ a
not_front a c text rest small n e same =
    let whole : text ≡ a ∷ rest = e ∙ ap (λ (x : ℕ). encode_utf8 x ++ rest) same ∙ ap (λ (t : List ℕ). t ++ rest) (encode_ascii a small) in
    none-some rest (sym n ∙ ap (behind a) whole ∙ behind_again a rest)

abbrev pub reads : ℕ → List ℕ → Option (ℕ × List ℕ)
reads c rest = Some (c, rest)

-- a character is read so, whatever follows
pub character_again : (quote : ℕ) (front rest : List ℕ) (c : ℕ) → quote < 128 → SpellsCharacter quote front c → IsCharacter quote (front ++ rest) (reads c rest)
character_again quote front rest c small (inl (scalar, not_quote, not_back, e)) =
    let whole : front ++ rest ≡ encode_utf8 c ++ rest = ap (λ (t : List ℕ). t ++ rest) e in
    let back : None ≡ behind 92 (front ++ rest) = sym (ap (behind 92) whole ∙ no_front 92 c rest (omega arith) not_back) in
    let mark : None ≡ behind quote (front ++ rest) = sym (ap (behind quote) whole ∙ no_front quote c rest small not_quote) in
    subst (λ (o : Option (List ℕ)). IsCharacterAt quote (front ++ rest) o (reads c rest)) back
    (subst (λ (o : Option (List ℕ)). IsPlainCharacter (front ++ rest) o (reads c rest)) mark (scalar, whole))
character_again quote front rest c small (inr e) =
    let k = escape_again front rest c e in
    subst (λ (o : Option (List ℕ)). IsCharacterAt quote (front ++ rest) o (reads c rest)) (sym (ap (behind 92) k.1 ∙ behind_again 92 k.0)) (sym k.2)

plain_found : (quote : ℕ) (text : List ℕ) (o : Option (List ℕ)) (p : ℕ × List ℕ) → quote < 128 → behind 92 text ≡ None → behind quote text ≡ o → IsPlainCharacter text o (Some p) → (front : List ℕ) × SpellsCharacter quote front p.0 × (text ≡ front ++ p.1)
plain_found quote text None p small back mark h =
    (encode_utf8 p.0, inl (h.0, not_front quote p.0 text p.1 small mark h.1, not_front 92 p.0 text p.1 (omega arith) back h.1, refl), h.1)
plain_found quote text (Some more) p small back mark h = absurd (none-some p (sym h))

character_found_at : (quote : ℕ) (text : List ℕ) (o : Option (List ℕ)) (p : ℕ × List ℕ) → quote < 128 → behind 92 text ≡ o → IsCharacterAt quote text o (Some p) → (front : List ℕ) × SpellsCharacter quote front p.0 × (text ≡ front ++ p.1)
character_found_at quote text None p small e h = plain_found quote text (behind quote text) p small e refl h
character_found_at quote text (Some more) p small e h =
    let k = escape_found more p (sym h) in
    (k.0, inr k.1, behind_found 92 text more e ∙ k.2)

-- what is read is a character
pub character_found : (quote : ℕ) (text : List ℕ) (p : ℕ × List ℕ) → quote < 128 → IsCharacter quote text (Some p) → (front : List ℕ) × SpellsCharacter quote front p.0 × (text ≡ front ++ p.1)
character_found quote text p small h = character_found_at quote text (behind 92 text) p small refl h

pub pair_is : {A B : Type 0} (p q : A × B) → p.0 ≡ q.0 → p.1 ≡ q.1 → p ≡ q
pair_is (a, b) (c, d) e f = cc

first_one : (text : List ℕ) (o r : Option (ℕ × List ℕ)) → IsFirstChar text o → IsFirstChar text r → o ≡ r
first_one text None None h k = refl
first_one text None (Some q) h k = absurd (h q.0 q.1 k.0 k.1)
first_one text (Some p) None h k = absurd (k p.0 p.1 h.0 h.1)
first_one text (Some p) (Some q) h k = let e = encode_same p.0 q.0 p.1 q.1 (sym h.1 ∙ k.1) in ap (λ (x : ℕ × List ℕ). Some x) (pair_is p q e.0 e.1)

plain_one : (text : List ℕ) (m : Option (List ℕ)) (o r : Option (ℕ × List ℕ)) → IsPlainCharacter text m o → IsPlainCharacter text m r → o ≡ r
plain_one text None o r h k = first_one text o r h k
plain_one text (Some more) o r h k = h ∙ sym k

character_one_at : (quote : ℕ) (text : List ℕ) (m : Option (List ℕ)) (o r : Option (ℕ × List ℕ)) → IsCharacterAt quote text m o → IsCharacterAt quote text m r → o ≡ r
character_one_at quote text None o r h k = plain_one text (behind quote text) o r h k
character_one_at quote text (Some more) o r h k = h ∙ sym k

-- there is one reading
pub character_one : (quote : ℕ) (text : List ℕ) (o r : Option (ℕ × List ℕ)) → IsCharacter quote text o → IsCharacter quote text r → o ≡ r
character_one quote text o r h k = character_one_at quote text (behind 92 text) o r h k

pub front_some : (quote : ℕ) (front : List ℕ) (c : ℕ) → SpellsCharacter quote front c → 0 < length front
front_some quote front c (inl h) = omega (arith, ap length h.3, length-encode c, (len_utf8_bounds c).0)
front_some quote front c (inr (inl e)) = rw e.text_is (omega arith)
front_some quote front c (inr (inr e)) = rw e.text_is (omega arith)

pub character_shorter : (quote : ℕ) (text : List ℕ) (p : ℕ × List ℕ) → quote < 128 → IsCharacter quote text (Some p) → length p.1 < length text
character_shorter quote text p small h =
    let f = character_found quote text p small h in
    omega (arith, ap length f.2, length-append f.0 p.1, front_some quote f.0 p.0 f.1)

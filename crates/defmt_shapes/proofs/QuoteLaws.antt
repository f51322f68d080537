-- Texts in quotes: there is one closing quote, and the reader finds it.
use Rattle.std.proofs.Common.{◌≡◌, ◌-◌, ℕ, List, [], ◌∷◌, ◌++◌, length, take, refl, sym, ap, subst, ◌∙◌, arith, Option, Some, None, length-append, append_assoc}
use Rattle.std.proofs.lemmas.Option.{same_Some, none-some}
use Rattle.std.proofs.lemmas.List.{append_cancel_right, take_at}
use Rattle.std.proofs.lemmas.Str.{IsCharBoundary-at_seam}
use Rattle.std.specs.Str.{IsUtf8, IsCharBoundary}
use Rattle.defmt_grammar.specs.Cut.{behind}
use Rattle.defmt_grammar.proofs.Cuts.{behind_again}
use Rattle.defmt_shapes.specs.Shape.{SpellsCharacter, SpellsCharacters}
use Rattle.defmt_shapes.specs.Escapes.{IsCharacter, ClosesQuote, IsQuotedEnd, InQuotes}
use Rattle.defmt_shapes.proofs.CharacterLaws.{character_again, character_found, character_one, pair_is, reads}

-- ---- texts in quotes

quote_reads_none : (rest : List ℕ) → IsCharacter 34 (34 ∷ rest) None
unfolding behind
quote_reads_none rest = refl

-- no character in quotes begins with the closing one
no_quote : (front rest after : List ℕ) (c : ℕ) → SpellsCharacter 34 front c → front ++ rest ≡ 34 ∷ after → ⊥
no_quote front rest after c s e =
    none-some (c, rest) (character_one 34 (34 ∷ after) None (reads c rest) (quote_reads_none after) (subst (λ (t : List ℕ). IsCharacter 34 t (reads c rest)) e (character_again 34 front rest c (omega arith) s)))

-- two characters at one place are the same
pub same_character : (front rest fore tail : List ℕ) (c d : ℕ) → SpellsCharacter 34 front c → SpellsCharacter 34 fore d → front ++ rest ≡ fore ++ tail → (c ≡ d) × (rest ≡ tail)
same_character front rest fore tail c d s t e =
    let k = same_Some (c, rest) (d, tail) (character_one 34 (fore ++ tail) (reads c rest) (reads d tail) (subst (λ (x : List ℕ). IsCharacter 34 x (reads c rest)) e (character_again 34 front rest c (omega arith) s)) (character_again 34 fore tail d (omega arith) t)) in
    (ap (λ (p : ℕ × List ℕ). p.0) k, ap (λ (p : ℕ × List ℕ). p.1) k)

opens : (front rest after inside : List ℕ) → inside ≡ front ++ rest → inside ++ 34 ∷ after ≡ front ++ (rest ++ 34 ∷ after)
opens front rest after inside e = ap (λ (t : List ℕ). t ++ 34 ∷ after) e ∙ append_assoc front rest (34 ∷ after)

pub quoted_same : (cs ds inside rest fore tail : List ℕ) → SpellsCharacters 34 inside cs → SpellsCharacters 34 fore ds → inside ++ 34 ∷ rest ≡ fore ++ 34 ∷ tail → (cs ≡ ds) × (rest ≡ tail)
quoted_same [] [] inside rest fore tail h k e =
    let f : 34 ∷ rest ≡ 34 ∷ tail = ap (λ (t : List ℕ). t ++ 34 ∷ rest) (sym h) ∙ e ∙ ap (λ (t : List ℕ). t ++ 34 ∷ tail) k in
    (refl, let g : rest ≡ tail = cc in g)
quoted_same [] (d ∷ ds) inside rest fore tail h (a, b, s, more, same) e =
    absurd (no_quote a (b ++ 34 ∷ tail) rest d s (sym (opens a b tail fore same) ∙ sym e ∙ ap (λ (t : List ℕ). t ++ 34 ∷ rest) h))
quoted_same (c ∷ cs) [] inside rest fore tail (a, b, s, more, same) k e =
    absurd (no_quote a (b ++ 34 ∷ rest) tail c s (sym (opens a b rest inside same) ∙ e ∙ ap (λ (t : List ℕ). t ++ 34 ∷ tail) k))
quoted_same (c ∷ cs) (d ∷ ds) inside rest fore tail (a, b, s, more, same) (x, y, t, others, like) e =
    let k = same_character a (b ++ 34 ∷ rest) x (y ++ 34 ∷ tail) c d s t (sym (opens a b rest inside same) ∙ e ∙ opens x y tail fore like) in
    let g = quoted_same cs ds b rest y tail more others k.1 in
    (ap (λ (u : ℕ). u ∷ cs) k.0 ∙ ap (λ (u : List ℕ). d ∷ u) g.0, g.1)

closes_same : (text inside rest fore tail : List ℕ) → ClosesQuote text inside rest → ClosesQuote text fore tail → (inside ≡ fore) × (rest ≡ tail)
closes_same text inside rest fore tail h k =
    let e : inside ++ 34 ∷ rest ≡ fore ++ 34 ∷ tail = sym h.text_is ∙ k.text_is in
    let r : rest ≡ tail = (quoted_same h.cs k.cs inside rest fore tail h.spelled k.spelled e).1 in
    (append_cancel_right inside fore (34 ∷ tail) (ap (λ (t : List ℕ). inside ++ 34 ∷ t) (sym r) ∙ e), r)

-- there is one closing quote
pub quoted_one : (text : List ℕ) (o r : Option (List ℕ × List ℕ)) → IsQuotedEnd text o → IsQuotedEnd text r → o ≡ r
quoted_one text None None h k = refl
quoted_one text None (Some q) h k = absurd (h q.0 q.1 k)
quoted_one text (Some p) None h k = absurd (k p.0 p.1 h)
quoted_one text (Some p) (Some q) h k = let e = closes_same text p.0 p.1 q.0 q.1 h k in ap (λ (x : List ℕ × List ℕ). Some x) (pair_is p q e.0 e.1)

-- ---- the reader of a text in quotes

fore_closes : (rest front after inside tail : List ℕ) (c : ℕ) → SpellsCharacter 34 front c → rest ≡ front ++ after → ClosesQuote after inside tail → ClosesQuote rest (front ++ inside) tail
fore_closes rest front after inside tail c s e k = record {
  cs = c ∷ k.cs;
  spelled = (front, inside, s, k.spelled, refl);
  text_is = e ∙ ap (λ (t : List ℕ). front ++ t) k.text_is ∙ sym (append_assoc front inside (34 ∷ tail));
}

past_closes : (rest front after inside tail cs : List ℕ) (c : ℕ) → SpellsCharacter 34 front c → rest ≡ front ++ after → SpellsCharacters 34 inside cs → rest ≡ inside ++ 34 ∷ tail → (more : List ℕ) × ClosesQuote after more tail
past_closes rest front after inside tail [] c s e h k = absurd (no_quote front after tail c s (sym e ∙ k ∙ ap (λ (t : List ℕ). t ++ 34 ∷ tail) h))
past_closes rest front after inside tail (d ∷ ds) c s e (a, b, t, more, same) k =
    let g = same_character front after a (b ++ 34 ∷ tail) c d s t (sym e ∙ k ∙ opens a b tail inside same) in
    (b, record { cs = ds; spelled = more; text_is = g.1 })

pub next_quotes : (text rest : List ℕ) (p : ℕ × List ℕ) → InQuotes text rest → IsCharacter 34 rest (Some p) → InQuotes text p.1
next_quotes text rest p h k =
    let f = character_found 34 rest p (omega arith) k in
    record {
      sound = λ inside after q. h.sound (f.0 ++ inside) after (fore_closes rest f.0 p.1 inside after p.0 f.1 f.2 q);
      complete = λ inside after q. let m = h.complete inside after q in past_closes rest f.0 p.1 m.0 after m.1.cs p.0 f.1 f.2 m.1.spelled m.1.text_is;
    }

-- the quote that closes the rest closes the text
pub has_closed : (text rest inside after : List ℕ) → InQuotes text rest → rest ≡ 34 ∷ after → inside ≡ take (length text - length rest) text → ClosesQuote text inside after
has_closed text rest inside after h e i =
    let k = h.sound [] after (record { cs = []; spelled = refl; text_is = e }) in
    let size : length text - length rest ≡ length k.0 = omega (arith, ap length k.1.text_is, length-append k.0 (34 ∷ after), ap length e) in
    let same : inside ≡ k.0 = i ∙ ap (λ (n : ℕ). take n text) size ∙ ap (take (length k.0)) k.1.text_is ∙ take_at k.0 (34 ∷ after) (length k.0) refl in
    subst (λ (t : List ℕ). ClosesQuote text t after) (sym same) k.1

pub close_boundary : (text rest after : List ℕ) → InQuotes text rest → rest ≡ 34 ∷ after → IsUtf8 rest → IsCharBoundary text (length text - length rest)
close_boundary text rest after h e u =
    let k = h.sound [] after (record { cs = []; spelled = refl; text_is = e }) in
    let size : length k.0 ≡ length text - length rest = omega (arith, ap length k.1.text_is, length-append k.0 (34 ∷ after), ap length e) in
    subst (IsCharBoundary text) size (IsCharBoundary-at_seam text k.0 rest (k.1.text_is ∙ ap (λ (t : List ℕ). k.0 ++ t) (sym e)) u)

stuck_at : (rest inside after cs : List ℕ) → behind 34 rest ≡ None → IsCharacter 34 rest None → SpellsCharacters 34 inside cs → rest ≡ inside ++ 34 ∷ after → ⊥
stuck_at rest inside after [] none h s e = none-some after (sym none ∙ ap (behind 34) (e ∙ ap (λ (t : List ℕ). t ++ 34 ∷ after) s) ∙ behind_again 34 after)
stuck_at rest inside after (c ∷ cs) none h (a, b, s, more, same) e =
    let whole : a ++ (b ++ 34 ∷ after) ≡ rest = sym (e ∙ opens a b after inside same) in
    none-some (c, b ++ 34 ∷ after) (character_one 34 rest None (reads c (b ++ 34 ∷ after)) h (subst (λ (t : List ℕ). IsCharacter 34 t (reads c (b ++ 34 ∷ after))) whole (character_again 34 a (b ++ 34 ∷ after) c (omega arith) s)))

pub is_stuck : (text rest : List ℕ) → InQuotes text rest → behind 34 rest ≡ None → IsCharacter 34 rest None → IsQuotedEnd text None
is_stuck text rest h none k = λ inside after q. let m = h.complete inside after q in stuck_at rest m.0 after m.1.cs none k m.1.spelled m.1.text_is

pub is_open : (text rest : List ℕ) → InQuotes text rest → length rest ≡ 0 → IsQuotedEnd text None
is_open text rest h e = λ inside after q. let m = h.complete inside after q in omega (arith, e, ap length m.1.text_is, length-append m.0 (34 ∷ after))

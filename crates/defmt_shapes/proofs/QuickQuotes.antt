-- A text without quotes and escapes spells itself between quotes.
use Rattle.std.proofs.Common.{◌≡◌, ◌≢◌, ◌<◌, ◌≤◌, ◌+◌, ℕ, Bool, true, List, [], ◌∷◌, ◌++◌, length, get_or, take, refl, sym, ap, subst, ◌∙◌, arith, inl, length-append, encode_utf8, encode_utf8_all}
use Rattle.std.specs.Str.{IsUtf8}
use Rattle.std.proofs.lemmas.Bool.{and_parts}
use Rattle.std.proofs.lemmas.List.{get_or-append-add, get_or-take}
use Rattle.std.proofs.lemmas.Str.{encode_ascii}
use Rattle.defmt_shapes.specs.Shape.{SpellsCharacters, SpellsQuoted}
use lib.Utf8.{scalar, scalars}

-- the byte stands nowhere
abbrev pub Misses : ℕ → List ℕ → Type 0
Misses c text = (k : ℕ) → k < length text → get_or text k 0 ≢ c

misses_behind : (c : ℕ) (front rest : List ℕ) → Misses c (front ++ rest) → Misses c rest
misses_behind c front rest h = λ k lt e.
    let size = length-append front rest in
    h (length front + k) (omega (arith, size, lt)) (get_or-append-add front rest k 0 ∙ e)

no_character : (c d : ℕ) (rest : List ℕ) → c < 128 → Misses c (encode_utf8 d ++ rest) → d ≢ c
no_character c d rest small h e =
    let is : encode_utf8 d ++ rest ≡ c ∷ rest = ap (λ (x : ℕ). encode_utf8 x ++ rest) e ∙ ap (λ (t : List ℕ). t ++ rest) (encode_ascii c small) in
    h 0 (rw is (omega arith)) (ap (λ (t : List ℕ). get_or t 0 0) is)

spells : (cs : List ℕ) → scalars cs ≡ true → Misses 34 (encode_utf8_all cs) → Misses 92 (encode_utf8_all cs) → SpellsCharacters 34 (encode_utf8_all cs) cs
spells [] s quote escape = refl
spells (c ∷ cs) s quote escape =
    let both = and_parts (scalar c) (scalars cs) s in (
      encode_utf8 c,
      encode_utf8_all cs,
      inl (both.0, no_character 34 c (encode_utf8_all cs) (omega arith) quote, no_character 92 c (encode_utf8_all cs) (omega arith) escape, refl),
      spells cs both.1 (misses_behind 34 (encode_utf8 c) (encode_utf8_all cs) quote) (misses_behind 92 (encode_utf8 c) (encode_utf8_all cs) escape),
      refl,
    )

pub spells_itself : (inside : List ℕ) → IsUtf8 inside → Misses 34 inside → Misses 92 inside → SpellsQuoted inside inside
spells_itself inside u quote escape =
    let e : encode_utf8_all u.0 ≡ inside = u.1.1 in
    let spelled : SpellsCharacters 34 (encode_utf8_all u.0) u.0 = spells u.0 u.1.0 (subst (Misses 34) (sym e) quote) (subst (Misses 92) (sym e) escape) in
    (u.0, subst (λ (t : List ℕ). SpellsCharacters 34 t u.0) e spelled, e)

-- what a search passed over
pub misses_front : (c : ℕ) (hay quoted inside : List ℕ) (end : ℕ) (test : ℕ → Bool) → test c ≡ true → hay ≡ quoted → inside ≡ take end quoted → length inside ≡ end → ((k : ℕ) → 0 ≤ k → k < end → test (get_or hay k 0) ≡ true → ⊥) → Misses c inside
misses_front c hay quoted inside end test passes same front size before = λ k lt e.
    let low : k < end = omega (arith, size, lt) in
    let at : get_or inside k 0 ≡ get_or hay k 0 = ap (λ (t : List ℕ). get_or t k 0) front ∙ get_or-take end quoted k 0 low ∙ ap (λ (t : List ℕ). get_or t k 0) (sym same) in
    before k (omega arith) low (ap test (sym at ∙ e) ∙ passes)

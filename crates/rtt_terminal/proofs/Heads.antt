-- The first byte of a text.
use lib.Utf8.{encode, encodes, scalar, scalars, next, scalar_cases}
use Rattle.std.proofs.Common.{◌≡◌, ◌≢◌, ◌<◌, ◌+◌, ◌/◌, ℕ, Bool, true, false, cond, ltb, ◌&&◌, List, [], ◌∷◌, ◌++◌, refl, inl, inr, arith}
use Rattle.std.proofs.lemmas.Bool.{ltb-true}
use Rattle.std.specs.Str.{IsUtf8}

below : (c : ℕ) → scalar c ≡ true → c < 1114112
below c h = elim (scalar_cases c h) [ inl low ↦ omega arith | inr high ↦ high.1 ]

-- the first byte of a character isn't 255
by_tests : (c : ℕ) (a b d : Bool) (x y z tail rest : List ℕ) → ltb c 128 ≡ a → ltb c 2048 ≡ b → ltb c 65536 ≡ d → c < 1114112
    → cond a (c ∷ []) (cond b ((192 + c / 64) ∷ x) (cond d ((224 + c / 4096) ∷ y) ((240 + c / 262144) ∷ z))) ++ tail ≢ 255 ∷ rest
by_tests c true b d x y z tail rest p q r low e = let same : c ≡ 255 = cc in let lt = ltb-true c 128 p in omega arith
by_tests c false true d x y z tail rest p q r low e = let same : 192 + c / 64 ≡ 255 = cc in let lt = ltb-true c 2048 q in omega arith
by_tests c false false true x y z tail rest p q r low e = let same : 224 + c / 4096 ≡ 255 = cc in let lt = ltb-true c 65536 r in omega arith
by_tests c false false false x y z tail rest p q r low e = let same : 240 + c / 262144 ≡ 255 = cc in omega arith

first_of_character : (c : ℕ) (tail rest : List ℕ) → scalar c ≡ true → encode c ++ tail ≢ 255 ∷ rest
unfolding encode
first_of_character c tail rest h =
    by_tests c (ltb c 128) (ltb c 2048) (ltb c 65536) (next c ∷ []) (next (c / 64) ∷ next c ∷ []) (next (c / 4096) ∷ next (c / 64) ∷ next c ∷ []) tail rest refl refl refl (below c h)

left_true : (a b : Bool) → a && b ≡ true → a ≡ true
left_true true b h = refl
left_true false b h = absurd cc

first_of_characters : (cs rest : List ℕ) → scalars cs ≡ true → encodes cs ≢ 255 ∷ rest
first_of_characters [] rest h e = absurd cc
first_of_characters (c ∷ cs) rest h e = first_of_character c (encodes cs) rest (left_true (scalar c) (scalars cs) h) e

-- no text begins with the byte 255
pub no_mark : (text rest : List ℕ) → IsUtf8 text → text ≢ 255 ∷ rest
no_mark text rest h e = first_of_characters h.0 rest h.1.0 (cc (h.1.1, e))

-- A word in a table that is another behind one.
use Rattle.std.proofs.Common.{◌≡◌, ℕ, List, [], ◌∷◌, ◌++◌, Some, None, true, false, cond, refl}
use Rattle.std.specs.Str.{bytes_eq}
use Rattle.defmt_grammar.specs.Kind.{at_word}

-- a word of the first
pub at_front : {A : Type 0} (text : List ℕ) (names more : List (List ℕ × A)) (x : A) → at_word text names ≡ Some x → at_word text (names ++ more) ≡ Some x
at_front text [] more x found = absurd (cc)
at_front text (name ∷ names) more x found =
    elim (bytes_eq text name.0) as (λ b. cond b (Some name.1) (at_word text names) ≡ Some x → cond b (Some name.1) (at_word text (names ++ more)) ≡ Some x) [
      | true ↦ λ e. e
      | false ↦ λ e. at_front text names more x e
    ] found

-- none of the first
pub at_back : {A : Type 0} (text : List ℕ) (names more : List (List ℕ × A)) → at_word text names ≡ None → at_word text (names ++ more) ≡ at_word text more
at_back text [] more none = refl
at_back text (name ∷ names) more none =
    elim (bytes_eq text name.0) as (λ b. cond b (Some name.1) (at_word text names) ≡ None → cond b (Some name.1) (at_word text (names ++ more)) ≡ at_word text more) [
      | true ↦ λ e. absurd (cc)
      | false ↦ λ e. at_back text names more e
    ] none

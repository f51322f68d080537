-- What stands behind a space of a text is a text.
use Rattle.std.proofs.Common.{◌≡◌, ◌+◌, ◌<◌, ◌++◌, inl, inr, ℕ, List, [], ◌∷◌, append_assoc, drop, get_or, length, length-append, refl, sym, ◌∙◌, ap, subst, arith}
use Rattle.std.specs.Str.{IsCharBoundary, IsUtf8}
use Rattle.std.proofs.lemmas.List.{drop_at}
use Rattle.std.proofs.lemmas.Str.{IsCharBoundary-after_ascii, IsUtf8-drop, IsUtf8-nil}
use Rattle.defmt_lines.specs.Fields.{Begins, IsFieldAndRest}

at_seam : (xs ys : List ℕ) (c : ℕ) → get_or (xs ++ c ∷ ys) (length xs) 0 ≡ c
at_seam [] ys c = refl
at_seam (x ∷ xs) ys c = at_seam xs ys c

behind_space : (text field rest : List ℕ) → Begins text field rest → IsUtf8 text → IsUtf8 rest
behind_space text field rest b utf8 =
    let value : get_or text (length field) 0 ≡ 32 = ap (λ (l : List ℕ). get_or l (length field) 0) b.parted ∙ at_seam field rest 32 in
    let there : length field < length text = omega (arith, ap length b.parted, length-append field (32 ∷ rest)) in
    let boundary : IsCharBoundary text (length field + 1) = IsCharBoundary-after_ascii text (length field) utf8 there (omega (arith, value)) in
    let whole : text ≡ (field ++ 32 ∷ []) ++ rest = b.parted ∙ sym (append_assoc field (32 ∷ []) rest) in
    let same : drop (length field + 1) text ≡ rest = ap (drop (length field + 1)) whole ∙ drop_at (field ++ 32 ∷ []) rest (length field + 1) (length-append field (32 ∷ [])) in
    subst IsUtf8 same (IsUtf8-drop text (length field + 1) utf8 boundary)

rest_is_text : (text field rest : List ℕ) → IsFieldAndRest text field rest → IsUtf8 text → IsUtf8 rest
rest_is_text text field rest (inl b) utf8 = behind_space text field rest b utf8
rest_is_text text field rest (inr (same, bare, none)) utf8 = subst IsUtf8 (sym none) IsUtf8-nil

pub action_text : (bytes rest : List ℕ) (word digits behind field more : List ℕ) → Begins bytes word rest → Begins rest digits behind → IsFieldAndRest behind field more → IsUtf8 bytes → IsUtf8 more
action_text bytes rest word digits behind field more first second last utf8 =
    rest_is_text behind field more last (behind_space rest digits behind second (behind_space bytes word rest first utf8))

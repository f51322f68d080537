-- What is escaped, and how.
use Rattle.std.proofs.Common.{◌≡◌, ◌≢◌, ◌<◌, ◌≤◌, ℕ, Bool, true, false, ◌||◌, ◌&&◌, List, [], ◌∷◌, ◌++◌, Option, Some, None, is_none, refl, ap, ◌∙◌, arith}
use Rattle.std.proofs.lemmas.Bool.{ne_eqb}
use Rattle.std.proofs.lemmas.Bool.Decides.{nat_tests}
use Rattle.std.specs.Prelude.{is_some, unwrap_or, nat_le, codes, ◌==◌, if◌then◌else◌}
use Rattle.defmt_hints.specs.Digits.{number_text, zero_filled}
use Rattle.defmt_hints.specs.Escapes.{escape_of, byte_escape_of}
use Rattle.defmt_hints.specs.Quotings.{by_escapes, escape_in}
use Rattle.defmt_hints.specs.declared.quoted.Quoting.{Quoting}
use Rattle.defmt_hints.specs.declared.quoted.Quoting.TheVariants.{Character, Text, Bytes}

pub newline : (q : Quoting) → by_escapes (escape_in q) 10 ≡ codes "\\n"
unfolding escape_of byte_escape_of
newline Character = refl
newline Text = refl
newline Bytes = refl

pub return : (q : Quoting) → by_escapes (escape_in q) 13 ≡ codes "\\r"
unfolding escape_of byte_escape_of
return Character = refl
return Text = refl
return Bytes = refl

pub tab : (q : Quoting) → by_escapes (escape_in q) 9 ≡ codes "\\t"
unfolding escape_of byte_escape_of
tab Character = refl
tab Text = refl
tab Bytes = refl

-- above the controls only two bytes are escaped
pick : Bool → Option (List ℕ) → Option (List ℕ)
pick b o = if b then o else None

named_above : (quote c : ℕ) → 32 ≤ c → escape_of quote c ≡ (if c == 92 || c == quote then Some (92 ∷ c ∷ []) else None)
unfolding escape_of
named_above quote c above = rw (ne_eqb c 10 (omega arith), ne_eqb c 13 (omega arith), ne_eqb c 9 (omega arith)) refl

by_mark : (b : Bool) (c : ℕ) (o : Option (List ℕ)) → o ≡ (if b then Some (92 ∷ c ∷ []) else None) → o ≢ None → unwrap_or o (c ∷ []) ≡ 92 ∷ c ∷ []
by_mark true c o e h = rw e refl
by_mark false c o e h = absurd (h e)

choice : Bool → Option (List ℕ) → List ℕ → Option (List ℕ)
choice bare o written = if is_some o then o else (if bare then None else Some written)

within : (c : ℕ) → 32 ≤ c → c ≤ 126 → (nat_le 32 c && nat_le c 126) ≡ true
within c a b = grind (arith, nat_tests)

outside : (c : ℕ) → 126 < c → (nat_le 32 c && nat_le c 126) ≡ false
outside c a = grind (arith, nat_tests)

under : (c : ℕ) → c < 32 → (nat_le 32 c && nat_le c 126) ≡ false
under c a = grind (arith, nat_tests)

bare_same : (o : Option (List ℕ)) (written : List ℕ) → choice true o written ≡ o
unfolding choice
bare_same None written = refl
bare_same (Some x) written = refl

bytes_is : (c : ℕ) → byte_escape_of c ≡ choice (nat_le 32 c && nat_le c 126) (escape_of 34 c) (codes "\\x" ++ zero_filled 2 (number_text 16 false c))
unfolding byte_escape_of choice
bytes_is c = refl

bytes_printed : (c : ℕ) → 32 ≤ c → c ≤ 126 → byte_escape_of c ≡ escape_of 34 c
bytes_printed c a b = bytes_is c ∙ ap (λ (bare : Bool). choice bare (escape_of 34 c) (codes "\\x" ++ zero_filled 2 (number_text 16 false c))) (within c a b) ∙ bare_same (escape_of 34 c) (codes "\\x" ++ zero_filled 2 (number_text 16 false c))

-- a byte that is printed has an escape only where it is the backslash or the quote
pub marked : (q : Quoting) (c : ℕ) → 32 ≤ c → c ≤ 126 → escape_in q c ≢ None → by_escapes (escape_in q) c ≡ 92 ∷ c ∷ []
marked Character c a b h = by_mark (c == 92 || c == 39) c (escape_of 39 c) (named_above 39 c a) h
marked Text c a b h = by_mark (c == 92 || c == 34) c (escape_of 34 c) (named_above 34 c a) h
marked Bytes c a b h = by_mark (c == 92 || c == 34) c (byte_escape_of c) (bytes_printed c a b ∙ named_above 34 c a) h

-- a byte that has no name
pub record Unnamed (c : ℕ) : Type 0 where
  pub not_10 : c ≢ 10
  pub not_13 : c ≢ 13
  pub not_9 : c ≢ 9
  pub printed : (32 ≤ c) → (c ≤ 126) → ⊥

not_named : (quote c : ℕ) → 32 ≤ quote → quote ≤ 126 → Unnamed c → escape_of quote c ≡ None
unfolding escape_of
not_named quote c a b u =
    let x : c ≢ 92 = λ e. u.printed (omega arith) (omega arith) in
    let y : c ≢ quote = λ e. u.printed (omega arith) (omega arith) in
    rw (ne_eqb c 92 x, ne_eqb c quote y, ne_eqb c 10 u.not_10, ne_eqb c 13 u.not_13, ne_eqb c 9 u.not_9) refl

chosen : (bare : Bool) (c : ℕ) (o : Option (List ℕ)) (written : List ℕ) → o ≡ None → choice bare o written ≢ None → unwrap_or (choice bare o written) (c ∷ []) ≡ written
unfolding choice
chosen true c o written e h = absurd (h (rw e refl))
chosen false c o written e h = rw e refl

-- only in bytes has such a byte an escape, which is a number
pub numbered : (q : Quoting) (c : ℕ) → Unnamed c → escape_in q c ≢ None → by_escapes (escape_in q) c ≡ codes "\\x" ++ zero_filled 2 (number_text 16 false c)
numbered Character c u h = absurd (h (not_named 39 c (omega arith) (omega arith) u))
numbered Text c u h = absurd (h (not_named 34 c (omega arith) (omega arith) u))
numbered Bytes c u h =
    let written : List ℕ = codes "\\x" ++ zero_filled 2 (number_text 16 false c) in
    ap (λ (o : Option (List ℕ)). unwrap_or o (c ∷ [])) (bytes_is c)
    ∙ chosen (nat_le 32 c && nat_le c 126) c (escape_of 34 c) written (not_named 34 c (omega arith) (omega arith) u) (λ none. h (bytes_is c ∙ none))

pub some_escape : (o : Option (List ℕ)) → is_none o ≡ false → o ≢ None
some_escape None e = λ h. cc
some_escape (Some x) e = λ h. cc

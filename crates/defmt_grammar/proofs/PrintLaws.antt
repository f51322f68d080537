-- What is printed.
use Rattle.std.proofs.Common.{◌≡◌, ◌<◌, ◌+◌, ℕ, suc, Bool, true, false, cond, eqb, ◌||◌, List, [], ◌∷◌, ◌++◌, length, Some, None, refl, sym, ap, ◌∙◌, arith, append_assoc, length-append, inl, inr}
use Rattle.std.specs.List.{AllByRecursion}
use Rattle.std.proofs.lemmas.List.{append-nil}
use Rattle.defmt_grammar.specs.declared.piece.Piece.{Piece}
use Rattle.defmt_grammar.specs.Cut.{behind}
use Rattle.defmt_grammar.specs.Step.{plain}
use Rattle.defmt_grammar.specs.Grammar.{IsPlain, IsBrace}
use Rattle.defmt_grammar.specs.Print.{doubled, piece_text, printed}
use Rattle.defmt_grammar.proofs.Cuts.{behind_found, behind_again}
use Rattle.defmt_grammar.proofs.PlainLaws.{plain_test, brace_test, is_brace, plain_found}

pub doubled_plain : (cs rest : List ℕ) → AllByRecursion IsPlain cs → doubled (cs ++ rest) ≡ cs ++ doubled rest
doubled_plain [] rest h = refl
doubled_plain (c ∷ cs) rest h = rw (plain_test c h.0) (ap (λ (t : List ℕ). c ∷ t) (doubled_plain cs rest h.1))

doubled_brace : (c : ℕ) (rest : List ℕ) → IsBrace c → doubled (c ∷ rest) ≡ c ∷ c ∷ doubled rest
doubled_brace c rest b = rw (brace_test c b) refl

pub literal_step : (out rest whole run more after : List ℕ) (c : ℕ) → IsBrace c → out ++ doubled rest ≡ whole → (run, more) ≡ plain rest → behind c more ≡ Some after → ((out ++ run) ++ c ∷ c ∷ []) ++ doubled after ≡ whole
literal_step out rest whole run more after c b e p h =
    let k = plain_found rest in
    let r : run ≡ (plain rest).0 = ap (λ (q : List ℕ × List ℕ). q.0) p in
    let m : (plain rest).1 ≡ c ∷ after = sym (ap (λ (q : List ℕ × List ℕ). q.1) p) ∙ behind_found c more after h in
    let d : doubled rest ≡ run ++ (c ∷ c ∷ doubled after) = ap doubled (k.0 ∙ ap (λ (t : List ℕ). (plain rest).0 ++ t) m) ∙ doubled_plain (plain rest).0 (c ∷ after) k.1 ∙ ap (λ (t : List ℕ). t ++ doubled (c ∷ after)) (sym r) ∙ ap (λ (t : List ℕ). run ++ t) (doubled_brace c after b) in
    append_assoc (out ++ run) (c ∷ c ∷ []) (doubled after) ∙ append_assoc out run (c ∷ c ∷ doubled after) ∙ ap (λ (t : List ℕ). out ++ t) (sym d) ∙ e

abbrev Stops : List ℕ → Type 0
Stops [] = Unit {0}
Stops (c ∷ cs) = IsBrace c

stop_more : (c : ℕ) (cs : List ℕ) (b : Bool) (o : List ℕ × List ℕ) → (eqb c 123 || eqb c 125) ≡ b → o ≡ cond {A = List ℕ × List ℕ} b ([], c ∷ cs) (c ∷ (plain cs).0, (plain cs).1) → Stops (plain cs).1 → Stops o.1
stop_more c cs true o e p h = rw p (is_brace c e)
stop_more c cs false o e p h = rw p h

plain_stops : (text : List ℕ) → Stops (plain text).1
unfolding plain
plain_stops [] = tt
plain_stops (c ∷ cs) = stop_more c cs (eqb c 123 || eqb c 125) (plain (c ∷ cs)) refl refl (plain_stops cs)

no_stop : (more : List ℕ) → Stops more → behind 123 more ≡ None → behind 125 more ≡ None → more ≡ []
no_stop [] s a b = refl
no_stop (c ∷ cs) (inl e) a b = absurd (let k : behind 123 (c ∷ cs) ≡ Some cs = ap (λ (d : ℕ). behind 123 (d ∷ cs)) e ∙ behind_again 123 cs in cc)
no_stop (c ∷ cs) (inr e) a b = absurd (let k : behind 125 (c ∷ cs) ≡ Some cs = ap (λ (d : ℕ). behind 125 (d ∷ cs)) e ∙ behind_again 125 cs in cc)

pub literal_end : (out rest whole run more : List ℕ) → out ++ doubled rest ≡ whole → (run, more) ≡ plain rest → behind 123 more ≡ None → behind 125 more ≡ None → out ++ run ≡ whole
literal_end out rest whole run more e p a b =
    let k = plain_found rest in
    let m : more ≡ (plain rest).1 = ap (λ (q : List ℕ × List ℕ). q.1) p in
    let nothing : (plain rest).1 ≡ [] = no_stop (plain rest).1 (plain_stops rest) (ap (behind 123) (sym m) ∙ a) (ap (behind 125) (sym m) ∙ b) in
    let r : run ≡ (plain rest).0 = ap (λ (q : List ℕ × List ℕ). q.0) p in
    let d : doubled rest ≡ run = ap doubled (k.0 ∙ ap (λ (t : List ℕ). (plain rest).0 ++ t) nothing) ∙ doubled_plain (plain rest).0 [] k.1 ∙ append-nil (plain rest).0 ∙ sym r in
    ap (λ (t : List ℕ). out ++ t) (sym d) ∙ e

pub shorter_by_brace : (rest run more after : List ℕ) (c : ℕ) → (run, more) ≡ plain rest → behind c more ≡ Some after → length after < length rest
shorter_by_brace rest run more after c p h =
    let k : length rest ≡ length (plain rest).0 + length (plain rest).1 = ap length (plain_found rest).0 ∙ length-append (plain rest).0 (plain rest).1 in
    let m : length (plain rest).1 ≡ suc (length after) = ap length (sym (ap (λ (q : List ℕ × List ℕ). q.1) p) ∙ behind_found c more after h) in
    omega (arith, k, m)

pub printed_push : (ps : List Piece) (p : Piece) → printed (ps ++ p ∷ []) ≡ printed ps ++ piece_text p
printed_push [] p = append-nil (piece_text p)
printed_push (q ∷ ps) p = ap (λ (t : List ℕ). piece_text q ++ t) (printed_push ps p) ∙ sym (append_assoc (piece_text q) (printed ps) (piece_text p))

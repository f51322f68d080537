-- Steps and tokens.
use Rattle.std.proofs.Common.{◌≡◌, ◌<◌, ◌≤◌, ◌+◌, ◌-◌, ℕ, suc, Bool, true, false, cond, eqb, List, [], ◌∷◌, ◌++◌, length, map, Option, Some, None, Result, Ok, Err, refl, sym, ap, subst, ◌∙◌, arith, length-append, inl, inr}
use Rattle.std.specs.Prelude.{codes}
use Rattle.std.specs.List.{AllByRecursion}
use Rattle.std.proofs.lemmas.Bool.{eqb-true, ne_eqb}
use Rattle.std.proofs.lemmas.Bool.Decides.{nat_tests}
use Rattle.defmt_grammar.specs.declared.fault.Cause.TheVariants as causes
use Rattle.defmt_grammar.specs.declared.fault.Fault.{Fault}
use Rattle.defmt_grammar.specs.declared.fault.Mode.{Mode}
use Rattle.defmt_grammar.specs.declared.param.Param.{Param}
use Rattle.defmt_grammar.specs.Cut.{cut, behind, strip}
use Rattle.defmt_grammar.specs.Param.{Parts, IsPosition, next_number, param_of, HasParamFault, Writes, kind_part, hint_part}
use Rattle.defmt_grammar.specs.Step.{plain, Read, run, hole as hole_step, inside_step, open_step, close_step, brace_step, step_of, no_end}
use Rattle.defmt_grammar.specs.Grammar.{Token, char, hole, IsPlain, IsBrace, IsHole, SpellsToken, SpellsTokens, HasTokenFault}
use Rattle.defmt_grammar.proofs.Cuts.{cut_again, cut_found, cut-lacks, behind_again, behind_found, strip_found, strip_again}
use Rattle.defmt_grammar.proofs.ParamLaws.{param_found, param_again, param_err, param_err_again, bind_okay, bind_err, okay_is, err_is, cut_none}
use Rattle.defmt_grammar.proofs.PlainLaws.{plain_found, starts_with_brace}

pub hole_len : (text more inside rest : List ℕ) → behind 123 text ≡ Some more → cut 125 more ≡ Some (inside, rest) → length inside < length text
hole_len text more inside rest e f =
    let a : length text ≡ suc (length more) = ap length (behind_found 123 text more e) in
    let b : length more ≡ length inside + suc (length rest) = ap length (cut_found 125 more (inside, rest) f).0 ∙ length-append inside (125 ∷ rest) in
    omega (arith, a, b)

-- ---- a step spells tokens

-- plain characters, each a token
pub plain_tokens : (mode : Mode) (size next : ℕ) (cs rest : List ℕ) → AllByRecursion IsPlain cs → SpellsTokens mode size next (cs ++ rest) (map char cs) next rest
plain_tokens mode size next [] rest h = (refl, refl)
plain_tokens mode size next (c ∷ cs) rest h = (next, cs ++ rest, (refl, inl (h.0, refl)), plain_tokens mode size next cs rest h.1)

pub then_tokens : (mode : Mode) (size a b c : ℕ) (text mid rest : List ℕ) (ts us : List Token) → SpellsTokens mode size a text ts b mid → SpellsTokens mode size b mid us c rest → SpellsTokens mode size a text (ts ++ us) c rest
then_tokens mode size a b c text mid rest [] us h k =
    subst (λ (n : ℕ). SpellsTokens mode size n text us c rest) h.0 (subst (λ (t : List ℕ). SpellsTokens mode size b t us c rest) (sym h.1) k)
then_tokens mode size a b c text mid rest (t ∷ ts) us h k = (h.0, h.1, h.2, then_tokens mode size h.0 b c h.1 mid rest ts us h.3 k)

-- what a step says of the tokens
abbrev pub StepSpells : Mode → ℕ → ℕ → List ℕ → Read × List ℕ → Type 0
StepSpells mode size next text (run cs, rest) = (0 < length cs) × SpellsTokens mode size next text (map char cs) next rest
StepSpells mode size next text (hole_step param after, rest) = SpellsToken mode size next text (hole (size - length text) param) after rest

brace_tokens : (mode : Mode) (size next c : ℕ) (text rest : List ℕ) → IsBrace c → text ≡ c ∷ c ∷ rest → StepSpells mode size next text (run (c ∷ []), rest)
brace_tokens mode size next c text rest b e = (omega arith, (next, rest, (refl, inr (b, e)), (refl, refl)))

-- no brace follows the one in front
no_open_at : (text inside rest : List ℕ) (o : Option (List ℕ)) → text ≡ 123 ∷ (inside ++ 125 ∷ rest) → strip (codes "{{") text ≡ None → behind 123 inside ≡ o → o ≡ None
no_open_at text inside rest None e n f = refl
no_open_at text inside rest (Some more) e n f =
    let whole : text ≡ codes "{{" ++ (more ++ 125 ∷ rest) = e ∙ ap (λ (t : List ℕ). 123 ∷ (t ++ 125 ∷ rest)) (behind_found 123 inside more f) in
    let k : strip (codes "{{") text ≡ Some (more ++ 125 ∷ rest) = ap (strip (codes "{{")) whole ∙ strip_again (codes "{{") (more ++ 125 ∷ rest) in
    absurd cc

no_open : (text inside rest : List ℕ) → text ≡ 123 ∷ (inside ++ 125 ∷ rest) → strip (codes "{{") text ≡ None → behind 123 inside ≡ None
no_open text inside rest e n = no_open_at text inside rest (behind 123 inside) e n refl

inside_spells : (mode : Mode) (size next : ℕ) (text more : List ℕ) (o : Option (List ℕ × List ℕ)) (p : Read × List ℕ) → text ≡ 123 ∷ more → strip (codes "{{") text ≡ None → cut 125 more ≡ o → inside_step mode next o ≡ Ok p → StepSpells mode size next text p
inside_spells mode size next text more None p e n f h = absurd cc
inside_spells mode size next text more (Some q) p e n f h =
    let a = bind_okay (param_of mode next q.0) (λ r. Ok (hole_step r.0 r.1, q.1)) p h in
    let k = cut_found 125 more q f in
    let is_hole : IsHole text q.0 q.1 = record { text_is = e ∙ ap (λ (t : List ℕ). 123 ∷ t) k.0; no_open = no_open text q.0 q.1 (e ∙ ap (λ (t : List ℕ). 123 ∷ t) k.0) n; no_close = k.1 } in
    subst (StepSpells mode size next text) (okay_is (hole_step a.0.0 a.0.1, q.1) p a.2) (q.0, is_hole, param_found mode next q.0 a.0 a.1, refl)

open_spells : (mode : Mode) (size next : ℕ) (text : List ℕ) (o : Option (List ℕ)) (p : Read × List ℕ) → strip (codes "{{") text ≡ None → behind 123 text ≡ o → open_step mode next o ≡ Ok p → StepSpells mode size next text p
open_spells mode size next text None p n e h = absurd cc
open_spells mode size next text (Some more) p n e h = inside_spells mode size next text more (cut 125 more) p (behind_found 123 text more e) n refl h

close_spells : (mode : Mode) (size next : ℕ) (text : List ℕ) (o : Option (List ℕ)) (p : Read × List ℕ) → strip (codes "{{") text ≡ None → strip (codes "}}") text ≡ o → close_step mode next text o ≡ Ok p → StepSpells mode size next text p
close_spells mode size next text None p n e h = open_spells mode size next text (behind 123 text) p n refl h
close_spells mode size next text (Some rest) p n e h = subst (StepSpells mode size next text) (okay_is (run (codes "}"), rest) p h) (brace_tokens mode size next 125 text rest (inr refl) (strip_found (codes "}}") text rest e))

brace_spells : (mode : Mode) (size next : ℕ) (text : List ℕ) (o : Option (List ℕ)) (p : Read × List ℕ) → strip (codes "{{") text ≡ o → brace_step mode next text o ≡ Ok p → StepSpells mode size next text p
brace_spells mode size next text None p e h = close_spells mode size next text (strip (codes "}}") text) p e refl h
brace_spells mode size next text (Some rest) p e h = subst (StepSpells mode size next text) (okay_is (run (codes "{"), rest) p h) (brace_tokens mode size next 123 text rest (inl refl) (strip_found (codes "{{") text rest e))

plain_spells : (mode : Mode) (size next : ℕ) (text : List ℕ) (b : Bool) (p : Read × List ℕ) → eqb (length (plain text).0) 0 ≡ b → cond b (brace_step mode next text (strip (codes "{{") text)) (Ok (run (plain text).0, (plain text).1)) ≡ Ok p → StepSpells mode size next text p
plain_spells mode size next text true p e h = brace_spells mode size next text (strip (codes "{{") text) p refl h
plain_spells mode size next text false p e h =
    let some : 0 < length (plain text).0 = grind (arith, nat_tests) in
    let k = plain_found text in
    let s : StepSpells mode size next text (run (plain text).0, (plain text).1) = (some, subst (λ (t : List ℕ). SpellsTokens mode size next t (map char (plain text).0) next (plain text).1) (sym k.0) (plain_tokens mode size next (plain text).0 (plain text).1 k.1)) in
    subst (StepSpells mode size next text) (okay_is (run (plain text).0, (plain text).1) p h) s

pub step_spells : (mode : Mode) (size next : ℕ) (text : List ℕ) (p : Read × List ℕ) → step_of mode next text ≡ Ok p → StepSpells mode size next text p
unfolding step_of
step_spells mode size next text p h = plain_spells mode size next text (eqb (length (plain text).0) 0) p refl h

-- ---- a step that fails

second_brace : (c : ℕ) (text more : List ℕ) (o : Option (List ℕ)) → text ≡ c ∷ more → strip (c ∷ c ∷ []) text ≡ None → behind c more ≡ o → o ≡ None
second_brace c text more None e n f = refl
second_brace c text more (Some rest) e n f =
    let whole : text ≡ (c ∷ c ∷ []) ++ rest = e ∙ ap (λ (t : List ℕ). c ∷ t) (behind_found c more rest f) in
    let k : strip (c ∷ c ∷ []) text ≡ Some rest = ap (strip (c ∷ c ∷ [])) whole ∙ strip_again (c ∷ c ∷ []) rest in
    absurd cc

inside_fails : (mode : Mode) (next : ℕ) (text more : List ℕ) (o : Option (List ℕ × List ℕ)) (f : Fault) → text ≡ 123 ∷ more → strip (codes "{{") text ≡ None → cut 125 more ≡ o → inside_step mode next o ≡ Err f → HasTokenFault mode next text f
inside_fails mode next text more None f e n k h =
    inl (more, e, second_brace 123 text more (behind 123 more) e n refl, cut_none 125 more k, sym (err_is {A = Read × List ℕ} (record { cause = causes.Brace; at = 0 }) f h))
inside_fails mode next text more (Some q) f e n k h =
    elim (bind_err (param_of mode next q.0) (λ r. Ok (hole_step r.0 r.1, q.1)) f h) [
      | inr a ↦ absurd (let z = a.2 in cc)
      | inl g ↦
          let c = cut_found 125 more q k in
          let whole : text ≡ 123 ∷ (q.0 ++ 125 ∷ q.1) = e ∙ ap (λ (t : List ℕ). 123 ∷ t) c.0 in
          inr (inr (q.0, q.1, record { text_is = whole; no_open = no_open text q.0 q.1 whole n; no_close = c.1 }, param_err mode next q.0 f g))
    ]

lone_close : (mode : Mode) (next : ℕ) (text : List ℕ) (f : Fault) → (c : ℕ) × (more : List ℕ) × (text ≡ c ∷ more) × IsBrace c → strip (codes "}}") text ≡ None → behind 123 text ≡ None → no_end {A = Read × List ℕ} ≡ Err f → HasTokenFault mode next text f
lone_close mode next text f (c, more, e, inl opens) n none h = absurd (let k : behind 123 text ≡ Some more = ap (behind 123) (e ∙ ap (λ (d : ℕ). d ∷ more) opens) ∙ behind_again 123 more in cc)
lone_close mode next text f (c, more, e, inr close) n none h =
    let whole : text ≡ 125 ∷ more = e ∙ ap (λ (d : ℕ). d ∷ more) close in
    inr (inl (more, whole, second_brace 125 text more (behind 125 more) whole n refl, sym (err_is {A = Read × List ℕ} (record { cause = causes.Brace; at = 0 }) f h)))

open_fails : (mode : Mode) (next : ℕ) (text : List ℕ) (o : Option (List ℕ)) (f : Fault) → (c : ℕ) × (more : List ℕ) × (text ≡ c ∷ more) × IsBrace c → strip (codes "{{") text ≡ None → strip (codes "}}") text ≡ None → behind 123 text ≡ o → open_step mode next o ≡ Err f → HasTokenFault mode next text f
open_fails mode next text None f s n m e h = lone_close mode next text f s m e h
open_fails mode next text (Some more) f s n m e h = inside_fails mode next text more (cut 125 more) f (behind_found 123 text more e) n refl h

close_fails : (mode : Mode) (next : ℕ) (text : List ℕ) (o : Option (List ℕ)) (f : Fault) → (c : ℕ) × (more : List ℕ) × (text ≡ c ∷ more) × IsBrace c → strip (codes "{{") text ≡ None → strip (codes "}}") text ≡ o → close_step mode next text o ≡ Err f → HasTokenFault mode next text f
close_fails mode next text None f s n e h = open_fails mode next text (behind 123 text) f s n e refl h
close_fails mode next text (Some rest) f s n e h = absurd cc

brace_fails : (mode : Mode) (next : ℕ) (text : List ℕ) (o : Option (List ℕ)) (f : Fault) → (c : ℕ) × (more : List ℕ) × (text ≡ c ∷ more) × IsBrace c → strip (codes "{{") text ≡ o → brace_step mode next text o ≡ Err f → HasTokenFault mode next text f
brace_fails mode next text None f s e h = close_fails mode next text (strip (codes "}}") text) f s e refl h
brace_fails mode next text (Some rest) f s e h = absurd cc

plain_fails : (mode : Mode) (next : ℕ) (text : List ℕ) (b : Bool) (f : Fault) → eqb (length (plain text).0) 0 ≡ b → 0 < length text → cond b (brace_step mode next text (strip (codes "{{") text)) (Ok (run (plain text).0, (plain text).1)) ≡ Err f → HasTokenFault mode next text f
plain_fails mode next text true f e some h = brace_fails mode next text (strip (codes "{{") text) f (starts_with_brace text (eqb-true _ _ e) some) refl h
plain_fails mode next text false f e some h = absurd cc

pub step_fails : (mode : Mode) (next : ℕ) (text : List ℕ) (f : Fault) → 0 < length text → step_of mode next text ≡ Err f → HasTokenFault mode next text f
unfolding step_of
step_fails mode next text f some h = plain_fails mode next text (eqb (length (plain text).0) 0) f refl some h

-- a fault lies in the text
writes_len : (inside : List ℕ) (p : Parts) → Writes inside p → length inside ≡ length p.digits + (length (kind_part p.kind) + length (hint_part p.hint))
writes_len inside p w = ap length w.text ∙ length-append p.digits (kind_part p.kind ++ hint_part p.hint) ∙ ap (λ (n : ℕ). length p.digits + n) (length-append (kind_part p.kind) (hint_part p.hint))

place_in : (f g : Fault) → f ≡ g → f.at ≡ g.at
place_in f g e = ap (λ (x : Fault). x.at) e

pub param_place : (mode : Mode) (next : ℕ) (inside : List ℕ) (f : Fault) → HasParamFault mode next inside f → f.at ≤ length inside + 1
param_place mode next inside f (inl z) = omega (arith, place_in f _ z.is)
param_place mode next inside f (inr (inl c)) =
    let l : length inside ≡ length c.digits + suc (length c.rest) = ap length c.text ∙ length-append c.digits (c.char ∷ c.rest) in
    omega (arith, place_in f _ c.is, l)
param_place mode next inside f (inr (inr (inl m))) = omega (arith, place_in f _ m.is)
param_place mode next inside f (inr (inr (inr (inl k)))) =
    let l = writes_len inside k.parts k.writes in
    let n : length (kind_part k.parts.kind) ≡ suc (length k.text) = ap (λ (o : Option (List ℕ)). length (kind_part o)) k.kind in
    omega (arith, place_in f _ k.is, l, n)
param_place mode next inside f (inr (inr (inr (inr k)))) =
    let l = writes_len inside k.parts k.writes in
    let n : length (hint_part k.parts.hint) ≡ suc (length k.text) = ap (λ (o : Option (List ℕ)). length (hint_part o)) k.hint in
    omega (arith, place_in f _ k.is, l, n)

pub token_place : (mode : Mode) (next : ℕ) (text : List ℕ) (f : Fault) → HasTokenFault mode next text f → f.at ≤ length text
token_place mode next text f (inl (more, e, n, l, is)) = omega (arith, place_in f _ is)
token_place mode next text f (inr (inl (more, e, n, is))) = omega (arith, place_in f _ is)
token_place mode next text f (inr (inr (inside, rest, h, k))) =
    let l : length text ≡ suc (length inside + suc (length rest)) = ap length h.text_is ∙ ap suc (length-append inside (125 ∷ rest)) in
    omega (arith, param_place mode next inside f k, l)

-- at most 16 positions are numbered
number_few : (next : ℕ) (digits : List ℕ) (position after : ℕ) → next ≤ 16 → IsPosition next digits position → position ≤ 15 → after ≡ next_number next digits → after ≤ 16
number_few next [] position after h p few e = omega (arith, p, e)
number_few next (d ∷ ds) position after h p few e = omega (arith, e)

pub token_few : (mode : Mode) (size next : ℕ) (text : List ℕ) (t : Token) (after : ℕ) (rest : List ℕ) → next ≤ 16 → SpellsToken mode size next text t after rest → after ≤ 16
token_few mode size next text (char c) after rest h s = omega (arith, s.0)
token_few mode size next text (hole at param) after rest h s = number_few next s.2.parts.digits param.position after h s.2.position s.2.few s.2.after_is

pub token_shorter : (mode : Mode) (size next : ℕ) (text : List ℕ) (t : Token) (after : ℕ) (rest : List ℕ) → SpellsToken mode size next text t after rest → length rest < length text
token_shorter mode size next text (char c) after rest (e, inl (p, is)) = omega (arith, ap length is)
token_shorter mode size next text (char c) after rest (e, inr (p, is)) = omega (arith, ap length is)
token_shorter mode size next text (hole at param) after rest (inside, h, s, e) =
    let l : length text ≡ suc (length inside + suc (length rest)) = ap length h.text_is ∙ ap suc (length-append inside (125 ∷ rest)) in
    omega (arith, l)

-- ---- the one token that a text begins with

pub data Next : Type 0 where
  ended : Next
  found : Token → ℕ → List ℕ → Next
  stuck : Fault → Next

abbrev from_param : ℕ → List ℕ → Result (Param × ℕ) Fault → Next
from_param at rest (Ok p) = found (hole at p.0) p.1 rest
from_param at rest (Err f) = stuck f

abbrev from_cut : Mode → ℕ → ℕ → Option (List ℕ × List ℕ) → Next
from_cut mode at next None = stuck (record { cause = causes.Brace; at = 0 })
from_cut mode at next (Some p) = from_param at p.1 (param_of mode next p.0)

abbrev from_open : Mode → ℕ → ℕ → List ℕ → Option (List ℕ) → Next
from_open mode at next more None = from_cut mode at next (cut 125 more)
from_open mode at next more (Some rest) = found (char 123) next rest

abbrev from_close : ℕ → Option (List ℕ) → Next
from_close next None = stuck (record { cause = causes.Brace; at = 0 })
from_close next (Some rest) = found (char 125) next rest

unfoldable pub next_token : Mode → ℕ → ℕ → List ℕ → Next
next_token mode size next [] = ended
next_token mode size next (c ∷ cs) = cond (eqb c 123) (from_open mode (size - length (c ∷ cs)) next cs (behind 123 cs)) (cond (eqb c 125) (from_close next (behind 125 cs)) (found (char c) next cs))

behind_keeps : (b : Bool) (xs ys : List ℕ) → cond b (Some xs) None ≡ None → cond b (Some ys) None ≡ None
behind_keeps true xs ys h = absurd cc
behind_keeps false xs ys h = refl

behind_inside : (inside rest : List ℕ) → behind 123 inside ≡ None → behind 123 (inside ++ 125 ∷ rest) ≡ None
unfolding behind
behind_inside [] rest h = refl
behind_inside (x ∷ inside) rest h = behind_keeps (eqb x 123) inside (inside ++ 125 ∷ rest) h

at_hole : (mode : Mode) (size next : ℕ) (text inside rest : List ℕ) → IsHole text inside rest → next_token mode size next text ≡ from_param (size - length text) rest (param_of mode next inside)
unfolding next_token
at_hole mode size next text inside rest h =
    let more = inside ++ 125 ∷ rest in
    let a : next_token mode size next (123 ∷ more) ≡ from_open mode (size - length (123 ∷ more)) next more None = ap (from_open mode (size - length (123 ∷ more)) next more) (behind_inside inside rest h.no_open) in
    let b : from_open mode (size - length (123 ∷ more)) next more None ≡ from_param (size - length (123 ∷ more)) rest (param_of mode next inside) = ap (from_cut mode (size - length (123 ∷ more)) next) (cut_again 125 inside rest h.no_close) in
    let c : from_param (size - length (123 ∷ more)) rest (param_of mode next inside) ≡ from_param (size - length text) rest (param_of mode next inside) = ap (λ (t : List ℕ). from_param (size - length t) rest (param_of mode next inside)) (sym h.text_is) in
    ap (next_token mode size next) h.text_is ∙ a ∙ b ∙ c

pub token_again : (mode : Mode) (size next : ℕ) (text : List ℕ) (t : Token) (after : ℕ) (rest : List ℕ) → SpellsToken mode size next text t after rest → next_token mode size next text ≡ found t after rest
unfolding next_token
token_again mode size next text (char c) after rest (e, inl (p, is)) =
    ap (next_token mode size next) is ∙ rw (ne_eqb c 123 p.0, ne_eqb c 125 p.1) (ap (λ (n : ℕ). found (char c) n rest) (sym e))
token_again mode size next text (char c) after rest (e, inr (inl b, is)) =
    let whole : text ≡ 123 ∷ 123 ∷ rest = is ∙ ap (λ (d : ℕ). d ∷ d ∷ rest) b in
    ap (next_token mode size next) whole ∙ ap (from_open mode (size - length (123 ∷ 123 ∷ rest)) next (123 ∷ rest)) (behind_again 123 rest) ∙ ap (λ (d : ℕ). found (char d) next rest) (sym b) ∙ ap (λ (n : ℕ). found (char c) n rest) (sym e)
token_again mode size next text (char c) after rest (e, inr (inr b, is)) =
    let whole : text ≡ 125 ∷ 125 ∷ rest = is ∙ ap (λ (d : ℕ). d ∷ d ∷ rest) b in
    ap (next_token mode size next) whole ∙ ap (from_close next) (behind_again 125 rest) ∙ ap (λ (d : ℕ). found (char d) next rest) (sym b) ∙ ap (λ (n : ℕ). found (char c) n rest) (sym e)
token_again mode size next text (hole at param) after rest (inside, h, s, e) =
    at_hole mode size next text inside rest h ∙ ap (from_param (size - length text) rest) (param_again mode next inside param after s) ∙ ap (λ (a : ℕ). found (hole a param) after rest) (sym e)

pub fault_again : (mode : Mode) (size next : ℕ) (text : List ℕ) (f : Fault) → HasTokenFault mode next text f → next_token mode size next text ≡ stuck f
unfolding next_token
fault_again mode size next text f (inl (more, e, n, l, is)) =
    ap (next_token mode size next) e ∙ ap (from_open mode (size - length (123 ∷ more)) next more) n ∙ ap (from_cut mode (size - length (123 ∷ more)) next) (cut-lacks 125 more l) ∙ ap stuck (sym is)
fault_again mode size next text f (inr (inl (more, e, n, is))) =
    ap (next_token mode size next) e ∙ ap (from_close next) n ∙ ap stuck (sym is)
fault_again mode size next text f (inr (inr (inside, rest, h, k))) =
    at_hole mode size next text inside rest h ∙ ap (from_param (size - length text) rest) (param_err_again mode next inside f k)

pub end_again : (mode : Mode) (size next : ℕ) → next_token mode size next [] ≡ ended
unfolding next_token
end_again mode size next = refl

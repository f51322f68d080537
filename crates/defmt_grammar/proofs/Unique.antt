-- A text has one reading.
use Rattle.std.proofs.Common.{◌≡◌, ◌+◌, ◌-◌, ℕ, List, [], ◌∷◌, length, refl, sym, ap, subst, ◌∙◌, arith, inl, inr}
use Rattle.std.specs.Prelude.{slice_get}
use Rattle.std.proofs.lemmas.Bool.{cases_lt}
use Rattle.std.proofs.lemmas.Option.{same_Some}
use Rattle.defmt_grammar.specs.declared.fault.Cause.{Cause}
use Rattle.defmt_grammar.specs.declared.fault.Fault.{Fault}
use Rattle.defmt_grammar.specs.declared.fault.Mode.{Mode}
use Rattle.defmt_grammar.specs.declared.piece.Piece.{Piece}
use Rattle.defmt_grammar.specs.declared.piece.Use.{Use}
use Rattle.defmt_grammar.specs.Grammar.{Token, SpellsTokens, joined, uses_of, NoClash, FirstClash, NoGap, HasGap, Spells, HasTokenFault, HasFault, SameFault}
use Rattle.defmt_grammar.proofs.StepLaws.{Next, ended, found, stuck, next_token, token_again, fault_again, end_again}

abbrev Halts : Next → Type 0
Halts ended = Unit {0}
Halts (found t n r) = ⊥
Halts (stuck f) = Unit {0}

pub record SameReading (ts us : List Token) (m n : ℕ) (r s : List ℕ) : Type 0 where
  pub tokens : ts ≡ us
  pub after : m ≡ n
  pub rest : r ≡ s

no_halt : (x : Next) (t : Token) (n : ℕ) (r : List ℕ) → x ≡ found t n r → Halts x → ⊥
no_halt x t n r e h = subst Halts e h

token_is : (t u : Token) (m n : ℕ) (r s : List ℕ) → found t m r ≡ found u n s → (t ≡ u) × (m ≡ n) × (r ≡ s)
token_is t u m n r s e = (cc, cc, cc)

pub one_reading : (mode : Mode) (size next : ℕ) (text : List ℕ) (ts : List Token) (m : ℕ) (r : List ℕ) (us : List Token) (n : ℕ) (s : List ℕ) → SpellsTokens mode size next text ts m r → SpellsTokens mode size next text us n s → Halts (next_token mode size m r) → Halts (next_token mode size n s) → SameReading ts us m n r s
one_reading mode size next text [] m r [] n s a b h k = record { tokens = refl; after = a.0 ∙ sym b.0; rest = sym a.1 ∙ b.1 }
one_reading mode size next text [] m r (u ∷ us) n s a b h k =
    let e : next_token mode size m r ≡ found u b.0 b.1 = ap (λ (x : ℕ). next_token mode size x r) a.0 ∙ ap (next_token mode size next) (sym a.1) ∙ token_again mode size next text u b.0 b.1 b.2 in
    absurd (no_halt (next_token mode size m r) u b.0 b.1 e h)
one_reading mode size next text (t ∷ ts) m r [] n s a b h k =
    let e : next_token mode size n s ≡ found t a.0 a.1 = ap (λ (x : ℕ). next_token mode size x s) b.0 ∙ ap (next_token mode size next) (sym b.1) ∙ token_again mode size next text t a.0 a.1 a.2 in
    absurd (no_halt (next_token mode size n s) t a.0 a.1 e k)
one_reading mode size next text (t ∷ ts) m r (u ∷ us) n s a b h k =
    let e : found t a.0 a.1 ≡ found u b.0 b.1 = sym (token_again mode size next text t a.0 a.1 a.2) ∙ token_again mode size next text u b.0 b.1 b.2 in
    let same = token_is t u a.0 b.0 a.1 b.1 e in
    let rest : SpellsTokens mode size a.0 a.1 us n s = subst (λ (x : ℕ). SpellsTokens mode size x a.1 us n s) (sym same.1) (subst (λ (x : List ℕ). SpellsTokens mode size b.0 x us n s) (sym same.2) b.3) in
    let g = one_reading mode size a.0 a.1 ts m r us n s a.3 rest h k in
    record { tokens = ap (λ (x : Token). x ∷ ts) same.0 ∙ ap (λ (x : List Token). u ∷ x) g.tokens; after = g.after; rest = g.rest }

end_halts : (mode : Mode) (size next : ℕ) → Halts (next_token mode size next [])
end_halts mode size next = subst Halts (sym (end_again mode size next)) tt

fault_halts : (mode : Mode) (size next : ℕ) (text : List ℕ) (f : Fault) → HasTokenFault mode next text f → Halts (next_token mode size next text)
fault_halts mode size next text f h = subst Halts (sym (fault_again mode size next text f h)) tt

both_ended : (mode : Mode) (text : List ℕ) (ts : List Token) (m : ℕ) (us : List Token) (n : ℕ) → SpellsTokens mode (length text) 0 text ts m [] → SpellsTokens mode (length text) 0 text us n [] → ts ≡ us
both_ended mode text ts m us n a b = (one_reading mode (length text) 0 text ts m [] us n [] a b (end_halts mode (length text) m) (end_halts mode (length text) n)).tokens

ended_and_stuck : (mode : Mode) (text : List ℕ) (ts : List Token) (m : ℕ) (us : List Token) (n : ℕ) (rest : List ℕ) (f : Fault) → SpellsTokens mode (length text) 0 text ts m [] → SpellsTokens mode (length text) 0 text us n rest → HasTokenFault mode n rest f → ⊥
ended_and_stuck mode text ts m us n rest f a b h =
    let same = one_reading mode (length text) 0 text ts m [] us n rest a b (end_halts mode (length text) m) (fault_halts mode (length text) n rest f h) in
    let e : ended ≡ stuck f = sym (end_again mode (length text) n) ∙ ap (next_token mode (length text) n) same.rest ∙ fault_again mode (length text) n rest f h in
    cc

clash_here : (uses : List Use) (at : ℕ) → FirstClash uses at → NoClash uses → ⊥
clash_here uses at c n = n c.index c.earlier c.use_there c.use_earlier c.before c.there c.earlier_there c.clash

one_clash : (uses : List Use) (a b : ℕ) → FirstClash uses a → FirstClash uses b → a ≡ b
one_clash uses a b c d = elim (cases_lt c.index d.index) [
  | inl lt ↦ absurd (d.first c.index c.earlier c.use_there c.use_earlier lt c.before c.there c.earlier_there c.clash)
  | inr le ↦ elim (cases_lt d.index c.index) [
    | inl lt ↦ absurd (c.first d.index d.earlier d.use_there d.use_earlier lt d.before d.there d.earlier_there d.clash)
    | inr ge ↦
        let same : c.index ≡ d.index = omega arith in
        let there : c.use_there ≡ d.use_there = same_Some c.use_there d.use_there (sym c.there ∙ ap (slice_get uses) same ∙ d.there) in
        c.place ∙ ap (λ (u : Use). u.at) there ∙ sym d.place
  ]
]

gap_here : (uses : List Use) → NoGap uses → HasGap uses → ⊥
gap_here uses n (i, u, there, lacks) = lacks.2 (n i u there lacks.0 lacks.1)

pub spells_one : (text : List ℕ) (mode : Mode) (ps qs : List Piece) → Spells text mode ps → Spells text mode qs → ps ≡ qs
spells_one text mode ps qs a b = sym a.joins ∙ ap joined (both_ended mode text a.tokens a.after b.tokens b.after a.spelled b.spelled) ∙ b.joins

pub spells_no_fault : (text : List ℕ) (mode : Mode) (ps : List Piece) (cause : Cause) (at : ℕ) → Spells text mode ps → HasFault text mode cause at → ⊥
spells_no_fault text mode ps cause at a (inl f) = ended_and_stuck mode text a.tokens a.after f.tokens f.after f.rest f.fault a.spelled f.spelled f.has
spells_no_fault text mode ps cause at a (inr (inl c)) =
    let e = both_ended mode text c.tokens c.after a.tokens a.after c.spelled a.spelled in
    clash_here (uses_of a.tokens) at (subst (λ (t : List Token). FirstClash (uses_of t) at) e c.clash) a.no_clash
spells_no_fault text mode ps cause at a (inr (inr g)) =
    let e = both_ended mode text g.tokens g.after a.tokens a.after g.spelled a.spelled in
    gap_here (uses_of a.tokens) a.no_gap (subst (λ (t : List Token). HasGap (uses_of t)) e g.gap)

stuck_is : (f g : Fault) → stuck f ≡ stuck g → f ≡ g
stuck_is f g e = cc

pub fault_one : (text : List ℕ) (mode : Mode) (c d : Cause) (a b : ℕ) → HasFault text mode c a → HasFault text mode d b → SameFault c d a b
fault_one text mode c d a b (inl f) (inl g) =
    let size = length text in
    let same = one_reading mode size 0 text f.tokens f.after f.rest g.tokens g.after g.rest f.spelled g.spelled (fault_halts mode size f.after f.rest f.fault f.has) (fault_halts mode size g.after g.rest g.fault g.has) in
    let e : f.fault ≡ g.fault = stuck_is f.fault g.fault (sym (fault_again mode size f.after f.rest f.fault f.has) ∙ ap (λ (n : ℕ). next_token mode size n f.rest) same.after ∙ ap (next_token mode size g.after) same.rest ∙ fault_again mode size g.after g.rest g.fault g.has) in
    record {
      cause = f.cause_is ∙ ap (λ (x : Fault). x.cause) e ∙ sym g.cause_is;
      place = f.place ∙ ap (λ (x : Fault). size - length f.rest + x.at) e ∙ ap (λ (r : List ℕ). size - length r + g.fault.at) same.rest ∙ sym g.place;
    }
fault_one text mode c d a b (inl f) (inr (inl g)) = absurd (ended_and_stuck mode text g.tokens g.after f.tokens f.after f.rest f.fault g.spelled f.spelled f.has)
fault_one text mode c d a b (inl f) (inr (inr g)) = absurd (ended_and_stuck mode text g.tokens g.after f.tokens f.after f.rest f.fault g.spelled f.spelled f.has)
fault_one text mode c d a b (inr (inl g)) (inl f) = absurd (ended_and_stuck mode text g.tokens g.after f.tokens f.after f.rest f.fault g.spelled f.spelled f.has)
fault_one text mode c d a b (inr (inr g)) (inl f) = absurd (ended_and_stuck mode text g.tokens g.after f.tokens f.after f.rest f.fault g.spelled f.spelled f.has)
fault_one text mode c d a b (inr (inl f)) (inr (inl g)) =
    let e = both_ended mode text f.tokens f.after g.tokens g.after f.spelled g.spelled in
    record { cause = f.cause_is ∙ sym g.cause_is; place = one_clash (uses_of g.tokens) a b (subst (λ (t : List Token). FirstClash (uses_of t) a) e f.clash) g.clash }
fault_one text mode c d a b (inr (inl f)) (inr (inr g)) =
    let e = both_ended mode text f.tokens f.after g.tokens g.after f.spelled g.spelled in
    absurd (clash_here (uses_of g.tokens) a (subst (λ (t : List Token). FirstClash (uses_of t) a) e f.clash) g.no_clash)
fault_one text mode c d a b (inr (inr g)) (inr (inl f)) =
    let e = both_ended mode text f.tokens f.after g.tokens g.after f.spelled g.spelled in
    absurd (clash_here (uses_of g.tokens) b (subst (λ (t : List Token). FirstClash (uses_of t) b) e f.clash) g.no_clash)
fault_one text mode c d a b (inr (inr f)) (inr (inr g)) = record { cause = f.cause_is ∙ sym g.cause_is; place = f.place ∙ sym g.place }

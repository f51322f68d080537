-- A text that spells no pieces has a fault.
use Rattle.std.proofs.Common.{◌≡◌, ◌<◌, ◌+◌, ◌-◌, ◌==◌, ◌⊎◌, inl, inr, ℕ, suc, zero, Bool, true, false, List, [], ◌∷◌, length, Option, Some, None, refl, sym, ap, subst, ◌∙◌, arith}
use Rattle.std.specs.Prelude.{slice_get, ◌&&◌}
use Rattle.std.specs.List.{list_all}
use Rattle.std.proofs.lemmas.Bool.{cases_Bool, cases_eq, cond-true, cond-false, eq-eqb, ne_eqb, true≢false}
use Rattle.std.proofs.lemmas.Option.{same_Some, slice_get_cases, slice_get_within}
use Rattle.defmt_grammar.specs.declared.fault.Cause.{Cause}
use Rattle.defmt_grammar.specs.declared.fault.Cause.TheVariants as causes
use Rattle.defmt_grammar.specs.declared.fault.Mode.{Mode}
use Rattle.defmt_grammar.specs.declared.piece.Piece.{Piece}
use Rattle.defmt_grammar.specs.declared.piece.Use.{Use}
use Rattle.defmt_grammar.specs.Grammar.{Token, SpellsTokens, joined, uses_of, Clash, FirstClash, NoClash, LacksBelow, HasGap, Spells, HasFault}
use Rattle.defmt_intern.specs.Pieces.{tokens_by, go_together, agree, occurs, all_occur, is_gapless}
use Rattle.defmt_intern.proofs.PieceLaws.{TokensAre, tokens_are, apart, agree-Decides, occurs-Decides, gap-Decides}

-- ---- the first clash

clashes : (u v : Use) → agree u v ≡ false → Clash u v
clashes u v e = elim (cases_eq u.param.position v.param.position) [
  | inl same ↦ (
      let is : agree u v ≡ go_together u.param.kind v.param.kind = cond-true (u.param.position == v.param.position) (go_together u.param.kind v.param.kind) true (eq-eqb u.param.position v.param.position same) in
      apart u v same (sym is ∙ e))
  | inr other ↦ absurd (
      let is : agree u v ≡ true = cond-false (u.param.position == v.param.position) (go_together u.param.kind v.param.kind) true (ne_eqb u.param.position v.param.position other) in
      true≢false (sym is ∙ e))
]

module _ (us : List Use) where
  -- one of the first n uses clashes with this one
  abbrev ClashBelow : ℕ → Use → Type 0
  ClashBelow n u = (j : ℕ) × (v : Use) × (j < n) × (slice_get us j ≡ Some v) × Clash v u

  abbrev NoneBelow : ℕ → Use → Type 0
  NoneBelow n u = (j : ℕ) (v : Use) → j < n → slice_get us j ≡ Some v → Clash v u → ⊥

  one_more : (n : ℕ) (u v : Use) → NoneBelow n u → slice_get us n ≡ Some v → (Clash v u → ⊥) → NoneBelow (suc n) u
  one_more n u v none there apart j w below is c = elim (cases_eq j n) [
    | inl same ↦ (
        let one : w ≡ v = same_Some w v (sym is ∙ ap (slice_get us) same ∙ there) in
        apart (subst (λ (x : Use). Clash x u) one c))
    | inr other ↦ none j w (omega (arith, below, other)) is c
  ]

  among : (n : ℕ) (u : Use) → ClashBelow n u ⊎ NoneBelow n u
  among zero u = inr (λ j v below there c. absurd (omega (arith, below)))
  among (suc n) u = elim (among n u) [
    | inl c ↦ inl (c.0, c.1, (let low = c.2 in omega (arith, low)), c.3, c.4)
    | inr none ↦ elim (slice_get_cases us n).1 [
      | inl p ↦ elim (cases_Bool (agree p.0 u)) [
        | inl e ↦ inr (one_more n u p.0 none p.2 ((agree-Decides p.0 u).0 e))
        | inr e ↦ inl (n, p.0, omega arith, p.2, clashes p.0 u e)
      ]
      | inr q ↦ inr (λ j v below there c. none j v (let past = q.0 in omega (arith, past, slice_get_within us j v there)) there c)
    ]
  ]

  -- no use in front of this place clashes with an earlier one
  abbrev FreeBelow : ℕ → Type 0
  FreeBelow n = (i j : ℕ) (u v : Use) → i < n → j < i → slice_get us i ≡ Some u → slice_get us j ≡ Some v → Clash v u → ⊥

  free_more : (n : ℕ) (w : Use) → FreeBelow n → slice_get us n ≡ Some w → NoneBelow n w → FreeBelow (suc n)
  free_more n w free there none i j u v low before at earlier c = elim (cases_eq i n) [
    | inl same ↦ (
        let one : u ≡ w = same_Some u w (sym at ∙ ap (slice_get us) same ∙ there) in
        none j v (omega (arith, before, same)) earlier (subst (λ (x : Use). Clash v x) one c))
    | inr other ↦ free i j u v (omega (arith, low, other)) before at earlier c
  ]

  first_from : (k n : ℕ) → length us ≡ k + n → FreeBelow n → ((at : ℕ) × FirstClash us at) ⊎ NoClash us
  first_from zero n e free = inr (λ i j u v before there earlier c. free i j u v (omega (arith, e, slice_get_within us i u there)) before there earlier c)
  first_from (suc k) n e free = elim (slice_get_cases us n).1 [
    | inl p ↦ elim (among n p.0) [
      | inl c ↦ inl (p.0.at, record { index = n; use_there = p.0; there = p.2; earlier = c.0; use_earlier = c.1; earlier_there = c.3; before = c.2; clash = c.4; first = free; place = refl })
      | inr none ↦ first_from k (suc n) (omega (arith, e)) (free_more n p.0 free p.2 none)
    ]
    | inr q ↦ absurd (let past = q.0 in omega (arith, past, e))
  ]

  first_clash : ((at : ℕ) × FirstClash us at) ⊎ NoClash us
  first_clash = first_from (length us) 0 (omega arith) (λ i j u v low before there earlier c. absurd (omega (arith, low)))

  -- ---- a gap

  lacks : (limit : ℕ) → all_occur us limit ≡ false → LacksBelow us limit
  lacks zero e = absurd (true≢false e)
  lacks (suc n) e = elim (cases_Bool (occurs us n)) [
    | inl is ↦ (
        let q = lacks n (sym (ap (λ (b : Bool). b && all_occur us n) is) ∙ e) in
        let low = q.1 in
        (q.0, omega (arith, low), q.2))
    | inr isnt ↦ (n, omega arith, λ o. true≢false (sym ((occurs-Decides us n).1 o) ∙ isnt))
  ]

not_all : (p : Use → Bool) (vs : List Use) → list_all p vs ≡ false → (i : ℕ) × (u : Use) × (slice_get vs i ≡ Some u) × (p u ≡ false)
not_all p [] e = absurd (true≢false e)
not_all p (v ∷ vs) e = elim (cases_Bool (p v)) [
  | inl is ↦ (let q = not_all p vs (sym (ap (λ (b : Bool). b && list_all p vs) is) ∙ e) in (suc q.0, q.1, q.2, q.3))
  | inr isnt ↦ (0, v, refl, isnt)
]

has_gap : (us : List Use) → is_gapless us ≡ false → HasGap us
has_gap us e = let q = not_all (λ u. all_occur us u.param.position) us e in (q.0, q.1, q.2, lacks us q.1.param.position q.3)

-- ---- texts

abbrev pub IsJudged : Mode → List ℕ → Type 0
IsJudged mode text = ((ps : List Piece) × Spells text mode ps) ⊎ ((cause : Cause) × (at : ℕ) × HasFault text mode cause at)

by_gap : (mode : Mode) (text : List ℕ) (ts : List Token) (after : ℕ) → SpellsTokens mode (length text) 0 text ts after [] → NoClash (uses_of ts) → (b : Bool) → is_gapless (uses_of ts) ≡ b → IsJudged mode text
by_gap mode text ts after spelled none true e =
    inl (joined ts, record { tokens = ts; after = after; spelled = spelled; joins = refl; no_clash = none; no_gap = (gap-Decides (uses_of ts)).0 e })
by_gap mode text ts after spelled none false e =
    inr (causes.Gap, length text, inr (inr (record { tokens = ts; after = after; spelled = spelled; no_clash = none; gap = has_gap (uses_of ts) e; cause_is = refl; place = refl })))

by_tokens : (mode : Mode) (text : List ℕ) (o : Option (List Token)) → TokensAre mode (length text) 0 text o → IsJudged mode text
by_tokens mode text (Some ts) w = elim (first_clash (uses_of ts)) [
  | inl c ↦ inr (causes.Conflict, c.0, inr (inl (record { tokens = ts; after = w.0; spelled = w.1; clash = c.1; cause_is = refl })))
  | inr none ↦ by_gap mode text ts w.0 w.1 none (is_gapless (uses_of ts)) refl
]
by_tokens mode text None b =
    inr (b.fault.cause, length text - length b.rest + b.fault.at, inl (record { tokens = b.tokens; after = b.after; rest = b.rest; spelled = b.spelled; fault = b.fault; has = b.has; cause_is = refl; place = refl }))

pub judged : (mode : Mode) (text : List ℕ) → IsJudged mode text
judged mode text = by_tokens mode text (tokens_by (length text) mode (length text) 0 text) (tokens_are (length text) mode (length text) 0 text (omega arith))

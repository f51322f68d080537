-- Each text spells pieces or has a first fault: the reader of format strings, followed on lists.
use Rattle.std.proofs.Common.{◌≡◌, ◌<◌, ◌≤◌, ◌+◌, ◌-◌, ◌⊎◌, inl, inr, ℕ, zero, suc, List, [], ◌∷◌, ◌++◌, length, map, set, take, get_or, replicate, Option, Some, None, Result, Ok, Err, refl, sym, ap, ◌∙◌, arith}
use Rattle.std.specs.Prelude.{slice_get}
use Rattle.std.proofs.lemmas.Bool.{cases_eq, cases_lt}
use Rattle.std.proofs.lemmas.List.{length-set}
use Rattle.std.proofs.lemmas.Option.{none-some, same_Some, slice_get_within}
use Rattle.defmt_grammar.specs.declared.fault.Cause.{Cause}
use Rattle.defmt_grammar.specs.declared.fault.Cause.TheVariants as causes
use Rattle.defmt_grammar.specs.declared.fault.Fault.{Fault}
use Rattle.defmt_grammar.specs.declared.fault.Mode.{Mode}
use Rattle.defmt_grammar.specs.declared.hint.Hint.TheVariants.{Plain}
use Rattle.defmt_grammar.specs.declared.kind.Kind.TheVariants.{Format}
use Rattle.defmt_grammar.specs.declared.piece.Piece.{Piece}
use Rattle.defmt_grammar.specs.declared.piece.Use.{Use}
use Rattle.defmt_grammar.specs.declared.positions.Held.{Held}
use Rattle.defmt_grammar.specs.Grammar.{Token, char, hole, HasFault, HasTokenFault, FirstClash, Spells, SpellsTokens, joined, uses_of}
use Rattle.defmt_grammar.specs.Positions.{AllFit, IsTable, IsTableOf, UnusedFrom, UsedFrom, front, params_in}
use Rattle.defmt_grammar.specs.Reading.{IsRead}
use Rattle.defmt_grammar.specs.Step.{Read, step_of}
use Rattle.defmt_grammar.specs.Step as steps
use Rattle.defmt_grammar.proofs.PiecesLaws.{clash_read, fit_read, gap_read, spells_read}
use Rattle.defmt_grammar.proofs.ReadingLaws.{run_shorter}
use Rattle.defmt_grammar.proofs.StepLaws.{StepSpells, step_fails, step_spells, then_tokens, token_shorter}
use Rattle.defmt_grammar.proofs.Tables.{NoClashBefore, clash_step, empty_table, is_at, no_clash_step, table_done, table_step}
use Rattle.defmt_lines.proofs.SomeKinds.{use_joins}

-- ---- tokens

module _ (text : List ℕ) (mode : Mode) where
  -- the tokens up to the end, or up to the first fault
  abbrev HasTokens : Type 0
  HasTokens = ((tokens : List Token) × (after : ℕ) × SpellsTokens mode (length text) 0 text tokens after [])
      ⊎ ((tokens : List Token) × (after : ℕ) × (rest : List ℕ) × (fault : Fault) × SpellsTokens mode (length text) 0 text tokens after rest × HasTokenFault mode after rest fault)

  abbrev Goes : ℕ → Type 0
  Goes n = (next : ℕ) (rest : List ℕ) (tokens : List Token) → length rest ≤ n → SpellsTokens mode (length text) 0 text tokens next rest → HasTokens

  behind_step : (n next : ℕ) (rest : List ℕ) (tokens : List Token) (p : Read × List ℕ) → StepSpells mode (length text) next rest p → length rest ≤ suc n → SpellsTokens mode (length text) 0 text tokens next rest → Goes n → HasTokens
  behind_step n next rest tokens (steps.run cs, after) s le h go =
      go next after (tokens ++ map char cs) (omega (arith, le, run_shorter mode (length text) next rest cs after s)) (then_tokens mode (length text) 0 next next text rest after tokens (map char cs) h s.1)
  behind_step n next rest tokens (steps.hole param more, after) s le h go =
      let t : Token = hole (length text - length rest) param in
      go more after (tokens ++ t ∷ []) (omega (arith, le, token_shorter mode (length text) next rest t more after s)) (then_tokens mode (length text) 0 next more text rest after tokens (t ∷ []) h (more, after, s, (refl, refl)))

  at_step : (n next : ℕ) (rest : List ℕ) (tokens : List Token) (r : Result (Read × List ℕ) Fault) → step_of mode next rest ≡ r → 0 < length rest → length rest ≤ suc n → SpellsTokens mode (length text) 0 text tokens next rest → Goes n → HasTokens
  at_step n next rest tokens (Err fault) e some le h go = inr (tokens, next, rest, fault, h, step_fails mode next rest fault some e)
  at_step n next rest tokens (Ok p) e some le h go = behind_step n next rest tokens p (step_spells mode (length text) next rest p e) le h go

  tokens_from : (n : ℕ) → Goes n
  tokens_from n next [] tokens le h = inl (tokens, next, h)
  tokens_from zero next (c ∷ cs) tokens le h = absurd (omega (arith, le))
  tokens_from (suc n) next (c ∷ cs) tokens le h = at_step n next (c ∷ cs) tokens (step_of mode next (c ∷ cs)) refl (omega arith) le h (tokens_from n)

  some_tokens : HasTokens
  some_tokens = tokens_from (length text) 0 text [] (omega arith) (refl, refl)

-- ---- the table of positions

module _ (us : List Use) (fit : AllFit us) where
  abbrev HasTable : Type 0
  HasTable = ((table : List (Option Held)) × IsTableOf table us) ⊎ ((at : ℕ) × FirstClash us at)

  no_use : Use
  no_use = record { at = 0; param = record { position = 0; kind = Format; hint = Plain } }

  table_from : (n i : ℕ) (table : List (Option Held)) → i ≤ length us → length us ≤ n + i → IsTable table (params_in (take i us)) → length table ≡ 16 → NoClashBefore us i → HasTable
  table_from zero i table low high t size none = inl (table, table_done table us i (omega (arith, low, high)) t size none)
  table_from (suc n) i table low high t size none = elim (cases_lt i (length us)) [
    | inr le ↦ inl (table, table_done table us i (omega (arith, low, le)) t size none)
    | inl lt ↦ (
        let u : Use = get_or us i no_use in
        let place : ℕ = u.param.position in
        let entry : Option Held = get_or table place None in
        let at = is_at table us i no_use place None fit t size lt refl in
        elim (use_joins entry u.param.kind) [
          | inl more ↦ table_from n (i + 1) (set table place (Some more.0)) (omega (arith, lt)) (omega (arith, high)) (table_step table us i no_use place entry more.0 at lt more.1) (length-set table place (Some more.0) ∙ size) (no_clash_step table us i u place entry more.0 at more.1 none)
          | inr clash ↦ inr (u.at, clash_step table us i u place entry at clash none)
        ])
  ]

  some_table : HasTable
  some_table = table_from (length us) 0 (replicate 16 None) (omega arith) (omega arith) (empty_table 16) refl (λ k j w v lt. absurd (omega (arith, lt)))

module _ (table : List (Option Held)) (from : ℕ) where
  abbrev UnusedBelow : ℕ → Type 0
  UnusedBelow n = (position : ℕ) (held : Held) → position < n → from ≤ position → slice_get table position ≡ Some (Some held) → ⊥

  none_here : (n : ℕ) → UnusedBelow n → ((held : Held) → from ≤ n → slice_get table n ≡ Some (Some held) → ⊥) → UnusedBelow (suc n)
  none_here n below here position held lt le e = elim (cases_eq position n) [
    | inl same ↦ here held (omega (arith, le, same)) (ap (slice_get table) (sym same) ∙ e)
    | inr other ↦ below position held (omega (arith, lt, other)) le e
  ]

  used_at : (n : ℕ) (o : Option (Option Held)) → slice_get table n ≡ o → UnusedBelow n → UsedFrom table from ⊎ UnusedBelow (suc n)
  used_at n None e below = inr (none_here n below (λ held le h. none-some (Some held) (sym e ∙ h)))
  used_at n (Some None) e below = inr (none_here n below (λ held le h. none-some held (same_Some None (Some held) (sym e ∙ h))))
  used_at n (Some (Some held)) e below = elim (cases_lt n from) [
    | inl lt ↦ inr (none_here n below (λ other le h. absurd (omega (arith, lt, le))))
    | inr le ↦ inl (n, held, le, e)
  ]

  used_below : (n : ℕ) → UsedFrom table from ⊎ UnusedBelow n
  used_below zero = inr (λ position held lt. absurd (omega (arith, lt)))
  used_below (suc n) = elim (used_below n) [
    | inl used ↦ inl used
    | inr below ↦ used_at n (slice_get table n) refl below
  ]

  some_use : UsedFrom table from ⊎ UnusedFrom table from
  some_use = elim (used_below (length table)) [
    | inl used ↦ inl used
    | inr below ↦ inr (λ position held le e. below position held (slice_get_within table position (Some held) e) le e)
  ]

-- ---- texts

module _ (text : List ℕ) (mode : Mode) where
  abbrev pub HasAnswer : Type 0
  HasAnswer = ((ps : List Piece) × Spells text mode ps) ⊎ ((cause : Cause) × (at : ℕ) × HasFault text mode cause at)

  of_table : (ps : List Piece) (us : List Use) (table : List (Option Held)) → IsRead text mode ps us → IsTableOf table us → HasAnswer
  of_table ps us table r t = elim (some_use table (length (front table))) [
    | inl used ↦ inr (causes.Gap, length text, gap_read text mode ps us table r t used)
    | inr unused ↦ inl (ps, spells_read text mode ps us table r t unused)
  ]

  of_uses : (ps : List Piece) (us : List Use) → IsRead text mode ps us → HasAnswer
  of_uses ps us r = elim (some_table us (fit_read text mode ps us r)) [
    | inl t ↦ of_table ps us t.0 r t.1
    | inr clash ↦ inr (causes.Conflict, clash.0, clash_read text mode ps us clash.0 r clash.1)
  ]

  -- it spells pieces or has a fault
  pub some_answer : HasAnswer
  some_answer = elim (some_tokens text mode) [
    | inl r ↦ of_uses (joined r.0) (uses_of r.0) (record { tokens = r.0; after = r.1; spelled = r.2; joins = refl; uses_are = refl })
    | inr f ↦ inr (f.3.cause, length text - length f.2 + f.3.at, inl (record { tokens = f.0; after = f.1; rest = f.2; spelled = f.4; fault = f.3; has = f.5; cause_is = refl; place = refl }))
  ]

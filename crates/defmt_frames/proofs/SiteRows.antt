-- Rows of sites, each at the index of its string.
use Rattle.std.proofs.Common.{◌≡◌, ◌<◌, ℕ, zero, suc, cond, true, false, List, [], ◌∷◌, ◌++◌, length, get_or, set, Bor, Option, Some, None, is_eq, is_some, nat_cmp, option_copied, refl, ap, ◌∙◌, inl, inr, arith}
use Rattle.std.proofs.lemmas.Bool.{cases_eq}
use Rattle.std.proofs.lemmas.Bool.Decides.{nat_tests}
use Rattle.std.proofs.lemmas.List.{get_or-set_same, get_or-set_other}
use Rattle.defmt_frames.specs.Sites.{IsPut, row_at}
use Rattle.defmt_macros.specs.declared.site.Site.{Site}

-- an empty row behind the others changes none
pub grown : (rows : List (Option Site)) (q : ℕ) → row_at (rows ++ None ∷ []) q ≡ row_at rows q
grown [] zero = refl
grown [] (suc q) = refl
grown (row ∷ rows) zero = refl
grown (row ∷ rows) (suc q) = grown rows q

-- a site that is put into its row
row_set : (rows : List (Option Site)) (at : ℕ) (site : Site) → at < length rows → IsPut rows at site (set rows at (Some site))
row_set rows at site lt q = elim (cases_eq q at) [
  | inl same ↦
      let t : is_eq (nat_cmp at q) ≡ true = grind (arith, nat_tests) in
      rw t (ap (λ (i : ℕ). get_or (set rows at (Some site)) i None) same ∙ get_or-set_same rows at (Some site) None lt)
  | inr other ↦
      let f : is_eq (nat_cmp at q) ≡ false = grind (arith, nat_tests) in
      rw f (get_or-set_other rows at q (Some site) None other)
]

pub row_put : (old wide : List (Option Site)) (at : ℕ) (site : Site) → at < length wide → ((q : ℕ) → row_at wide q ≡ row_at old q) → IsPut old at site (set wide at (Some site))
row_put old wide at site lt same q =
    row_set wide at site lt q ∙ ap (λ (row : Option Site). cond (is_eq (nat_cmp at q)) (Some site) row) (same q)

-- there is a site where it can be lent
pub copied_some : (o : Option (Bor Site)) → is_some (option_copied o) ≡ is_some o
copied_some None = refl
copied_some (Some site) = refl

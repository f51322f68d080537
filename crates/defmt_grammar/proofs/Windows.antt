-- A window holds all bit fields of its position.
use Rattle.std.proofs.Common.{◌≡◌, ◌<◌, ◌≤◌, ◌+◌, ◌-◌, ◌*◌, ◌/◌, ℕ, Bool, true, false, cond, eqb, List, [], ◌∷◌, min, refl, sym, ap, subst, ◌∙◌, arith, inl, inr}
use Rattle.std.specs.Prelude.{slice_get, All}
use Rattle.std.specs.List.{AllByRecursion}
use Rattle.std.proofs.lemmas.Bool.{cases_lt}
use Rattle.std.proofs.lemmas.Bool.Decides.{nat_tests}
use Rattle.std.proofs.lemmas.Option.{same_Some}
use Rattle.std.proofs.lemmas.List.Elements.{All-from_recursion}
use Rattle.defmt_grammar.specs.declared.kind.Kind.{Kind}
use Rattle.defmt_grammar.specs.declared.kind.Kind.TheVariants as kinds
use Rattle.defmt_grammar.specs.declared.piece.Use.{Use}
use Rattle.defmt_grammar.specs.declared.slot.Slot.{Slot}
use Rattle.defmt_grammar.specs.Grammar.{IsBits, Clash, NoClash}
use Rattle.defmt_grammar.specs.Slots.{kinds_at, least_start, greatest_end, raised, bytes_between, window, slot_of, HoldsRange, HoldsField}
use Rattle.defmt_grammar.specs.Positions.{KindFits, AllFit, Apart, params_in}
use Rattle.defmt_grammar.proofs.KindsAt.{Among, IsUse, among_use}

-- ---- a window holds the bits that it is made for

raised_enough : (count : ℕ) → count ≤ 16 → count ≤ raised count
raised_enough count h = grind (arith, nat_tests)

pub raised_within : (count : ℕ) → raised count ≤ 16
raised_within count = grind (arith, nat_tests)

holds_within : (start end width lo hi : ℕ) → start ≤ lo → hi ≤ end → lo < hi → end ≤ 128 → (end - 1) / 8 + 1 - start / 8 ≤ width → width ≤ 16 → (8 * min (start / 8) (16 - width) ≤ lo) × (hi ≤ 8 * (min (start / 8) (16 - width) + width))
holds_within start end width lo hi a b c d e f = (omega arith, omega arith)

pub window_holds : (start end lo hi : ℕ) → start ≤ lo → hi ≤ end → lo < hi → end ≤ 128 → HoldsRange (window start end) lo hi
window_holds start end lo hi a b c d = holds_within start end (raised (bytes_between start end)) lo hi a b c d (raised_enough (bytes_between start end) (omega arith)) (raised_within (bytes_between start end))

-- ---- the least start and the greatest end

least_below : (ks : List Kind) (lo hi : ℕ) → Among (kinds.Bits lo hi) ks → least_start ks ≤ lo
unfolding least_start
least_below [] lo hi a = absurd a
least_below (kinds.Bits l h ∷ ks) lo hi (inl e) = let same : lo ≡ l = cc in omega arith
least_below (kinds.Bits l h ∷ ks) lo hi (inr a) = let rest = least_below ks lo hi a in omega arith
least_below (kind ∷ ks) lo hi (inl e) = absurd cc
least_below (kind ∷ ks) lo hi (inr a) = least_below ks lo hi a

greatest_above : (ks : List Kind) (lo hi : ℕ) → Among (kinds.Bits lo hi) ks → hi ≤ greatest_end ks
unfolding greatest_end
greatest_above [] lo hi a = absurd a
greatest_above (kinds.Bits l h ∷ ks) lo hi (inl e) = let same : hi ≡ h = cc in omega arith
greatest_above (kinds.Bits l h ∷ ks) lo hi (inr a) = let rest = greatest_above ks lo hi a in omega arith
greatest_above (kind ∷ ks) lo hi (inl e) = absurd cc
greatest_above (kind ∷ ks) lo hi (inr a) = greatest_above ks lo hi a

greatest_within : (ks : List Kind) → AllByRecursion KindFits ks → greatest_end ks ≤ 128
unfolding greatest_end
greatest_within [] f = omega arith
greatest_within (kinds.Bits l h ∷ ks) f = let rest = greatest_within ks f.1 in let own = f.0.1 in omega arith
greatest_within (kind ∷ ks) f = greatest_within ks f.1

fits_among : (kind : Kind) (ks : List Kind) → AllByRecursion KindFits ks → Among kind ks → KindFits kind
fits_among kind [] f a = absurd a
fits_among kind (k ∷ ks) f (inl e) = subst KindFits (sym e) f.0
fits_among kind (k ∷ ks) f (inr a) = fits_among kind ks f.1 a

-- no two of the kinds are apart
abbrev pub NoneApart : List Kind → Type 0
NoneApart ks = (k x : Kind) → Among k ks → Among x ks → Apart k x → ⊥

pub field_held : (ks : List Kind) (lo hi : ℕ) → AllByRecursion KindFits ks → NoneApart ks → Among (kinds.Bits lo hi) ks → HoldsRange (slot_of ks) lo hi
unfolding slot_of
field_held [] lo hi f n a = absurd a
field_held (kinds.Bits l h ∷ ks) lo hi f n a =
    window_holds (least_start (kinds.Bits l h ∷ ks)) (greatest_end (kinds.Bits l h ∷ ks)) lo hi (least_below (kinds.Bits l h ∷ ks) lo hi a) (greatest_above (kinds.Bits l h ∷ ks) lo hi a) (fits_among (kinds.Bits lo hi) (kinds.Bits l h ∷ ks) f a).0 (greatest_within (kinds.Bits l h ∷ ks) f)
field_held (kind ∷ ks) lo hi f n a = absurd (n kind (kinds.Bits lo hi) (inl refl) a (λ e. cc, λ b c. b))

-- ---- the kinds of a position

kept : (b : Bool) (k : Kind) (ks : List Kind) → KindFits k → AllByRecursion KindFits ks → AllByRecursion KindFits (cond b (k ∷ ks) ks)
kept true k ks h f = (h, f)
kept false k ks h f = f

pub kinds_fit : (position : ℕ) (us : List Use) → AllFit us → AllByRecursion KindFits (kinds_at position (params_in us))
unfolding kinds_at
kinds_fit position [] f = tt
kinds_fit position (u ∷ us) f = kept (eqb u.param.position position) u.param.kind (kinds_at position (params_in us)) f.0.kind (kinds_fit position us f.1)

clash_of : (us : List Use) (position : ℕ) (k x : Kind) (a : IsUse us position k) (b : IsUse us position x) → Apart k x → Clash a.use_there b.use_there
clash_of us position k x a b p = record {
  position = a.position_is ∙ sym b.position_is;
  kind = λ e. p.0 (sym a.kind_is ∙ e ∙ b.kind_is);
  no_bits = λ y z. p.1 (subst IsBits a.kind_is y) (subst IsBits b.kind_is z);
}

pub none_apart : (position : ℕ) (us : List Use) → NoClash us → NoneApart (kinds_at position (params_in us))
none_apart position us n k x a b p =
    let first = among_use position us k a in
    let second = among_use position us x b in
    elim (cases_lt first.index second.index) [
      | inl lt ↦ n second.index first.index second.use_there first.use_there lt second.there first.there (clash_of us position k x first second p)
      | inr le ↦ elim (cases_lt second.index first.index) [
        | inl lt ↦ n first.index second.index first.use_there second.use_there lt first.there second.there (clash_of us position x k second first (λ e. p.0 (sym e), λ y z. p.1 z y))
        | inr ge ↦ p.0 (sym first.kind_is ∙ ap (λ (u : Use). u.param.kind) (same_Some first.use_there second.use_there (sym first.there ∙ ap (slice_get us) (let same : first.index ≡ second.index = omega arith in same) ∙ second.there)) ∙ second.kind_is)
      ]
    ]

each_held : (ks : List Kind) (slot : Slot) → ((lo hi : ℕ) → Among (kinds.Bits lo hi) ks → HoldsRange slot lo hi) → AllByRecursion (HoldsField slot) ks
each_held [] slot h = tt
each_held (k ∷ ks) slot h = (own k refl, each_held ks slot (λ lo hi a. h lo hi (inr a)))
  where
    own : (kind : Kind) → kind ≡ k → HoldsField slot kind
    own (kinds.Bits lo hi) e = h lo hi (inl e)
    own kind e = tt

pub fields_held : (position : ℕ) (us : List Use) → AllFit us → NoClash us → All (HoldsField (slot_of (kinds_at position (params_in us)))) (kinds_at position (params_in us))
fields_held position us f n =
    let ks = kinds_at position (params_in us) in
    All-from_recursion (HoldsField (slot_of ks)) ks (each_held ks (slot_of ks) (λ lo hi a. field_held ks lo hi (kinds_fit position us f) (none_apart position us n) a))

-- The kind of several uses of one position.
use Rattle.std.proofs.Common.{◌≡◌, ◌<◌, ◌≤◌, ℕ, List, [], ◌∷◌, ◌++◌, length-append, Option, Some, None, refl, sym, ap, subst, ◌∙◌, arith, ◌⊎◌, inl, inr, min, max}
use Rattle.std.specs.List.{AllByRecursion}
use Rattle.std.proofs.lemmas.Option.{same_Some}
use Rattle.defmt_grammar.specs.declared.kind.Kind.{Kind}
use Rattle.defmt_grammar.specs.declared.kind.Kind.TheVariants as kinds
use Rattle.defmt_grammar.specs.declared.positions.Held.{Held}
use Rattle.defmt_grammar.specs.Grammar.{IsBits}
use Rattle.defmt_grammar.specs.Slots.{least_start, greatest_end, slot_of, window}
use Rattle.defmt_grammar.specs.Positions.{KindFits, BitsFit, span_of, Apart, IsJoined, AllAre, IsSpan, IsJoint, Holds, EntryIs, HoldsMore, held_slot, slot_for}
use Rattle.defmt_grammar.proofs.KindsAt.{Among}

-- ---- one kind more

least_start-push : (ks : List Kind) (lo hi : ℕ) → lo < 128 → least_start (ks ++ kinds.Bits lo hi ∷ []) ≡ min lo (least_start ks)
unfolding least_start
least_start-push [] lo hi h = omega arith
least_start-push (kinds.Bits l k ∷ ks) lo hi h = let e = least_start-push ks lo hi h in omega (arith, e)
least_start-push (kind ∷ ks) lo hi h = least_start-push ks lo hi h

greatest_end-push : (ks : List Kind) (lo hi : ℕ) → greatest_end (ks ++ kinds.Bits lo hi ∷ []) ≡ max hi (greatest_end ks)
unfolding greatest_end
greatest_end-push [] lo hi = omega arith
greatest_end-push (kinds.Bits l k ∷ ks) lo hi = let e = greatest_end-push ks lo hi in omega (arith, e)
greatest_end-push (kind ∷ ks) lo hi = greatest_end-push ks lo hi

all_push : (P : Kind → Type 0) (ks : List Kind) (k : Kind) → AllByRecursion P ks → P k → AllByRecursion P (ks ++ k ∷ [])
all_push P [] k h p = (p, tt)
all_push P (x ∷ ks) k h p = (h.0, all_push P ks k h.1 p)

pub span_more : (lo hi low high : ℕ) (ks : List Kind) → IsSpan lo hi ks → low < high → high ≤ 128 → IsSpan (min lo low) (max hi high) (ks ++ kinds.Bits low high ∷ [])
span_more lo hi low high ks s a b = record {
  bits = all_push IsBits ks (kinds.Bits low high) s.bits tt;
  start = (let e = least_start-push ks low high (omega arith) in let f = s.start in omega (arith, e, f));
  end = (let e = greatest_end-push ks low high in let f = s.end in omega (arith, e, f));
  ordered = (let o = s.ordered in omega arith);
  within = (let w = s.within in omega arith);
}

spanned : (first kind more : Kind) (ks : List Kind) → span_of first kind ≡ Some more → IsJoint first ks → KindFits kind → IsJoint more (ks ++ kind ∷ [])
spanned (kinds.Bits lo hi) (kinds.Bits low high) more ks e j f = subst (λ (k : Kind). IsJoint k (ks ++ kinds.Bits low high ∷ [])) (same_Some (kinds.Bits (min lo low) (max hi high)) more e) (span_more lo hi low high ks j f.0 f.1)
spanned (kinds.Bits lo hi) kind more ks e j f = absurd cc
spanned first kind more ks e j f = absurd cc

same_span : (lo hi : ℕ) (ks : List Kind) → IsSpan lo hi ks → IsSpan lo hi (ks ++ kinds.Bits lo hi ∷ [])
same_span lo hi ks s =
    let more = span_more lo hi lo hi ks s s.ordered s.within in
    record {
      bits = more.bits;
      start = (let e = more.start in omega (arith, e));
      end = (let e = more.end in omega (arith, e));
      ordered = s.ordered;
      within = s.within;
    }

same_joint : (kind : Kind) (ks : List Kind) → IsJoint kind ks → IsJoint kind (ks ++ kind ∷ [])
same_joint (kinds.Bits lo hi) ks j = same_span lo hi ks j
same_joint kind ks j = all_push (λ k. k ≡ kind) ks kind j refl

pub joint_more : (first kind more : Kind) (ks : List Kind) → IsJoined first kind more → IsJoint first ks → KindFits kind → IsJoint more (ks ++ kind ∷ [])
joint_more first kind more ks (inl e) j f = spanned first kind more ks e j f
joint_more first kind more ks (inr (e, m)) j f = subst (λ (k : Kind). IsJoint k (ks ++ kind ∷ [])) (sym m) (subst (λ (k : Kind). IsJoint first (ks ++ k ∷ [])) e (same_joint first ks j))

joint_one : (kind : Kind) → KindFits kind → IsJoint kind (kind ∷ [])
unfolding least_start greatest_end
joint_one (kinds.Bits lo hi) f = record { bits = (tt, tt); start = (let a = f.0 in let b = f.1 in omega arith); end = omega arith; ordered = f.0; within = f.1 }
joint_one kind f = (refl, tt)

pub holds_more : (entry : Option Held) (kind : Kind) (more : Held) (ks : List Kind) → EntryIs entry ks → KindFits kind → HoldsMore entry kind more → Holds more (ks ++ kind ∷ [])
holds_more None kind more ks h f m =
    rw (h, m) (let j = joint_one kind f in record { some = omega arith; uses = refl; kind = j })
holds_more (Some held) kind more ks h f m = record {
  some = omega (arith, length-append ks (kind ∷ []));
  uses = (let e = h.uses in let g = m.1 in omega (arith, length-append ks (kind ∷ []), e, g));
  kind = joint_more held.kind kind more.kind ks m.0 h.kind f;
}

-- ---- kinds that don't go together

bits_among : (kind : Kind) (ks : List Kind) → AllByRecursion IsBits ks → Among kind ks → IsBits kind
bits_among kind [] h a = absurd a
bits_among kind (k ∷ ks) h (inl e) = subst IsBits (sym e) h.0
bits_among kind (k ∷ ks) h (inr a) = bits_among kind ks h.1 a

same_among : (kind : Kind) (k : Kind) (ks : List Kind) → AllAre k ks → Among kind ks → kind ≡ k
same_among kind k [] h a = absurd a
same_among kind k (x ∷ ks) h (inl e) = e ∙ h.0
same_among kind k (x ∷ ks) h (inr a) = same_among kind k ks h.1 a

-- all kinds of the uses are bit fields, or each is the joint kind
joint_cases : (first : Kind) (ks : List Kind) → IsJoint first ks → (IsBits first × AllByRecursion IsBits ks) ⊎ AllAre first ks
joint_cases (kinds.Bits lo hi) ks j = inl (tt, j.bits)
joint_cases first ks j = inr j

span_bits : (first kind more : Kind) → span_of first kind ≡ Some more → IsBits first × IsBits kind
span_bits (kinds.Bits lo hi) (kinds.Bits low high) more e = (tt, tt)
span_bits (kinds.Bits lo hi) kind more e = absurd cc
span_bits first kind more e = absurd cc

-- a kind with a joint one is apart from none
pub joined_near : (first kind more k : Kind) (ks : List Kind) → IsJoined first kind more → IsJoint first ks → Among k ks → Apart k kind → ⊥
joined_near first kind more k ks m j a p = elim (joint_cases first ks j) [
  | inl b ↦ p.1 (bits_among k ks b.1 a) (second_bits m b.0)
  | inr s ↦ same_near m (same_among k first ks s a)
]
  where
    second_bits : IsJoined first kind more → IsBits first → IsBits kind
    second_bits (inl e) b = (span_bits first kind more e).1
    second_bits (inr (e, q)) b = subst IsBits e b

    same_near : IsJoined first kind more → k ≡ first → ⊥
    same_near (inl e) q = p.1 (subst IsBits (sym q) (span_bits first kind more e).0) (span_bits first kind more e).1
    same_near (inr (e, r)) q = p.0 (q ∙ e)

-- a kind that is apart from the joint one is apart from each
pub apart_from : (first kind k : Kind) (ks : List Kind) → Apart first kind → IsJoint first ks → Among k ks → Apart k kind
apart_from first kind k ks p j a = elim (joint_cases first ks j) [
  | inl b ↦ (λ e. p.1 b.0 (subst IsBits e (bits_among k ks b.1 a)), λ x y. p.1 b.0 y)
  | inr s ↦ (λ e. p.0 (sym (same_among k first ks s a) ∙ e), λ x y. p.1 (subst IsBits (same_among k first ks s a) x) y)
]

-- ---- slots

slot_other : (first k : Kind) (ks : List Kind) → k ≡ first → slot_for first ≡ slot_of (first ∷ ks) → slot_for first ≡ slot_of (k ∷ ks)
slot_other first k ks e h = h ∙ ap (λ (x : Kind). slot_of (x ∷ ks)) (sym e)

slot_joint : (first k : Kind) (ks : List Kind) → IsJoint first (k ∷ ks) → slot_for first ≡ slot_of (k ∷ ks)
unfolding slot_of
slot_joint (kinds.Bits lo hi) (kinds.Bits low high) ks j = ap (λ (n : ℕ). window n hi) j.start ∙ ap (λ (n : ℕ). window (least_start (kinds.Bits low high ∷ ks)) n) j.end
slot_joint (kinds.Bits lo hi) k ks j = absurd j.bits.0
slot_joint first k ks j = slot_other first k ks j.0 refl

pub slot_held : (held : Held) (ks : List Kind) → Holds held ks → held_slot held ≡ slot_of ks
slot_held held [] h = absurd (let s = h.some in omega arith)
slot_held held (k ∷ ks) h = slot_joint held.kind k ks h.kind

pub joint_fits : (first : Kind) (ks : List Kind) → IsJoint first ks → BitsFit first
joint_fits (kinds.Bits lo hi) ks j = (j.ordered, j.within)
joint_fits first ks j = tt

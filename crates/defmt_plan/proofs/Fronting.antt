-- What stands in front of a statement's text.
use Rattle.std.proofs.Common.{◌≡◌, ◌≤◌, ℕ, List, ◌++◌, length, codes, sym, ap, subst, ◌∙◌, arith, append_assoc, length-append, Option, Some, None}
use Rattle.defmt_intern.specs.Stamp.{stamp_of}
use Rattle.defmt_intern.specs.Table.{Map}
use Rattle.defmt_values.specs.Plain.{Vals}
use Rattle.defmt_eager.specs.Line.{front_text, stamp_text, stamp_space}
use Rattle.defmt_hints.proofs.Chains.{written_end, kept_written, kept_two}
use Rattle.defmt_hints.specs.Written.{Kept, Written}
use Rattle.defmt_eager.specs.Answers.{Placed}
use Rattle.defmt_plan.proofs.Placing.{placed_two}
use Rattle.defmt_plan.specs.Plans.{IsFront, lead_text}
use Rattle.defmt_plan.specs.Told.{Fronts, Lined}

-- what a front that is written leaves: where the text begins, and what stood in front of the stamp
pub record IsFronted (old fronted : List ℕ) (at k : ℕ) : Type 0 where
  pub within : k ≤ length fronted
  pub behind : at ≤ k
  pub kept : Kept old at fronted

some_is : {A : Type 0} (x y : A) → Some x ≡ Some y → x ≡ y
some_is x y e = cc

pub fronted : (front : Option (List ℕ)) (stamp : List ℕ) (old mid new : List ℕ) (at m k : ℕ) → at ≤ length old → Written old at mid m stamp → Fronts front (Some k) mid m at new → IsFronted old new at k
fronted (Some front) stamp old mid new at m k le v w =
    let within : m ≤ length mid = omega (arith, v.within, v.long) in
    record {
      within = omega (arith, w.written.within, w.written.long);
      behind = omega (arith, written_end old mid at m stamp le v, written_end mid new m k front within w.written);
      kept = kept_two old mid new at m (omega (arith, written_end old mid at m stamp le v)) (kept_written old mid at m stamp le v) (kept_written mid new m k front within w.written);
    }
fronted None stamp old mid new at m k le v w =
    let same : k ≡ at = some_is k at w.0 in
    let kept : Kept old at mid = kept_written old mid at m stamp le v in
    record {
      within = omega (arith, same, le, ap length w.1, kept.long);
      behind = omega (arith, same);
      kept = subst (λ (x : List ℕ). Kept old at x) (sym w.1) kept;
    }

-- a front that isn't written
pub front_fails : (front : Option (List ℕ)) (stamp : List ℕ) (old mid new : List ℕ) (at m : ℕ) → at ≤ length old → Written old at mid m stamp → Fronts front None mid m at new → Kept old at new
front_fails (Some front) stamp old mid new at m le v k = kept_two old mid new at m (omega (arith, written_end old mid at m stamp le v)) (kept_written old mid at m stamp le v) k.kept
front_fails None stamp old mid new at m le v k = absurd (cc k.0)

-- the literal in front of the rest stands within what is written
pub lead_within : (t : Map) (level lead front : Option (List ℕ)) (mid begun : List ℕ) (at m k : ℕ) → m ≤ length mid → IsFront t level lead front → Fronts front (Some k) mid m at begun → length (lead_text lead) ≤ k
lead_within t (Some level) lead front mid begun at m k le e f =
    let space : List ℕ = stamp_space (stamp_of t) in
    let behind : List ℕ = level ++ codes " " in
    let whole : List ℕ = space ++ (behind ++ lead_text lead) in
    let written : Placed mid m begun k whole = subst (λ (x : Option (List ℕ)). Fronts x (Some k) mid m at begun) e f in
    omega (arith, written_end mid begun m k whole le written.written, length-append space (behind ++ lead_text lead), length-append behind (lead_text lead))
lead_within t None lead front mid begun at m k le e f = let none : length (lead_text lead) ≡ 0 = ap (λ (l : Option (List ℕ)). length (lead_text l)) e.0 in omega (arith, none)

lined : {old new line : List ℕ} {at end : ℕ} → Placed old at new end line → Lined old at new end line
lined p = record { long = p.written.long; within = p.written.within; written = p.written.written; utf8 = p.utf8 }

-- the line behind the stamp's text
pub line_written : (t : Map) (level lead front : Option (List ℕ)) (stamp : Vals) (rest old mid begun new : List ℕ) (at m k end : ℕ) → at ≤ length old → IsFront t level lead front → Placed old at mid m (stamp_text t (stamp_of t) stamp) → Fronts front (Some k) mid m at begun → Placed begun k new end rest → Lined old at new end (front_text t (stamp_of t) stamp level ++ (lead_text lead ++ rest))
line_written t (Some level) lead front stamp rest old mid begun new at m k end le e v f w =
    let s : List ℕ = stamp_text t (stamp_of t) stamp in
    let space : List ℕ = stamp_space (stamp_of t) in
    let behind : List ℕ = level ++ codes " " in
    let l : List ℕ = lead_text lead in
    let written : Placed mid m begun k (space ++ (behind ++ l)) = subst (λ (x : Option (List ℕ)). Fronts x (Some k) mid m at begun) e f in
    let whole : Placed old at begun k (s ++ (space ++ (behind ++ l))) = placed_two old mid begun at m k s (space ++ (behind ++ l)) v written in
    let parted : s ++ (space ++ (behind ++ l)) ≡ ((s ++ space) ++ behind) ++ l = sym (append_assoc s space (behind ++ l)) ∙ sym (append_assoc (s ++ space) behind l) in
    subst (λ (x : List ℕ). Lined old at new end x) (ap (λ (x : List ℕ). x ++ rest) parted ∙ append_assoc ((s ++ space) ++ behind) l rest)
    (lined (placed_two old begun new at k end (s ++ (space ++ (behind ++ l))) rest whole w))
line_written t None lead front stamp rest old mid begun new at m k end le e v f w =
    let g : (Some k ≡ Some at) × (begun ≡ mid) = subst (λ (x : Option (List ℕ)). Fronts x (Some k) mid m at begun) e.1 f in
    let same : k ≡ at = some_is k at g.0 in
    let here : Placed mid at new end rest = subst (λ (x : List ℕ). Placed x at new end rest) g.1 (subst (λ (n : ℕ). Placed begun n new end rest) same w) in
    let kept : Kept old at mid = kept_written old mid at m (stamp_text t (stamp_of t) stamp) le v.written in
    let line : Lined old at new end rest = record {
      long = here.written.long ∙ kept.long;
      within = omega (arith, here.written.within, kept.long);
      written = here.written.written ∙ ap (λ (x : List ℕ). x ++ rest) kept.front;
      utf8 = here.utf8;
    } in
    subst (λ (o : Option (List ℕ)). Lined old at new end (lead_text o ++ rest)) (sym e.0) line

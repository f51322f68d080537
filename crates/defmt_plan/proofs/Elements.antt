-- Elements of a list on their way.
use Rattle.std.proofs.Common.{◌≡◌, ◌<◌, ◌≤◌, ◌+◌, ◌-◌, ◌==◌, ℕ, suc, Bool, true, false, List, ◌∷◌, ◌++◌, length, drop, refl, sym, subst, arith, Option, Ok}
use Rattle.std.proofs.lemmas.Bool.{ne_eqb}
use Rattle.defmt_grammar.specs.declared.hint.Hint.{Hint}
use Rattle.defmt_intern.specs.Table.{Map}
use Rattle.defmt_intern.specs.declared.parsed.Parsed.{Parsed}
use Rattle.defmt_values.specs.Plain.{Vals, Elems, no_elems, elem}
use Rattle.defmt_encode.specs.Read.{OneAt, elem_at, elems_at, value_at}
use Rattle.defmt_encode.proofs.Chains.{done}
use Rattle.defmt_eager.specs.Answers.{comma}
use Rattle.defmt_eager.specs.Show.{show_elems}
use Rattle.defmt_eager.proofs.Appends.{joined}
use Rattle.defmt_hints.proofs.Chains.{written_end, kept_written, kept_two}
use Rattle.defmt_eager.proofs.Parts.{placed_none}
use Rattle.defmt_plan.proofs.Placing.{placed_two}
use Rattle.defmt_hints.specs.Written.{Kept}
use Rattle.defmt_eager.specs.Answers.{Placed}
use Rattle.defmt_plan.specs.Inside.{elem_text, elems_text}
use Rattle.defmt_plan.specs.Readers.{PassedBy}
use Rattle.defmt_plan.specs.declared.reach.Reach.{Reach}

-- so many elements that are left, with their texts, each behind a comma but the first of all
pub record Left (t : Map) (left : ℕ) (what : Parsed) (index : ℕ) (hint : Hint) (first : Bool) (count : ℕ) (bytes : List ℕ) (from to : Reach) (old new : List ℕ) : Type 0 where
  pub elems : Elems
  pub reads : elems_at (value_at t left) what count 1 from.opened (drop from.read bytes) ≡ Ok (elems, to.opened, drop to.read bytes)
  pub written : Placed old from.written new to.written (joined first (show_elems t index hint elems))

pub left_none : (t : Map) (left : ℕ) (what : Parsed) (index : ℕ) (hint : Hint) (first : Bool) (count : ℕ) (bytes : List ℕ) (from : Reach) (old : List ℕ) → count ≡ 0 → from.written ≤ length old → Left t left what index hint first count bytes from from old old
unfolding elems_at show_elems
left_none t left what index hint true count bytes from old e le = record { elems = no_elems; reads = rw e refl; written = placed_none old from.written le }
left_none t left what index hint false count bytes from old e le = record { elems = no_elems; reads = rw e refl; written = placed_none old from.written le }

elems_more : (one : OneAt) (what : Parsed) (count n s m e : ℕ) (variant : Option ℕ) (vs : Vals) (es : Elems) (from mid to : List ℕ) → count ≡ suc n → elem_at one what 1 s from ≡ done ((variant, vs), m, mid) → elems_at one what n 1 m mid ≡ done (es, e, to) → elems_at one what count 1 s from ≡ done (elem variant vs es, e, to)
unfolding elems_at
elems_more one what count n s m e variant vs es from mid to k h g = rw (k, h, g) refl

joined_more : (first : Bool) (x : List ℕ) (xs : List (List ℕ)) → joined first (x ∷ xs) ≡ (comma first ++ x) ++ joined false xs
joined_more true x xs = refl
joined_more false x xs = refl

module _ (t : Map) (left : ℕ) (what : Parsed) (index : ℕ) (hint : Hint) (bytes : List ℕ) where
  pub left_more : (first : Bool) (count n : ℕ) (before parted after to : Reach) (old mid next new : List ℕ) → count ≡ suc n → parted.read ≡ before.read → parted.opened ≡ before.opened → Placed old before.written mid parted.written (comma first) → PassedBy (elem_at (value_at t left) what 1) (elem_text t hint index) bytes parted after mid next → Left t left what index hint false n bytes after to next new → Left t left what index hint first count bytes before to old new
  unfolding show_elems
  left_more first count n before parted after to old mid next new k e f c p r =
      let read : elem_at (value_at t left) what 1 before.opened (drop before.read bytes) ≡ done (p.value, after.opened, drop after.read bytes) =
      subst (λ (m : ℕ). elem_at (value_at t left) what 1 before.opened (drop m bytes) ≡ done (p.value, after.opened, drop after.read bytes)) e
      (subst (λ (m : ℕ). elem_at (value_at t left) what 1 m (drop parted.read bytes) ≡ done (p.value, after.opened, drop after.read bytes)) f p.reads) in
      let text : List ℕ = elem_text t hint index p.value in
      record {
        elems = elem p.value.0 p.value.1 r.elems;
        reads = elems_more (value_at t left) what count n before.opened after.opened to.opened p.value.0 p.value.1 r.elems (drop before.read bytes) (drop after.read bytes) (drop to.read bytes) k read r.reads;
        written = subst (λ (x : List ℕ). Placed old before.written new to.written x) (sym (joined_more first text (show_elems t index hint r.elems)))
            (placed_two old next new before.written after.written to.written (comma first ++ text) (joined false (show_elems t index hint r.elems)) (placed_two old mid next before.written parted.written after.written (comma first) text c p.written) r.written);
      }

-- whatever finishes the elements that are left finishes all
pub record Counting (t : Map) (left : ℕ) (what : Parsed) (index : ℕ) (hint : Hint) (count number : ℕ) (bytes : List ℕ) (start now : Reach) (old out : List ℕ) : Type 0 where
  pub few : now.opened ≤ 8192
  pub read : now.read ≤ length bytes
  pub written : now.written ≤ length out
  pub behind : start.written ≤ now.written
  pub kept : Kept old start.written out
  pub finishes : (to : Reach) (new : List ℕ) → Left t left what index hint (number == 0) (count - number) bytes now to out new → Left t left what index hint true count bytes start to old new

module _ (t : Map) (left : ℕ) (what : Parsed) (index : ℕ) (hint : Hint) (count : ℕ) (bytes : List ℕ) (start : Reach) (old : List ℕ) where
  pub counting_none : start.opened ≤ 8192 → start.read ≤ length bytes → start.written ≤ length old → Counting t left what index hint count 0 bytes start start old old
  counting_none few le most = record {
    few = few;
    read = le;
    written = most;
    behind = omega arith;
    kept = record { long = refl; front = refl };
    finishes = λ to new r. let all : count - 0 ≡ count = omega arith in subst (λ (n : ℕ). Left t left what index hint true n bytes start to old new) all r;
  }

  pub counting_more : (number : ℕ) (now parted after : Reach) (out mid new : List ℕ) → number < count → Counting t left what index hint count number bytes start now old out → parted.read ≡ now.read → parted.opened ≡ now.opened → Placed out now.written mid parted.written (comma (number == 0))
      → PassedBy (elem_at (value_at t left) what 1) (elem_text t hint index) bytes parted after mid new → Counting t left what index hint count (number + 1) bytes start after old new
  counting_more number now parted after out mid new lt h e f c p =
      let text : List ℕ = elem_text t hint index p.value in
      let both : Placed out now.written new after.written (comma (number == 0) ++ text) = placed_two out mid new now.written parted.written after.written (comma (number == 0)) text c p.written in
      let far : after.written ≡ now.written + length (comma (number == 0) ++ text) = written_end out new now.written after.written (comma (number == 0) ++ text) h.written both.written in
      record {
        few = p.few;
        read = p.within;
        written = omega (arith, both.written.within, both.written.long);
        behind = omega (arith, far, h.behind);
        kept = kept_two old out new start.written now.written h.behind h.kept (kept_written out new now.written after.written (comma (number == 0) ++ text) h.written both.written);
        finishes = λ to last r.
            let same : count - number ≡ suc (count - (number + 1)) = omega arith in
            h.finishes to last (left_more t left what index hint bytes (number == 0) (count - number) (count - (number + 1)) now parted after to out mid new last same e f c p
            (subst (λ (first : Bool). Left t left what index hint first (count - (number + 1)) bytes after to new last) (ne_eqb (number + 1) 0 (λ e. omega (arith, e))) r));
      }

  pub counting_fails : (number : ℕ) (now : Reach) (out new : List ℕ) → Counting t left what index hint count number bytes start now old out → Kept out now.written new → Kept old start.written new
  counting_fails number now out new h k = kept_two old out new start.written now.written h.behind h.kept k

  pub counting_all : (number : ℕ) (now : Reach) (out : List ℕ) → count ≤ number → Counting t left what index hint count number bytes start now old out → PassedBy (elems_at (value_at t left) what count 1) (elems_text t hint index) bytes start now old out
  counting_all number now out le h =
      let r = h.finishes now out (left_none t left what index hint (number == 0) (count - number) bytes now out (omega (arith, le)) h.written) in
      record { value = r.elems; reads = r.reads; few = h.few; within = h.read; written = r.written }

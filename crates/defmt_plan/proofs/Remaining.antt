-- What is left to read and to write behind some steps.
use Rattle.std.proofs.Common.{◌≡◌, ◌<◌, ◌≤◌, ◌+◌, ◌*◌, ◌^◌, ℕ, zero, suc, List, [], ◌∷◌, ◌++◌, length, drop, drop_of_length-le, Option, Some, Ok, refl, sym, ap, subst, ◌∙◌, arith, append_assoc, length-append}
use Rattle.std.specs.List.{slice_get}
use Rattle.defmt_grammar.specs.Slots.{slots_of, uses_at}
use Rattle.defmt_grammar.specs.declared.hint.Hint.{Hint}
use Rattle.defmt_grammar.specs.declared.kind.Kind.{Kind}
use Rattle.defmt_grammar.specs.declared.piece.Piece.{Piece}
use Rattle.defmt_grammar.specs.declared.slot.Slot.{Slot}
use Rattle.defmt_grammar.specs.declared.slot.Slot.TheVariants as slots
use Rattle.defmt_intern.specs.Table.{Map}
use Rattle.defmt_values.specs.Entries.{Place, places_from}
use Rattle.defmt_values.specs.Plain.{Val, bits, Vals, no_vals, val}
use Rattle.defmt_encode.specs.Read.{OneAt, ◌⇒◌, number_at, each_at, value_at}
use Rattle.defmt_encode.proofs.Chains.{done, same, bound}
use Rattle.defmt_encode.proofs.Joins.{value_is}
use Rattle.defmt_eager.specs.Show.{Shown, show_val, shows, shown_at, acting, pieces_text}
use Rattle.defmt_eager.proofs.Parts.{placed_none}
use Rattle.defmt_plan.proofs.Placing.{placed_two}
use Rattle.defmt_eager.specs.Answers.{Placed}
use Rattle.byteorder.specs.Endian.{little_bytes}
use Rattle.defmt_encode.proofs.Numbers.{number_back}
use Rattle.defmt_plan.specs.Carried.{Carried}
use Rattle.defmt_plan.specs.Passed.{PassedField}
use Rattle.defmt_plan.specs.Readers.{PassedBy, PassedStepBy, Stays}
use Rattle.defmt_plan.specs.Steps.{PassAll, behind, field_kind, field_slot, pieces_from}
use Rattle.defmt_plan.specs.declared.bits.Field.{Field}
use Rattle.defmt_plan.specs.declared.reach.Reach.{Reach}
use Rattle.defmt_plan.specs.declared.steps.Step.{Step}
use Rattle.defmt_plan.specs.declared.steps.Step.TheVariants as steps

-- ---- the places

-- the places of the positions from this one on
abbrev pub places_left : List Piece → ℕ → List Place
places_left all next = places_from all next (drop next (slots_of all))

same_slot : (s q : Slot) → Some s ≡ Some q → s ≡ q
same_slot s q e = cc

slot_after : (ss : List Slot) (k : ℕ) (s : Slot) → slice_get ss k ≡ Some s → drop k ss ≡ s ∷ drop (suc k) ss
slot_after [] zero s h = absurd (cc h)
slot_after [] (suc k) s h = absurd (cc h)
slot_after (x ∷ ss) zero s h = ap (λ (y : Slot). y ∷ ss) (same_slot x s h)
slot_after (x ∷ ss) (suc k) s h = slot_after ss k s h

slot_next : (ss : List Slot) (k : ℕ) (s : Slot) → slice_get ss k ≡ Some s → drop k ss ≡ s ∷ drop (k + 1) ss
slot_next ss k s h = let one : suc k ≡ k + 1 = omega arith in slot_after ss k s h ∙ ap (λ (n : ℕ). s ∷ drop n ss) one

place_next : (all : List Piece) (next : ℕ) (s : Slot) → slice_get (slots_of all) next ≡ Some s → places_left all next ≡ record { slot = s; uses = uses_at next all } ∷ places_left all (next + 1)
place_next all next s h = ap (λ (ss : List Slot). places_from all next ss) (slot_next (slots_of all) next s h)

no_places : (all : List Piece) (next : ℕ) → length (slots_of all) ≡ next → places_left all next ≡ []
no_places all next e = ap (λ (ss : List Slot). places_from all next ss) (drop_of_length-le (slots_of all) (omega (arith, e)))

-- ---- the values

each_none : (one : OneAt) (s : ℕ) (from : List ℕ) → each_at one [] 1 s from ≡ done (no_vals, s, from)
unfolding each_at
each_none one s from = refl

each_more : (one : OneAt) (x : Place) (others : List Place) (v : Val) (vs : Vals) (s m e : ℕ) (from mid to : List ℕ) → one x.slot (x.uses * 1) s from ≡ done (v, m, mid) → each_at one others 1 m mid ≡ done (vs, e, to) → each_at one (x ∷ others) 1 s from ≡ done (val v vs, e, to)
unfolding each_at
each_more one x others v vs s m e from mid to h k = rw (h, k) refl

pub record IsFirst (args : Vals) (v : Val) : Type 0 where
  pub others : Vals
  pub is : args ≡ val v others

value_of : (x y : Val × ℕ × List ℕ) → done x ≡ done y → y.0 ≡ x.0
value_of x y e = ap (λ (z : Val × ℕ × List ℕ). z.0) (sym (same x y e))

args_of : (x y : Vals × ℕ × List ℕ) → done x ≡ done y → y.0 ≡ x.0
args_of x y e = ap (λ (z : Vals × ℕ × List ℕ). z.0) (sym (same x y e))

-- the first of the arguments is what was read
each_first : (one : OneAt) (x : Place) (others : List Place) (args : Vals) (v : Val) (s m e : ℕ) (from mid to : List ℕ) → one x.slot (x.uses * 1) s from ≡ done (v, m, mid) → each_at one (x ∷ others) 1 s from ≡ done (args, e, to) → IsFirst args v
unfolding each_at
each_first one x others args v s m e from mid to h k =
    let a = bound (one x.slot (x.uses * 1) s from) (λ (p : Val × ℕ × List ℕ). each_at one others 1 p.1 p.2 ⇒ λ r. Ok (val p.0 r.0, r.1, r.2)) (args, e, to) k in
    let b = bound (each_at one others 1 a.0.1 a.0.2) (λ r. Ok (val a.0.0 r.0, r.1, r.2)) (args, e, to) a.2 in
    let first : a.0.0 ≡ v = value_of (v, m, mid) a.0 (sym h ∙ a.1) in
    record { others = b.0.0; is = args_of (val a.0.0 b.0.0, b.0.1, b.0.2) (args, e, to) b.2 ∙ ap (λ (w : Val). val w b.0.0) first }

-- a number that bytes carry is read behind their place
pub number_carried : (bytes : List ℕ) (from width n : ℕ) → Carried bytes from (from + width) (little_bytes width n) → n < 256 ^ width → number_at width (drop from bytes) ≡ done (n, drop (from + width) bytes)
number_carried bytes from width n c small = ap (λ (x : List ℕ). number_at width x) c.parts ∙ number_back width n (drop (from + width) bytes) small

-- an index
pub index_carried : (bytes : List ℕ) (from index n : ℕ) → index ≡ n → Carried bytes from (from + 2) (little_bytes 2 n) → n < 256 ^ 2 → number_at 2 (drop from bytes) ≡ Ok (index, drop (from + 2) bytes)
index_carried bytes from index n same c small =
    subst (λ (i : ℕ). number_at 2 (drop from bytes) ≡ done (i, drop (from + 2) bytes)) (sym same) (number_carried bytes from 2 n c small)

-- what is sent of a number is read as the number
field_read : (t : Map) (left : ℕ) (f : Field) (w s sent : ℕ) (from to : List ℕ) → number_at f.width from ≡ done (sent, to) → value_at t left (field_slot f) w s from ≡ done (bits (sent * 256 ^ f.first), s, to)
field_read t left f w s sent from to e = ap (λ (one : OneAt). one (field_slot f) w s from) (sym (value_is t left)) ∙ rw e refl

-- ---- the texts

get_seam : (front back : List Shown) (x : Shown) (k : ℕ) → length front ≡ k → slice_get (front ++ x ∷ back) k ≡ Some x
get_seam [] back x k e = ap (λ (n : ℕ). slice_get (x ∷ back) n) (sym e)
get_seam (y ∷ front) back x zero e = absurd (omega (arith, e))
get_seam (y ∷ front) back x (suc k) e = get_seam front back x k (omega (arith, e))

-- the value of the next position
shown_next : (t : Map) (front : List Shown) (v : Val) (vs : Vals) (next : ℕ) → length front ≡ next → slice_get (front ++ shows t (val v vs)) next ≡ Some (show_val t v)
unfolding shows
shown_next t front v vs next e = get_seam front (shows t vs) (show_val t v) next e

-- one value more stands in front
front_more : (t : Map) (front : List Shown) (v : Val) (vs : Vals) → (front ++ show_val t v ∷ []) ++ shows t vs ≡ front ++ shows t (val v vs)
unfolding shows
front_more t front v vs = append_assoc front (show_val t v ∷ []) (shows t vs)

size_more : (front : List Shown) (x : Shown) (next : ℕ) → length front ≡ next → length (front ++ x ∷ []) ≡ next + 1
size_more front x next e = length-append front (x ∷ []) ∙ ap (λ (n : ℕ). n + 1) e

-- ---- what is left

-- the arguments of the positions that are left, with the text of the steps that are left; the values in front may be any
pub record Rest (t : Map) (left : ℕ) (outer : Hint) (all : List Piece) (rest : List Step) (next : ℕ) (bytes : List ℕ) (from to : Reach) (old new : List ℕ) : Type 0 where
  pub args : Vals
  pub reads : each_at (value_at t left) (places_left all next) 1 from.opened (drop from.read bytes) ≡ Ok (args, to.opened, drop to.read bytes)
  pub written : (front : List Shown) → length front ≡ next → Placed old from.written new to.written (pieces_text outer (pieces_from next rest) (front ++ shows t args))

pub rest_none : (t : Map) (left : ℕ) (outer : Hint) (all : List Piece) (next : ℕ) (bytes : List ℕ) (from : Reach) (old : List ℕ) → length (slots_of all) ≡ next → from.written ≤ length old → Rest t left outer all [] next bytes from from old old
unfolding pieces_text
rest_none t left outer all next bytes from old e most = record {
  args = no_vals;
  reads = rw (no_places all next e) (each_none (value_at t left) from.opened (drop from.read bytes));
  written = λ front l. placed_none old from.written most;
}

module _ (t : Map) (left : ℕ) (outer : Hint) (all : List Piece) (more : List Step) (next : ℕ) (bytes : List ℕ) (before after to : Reach) (old mid new : List ℕ) where
  -- behind a step that reads nothing
  same_reads : (args : Vals) (at : ℕ) → Stays before after 0 → each_at (value_at t left) (places_left all at) 1 after.opened (drop after.read bytes) ≡ Ok (args, to.opened, drop to.read bytes) → each_at (value_at t left) (places_left all at) 1 before.opened (drop before.read bytes) ≡ Ok (args, to.opened, drop to.read bytes)
  same_reads args at y h =
      let e : after.read ≡ before.read = omega (arith, y.read) in
      subst (λ (n : ℕ). each_at (value_at t left) (places_left all at) 1 before.opened (drop n bytes) ≡ Ok (args, to.opened, drop to.read bytes)) e
      (subst (λ (n : ℕ). each_at (value_at t left) (places_left all at) 1 n (drop after.read bytes) ≡ Ok (args, to.opened, drop to.read bytes)) y.opened h)

  rest_text : (text : List ℕ) → Stays before after 0 → Placed old before.written mid after.written text → Rest t left outer all more next bytes after to mid new → Rest t left outer all (steps.Text text ∷ more) next bytes before to old new
  unfolding pieces_text
  rest_text text y w r = record {
    args = r.args;
    reads = same_reads r.args next y r.reads;
    written = λ front l. placed_two old mid new before.written after.written to.written text (pieces_text outer (pieces_from next more) (front ++ shows t r.args)) w (r.written front l);
  }

  -- the text of a parameter of the next position, in front of the rest's
  text_more : (v : Val) (vs : Vals) (kind : Kind) (hint : Hint) → Placed old before.written mid after.written (show_val t v kind (acting outer hint))
      → ((front : List Shown) → length front ≡ next + 1 → Placed mid after.written new to.written (pieces_text outer (pieces_from (next + 1) more) (front ++ shows t vs)))
      → (front : List Shown) → length front ≡ next → Placed old before.written new to.written (shown_at (slice_get (front ++ shows t (val v vs)) next) kind (acting outer hint) ++ pieces_text outer (pieces_from (next + 1) more) (front ++ shows t (val v vs)))
  text_more v vs kind hint w r front l =
      let behind : Placed mid after.written new to.written (pieces_text outer (pieces_from (next + 1) more) (front ++ shows t (val v vs))) =
      subst (λ (all_ : List Shown). Placed mid after.written new to.written (pieces_text outer (pieces_from (next + 1) more) all_)) (front_more t front v vs) (r (front ++ show_val t v ∷ []) (size_more front (show_val t v) next l)) in
      subst (λ (o : Option Shown). Placed old before.written new to.written (shown_at o kind (acting outer hint) ++ pieces_text outer (pieces_from (next + 1) more) (front ++ shows t (val v vs)))) (sym (shown_next t front v vs next l))
      (placed_two old mid new before.written after.written to.written (show_val t v kind (acting outer hint)) (pieces_text outer (pieces_from (next + 1) more) (front ++ shows t (val v vs))) w behind)

  rest_value : (kind : Kind) (hint : Hint) → slice_get (slots_of all) next ≡ Some (slots.One kind) → uses_at next all ≡ 1 → PassedBy (value_at t left (slots.One kind) 1) (λ (v : Val). show_val t v kind (acting outer hint)) bytes before after old mid → Rest t left outer all more (next + 1) bytes after to mid new → Rest t left outer all (steps.Value kind hint ∷ more) next bytes before to old new
  unfolding pieces_text
  rest_value kind hint slot once p r = record {
    args = val p.value r.args;
    reads = rw (place_next all next (slots.One kind) slot)
        (each_more (value_at t left) (record { slot = slots.One kind; uses = uses_at next all }) (places_left all (next + 1)) p.value r.args before.opened after.opened to.opened (drop before.read bytes) (drop after.read bytes) (drop to.read bytes)
        (subst (λ (n : ℕ). value_at t left (slots.One kind) (n * 1) before.opened (drop before.read bytes) ≡ done (p.value, after.opened, drop after.read bytes)) (sym once) p.reads) r.reads);
    written = text_more p.value r.args kind hint p.written r.written;
  }

  -- the number of a field
  field_reads : (f : Field) (w sent : ℕ) → number_at f.width (drop before.read bytes) ≡ Ok (sent, drop (before.read + f.width) bytes) → value_at t left (field_slot f) w before.opened (drop before.read bytes) ≡ done (bits (sent * 256 ^ f.first), before.opened, drop (before.read + f.width) bytes)
  field_reads f w sent e = field_read t left f w before.opened sent (drop before.read bytes) (drop (before.read + f.width) bytes) e

  rest_bits : (f : Field) (hint : Hint) → slice_get (slots_of all) next ≡ Some (field_slot f) → Stays before after f.width → PassedField f (acting outer hint) bytes before.read old before.written mid after.written → Rest t left outer all more (next + 1) bytes after to mid new → Rest t left outer all (steps.Bits f hint ∷ more) next bytes before to old new
  unfolding pieces_text show_val
  rest_bits f hint slot y p r =
      let n : ℕ = p.sent * 256 ^ f.first in
      let behind : each_at (value_at t left) (places_left all (next + 1)) 1 before.opened (drop (before.read + f.width) bytes) ≡ Ok (r.args, to.opened, drop to.read bytes) =
      subst (λ (m : ℕ). each_at (value_at t left) (places_left all (next + 1)) 1 before.opened (drop m bytes) ≡ Ok (r.args, to.opened, drop to.read bytes)) y.read
      (subst (λ (m : ℕ). each_at (value_at t left) (places_left all (next + 1)) 1 m (drop after.read bytes) ≡ Ok (r.args, to.opened, drop to.read bytes)) y.opened r.reads) in
      record {
        args = val (bits n) r.args;
        reads = rw (place_next all next (field_slot f) slot)
            (each_more (value_at t left) (record { slot = field_slot f; uses = uses_at next all }) (places_left all (next + 1)) (bits n) r.args before.opened before.opened to.opened (drop before.read bytes) (drop (before.read + f.width) bytes) (drop to.read bytes)
            (field_reads f (uses_at next all * 1) p.sent (number_carried bytes before.read f.width p.sent p.carried p.small)) behind);
        written = text_more (bits n) r.args (field_kind f) hint p.written r.written;
      }

  rest_peek : (f : Field) (hint : Hint) → slice_get (slots_of all) next ≡ Some (field_slot f) → Stays before after 0 → PassedField f (acting outer hint) bytes before.read old before.written mid after.written → Rest t left outer all more next bytes after to mid new → Rest t left outer all (steps.Peek f hint ∷ more) next bytes before to old new
  unfolding pieces_text show_val
  rest_peek f hint slot y p r =
      let n : ℕ = p.sent * 256 ^ f.first in
      let x : Place = record { slot = field_slot f; uses = uses_at next all } in
      let reads = same_reads r.args next y r.reads in
      let first : IsFirst r.args (bits n) = each_first (value_at t left) x (places_left all (next + 1)) r.args (bits n) before.opened before.opened to.opened (drop before.read bytes) (drop (before.read + f.width) bytes) (drop to.read bytes)
      (field_reads f (uses_at next all * 1) p.sent (number_carried bytes before.read f.width p.sent p.carried p.small))
      (subst (λ (ps : List Place). each_at (value_at t left) ps 1 before.opened (drop before.read bytes) ≡ Ok (r.args, to.opened, drop to.read bytes)) (place_next all next (field_slot f) slot) reads) in
      record {
        args = r.args;
        reads = reads;
        written = λ front l.
            let found : slice_get (front ++ shows t r.args) next ≡ Some (show_val t (bits n)) = ap (λ (vs : Vals). slice_get (front ++ shows t vs) next) first.is ∙ shown_next t front (bits n) first.others next l in
            subst (λ (s : Option Shown). Placed old before.written new to.written (shown_at s (field_kind f) (acting outer hint) ++ pieces_text outer (pieces_from next more) (front ++ shows t r.args))) (sym found)
            (placed_two old mid new before.written after.written to.written (show_val t (bits n) (field_kind f) (acting outer hint)) (pieces_text outer (pieces_from next more) (front ++ shows t r.args)) p.written (r.written front l));
      }

-- behind one step more
pub rest_more : (t : Map) (left : ℕ) (outer : Hint) (all : List Piece) (step : Step) (more : List Step) (next : ℕ) (bytes : List ℕ) (before after to : Reach) (old mid new : List ℕ) → PassAll all next (step ∷ more) → PassedStepBy t left outer step bytes before after old mid → Rest t left outer all more (behind next step) bytes after to mid new → Rest t left outer all (step ∷ more) next bytes before to old new
rest_more t left outer all (steps.Text text) more next bytes before after to old mid new a p r = rest_text t left outer all more next bytes before after to old mid new text p.0 p.1 r
rest_more t left outer all (steps.Value kind hint) more next bytes before after to old mid new a p r = rest_value t left outer all more next bytes before after to old mid new kind hint a.0.0 a.0.1 p r
rest_more t left outer all (steps.Peek f hint) more next bytes before after to old mid new a p r = rest_peek t left outer all more next bytes before after to old mid new f hint a.0 p.0 p.1 r
rest_more t left outer all (steps.Bits f hint) more next bytes before after to old mid new a p r = rest_bits t left outer all more next bytes before after to old mid new f hint a.0 p.0 p.1 r

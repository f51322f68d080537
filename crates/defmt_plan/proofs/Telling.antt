-- Whole messages.
use Rattle.std.proofs.Common.{◌≡◌, ◌≤◌, ◌+◌, ◌-◌, inl, inr, ℕ, true, List, ◌++◌, length, take, drop, refl, sym, ap, subst, ◌∙◌, arith, append_assoc, length-append, length-drop, Option, Some, None}
use Rattle.std.proofs.lemmas.List.{append-nil, take_all}
use Rattle.byteorder.specs.Endian.{little_bytes}
use Rattle.defmt_grammar.specs.Slots.{slots_of}
use Rattle.defmt_grammar.specs.declared.hint.Hint.TheVariants as hints
use Rattle.defmt_grammar.specs.declared.piece.Piece.{Piece}
use Rattle.defmt_grammar.specs.declared.slot.Slot.{Slot}
use Rattle.defmt_intern.specs.Body.{body_of}
use Rattle.defmt_intern.specs.Catalog.{Catalog}
use Rattle.defmt_intern.specs.Stamp.{stamp_of}
use Rattle.defmt_intern.specs.Table.{Map}
use Rattle.defmt_intern.specs.declared.entry.Entry.{Entry}
use Rattle.defmt_intern.specs.declared.parsed.Parsed.TheVariants.{One}
use Rattle.defmt_values.specs.Entries.{look}
use Rattle.defmt_values.specs.Fits.{Fits, FitsStamp}
use Rattle.defmt_values.specs.Plain.{Vals, no_vals}
use Rattle.defmt_values.specs.Sound.{AreSound}
use Rattle.defmt_encode.specs.Carry.{bytes_vals, own_slots, stamp_slots}
use Rattle.defmt_encode.specs.Lengths.{LengthsFit}
use Rattle.defmt_encode.specs.Placed.{place_bytes}
use Rattle.defmt_encode.specs.Read.{all_zero}
use Rattle.defmt_eager.specs.Line.{stamp_text, level_at, level_text, front_text, IsWide}
use Rattle.defmt_eager.specs.Show.{eager_text, own_pieces, pieces_text, shows}
use Rattle.defmt_plan.proofs.Carrying.{carried_two, carried_none}
use Rattle.defmt_hints.proofs.Chains.{written_end}
use Rattle.defmt_plan.proofs.Fronting.{fronted, lead_within, line_written}
use Rattle.defmt_plan.proofs.Leading.{PassedLed, passed_led}
use Rattle.defmt_plan.specs.Carried.{Carried}
use Rattle.defmt_plan.specs.Plans.{AreStepsOf, IsPlanIn, AreStampSteps, lead_text}
use Rattle.defmt_plan.specs.Steps.{AreSteps}
use Rattle.defmt_plan.proofs.Parting.{level_is}
use Rattle.defmt_plan.specs.Told.{ArgumentsPassed, PassesArguments, Fronts, IsHead, StampPassed, StampPasses, IsTold, Lined, parts_of}
use Rattle.defmt_eager.specs.Answers.{Placed}
use Rattle.defmt_eager.proofs.Parts.{placed_none}
use Rattle.defmt_plan.specs.declared.leaves.Progress.{Progress}
use Rattle.defmt_plan.specs.declared.message.Head.{Head}
use Rattle.defmt_plan.specs.declared.message.Parts.{Parts}
use Rattle.defmt_plan.specs.declared.plan.Plan.{Plan}
use Rattle.defmt_plan.specs.declared.steps.Step.{Step}

-- ---- the arguments of an entry's own text

own_pieces_are : (t : Map) (index : ℕ) (e : Entry) (ps : List Piece) → look t index ≡ Some e → body_of t.language e ≡ One ps → own_pieces t index ≡ ps
own_pieces_are t index e ps there body = rw (there, body) refl

own_slots_are : (t : Map) (index : ℕ) (e : Entry) (ps : List Piece) → look t index ≡ Some e → body_of t.language e ≡ One ps → own_slots t index ≡ slots_of ps
own_slots_are t index e ps there body = rw (there, body) refl

record OwnPassed (t : Map) (index : ℕ) (bytes : List ℕ) (from to : ℕ) (old : List ℕ) (at : ℕ) (new : List ℕ) (end : ℕ) : Type 0 where
  pub args : Vals
  pub fits : Fits t index args
  pub sound : AreSound args
  pub lengths : LengthsFit t (own_slots t index) args
  pub carried : Carried bytes from to (bytes_vals t (own_slots t index) args)
  pub written : Placed old at new end (eager_text t index args)

own_passed : (t : Map) (index : ℕ) (steps : List Step) (bytes : List ℕ) (from to : ℕ) (old : List ℕ) (at : ℕ) (new : List ℕ) (end : ℕ) → (own : AreStepsOf t index steps) → ArgumentsPassed t own.pieces own.pieces bytes from to old at new end → OwnPassed t index bytes from to old at new end
own_passed t index steps bytes from to old at new end own passed =
    let ps : List Piece = own.pieces in
    let p = passed_led t None ps ps bytes from to old at new end refl passed in
    let same : slots_of ps ≡ own_slots t index = sym (own_slots_are t index own.entry ps own.there own.body) in
    record {
      args = p.args;
      fits = record { entry = own.entry; pieces = ps; there = own.there; body = own.body; values = p.fits; light = p.light };
      sound = p.sound;
      lengths = subst (λ (ss : List Slot). LengthsFit t ss p.args) same p.lengths;
      carried = subst (λ (ss : List Slot). Carried bytes from to (bytes_vals t ss p.args)) same p.carried;
      written = subst (λ (x : List ℕ). Placed old at new end x) (sym (ap (λ (qs : List Piece). pieces_text hints.Plain qs (shows t p.args)) (own_pieces_are t index own.entry ps own.there own.body) ∙ p.text_is)) p.written;
    }

-- arguments of an entry, with what its text has behind the literal
record OwnLed (t : Map) (index : ℕ) (lead : Option (List ℕ)) (bytes : List ℕ) (from to : ℕ) (old : List ℕ) (at : ℕ) (new : List ℕ) (end : ℕ) : Type 0 where
  pub args : Vals
  pub fits : Fits t index args
  pub sound : AreSound args
  pub lengths : LengthsFit t (own_slots t index) args
  pub carried : Carried bytes from to (bytes_vals t (own_slots t index) args)
  pub rest : List ℕ
  pub text_is : eager_text t index args ≡ lead_text lead ++ rest
  pub written : Placed old at new end rest

own_led : (t : Map) (index : ℕ) (e : Entry) (lead : Option (List ℕ)) (qs : List Piece) (bytes : List ℕ) (from to : ℕ) (old : List ℕ) (at : ℕ) (new : List ℕ) (end : ℕ) → look t index ≡ Some e → body_of t.language e ≡ One qs → PassedLed t lead qs bytes from to old at new end → OwnLed t index lead bytes from to old at new end
own_led t index e lead qs bytes from to old at new end there body p =
    let same : slots_of qs ≡ own_slots t index = sym (own_slots_are t index e qs there body) in
    record {
      args = p.args;
      fits = record { entry = e; pieces = qs; there = there; body = body; values = p.fits; light = p.light };
      sound = p.sound;
      lengths = subst (λ (ss : List Slot). LengthsFit t ss p.args) same p.lengths;
      carried = subst (λ (ss : List Slot). Carried bytes from to (bytes_vals t ss p.args)) same p.carried;
      rest = p.rest;
      text_is = ap (λ (rs : List Piece). pieces_text hints.Plain rs (shows t p.args)) (own_pieces_are t index e qs there body) ∙ p.text_is;
      written = p.written;
    }

-- ---- the stamp

pub stamp_none : (t : Map) (bytes : List ℕ) (from : ℕ) (old : List ℕ) (at : ℕ) → stamp_of t ≡ None → from ≤ length bytes → at ≤ length old → StampPassed t bytes from from old at old at
unfolding bytes_vals
stamp_none t bytes from old at none le most = record {
  stamp = no_vals;
  fits = subst (λ (o : Option ℕ). FitsStamp t o no_vals) (sym none) refl;
  sound = tt;
  lengths = tt;
  carried = subst (λ (o : Option ℕ). Carried bytes from from (bytes_vals t (stamp_slots t o) no_vals)) (sym none) (carried_none bytes from le);
  written = subst (λ (o : Option ℕ). Placed old at old at (stamp_text t o no_vals)) (sym none) (placed_none old at most);
}

pub stamp_steps : (r : Option Progress) (t : Map) (steps : List Step) (bytes : List ℕ) (from : ℕ) (old : List ℕ) (at : ℕ) (new : List ℕ) → AreStampSteps t steps → ((t : Map) (all pieces : List Piece) → AreSteps all pieces steps → PassesArguments r t all pieces bytes from old at new) → StampPasses r t bytes from old at new
stamp_steps None t steps bytes from old at new s k = k t s.own.pieces s.own.pieces s.own.steps_are
stamp_steps (Some after) t steps bytes from old at new s k =
    let p = own_passed t s.index steps bytes from after.read old at new after.written s.own (k t s.own.pieces s.own.pieces s.own.steps_are) in
    record {
      stamp = p.args;
      fits = subst (λ (o : Option ℕ). FitsStamp t o p.args) (sym s.is) p.fits;
      sound = p.sound;
      lengths = subst (λ (o : Option ℕ). LengthsFit t (stamp_slots t o) p.args) (sym s.is) p.lengths;
      carried = subst (λ (o : Option ℕ). Carried bytes from after.read (bytes_vals t (stamp_slots t o) p.args)) (sym s.is) p.carried;
      written = subst (λ (o : Option ℕ). Placed old at new after.written (stamp_text t o p.args)) (sym s.is) p.written;
    }

-- ---- a message

narrow_by : (t : Map) (stamp : Vals) (index : ℕ) (vs : Vals) → length (stamp_text t (stamp_of t) stamp) ≤ 65536 → length (eager_text t index vs) ≤ 65536 → IsWide t stamp index vs → ⊥
narrow_by t stamp index vs h k (inl long) = omega (arith, h, long)
narrow_by t stamp index vs h k (inr long) = omega (arith, k, long)

told_at : (t : Catalog) (plan : Plan) (head : Head) (bytes : List ℕ) (size : ℕ) (parts : Parts) (padding : List ℕ) (middle to : ℕ) (old mid begun new : List ℕ) (at m k end : ℕ) → at ≤ length old → length old ≤ 65536
    → plan.index ≡ head.index → (is : IsPlanIn t.entries plan) → IsHead t.profile bytes head → (s : StampPassed t.entries bytes head.read middle old at mid m) → parts ≡ parts_of t.entries size s.stamp plan.index → Fronts plan.front (Some k) mid m at begun
    → OwnLed t.entries plan.index is.own.lead bytes middle to begun k new end
    → padding ≡ take (length bytes - to) (drop to bytes) → (length padding ≤ 6) × (all_zero padding ≡ true) → IsTold t bytes size (record { index = plan.index; place = head.place; parts = parts }) old at new end
told_at t plan head bytes size parts padding middle to old mid begun new at m k end le room same is h s are f o pad p =
    let es : Map = t.entries in
    let index : List ℕ = little_bytes 2 plan.index in
    let place : List ℕ = place_bytes head.place in
    let first : List ℕ = bytes_vals es (stamp_slots es (stamp_of es)) s.stamp in
    let body : List ℕ = bytes_vals es (own_slots es plan.index) o.args in
    let front_bytes : Carried bytes 0 head.read (index ++ place) = subst (λ (i : ℕ). Carried bytes 0 head.read (little_bytes 2 i ++ place)) (sym same)
    (subst (λ (p : List ℕ). Carried bytes 0 head.read (little_bytes 2 head.index ++ p)) (append-nil place) h.carried) in
    let all : Carried bytes 0 to (((index ++ place) ++ first) ++ body) = carried_two bytes 0 middle to ((index ++ place) ++ first) body (carried_two bytes 0 head.read middle (index ++ place) first front_bytes s.carried) o.carried in
    let rest : drop to bytes ≡ padding = sym (pad ∙ take_all (length bytes - to) (drop to bytes) (omega (arith, length-drop to bytes))) in
    let stamp : List ℕ = stamp_text es (stamp_of es) s.stamp in
    let text : List ℕ = eager_text es plan.index o.args in
    let started = fronted plan.front stamp old mid begun at m k le s.written.written f in
    let stamp_ends : m ≡ at + length stamp = written_end old mid at m stamp le s.written.written in
    let lead : List ℕ = lead_text is.own.lead in
    let rest_ends : end ≡ k + length o.rest = written_end begun new k end o.rest started.within o.written.written in
    let lead_ends : length lead ≤ k = lead_within es (level_text is.entry.tag) is.own.lead plan.front mid begun at m k (omega (arith, s.written.written.within, s.written.written.long)) is.own.front_is f in
    let count : length text ≡ length lead + length o.rest = ap length o.text_is ∙ length-append lead o.rest in
    let line = line_written es (level_text is.entry.tag) is.own.lead plan.front s.stamp o.rest old mid begun new at m k end le is.own.front_is s.written f o.written in
    record {
      stamp = s.stamp;
      args = o.args;
      heard = record {
        placed = h.placed;
        stamp_fits = s.fits;
        fits = o.fits;
        logged = record { entry = is.entry; there = is.there; tag = is.logged };
        stamp_sound = s.sound;
        sound = o.sound;
        lengths = (s.lengths, o.lengths);
        padding = padding;
        few = p.0;
        zeros = p.1;
        message = all.parts ∙ ap (λ (x : List ℕ). (x ++ body) ++ drop to bytes) (append_assoc index place first) ∙ ap (λ (x : List ℕ). ((index ++ (place ++ first)) ++ body) ++ x) rest;
      };
      parts = are;
      narrow = narrow_by es s.stamp plan.index o.args (omega (arith, stamp_ends, s.written.written.within)) (omega (arith, count, lead_ends, rest_ends, o.written.written.within, started.kept.long));
      written = subst (λ (l : Option (List ℕ)). Lined old at new end (front_text es (stamp_of es) s.stamp l ++ text)) (sym (level_is es plan.index is.entry is.there))
          (subst (λ (x : List ℕ). Lined old at new end (front_text es (stamp_of es) s.stamp (level_text is.entry.tag) ++ x)) (sym o.text_is) line);
    }

pub told_all : (t : Catalog) (plan : Plan) (head : Head) (bytes : List ℕ) (size : ℕ) (parts : Parts) (padding : List ℕ) (middle to : ℕ) (old mid begun new : List ℕ) (at m k end : ℕ) → at ≤ length old → length old ≤ 65536
    → plan.index ≡ head.index → (is : IsPlanIn t.entries plan) → IsHead t.profile bytes head → (s : StampPassed t.entries bytes head.read middle old at mid m) → parts ≡ parts_of t.entries size s.stamp plan.index → Fronts plan.front (Some k) mid m at begun
    → ArgumentsPassed t.entries is.pieces is.rest bytes middle to begun k new end
    → padding ≡ take (length bytes - to) (drop to bytes) → (length padding ≤ 6) × (all_zero padding ≡ true) → IsTold t bytes size (record { index = head.index; place = head.place; parts = parts }) old at new end
told_all t plan head bytes size parts padding middle to old mid begun new at m k end le room same is h s are f o pad p =
    subst (λ (i : ℕ). IsTold t bytes size (record { index = i; place = head.place; parts = parts }) old at new end) same
    (told_at t plan head bytes size parts padding middle to old mid begun new at m k end le room same is h s are f
    (own_led t.entries plan.index is.entry is.own.lead is.pieces bytes middle to begun k new end is.there is.body
    (passed_led t.entries is.own.lead is.pieces is.rest bytes middle to begun k new end is.own.pieces_are o)) pad p)

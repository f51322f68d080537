-- Values without others inside, and fields, by the readers of messages.
use Rattle.std.proofs.Common.{◌≡◌, ◌≤◌, ◌+◌, ℕ, List, drop, Option, Some, None, IfSome, option_map, refl, ap, ◌∙◌, subst, arith}
use Rattle.defmt_grammar.specs.declared.hint.Hint.{Hint}
use Rattle.defmt_grammar.specs.declared.kind.Kind.{Kind}
use Rattle.defmt_grammar.specs.declared.slot.Slot.{Slot}
use Rattle.defmt_grammar.specs.declared.slot.Slot.TheVariants as slots
use Rattle.defmt_intern.specs.Table.{Map}
use Rattle.defmt_values.specs.Fits.{weigh_val}
use Rattle.defmt_values.specs.Plain.{Val}
use Rattle.defmt_encode.specs.Read.{OneAt, below, slot_at, value_at}
use Rattle.defmt_encode.proofs.Back.{val_back}
use Rattle.defmt_encode.proofs.Chains.{done}
use Rattle.defmt_encode.proofs.Joins.{value_is}
use Rattle.defmt_eager.specs.Show.{show_val, acting}
use Rattle.defmt_eager.specs.Answers.{Placed}
use Rattle.defmt_plan.specs.Passed.{PassedField, PassesField, PassesOne}
use Rattle.defmt_plan.specs.Readers.{PassedBy, PassesBy, PassesStepBy, progress_of}
use Rattle.defmt_plan.specs.declared.bits.Field.{Field}
use Rattle.defmt_plan.specs.declared.leaves.Progress.{Progress}
use Rattle.defmt_plan.specs.declared.reach.Reach.{Reach}
use Rattle.defmt_plan.specs.declared.steps.Step.TheVariants as steps

-- how far a pass has come that has opened so many
abbrev reach_of : ℕ → Progress → Reach
reach_of opened progress =
    record { read = progress.read; written = progress.written; opened = opened }

-- a value without values inside, whatever levels may be opened
pub one_by : (r : Option Progress) (t : Map) (left : ℕ) (kind : Kind) (hint : Hint) (bytes : List ℕ) (before : Progress) (opened : ℕ) (old new : List ℕ) → opened ≤ 8192 → PassesOne r t kind hint bytes before old new
    → PassesBy (option_map (reach_of opened) r) (slot_at t (below t left) (slots.One kind) 1) (λ (v : Val). show_val t v kind hint) bytes (reach_of opened before) old new
one_by None t left kind hint bytes before opened old new few p = p
one_by (Some after) t left kind hint bytes before opened old new few p =
    let slot : Slot = slots.One kind in
    let rest : List ℕ = drop after.read bytes in
    let none : weigh_val t 1 p.value ≡ 0 = p.weightless 1 in
    let light : opened + weigh_val t 1 p.value ≤ 8192 = omega (arith, none, few) in
    let sum : opened + weigh_val t 1 p.value ≡ opened = omega (arith, none) in
    record {
      value = p.value;
      reads = ap (λ (x : List ℕ). slot_at t (below t left) slot 1 opened x) p.carried.parts
          ∙ val_back t left slot 1 opened rest p.value (p.fits left) p.sound (omega arith) p.lengths light
          ∙ ap (λ (n : ℕ). done (p.value, n, rest)) sum;
      few = few;
      within = p.carried.within;
      written = p.written;
    }

-- the reader of a slot is that of values
by_value : (r : Option Reach) (t : Map) (left : ℕ) (slot : Slot) (text : Val → List ℕ) (bytes : List ℕ) (before : Reach) (old new : List ℕ) → PassesBy r (slot_at t (below t left) slot 1) text bytes before old new → PassesBy r (value_at t left slot 1) text bytes before old new
by_value r t left slot text bytes before old new p = subst (λ (one : OneAt). PassesBy r (one slot 1) text bytes before old new) (value_is t left) p

-- a value as a step
pub value_by : (r : Option Reach) (t : Map) (left : ℕ) (outer hint acts : Hint) (kind : Kind) (bytes : List ℕ) (before : Reach) (old new : List ℕ) → acts ≡ acting outer hint → PassesBy r (slot_at t (below t left) (slots.One kind) 1) (λ (v : Val). show_val t v kind acts) bytes before old new
    → PassesStepBy r t left outer (steps.Value kind hint) bytes before old new
value_by None t left outer hint acts kind bytes before old new same p = p
value_by (Some after) t left outer hint acts kind bytes before old new same p =
    subst (λ (h : Hint). PassedBy (value_at t left (slots.One kind) 1) (λ (v : Val). show_val t v kind h) bytes before after old new) same
    (by_value (Some after) t left (slots.One kind) (λ (v : Val). show_val t v kind acts) bytes before old new p)

-- a field, where the number stays
pub peek_by : (r : Option Reach) (t : Map) (left : ℕ) (outer hint acts : Hint) (field : Field) (bytes : List ℕ) (before : Reach) (old new : List ℕ) → acts ≡ acting outer hint → PassesField (option_map (λ (after : Reach). after.written) r) field acts bytes (progress_of before) old new
    → IfSome r (λ (after : Reach). after.read ≡ before.read) → IfSome r (λ (after : Reach). after.opened ≡ before.opened) → PassesStepBy r t left outer (steps.Peek field hint) bytes before old new
peek_by None t left outer hint acts field bytes before old new same p e f = p
peek_by (Some after) t left outer hint acts field bytes before old new same p e f =
    (record { read = omega (arith, e); opened = f }, subst (λ (h : Hint). PassedField field h bytes before.read old before.written new after.written) same p)

-- and where it is passed
pub bits_by : (r : Option Reach) (t : Map) (left : ℕ) (outer hint acts : Hint) (field : Field) (bytes : List ℕ) (before : Reach) (old new : List ℕ) → acts ≡ acting outer hint → PassesField (option_map (λ (after : Reach). after.written) r) field acts bytes (progress_of before) old new
    → IfSome r (λ (after : Reach). after.read ≡ before.read + field.width) → IfSome r (λ (after : Reach). after.opened ≡ before.opened) → PassesStepBy r t left outer (steps.Bits field hint) bytes before old new
bits_by None t left outer hint acts field bytes before old new same p e f = p
bits_by (Some after) t left outer hint acts field bytes before old new same p e f =
    (record { read = e; opened = f }, subst (λ (h : Hint). PassedField field h bytes before.read old before.written new after.written) same p)

-- a literal
pub text_by : (t : Map) (left : ℕ) (outer : Hint) (text : List ℕ) (bytes : List ℕ) (before : Reach) (old new : List ℕ) (end : ℕ) → Placed old before.written new end text
    → PassesStepBy (Some (record { read = before.read; written = end; opened = before.opened })) t left outer (steps.Text text) bytes before old new
text_by t left outer text bytes before old new end w = (record { read = omega arith; opened = refl }, w)

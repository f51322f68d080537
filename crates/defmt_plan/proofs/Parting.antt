-- The parts of a line.
use Rattle.std.proofs.Common.{◌≡◌, ◌≢◌, ◌+◌, ℕ, List, ◌++◌, length, length-append, codes, arith, is_some, true, false, refl, sym, ap, subst, ◌∙◌, Option, None, Some}
use Rattle.defmt_intern.specs.Stamp.{stamp_of}
use Rattle.defmt_intern.specs.Table.{Map}
use Rattle.defmt_intern.specs.declared.entry.Entry.{Entry}
use Rattle.defmt_values.specs.Entries.{look}
use Rattle.defmt_values.specs.Plain.{Vals}
use Rattle.defmt_eager.specs.Line.{front_text, level_at, level_text, shown_stamp, stamp_space, stamp_text}
use Rattle.defmt_plan.specs.Plans.{IsPlanIn, level_size}
use Rattle.defmt_plan.specs.Told.{parts_of}
use Rattle.defmt_plan.specs.declared.message.Parts.{Parts}
use Rattle.defmt_plan.specs.declared.plan.Plan.{Plan}

pub level_is : (t : Map) (index : ℕ) (e : Entry) → look t index ≡ Some e → level_at t index ≡ level_text e.tag
level_is t index e there = rw there refl

-- ---- the size of a level

some_is : (x y : List ℕ) → Some x ≡ Some y → x ≡ y
some_is x y e = cc e

pub named_none : (at : Option ℕ) (level : Option (List ℕ)) → None ≡ level → 0 ≡ level_size at level
named_none at level e = subst (λ (o : Option (List ℕ)). 0 ≡ level_size at o) e refl

pub named_some : (at : Option ℕ) (level : Option (List ℕ)) (l : List ℕ) (n : ℕ) → Some l ≡ level → length l ≡ 5 → n ≡ length (stamp_space at) + 6 → n ≡ level_size at level
named_some at None l n e five is = absurd (cc e)
named_some at (Some m) l n e five is = omega (arith, is, ap length (some_is l m e), five, length-append (stamp_space at) (m ++ codes " "), length-append m (codes " "))

pub space_one : (at : Option ℕ) → is_some at ≡ true → length (stamp_space at) ≡ 1
space_one None e = absurd (cc e)
space_one (Some index) e = refl

pub space_none : (at : Option ℕ) → is_some at ≡ false → length (stamp_space at) ≡ 0
space_none None e = refl
space_none (Some index) e = absurd (cc e)

-- ---- the parts, by the level
abbrev parts_by : Map → ℕ → Vals → Option (List ℕ) → Parts
parts_by t bytes stamp level = record { bytes = bytes; stamp = length (shown_stamp t (stamp_of t) stamp level); front = length (front_text t (stamp_of t) stamp level) }

none_by : (t : Map) (bytes : ℕ) (stamp : Vals) (level : Option (List ℕ)) → level_size (stamp_of t) level ≡ 0 → record { bytes = bytes; stamp = 0; front = 0 } ≡ parts_by t bytes stamp level
none_by t bytes stamp None none = refl
none_by t bytes stamp (Some l) none = absurd (omega (arith, none, length-append (stamp_space (stamp_of t)) (l ++ codes " "), length-append l (codes " ")))

some_by : (t : Map) (bytes : ℕ) (stamp : Vals) (level : Option (List ℕ)) (stamped named : ℕ) → named ≡ level_size (stamp_of t) level → named ≢ 0 → stamped ≡ length (stamp_text t (stamp_of t) stamp)
    → record { bytes = bytes; stamp = stamped; front = stamped + named } ≡ parts_by t bytes stamp level
some_by t bytes stamp None stamped named is some e = absurd (some is)
some_by t bytes stamp (Some l) stamped named is some e =
    let text : List ℕ = stamp_text t (stamp_of t) stamp in
    let space : List ℕ = stamp_space (stamp_of t) in
    let behind : List ℕ = l ++ codes " " in
    let size : stamped + named ≡ length ((text ++ space) ++ behind) = omega (arith, e, is, length-append space behind, length-append (text ++ space) behind, length-append text space) in
    ap (λ (n : ℕ). record { bytes = bytes; stamp = n; front = stamped + named }) e ∙ ap (λ (n : ℕ). record { bytes = bytes; stamp = length text; front = n }) size

pub no_parts : (t : Map) (plan : Plan) (bytes : ℕ) (stamp : Vals) → IsPlanIn t plan → plan.named ≡ 0 → record { bytes = bytes; stamp = 0; front = 0 } ≡ parts_of t bytes stamp plan.index
no_parts t plan bytes stamp is none =
    subst (λ (l : Option (List ℕ)). record { bytes = bytes; stamp = 0; front = 0 } ≡ parts_by t bytes stamp l) (sym (level_is t plan.index is.entry is.there))
    (none_by t bytes stamp (level_text is.entry.tag) (sym is.named ∙ none))

pub some_parts : (t : Map) (plan : Plan) (bytes : ℕ) (stamp : Vals) (stamped : ℕ) → IsPlanIn t plan → plan.named ≢ 0 → stamped ≡ length (stamp_text t (stamp_of t) stamp)
    → record { bytes = bytes; stamp = stamped; front = stamped + plan.named } ≡ parts_of t bytes stamp plan.index
some_parts t plan bytes stamp stamped is some e =
    subst (λ (l : Option (List ℕ)). record { bytes = bytes; stamp = stamped; front = stamped + plan.named } ≡ parts_by t bytes stamp l) (sym (level_is t plan.index is.entry is.there))
    (some_by t bytes stamp (level_text is.entry.tag) stamped plan.named is.named some e)

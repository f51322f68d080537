-- The text of a stamp that is one number or none.
use Rattle.std.proofs.Common.{◌≡◌, ◌≢◌, ℕ, zero, suc, List, [], ◌++◌, Option, None, Some, refl}
use Rattle.std.specs.Prelude.{codes}
use Rattle.defmt_eager.specs.Answers.{PutsNarrow}
use Rattle.defmt_eager.specs.Line.{IsLong, stamp_space, stamp_text}
use Rattle.defmt_eager.specs.Show.{acting, eager_text, param_text, show_val, shows}
use Rattle.defmt_encode.specs.Carry.{stamp_args}
use Rattle.defmt_grammar.specs.declared.hint.Hint.{Hint}
use Rattle.defmt_grammar.specs.declared.hint.Hint.TheVariants as hints
use Rattle.defmt_grammar.specs.declared.kind.Kind.{Kind}
use Rattle.defmt_hints.specs.Printed.{printed_uint}
use Rattle.defmt_intern.specs.Table.{Map}
use Rattle.defmt_values.specs.Plain.{Vals}

-- no hint acts round a stamp
pub own_acts : (hint : Hint) → hint ≡ acting hints.Plain hint
own_acts hints.Plain = refl
own_acts hints.Debug = refl
own_acts (hints.Radix base alt width) = refl
own_acts hints.Ascii = refl
own_acts hints.Micros = refl
own_acts hints.Millis = refl
own_acts (hints.Iso unit) = refl
own_acts (hints.Clock unit) = refl
own_acts (hints.Pad width) = refl

-- what stands for the number of a stamp
pub stamp_param : (t : Map) (n position : ℕ) (kind : Kind) (hint : Hint) → position ≡ 0 → printed_uint n (acting hints.Plain hint) ≡ param_text hints.Plain (shows t (stamp_args (Some n))) position kind hint
unfolding show_val shows
stamp_param t n position kind hint e = rw e refl

-- without a number, or at another position, nothing stands for a parameter
pub stamp_none : (t : Map) (position : ℕ) (kind : Kind) (hint : Hint) → [] ≡ param_text hints.Plain (shows t (stamp_args None)) position kind hint
unfolding shows
stamp_none t zero kind hint = refl
stamp_none t (suc p) kind hint = refl

pub stamp_other : (t : Map) (n position : ℕ) (kind : Kind) (hint : Hint) → position ≢ 0 → [] ≡ param_text hints.Plain (shows t (stamp_args (Some n))) position kind hint
unfolding show_val shows
stamp_other t n zero kind hint h = absurd (h refl)
stamp_other t n (suc p) kind hint h = refl

-- ---- a stamp in front of a line

pub some_stamp : (t : Map) (stamp : Vals) (at : Option ℕ) (index : ℕ) (r : Option ℕ) (old : List ℕ) (place : ℕ) (new : List ℕ) → Some index ≡ at
    → PutsNarrow (IsLong (eager_text t index stamp)) r old place new (eager_text t index stamp ++ codes " ")
    → PutsNarrow (IsLong (stamp_text t at stamp)) r old place new (stamp_text t at stamp ++ stamp_space at)
some_stamp t stamp at index r old place new e h = rw (← e) h

-- A writer's statements are sound, and the frame of one that is there is that of its message.
use Rattle.std.proofs.Common.{◌≡◌, ℕ, zero, suc, ◌<◌, List, [], ◌∷◌, Option, Some, None, length, sym, subst, arith, slice_get, slice_index_or}
use Rattle.defmt_encode.proofs.Placing.{placed}
use Rattle.defmt_encode.specs.Carry.{frame_of, message_of, stamp_args}
use Rattle.defmt_encode.specs.Placed.{HasPlace, place_in}
use Rattle.defmt_frames.specs.Frames.{frame_at}
use Rattle.defmt_intern.specs.Table.{Map}
use Rattle.defmt_intern.specs.declared.table.Profile.{Profile}
use Rattle.defmt_script.proofs.Listed.{of_statement}
use Rattle.defmt_script.specs.Lawful.{IsLawful, IsSound, stamp_in}
use Rattle.defmt_script.specs.Script.{Script, statements_by}
use Rattle.defmt_values.specs.declared.value.Statement.{Statement}

pub sound_at : (s : Script) (w k : ℕ) (stm : Statement) → IsLawful s → slice_get (statements_by s w) k ≡ Some stm → IsSound s.table s.settings stm
sound_at s w k stm h is =
    of_statement (IsSound s.table s.settings) s.writers w k stm h.sound is

pub statement_there : (xs : List Statement) (k : ℕ) → k < length xs → slice_get xs k ≡ None → ⊥
statement_there [] k lt none = absurd (omega (arith, lt))
statement_there (x ∷ xs) zero lt none = absurd (cc none)
statement_there (x ∷ xs) (suc k) lt none = statement_there xs k (omega (arith, lt)) none

-- a writer that has a statement is one of the script's
pub writer_below : (ws : List (List Statement)) (w n : ℕ) → n < length (slice_index_or ws w []) → w < length ws
writer_below [] w n h = absurd (omega (arith, h))
writer_below (l ∷ ws) zero n h = omega arith
writer_below (l ∷ ws) (suc w) n h = omega (arith, writer_below ws w n h)

pub frame_is : (s : Script) (number w k n : ℕ) (stm : Statement) (table : Map) (c o : Option ℕ) → slice_get (statements_by s w) k ≡ Some stm → table ≡ s.table → c ≡ place_in s.settings.profile number → o ≡ stamp_in s.settings.stamp n
    → frame_of (message_of table c (stamp_args o) stm.index stm.args) ≡ frame_at s number w k n
unfolding frame_at
frame_is s number w k n stm table c o there same counted carried = rw (same, counted, carried, there)

-- the place of a mark suits the table that its script has
pub has_place : (p q : Profile) (number : ℕ) (c : Option ℕ) → p ≡ q → c ≡ place_in q number → HasPlace p c
has_place p q number c same counted = subst (λ (x : Profile). HasPlace x c) (sym same) (subst (λ (o : Option ℕ). HasPlace q o) (sym counted) (placed q number))

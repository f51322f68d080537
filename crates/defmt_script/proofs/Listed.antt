-- What holds of all statements holds of one at a place.
use Rattle.std.proofs.Common.{◌≡◌, ℕ, zero, suc, List, [], ◌∷◌, Some, subst, slice_get, slice_index_or}
use Rattle.std.specs.List.{AllByRecursion}
use Rattle.std.proofs.lemmas.Option.{same_Some}
use Rattle.defmt_values.specs.declared.value.Statement.{Statement}

at_place : (P : Statement → Type 0) (list : List Statement) (place : ℕ) (stm : Statement) → AllByRecursion P list → slice_get list place ≡ Some stm → P stm
at_place P [] place stm all is = absurd (cc is)
at_place P (first ∷ list) zero stm all is = subst P (same_Some first stm is) all.0
at_place P (first ∷ list) (suc place) stm all is = at_place P list place stm all.1 is

at_writer : (P : Statement → Type 0) (writers : List (List Statement)) (writer : ℕ) → AllByRecursion (λ list. AllByRecursion P list) writers
    → AllByRecursion P (slice_index_or writers writer [])
at_writer P [] writer all = tt
at_writer P (list ∷ more) zero all = all.0
at_writer P (list ∷ more) (suc writer) all = at_writer P more writer all.1

pub of_statement : (P : Statement → Type 0) (writers : List (List Statement)) (writer place : ℕ) (stm : Statement) → AllByRecursion (λ list. AllByRecursion P list) writers
    → slice_get (slice_index_or writers writer []) place ≡ Some stm → P stm
of_statement P writers writer place stm all is = at_place P (slice_index_or writers writer []) place stm (at_writer P writers writer all) is

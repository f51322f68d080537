-- A text whose only argument is an unsigned number.
use Rattle.std.proofs.Common.{◌≡◌, ℕ, List, [], ◌∷◌, Result, Ok, Err, refl, sym, subst, ◌∙◌}
use Rattle.std.specs.Borrow.{Bor}
use Rattle.defmt_grammar.specs.Slots.{slots_of}
use Rattle.defmt_grammar.specs.declared.kind.IntSize.{IntSize}
use Rattle.defmt_grammar.specs.declared.kind.Kind.TheVariants.{Uint}
use Rattle.defmt_grammar.specs.declared.piece.Piece.{Piece}
use Rattle.defmt_grammar.specs.declared.slot.Slot.{Slot}
use Rattle.defmt_grammar.specs.declared.slot.Slot.TheVariants.{One}
use Rattle.defmt_intern.specs.Table.{Map}
use Rattle.defmt_values.specs.Entries.{places_of, places_from}
use Rattle.defmt_values.specs.Plain.{Val, uint, Vals, no_vals, val}
use Rattle.defmt_encode.specs.Carry.{size_bytes}
use Rattle.defmt_encode.specs.Read.{Read, ◌⇒◌, number_at, only_at, value_at, each_at}
use Rattle.defmt_encode.specs.Reads.{ReadsVals}
use Rattle.defmt_encode.specs.declared.cause.Fault.{Fault}

-- a number as a value, and this value as a list
abbrev as_uint : ℕ × List ℕ → Read (Val × ℕ × List ℕ)
as_uint r = Ok (uint r.0, 0, r.1)

abbrev as_list : Val × ℕ × List ℕ → Read (Vals × ℕ × List ℕ)
as_list h = Ok (val h.0 no_vals, h.1, h.2)

abbrev both : ℕ × List ℕ → Read (Vals × ℕ × List ℕ)
both r = Ok (val (uint r.0) no_vals, 0, r.1)

one_val : (q : Read (ℕ × List ℕ)) → ((q ⇒ as_uint) ⇒ as_list) ≡ (q ⇒ both)
one_val (Ok r) = refl
one_val (Err e) = refl

module _ (t : Map) (ps : List Piece) (size : IntSize) (bytes : List ℕ) where
  walked : (all : List Slot) → all ≡ One (Uint size) ∷ [] → each_at (value_at t 16) (places_from ps 0 all) 1 0 bytes ≡ only_at size bytes
  unfolding each_at value_at
  walked all e = rw e (one_val (number_at (size_bytes size) bytes))

  pub one_number : (all : List Slot) → all ≡ slots_of ps → all ≡ One (Uint size) ∷ [] → (r : Result (Vals × ℕ × Bor (List ℕ)) Fault) → ReadsVals r (only_at size bytes) → ReadsVals r (each_at (value_at t 16) (places_of ps) 1 0 bytes)
  one_number all is one r h = subst (λ (q : Read (Vals × ℕ × List ℕ)). ReadsVals r q) (sym (walked (slots_of ps) (sym is ∙ one))) h

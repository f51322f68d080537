-- What the readers answer.
use Rattle.std.specs.Prelude.{◌≡◌, ℕ, List, Option, Result, Ok, Err}
use Rattle.std.specs.Borrow.{Bor}
use Rattle.dl_io.specs.Buffer.{Buffer}
use Rattle.defmt_grammar.specs.declared.piece.Piece.{Piece}
use Rattle.defmt_grammar.specs.declared.kind.Kind.TheVariants as kinds
use Rattle.defmt_grammar.specs.declared.slot.Slot.{Slot}
use Rattle.defmt_grammar.specs.declared.slot.Slot.TheVariants as slots
use Rattle.defmt_intern.specs.Catalog.{Catalog}
use Rattle.defmt_values.specs.Plain.{Val, Vals, Elems, Nodes}
use Rattle.defmt_values.specs.View.{plain}
use Rattle.defmt_values.specs.declared.value.Item.{Item}
use Rattle.defmt_values.specs.declared.value.Value.{Value}
use Rattle.defmt_encode.specs.Cause.{answer_of}
use Rattle.defmt_encode.specs.Heard.{IsHeard}
use Rattle.defmt_encode.specs.Met.{IsMet}
use Rattle.defmt_encode.specs.Read.{Read}
use Rattle.defmt_encode.specs.declared.cause.Cause.{Cause}
use Rattle.defmt_encode.specs.declared.cause.Fault.{Fault}
use Rattle.defmt_encode.specs.declared.cause.Fault.TheVariants.{Bad, Memory}
use Rattle.defmt_encode.specs.declared.heard.Heard.{Heard}
use Rattle.defmt_encode.specs.declared.heard.ReadCause.{ReadCause}
use Rattle.defmt_encode.specs.declared.heard.ReadCause.TheVariants as answers

-- ---- what references in results refer to

abbrev pub now_of : {T : Type 0} → Result (Bor T) Cause → Read T
now_of (Ok r) = Ok r.now
now_of (Err e) = Err e

abbrev pub pair_now : {T : Type 0} → Result (T × Bor (List ℕ)) Cause → Read (T × List ℕ)
pair_now (Ok r) = Ok (r.0, r.1.now)
pair_now (Err e) = Err e

abbrev pub chunks_now : Result (Bor (List ℕ) × Bor (List ℕ)) Cause → Read (List ℕ × List ℕ)
chunks_now (Ok r) = Ok (r.0.now, r.1.now)
chunks_now (Err e) = Err e

abbrev pub variant_now : Result (Option ℕ × Bor (List Piece) × Bor (List ℕ)) Cause
    → Read (Option ℕ × List Piece × List ℕ)
variant_now (Ok r) = Ok (r.0, r.1.now, r.2.now)
variant_now (Err e) = Err e

-- ---- what is read, unless memory runs out

abbrev pub ReadsChunk : Result (List ℕ × Bor (List ℕ)) Fault → Read (List ℕ × List ℕ) → Type 0
ReadsChunk (Ok r) expected = Ok (r.0, r.1.now) ≡ expected
ReadsChunk (Err (Bad c)) expected = Err c ≡ expected
ReadsChunk (Err Memory) expected = Unit {0}

abbrev pub ReadsBuffer : Result (Buffer × Bor (List ℕ)) Fault → Read (List ℕ × List ℕ) → Type 0
ReadsBuffer (Ok r) expected = Ok (r.0.items, r.1.now) ≡ expected
ReadsBuffer (Err (Bad c)) expected = Err c ≡ expected
ReadsBuffer (Err Memory) expected = Unit {0}

abbrev pub ReadsVal : Result (Value × ℕ × Bor (List ℕ)) Fault → Read (Val × ℕ × List ℕ) → Type 0
ReadsVal (Ok r) expected = Ok (plain r.0, r.1, r.2.now) ≡ expected
ReadsVal (Err (Bad c)) expected = Err c ≡ expected
ReadsVal (Err Memory) expected = Unit {0}

abbrev pub ReadsVals : Result (Vals × ℕ × Bor (List ℕ)) Fault → Read (Vals × ℕ × List ℕ) → Type 0
ReadsVals (Ok r) expected = Ok (r.0, r.1, r.2.now) ≡ expected
ReadsVals (Err (Bad c)) expected = Err c ≡ expected
ReadsVals (Err Memory) expected = Unit {0}

abbrev pub ReadsElem : Result (Item × ℕ × Bor (List ℕ)) Fault
    → Read ((Option ℕ × Vals) × ℕ × List ℕ) → Type 0
ReadsElem (Ok r) expected = Ok ((r.0.variant, r.0.args), r.1, r.2.now) ≡ expected
ReadsElem (Err (Bad c)) expected = Err c ≡ expected
ReadsElem (Err Memory) expected = Unit {0}

abbrev pub ReadsElems : Result (Elems × ℕ × Bor (List ℕ)) Fault → Read (Elems × ℕ × List ℕ) → Type 0
ReadsElems (Ok r) expected = Ok (r.0, r.1, r.2.now) ≡ expected
ReadsElems (Err (Bad c)) expected = Err c ≡ expected
ReadsElems (Err Memory) expected = Unit {0}

abbrev pub ReadsNodes : Result (Nodes × ℕ × Bor (List ℕ)) Fault → Read (Nodes × ℕ × List ℕ) → Type 0
ReadsNodes (Ok r) expected = Ok (r.0, r.1, r.2.now) ≡ expected
ReadsNodes (Err (Bad c)) expected = Err c ≡ expected
ReadsNodes (Err Memory) expected = Unit {0}

abbrev pub ReadsStamp : Result (Vals × Bor (List ℕ)) Fault → Read (Vals × List ℕ) → Type 0
ReadsStamp (Ok r) expected = Ok (r.0, r.1.now) ≡ expected
ReadsStamp (Err (Bad c)) expected = Err c ≡ expected
ReadsStamp (Err Memory) expected = Unit {0}

abbrev pub ReadsMessage : Result Heard Fault → Read (Option ℕ × Vals × ℕ × Vals) → Type 0
ReadsMessage (Ok heard) expected =
    Ok (heard.place, heard.stamp, heard.stm.index, heard.stm.args) ≡ expected
ReadsMessage (Err (Bad c)) expected = Err c ≡ expected
ReadsMessage (Err Memory) expected = Unit {0}

-- the values that stand in a list afterwards, with what else was answered
abbrev pub with_vals : Vals → Result (ℕ × Bor (List ℕ)) Fault
    → Result (Vals × ℕ × Bor (List ℕ)) Fault
with_vals vs (Ok r) = Ok (vs, r.0, r.1)
with_vals vs (Err e) = Err e

-- the same of a stamp
abbrev pub with_stamp : Vals → Result (Bor (List ℕ)) Fault → Result (Vals × Bor (List ℕ)) Fault
with_stamp vs (Ok rest) = Ok (vs, rest)
with_stamp vs (Err e) = Err e

-- what a message says that was read into this place
abbrev pub told : {E : Type 0} → Heard → Result (Unit {0}) E → Result Heard E
told heard (Ok done) = Ok heard
told heard (Err e) = Err e

-- no values stand inside a value of the slot
abbrev pub IsLeaf : Slot → Type 0
IsLeaf (slots.One kinds.Format) = ⊥
IsLeaf (slots.One kinds.FormatSlice) = ⊥
IsLeaf (slots.One (kinds.FormatArray count)) = ⊥
IsLeaf (slots.One kinds.Sequence) = ⊥
IsLeaf slot = Unit {0}

-- ---- the answers of `read_message`

-- the cause by its number
abbrev pub answered : Result Heard Fault → Result Heard ReadCause
answered (Ok heard) = Ok heard
answered (Err fault) = Err (answer_of fault)

-- only what is heard is answered, and only a cause that is met
abbrev pub Answers : Catalog → List ℕ → Result Heard ReadCause → Type 0
Answers t bytes (Ok heard) = IsHeard t bytes heard.place heard.stamp heard.stm.index heard.stm.args
Answers t bytes (Err (answers.Bad cause)) = IsMet t bytes cause
Answers t bytes (Err answers.Memory) = Unit {0}

-- this place, stamp and statement, unless memory runs out
abbrev pub GivesOnly : Result Heard ReadCause → Option ℕ → Vals → ℕ → Vals → Type 0
GivesOnly (Ok heard) place stamp index vs = (heard.place ≡ place) × (heard.stamp ≡ stamp)
    × (heard.stm.index ≡ index) × (heard.stm.args ≡ vs)
GivesOnly (Err (answers.Bad cause)) place stamp index vs = ⊥
GivesOnly (Err answers.Memory) place stamp index vs = Unit {0}

-- this cause, unless memory runs out
abbrev pub RefusesOnly : Result Heard ReadCause → ℕ → Type 0
RefusesOnly (Ok heard) number = ⊥
RefusesOnly (Err (answers.Bad cause)) number = cause ≡ number
RefusesOnly (Err answers.Memory) number = Unit {0}

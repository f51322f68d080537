-- What is put into a buffer of which 2,000 bytes are used.
use Rattle.std.specs.Prelude.{◌≡◌, ◌≤◌, ◌<◌, ◌+◌, ℕ, List, ◌++◌, length, take, drop, Result, Ok, Err}
use Rattle.defmt_grammar.specs.declared.slot.Slot.{Slot}
use Rattle.defmt_intern.specs.Table.{Map}
use Rattle.defmt_values.specs.Plain.{Val, Vals, Elems, Nodes}
use Rattle.defmt_encode.specs.Carry.{bytes_val, bytes_vals, bytes_elems, bytes_nodes}
use Rattle.defmt_encode.specs.declared.put.Long.{Long}

-- the most bytes of a message
abbrev pub message_limit : ℕ
message_limit = 2000

-- the bytes stand behind the first `at`, up to the place n, and what lies behind them is as before
pub record Wrote (old new : List ℕ) (at n : ℕ) (bytes : List ℕ) : Type 0 where
  pub end_is : n ≡ at + length bytes
  pub fits : n ≤ message_limit
  pub front : take n new ≡ take at old ++ bytes
  pub behind : drop n new ≡ drop n old

-- The bytes don't fit. Some of the first of them stand behind the first `at`, maybe none, and what lies
-- behind those is as before.
pub record Refuses (old new : List ℕ) (at : ℕ) (bytes : List ℕ) : Type 0 where
  pub long : message_limit < at + length bytes
  pub written : List ℕ
  pub missing : List ℕ
  pub parts : bytes ≡ written ++ missing
  pub wrote : Wrote old new at (at + length written) written

-- the bytes stand behind the first `at`, or don't fit
abbrev pub Puts : List ℕ → List ℕ → ℕ → Result ℕ Long → List ℕ → Type 0
Puts old new at (Ok n) bytes = Wrote old new at n bytes
Puts old new at (Err e) bytes = Refuses old new at bytes

-- the buffer begins with the message and is as before behind it
pub record Begins (old new : List ℕ) (n : ℕ) (message : List ℕ) : Type 0 where
  pub message_is : take n new ≡ message
  pub length_is : n ≡ length message
  pub short : n ≤ message_limit
  pub behind : drop n new ≡ drop n old

-- the message was written, or it has more than 2,000 bytes and the buffer is as before
abbrev pub Writes : List ℕ → List ℕ → Result ℕ Long → List ℕ → Type 0
Writes old new (Ok n) message = Begins old new n message
Writes old new (Err e) message = (message_limit < length message) × (new ≡ old)

-- whatever its slot, a value has at most so many bytes
abbrev pub HasAtMost : Val → ℕ → Type 0
HasAtMost v n = (t : Map) (slot : Slot) → length (bytes_val t slot v) ≤ n

-- the same of values one after another
abbrev pub HaveAtMost : Vals → ℕ → Type 0
HaveAtMost vs n = (t : Map) (slots : List Slot) → length (bytes_vals t slots vs) ≤ n

-- the same of the elements of a list, whatever its entry
abbrev pub EachHasAtMost : Elems → ℕ → Type 0
EachHasAtMost es n = (t : Map) (index : ℕ) → length (bytes_elems t index es) ≤ n

-- the same of the elements of a sequence
abbrev pub EachNodeHasAtMost : Nodes → ℕ → Type 0
EachNodeHasAtMost ns n = (t : Map) → length (bytes_nodes t ns) ≤ n

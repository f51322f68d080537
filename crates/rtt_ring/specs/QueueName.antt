-- The name of a queue ring: the numbers that tell its queue from every other.
use Rattle.std.specs.Prelude.{ℕ, List, [], ◌∷◌}
use denote.RawPtr.{Ptr, block_ptr, null_ptr}
use Rattle.rtrb.specs.declared.producer.Producer.{Producer}
use Rattle.rtrb.specs.declared.consumer.Consumer.{Consumer}

-- the numbers of a place in memory, in front of others
abbrev pub place_of : Ptr → List ℕ → List ℕ
place_of null_ptr more = 0 ∷ 0 ∷ 0 ∷ more
place_of (block_ptr block offset) more = 1 ∷ block ∷ offset ∷ more

-- the places of the queue's two blocks, and the names of what it keeps
abbrev pub name_of_producer : {T A P : Type 0} → Producer T A P → List ℕ
name_of_producer p = place_of p.end.words (place_of p.end.slots (p.end.names.0 ∷ p.end.names.1.0 ∷ p.end.names.1.1 ∷ []))

abbrev pub name_of_consumer : {T A P : Type 0} → Consumer T A P → List ℕ
name_of_consumer c = place_of c.end.words (place_of c.end.slots (c.end.names.0 ∷ c.end.names.1.0 ∷ c.end.names.1.1 ∷ []))

-- What contracts see of a journal, and of a note in it.
use Rattle.std.specs.Prelude.{◌≡◌, ℕ, List}
use Rattle.rtt_ring.specs.declared.journal.Traffic.{Traffic}
use Rattle.rtt_ring.specs.declared.journal.Journal.{Journal}
use Rattle.rtt_ring.specs.Steps.{numbers_of}

abbrev pub name_of : Journal → List ℕ
name_of j = numbers_of j.seat.table_id

abbrev pub traffic_of : Journal → Traffic
traffic_of j = j.seat.me.0

-- a journal after a note: it is the same journal, with this traffic
pub record IsNext (old new : Journal) (t : Traffic) : Type 0 where
  pub name : name_of new ≡ name_of old
  pub traffic : traffic_of new ≡ t

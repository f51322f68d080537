-- What went through a ring, and what each call makes of it.
use Rattle.std.specs.Prelude.{◌≡◌, ℕ, ◌+◌, true, List, [], ◌∷◌, ◌++◌, length, drop}
use Rattle.rtt_words.specs.declared.view.Access.{Access}
use Rattle.rtt_words.specs.declared.view.Access.TheVariants.{Stored, Loaded}
use Rattle.rtt_words.specs.History.{are_stores, last_stored}
use Rattle.rtt_ring.specs.declared.journal.Traffic.{Traffic}

-- nothing went through a new ring
abbrev pub fresh : Traffic
fresh = record { sent = []; staged = []; freed = 0; up_looks = 0; got = []; found = 0; down_looks = 0; history = []; seen = [] }

-- a look of the upper end finds released what was taken
abbrev pub look_up : Traffic → Traffic
look_up t =
    let now = t.history ++ Loaded (length t.got) ∷ [] in
    record t { freed = length t.got; up_looks = t.up_looks + 1; history = now; seen = now }

abbrev pub put_more : Traffic → List ℕ → Traffic
put_more t bytes = record t { staged = t.staged ++ bytes }

abbrev pub publish_all : Traffic → Traffic
publish_all t = record t { sent = t.sent ++ t.staged; staged = [] }

-- a look of the lower end finds published what was sent
abbrev pub look_down : Traffic → Traffic
look_down t = record t { found = length t.sent; down_looks = t.down_looks + 1 }

-- what is taken is released
abbrev pub take_more : Traffic → List ℕ → Traffic
take_more t bytes = record t { got = t.got ++ bytes; history = t.history ++ Stored (length (t.got ++ bytes)) ∷ [] }

-- behind what was seen of a history come only stores, and n was stored last
pub record IsSeen (seen history : List Access) (n : ℕ) : Type 0 where
  pub is : history ≡ seen ++ drop (length seen) history
  pub others : are_stores (drop (length seen) history) ≡ true
  pub latest : last_stored 0 history ≡ n

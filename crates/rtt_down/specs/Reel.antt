-- What contracts see of turns, and how the logic stores it: as the tuple of its parts.
use Rattle.std.specs.Prelude.{ℕ, List, refl}
use Rattle.std.specs.Coded.{Coded, code_by, coded×, coded_list, coded_ℕ}
use Rattle.rtt_down.specs.contracts.turn.Turn.{the_row as turn_row}
use Rattle.rtt_down.specs.declared.turn.Turn.{Turn}

-- turns
pub record Reel : Type 0 where
  pub turns : List Turn
  -- for how many more there is room
  pub room : ℕ
  -- the names of the splits of two rings: of that which the frames go up, and of that which orders come down
  pub split : List ℕ
  pub down : List ℕ
  -- how many bytes each turn's look found sent down
  pub found : List ℕ
  -- all bytes that had been sent down when no turn was taken yet, where this was noted
  pub ahead : List ℕ

abbrev pub coded_reel : Coded Reel
coded_reel = code_by (List Turn × (ℕ × (List ℕ × (List ℕ × (List ℕ × List ℕ)))))
    (coded× (coded_list turn_row.coded)
    (coded× coded_ℕ (coded× (coded_list coded_ℕ) (coded× (coded_list coded_ℕ) (coded× (coded_list coded_ℕ) (coded_list coded_ℕ))))))
    (λ r. (r.turns, (r.room, (r.split, (r.down, (r.found, r.ahead))))))
    (λ p. record {
      turns = p.0;
      room = p.1.0;
      split = p.1.1.0;
      down = p.1.1.1.0;
      found = p.1.1.1.1.0;
      ahead = p.1.1.1.1.1;
    })
    (λ _. refl)

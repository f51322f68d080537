-- Where the ID of a control block stands in the segments.
use Rattle.std.specs.Prelude.{◌≤◌, take, ◌<◌, ℕ, Bool, List, [], ◌∷◌, ◌++◌, ◌+◌, ◌-◌, map, nat_le, Option, Some, None, Result, Ok, Err, IfSome}
use Rattle.std.specs.List.{filter}
use Rattle.rtt_control.specs.Control.{id_places}
use Rattle.rtt_dump.specs.Faults.{refused}
use Rattle.rtt_dump.specs.Segments.{Region}
use Rattle.rtt_dump.specs.declared.fault.Cause.TheVariants.{NoId, TwoIds}
use Rattle.rtt_dump.specs.declared.fault.DumpFault.{DumpFault}
use Rattle.rtt_dump.specs.declared.ids.Spot.{Spot}

-- these places of the segment number n
abbrev pub spots : ℕ → List ℕ → List Spot
spots n places = map (λ at. record { segment = n; at = at }) places

-- the IDs in the segment number n
abbrev pub ids_in : ℕ → List ℕ → List Spot
ids_in n bytes = spots n (id_places 0 bytes)

-- the IDs in segments of which the first has the number n
abbrev pub ids_from : ℕ → List Region → List Spot
ids_from n [] = []
ids_from n (region ∷ rest) = ids_in n region.bytes ++ ids_from (n + 1) rest

abbrev pub ids : List Region → List Spot
ids regions = ids_from 0 regions

-- the segment of the second ID
abbrev pub second_segment : List Spot → ℕ
second_segment [] = 0
second_segment (only ∷ []) = 0
second_segment (first ∷ second ∷ rest) = second.segment

-- refused unless there is one, and no second
abbrev pub id_refusal : List Spot → Option DumpFault
id_refusal [] = Some (refused NoId 0)
id_refusal (only ∷ []) = None
id_refusal (first ∷ second ∷ rest) = Some (refused TwoIds second.segment)

-- ---- for private clauses

-- at most one, or the refusal of the second
abbrev pub at_most_one : List Spot → Result (Option Spot) DumpFault
at_most_one [] = Ok None
at_most_one (only ∷ []) = Ok (Some only)
at_most_one (first ∷ second ∷ rest) = Err (refused TwoIds second.segment)

-- the list of at most one
abbrev pub listed : Option Spot → List Spot
listed None = []
listed (Some spot) = spot ∷ []

-- it stands in a segment of a lower number
abbrev pub IsBelow : ℕ → Option Spot → Type 0
IsBelow n one = IfSome one (λ spot. spot.segment < n)

-- the places of a list rise, from this one on
abbrev pub Rises : ℕ → List ℕ → Type 0
Rises low [] = Unit {0}
Rises low (p ∷ places) = (low ≤ p) × Rises p places

-- of some places that rise, the first two that aren't below s
abbrev pub first_two : ℕ → List ℕ → List ℕ
first_two s places = take 2 (filter (nat_le s) places)

-- the 16 bytes of an ID at this place end by that one
abbrev pub ends_by : ℕ → ℕ → Bool
ends_by end p = nat_le (p + 16) end

-- of the places of IDs in a file those in a part of it, as places in the part
abbrev pub places_in : ℕ → ℕ → List ℕ → List ℕ
places_in start len places = map (λ p. p - start) (filter (ends_by (start + len)) (filter (nat_le start) places))

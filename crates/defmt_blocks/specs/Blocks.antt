-- What a block of a part told, and what is known of who heard it.
use Rattle.std.specs.Prelude.{◌≡◌, ◌≤◌, ◌-◌, ℕ, false, List, [], ◌∷◌, length, take, drop, IfSome, Option}
use Rattle.defmt_blocks.specs.declared.side.Block.{Block}
use Rattle.defmt_blocks.specs.declared.side.Side.{Side}
use Rattle.defmt_decode.specs.Event.{tells}
use Rattle.defmt_decode.specs.declared.event.Event.{Event}
use Rattle.defmt_framing.specs.Cut.{tail}
use Rattle.defmt_framing.specs.Framing.{Stands}
use Rattle.defmt_framing.specs.Told.{Tells, begun}
use Rattle.defmt_listen.specs.Gathered.{gathered, IsGathered}
use Rattle.defmt_listen.specs.Heard.{faults_among, lines_from, state_behind}
use Rattle.defmt_listen.specs.declared.report.Report.{Report}
use Rattle.defmt_recording.specs.Styled.{Look, Reel, by_style, reel}
use Rattle.defmt_recording.specs.declared.host_listener.HostListener.{HostListener}

-- the bytes of a block
abbrev pub bytes_of : List ℕ → Block → List ℕ
bytes_of part block = take (block.to - block.from) (drop block.from part)

-- A side tells by these, and prints as this look asks, unless memory was wanting.
abbrev pub IsKin : Look → Tells Event → Side → Type 0
IsKin look t side = side.lost ≡ false → (side.reporter.look ≡ look) × (tells side.listener.host.table ≡ t)

-- What some bytes tell behind a zero was printed behind the line with this place, and counted.
pub record TellsOf (look : Look) (t : Tells Event) (bytes : List ℕ) (last : Option ℕ) (side : Side) : Type 0 where
  pub stands : Stands side.listener.host.framing (0 ∷ bytes)
  pub tells_is : tells side.listener.host.table ≡ t
  pub lines : side.lines.text.items ≡ lines_from by_style (reel look last 0 0) (begun t (0 ∷ bytes))
  pub moved : side.reporter ≡ state_behind by_style (reel look last 0 0) (begun t (0 ∷ bytes))
  pub counted : side.report.faults ≡ faults_among by_style (begun t (0 ∷ bytes))
  pub few : side.report.faults ≤ length bytes

-- So it is of the bytes of a block, which end with a zero.
pub record ToldBlock (look : Look) (t : Tells Event) (part : List ℕ) (side : Side) (block : Block) : Type 0 where
  pub ordered : block.from ≤ block.to
  pub within : block.to ≤ length part
  pub ended : tail (0 ∷ bytes_of part block) ≡ []
  pub told : TellsOf look t (bytes_of part block) block.last side

-- so it is of the block of a side, where it has one
abbrev pub IsTold : Look → Tells Event → List ℕ → Side → Type 0
IsTold look t part side = IfSome side.block (λ block. ToldBlock look t part side block)

-- the listener has heard a stream
abbrev pub IsHearing : HostListener → Type 0
IsHearing listener = (stream : List ℕ) × Stands listener.host.framing stream

-- The listener has heard a zero alone, the reporter has counted nothing yet, and the report is empty.
pub record IsOnItsWay (look : Look) (t : Tells Event) (listener : HostListener) (reporter : Reel) (report : Report) : Type 0 where
  pub stands : Stands listener.host.framing (0 ∷ [])
  pub tells_is : tells listener.host.table ≡ t
  pub reporter_is : reporter ≡ reel look reporter.last 0 0
  pub within : IsGathered report
  pub empty : gathered report ≡ []
  pub none : report.faults ≡ 0

-- ---- what a side says of its block, as a fact that a message keeps

-- What bytes tell comes to: the lines, the reporter's place and counts behind them, and how many events are faults.
pub record Says : Type 0 where
  pub lines : List ℕ
  pub last : Option ℕ
  pub failing : ℕ
  pub cuts : ℕ
  pub faults : ℕ

abbrev pub Agrees : Says → Says → Type 0
Agrees a b = (a.lines ≡ b.lines) × (a.last ≡ b.last) × (a.failing ≡ b.failing) × (a.cuts ≡ b.cuts) × (a.faults ≡ b.faults)

-- so it is of bytes behind a zero, and behind the line with this place
abbrev pub told_says : Look → Tells Event → Option ℕ → List ℕ → Says
told_says look t last bytes = record {
  lines = lines_from by_style (reel look last 0 0) (begun t (0 ∷ bytes));
  last = (state_behind by_style (reel look last 0 0) (begun t (0 ∷ bytes))).last;
  failing = (state_behind by_style (reel look last 0 0) (begun t (0 ∷ bytes))).failing;
  cuts = (state_behind by_style (reel look last 0 0) (begun t (0 ∷ bytes))).cuts;
  faults = faults_among by_style (begun t (0 ∷ bytes));
}

-- and of what a side printed and counted
abbrev pub side_says : Side → Says
side_says side = record {
  lines = side.lines.text.items;
  last = side.reporter.last;
  failing = side.reporter.failing;
  cuts = side.reporter.cuts;
  faults = side.report.faults;
}

-- a side said of its block what is said so, and the block ends with a zero
abbrev pub SaidBlock : (Option ℕ → List ℕ → Says) → List ℕ → Side → Block → Type 0
SaidBlock says part side block =
    Agrees (side_says side) (says block.last (bytes_of part block)) × (block.from ≤ block.to) × (block.to ≤ length part)
    × (tail (0 ∷ bytes_of part block) ≡ []) × (side.report.faults ≤ length (bytes_of part block))

abbrev pub IsSaid : (Option ℕ → List ℕ → Says) → List ℕ → Side → Type 0
IsSaid says part side = IfSome side.block (λ block. SaidBlock says part side block)

-- by this look and these tells, so is said of all bytes
abbrev pub SaysAs : (Option ℕ → List ℕ → Says) → Look → Tells Event → Type 0
SaysAs says look t = (last : Option ℕ) (bytes : List ℕ) → Agrees (told_says look t last bytes) (says last bytes)

-- a side says so, unless memory was wanting
abbrev pub IsSaying : (Option ℕ → List ℕ → Says) → Side → Type 0
IsSaying says side = side.lost ≡ false → SaysAs says side.reporter.look (tells side.listener.host.table)

-- so do this reporter and this listener, which has heard a stream
abbrev pub Suits : (Option ℕ → List ℕ → Says) → HostListener → Reel → Type 0
Suits says listener reporter = SaysAs says reporter.look (tells listener.host.table) × IsHearing listener

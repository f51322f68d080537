-- What a session tells of the run of a script.
use Rattle.std.specs.Prelude.{◌≡◌, ◌<◌, ℕ, true, false, List, [], ◌++◌, length, Option, Some, None, IfSome}
use Rattle.defmt_decode.specs.declared.event.Event.{Event}
use Rattle.defmt_decode.specs.Event.{events_of}
use Rattle.defmt_frames.specs.Frames.{count}
use Rattle.defmt_logger.specs.Kept.{LooksIn, Reel as Tape}
use Rattle.defmt_logger.specs.Tape.{IsLawful, RoomsIn, marks_of, stream_of}
use Rattle.defmt_logger.specs.declared.mark.Mark.{Mark}
use Rattle.defmt_print.specs.Heard.{GapsIn, LinesIn, PrintTurns, catalog_of, turn_events}
use Rattle.defmt_run.specs.declared.outcome.Outcome.{Outcome}
use Rattle.defmt_script.specs.Script.{Script}
use Rattle.defmt_writers.specs.Runs.{ReachedIn}
use Rattle.defmt_steer.specs.Steers.{due, whole_frames}
use Rattle.rtt_booth.specs.Kept.{Reel as Said}
use Rattle.rtt_booth.specs.Said.{IsLawful as AreLawful, spoken_by, words_of}
use Rattle.rtt_booth.specs.declared.said.Word.{Word as SaidWord}
use Rattle.rtt_down.specs.Orders.{orders_joined}
use Rattle.rtt_down.specs.Reel.{Reel as Turns}
use Rattle.rtt_down.specs.Steered.{AreHeard, IsSteered, turns_of, stream_of as steered_stream}
use Rattle.rtt_down.specs.declared.turn.Turn.{Turn}
use Rattle.rtt_ring.specs.Account.{Account, capped}
use Rattle.rtt_ring.specs.declared.settled.RingKind.TheVariants.{Word}
use Rattle.rtt_terminal.specs.Speech.{count_said}
use Rattle.writer_threads.specs.Passing.{WasPassed, WasTold}

-- The ring that the statements of a tape were logged to: the name of its split, how many looks its upper end made, and what was found
-- released for each mark.
pub record Ring : Type 0 where
  pub split : List ℕ
  pub looks : ℕ
  pub found : List ℕ

abbrev pub ring_of : Tape → Ring
ring_of tape = record { split = tape.split; looks = tape.looks; found = tape.found }

abbrev pub no_ring : Ring
no_ring = record { split = []; looks = 0; found = [] }

-- The rings of a run under orders: the names of the splits of that which the frames went up and of that which the orders came down, how
-- many bytes of orders each turn found, and all that were sent before any turn was taken.
pub record Rings : Type 0 where
  pub up : List ℕ
  pub down : List ℕ
  pub found : List ℕ
  pub ahead : List ℕ

abbrev pub rings_of : Turns → Rings
rings_of turns = record { up = turns.split; down = turns.down; found = turns.found; ahead = turns.ahead }

abbrev pub no_rings : Rings
no_rings = record { up = []; down = []; found = []; ahead = [] }

-- The tape, the account of the ring, what the host told of what was sent, and how many looks the logger made. Of terminals the
-- words of the texts that were said, and the account of their ring. Of a run under orders the turns in place of the tape, and the
-- account of the ring of orders.
pub record Told : Type 0 where
  pub tape : List Mark
  pub logged : Ring
  pub settled : Option Account
  pub events : List Event
  pub looks : ℕ
  pub said : List SaidWord
  pub spoken : List ℕ
  pub term : Option Account
  pub turns : List Turn
  pub rings : Rings
  pub orders : Option Account

-- what an outcome tells
abbrev pub told : Outcome → Told
told outcome = record {
  tape = outcome.tape.marks;
  logged = ring_of outcome.tape;
  settled = outcome.settled;
  events = outcome.events;
  looks = outcome.looks;
  said = outcome.said.words;
  spoken = outcome.said.split;
  term = outcome.term;
  turns = outcome.turns.turns;
  rings = rings_of outcome.turns;
  orders = outcome.orders;
}

-- a run with this tape, account, events and count of looks, and with these words and this account of terminals
abbrev pub told_of : Tape → Account → List Event → ℕ → Said → Option Account → Told
told_of tape account events looks said term = record {
  tape = tape.marks;
  logged = ring_of tape;
  settled = Some account;
  events = events;
  looks = looks;
  said = said.words;
  spoken = said.split;
  term = term;
  turns = [];
  rings = no_rings;
  orders = None;
}

-- a run under orders with these turns, account, events and account of orders
abbrev pub steered_of : Turns → Account → List Event → Account → Told
steered_of turns account events orders = record {
  tape = [];
  logged = no_ring;
  settled = Some account;
  events = events;
  looks = 0;
  said = [];
  spoken = [];
  term = None;
  turns = turns.turns;
  rings = rings_of turns;
  orders = Some orders;
}

-- no run is told of
pub record IsUntold (told : Told) : Type 0 where
  pub tape : told.tape ≡ []
  pub settled : told.settled ≡ None
  pub events : told.events ≡ []
  pub looks : told.looks ≡ 0
  pub said : told.said ≡ []
  pub term : told.term ≡ None
  pub turns : told.turns ≡ []
  pub orders : told.orders ≡ None
  pub logged : told.logged ≡ no_ring
  pub spoken : told.spoken ≡ []
  pub rings : told.rings ≡ no_rings

-- nothing is told of orders
pub record IsUnsteered (told : Told) : Type 0 where
  pub turns : told.turns ≡ []
  pub orders : told.orders ≡ None
  pub rings : told.rings ≡ no_rings

-- nothing is told of terminals
pub record IsUnspoken (told : Told) : Type 0 where
  pub said : told.said ≡ []
  pub term : told.term ≡ None
  pub spoken : told.spoken ≡ []

-- The script was run over a word ring. Every statement is on the lawful tape, each writer's once and in its order, and what was
-- sent is the stream of the tape. The reader got a front of it. In skip and trim mode no look found more bytes released than
-- the reader got; a late reader got none, and another all that was sent. The account is that of the ring to which the statements on
-- the tape were logged, the looks are those of its end, and what a mark tells of its room is what its look found.
pub record Ran (s : Script) (account : Account) (told : Told) : Type 0 where
  pub settled : told.settled ≡ Some account
  pub ring : account.ring ≡ Word
  pub lawful : IsLawful s told.tape
  pub all : (writer : ℕ) → writer < 8 → marks_of writer told.tape ≡ count s writer
  pub sent : account.sent ≡ stream_of s told.tape
  pub got : (rest : List ℕ) × (account.sent ≡ account.got ++ rest)
  pub reach : ReachedIn s.settings.mode s told.tape (length account.got)
  pub late : s.settings.late ≡ true → account.got ≡ []
  pub looks : LooksIn s.settings.mode (length told.tape) told.looks
  pub taken : s.settings.late ≡ false → account.got ≡ account.sent
  pub split : account.split ≡ told.logged.split
  pub counted : told.looks ≡ capped told.logged.looks
  pub rooms : RoomsIn s.settings.mode s told.tape told.logged.found

-- the host was fed what was sent
pub record IsHeard (s : Script) (account : Account) (told : Told) : Type 0 where
  pub events : told.events ≡ events_of (catalog_of s) account.sent
  pub lines : LinesIn s.settings.mode s told.tape told.events
  pub gaps : GapsIn s.settings.mode s.settings.profile s told.tape told.events

-- The texts for terminals were said over a word ring. Every text is among the lawful words, each writer's once and in its order,
-- and what was sent is what the words speak. The reader got all of it. The account is that of the ring to which the words were spoken.
pub record Spoke (s : Script) (account : Account) (told : Told) : Type 0 where
  pub term : told.term ≡ Some account
  pub ring : account.ring ≡ Word
  pub lawful : AreLawful s.said told.said
  pub all : (writer : ℕ) → writer < 8 → words_of writer told.said ≡ count_said s.said writer
  pub sent : account.sent ≡ spoken_by s.said told.said
  pub got : (rest : List ℕ) × (account.sent ≡ account.got ++ rest)
  pub taken : account.got ≡ account.sent
  pub split : account.split ≡ told.spoken

-- The script was run under its orders over two word rings. Every statement has its turn, the turns are steered by what was got of
-- the orders: each took what its look found of them and heard it. What was sent is their stream, and the reader got all of it. The
-- orders that are due before any frame is whole were sent before any turn was taken. The orders were sent that are due, by the whole
-- frames that it got, and no other, and a front of them was got. The host was fed what was sent, and tells the lines of the turns
-- that were sent, each once and in their order, and nothing else. In profile Two the gaps that are printed between them count the turns
-- that weren't sent. Both accounts are of the rings that the turns name. There is no tape.
pub record Steered (s : Script) (account orders : Account) (told : Told) : Type 0 where
  pub settled : told.settled ≡ Some account
  pub down : told.orders ≡ Some orders
  pub rings : (account.ring ≡ Word) × (orders.ring ≡ Word)
  pub steered : IsSteered s told.turns orders.got
  pub all : (writer : ℕ) → writer < 8 → turns_of writer told.turns ≡ count s writer
  pub sent : account.sent ≡ steered_stream s told.turns
  pub got : (rest : List ℕ) × (account.sent ≡ account.got ++ rest)
  pub taken : account.got ≡ account.sent
  pub split : account.split ≡ told.rings.up
  pub of_orders : orders.split ≡ told.rings.down
  pub hears : AreHeard orders.got 0 told.turns told.rings.found
  pub early : told.rings.ahead ≡ orders_joined (due s.settings.orders 0)
  pub ordered : orders.sent ≡ orders_joined (due s.settings.orders (whole_frames account.got))
  pub heard : (rest : List ℕ) × (orders.sent ≡ orders.got ++ rest)
  pub events : told.events ≡ events_of (catalog_of s) account.sent
  pub lines : told.events ≡ turn_events s told.turns
  pub gaps : PrintTurns s told.turns told.events
  pub untaped : (told.tape ≡ []) × (told.looks ≡ 0) × (told.logged ≡ no_ring) × IsUnspoken told

-- What a gate was asked and told, by what it shows: of each statement that is told of, at the place where its writer logged it; and the
-- totals of all that the reader took.
pub record IsGated (passed : ℕ → ℕ → Type 0) (shown : ℕ → Type 0) (told : Told) : Type 0 where
  pub asked : (writer : ℕ) → writer < 8 → WasPassed (passed writer) 0 (marks_of writer told.tape)
  pub asked_turns : (writer : ℕ) → writer < 8 → WasPassed (passed writer) 0 (turns_of writer told.turns)
  pub totals : IfSome told.settled (λ account. WasTold shown 0 (length account.got))

-- the same of a run of the script by which these bytes were captured; for private clauses
pub record GatesRun (passed : ℕ → ℕ → Type 0) (shown : ℕ → Type 0) (s : Script) (captured : List ℕ) : Type 0 where
  pub asked : (writer : ℕ) → writer < 8 → WasPassed (passed writer) 0 (count s writer)
  pub totals : WasTold shown 0 (length captured)

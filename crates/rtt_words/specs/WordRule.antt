-- The rule of a word ring, and what each kind of step tells.
use Rattle.std.specs.Prelude.{◌≡◌, ◌≢◌, ◌⊎◌, ℕ, ◌+◌, ◌-◌, ◌/◌, ◌%◌, ◌<◌, ◌≤◌, List, [], ◌++◌, length, take, drop, slice_index, Some, None}
use mathlib.Core.Option.{some}
use Rattle.std.specs.Int.{to_le_bytes, w64}
use lib.ListN.{get_elem?}
use Rattle.atomic_table.specs.Table.{State, Me, Step}
use Rattle.rtt_words.specs.declared.view.Access.{Access}
use Rattle.rtt_words.specs.History.{IsLoaded, IsStored, IsTold}
use Rattle.rtt_words.specs.declared.view.UpView.{UpView}
use Rattle.rtt_words.specs.declared.view.DownView.{DownView}
use Rattle.rtt_words.specs.declared.view.View.{View}
use Rattle.rtt_words.specs.declared.view.View.TheVariants.{Spent, Up, Down, Both}

-- the eight bytes of a word, the lowest first
unfoldable pub lanes : ℕ → List ℕ
lanes w = to_le_bytes w64 w

-- the byte of a word in a lane
abbrev pub lane : ℕ → ℕ → ℕ
lane w k = slice_index (lanes w) k

-- the word `new` has the bytes bs from the lane l on, and is `old` in its other lanes
pub record Mixes (old new l : ℕ) (bs : List ℕ) : Type 0 where
  pub inside : l + length bs ≤ 8
  pub new_ones : (t : ℕ) → t < length bs → lane new (l + t) ≡ slice_index bs t
  pub before : (j : ℕ) → j < l → lane new j ≡ lane old j
  pub after : (j : ℕ) → l + length bs ≤ j → lane new j ≡ lane old j

-- xs is a front of ys
abbrev pub StartsWith : List ℕ → List ℕ → Type 0
StartsWith ys xs = (rest : List ℕ) × (ys ≡ xs ++ rest)

-- how many bytes: what was found released is released; that was got; that was found published; that was sent; and at
-- most one byte fewer than the size is in use
pub record InOrder (size freed released got found sent staged : ℕ) : Type 0 where
  pub freed_first : freed ≤ released
  pub released_next : released ≤ got
  pub got_next : got ≤ found
  pub found_last : found ≤ sent
  pub room : sent + staged + 1 ≤ freed + size

-- what the words hold: the two offsets, and behind them a word for each eight bytes of the buffer
pub record AreStored (size : ℕ) (words sent staged : List ℕ) (released : ℕ) : Type 0 where
  pub wide : length words ≡ (size + 7) / 8 + 2
  -- WrOff and RdOff
  pub wr_off : slice_index words 0 ≡ length sent % size
  pub rd_off : slice_index words 1 ≡ released % size
  -- each byte that isn't released stands at its number modulo the size
  pub bytes : (i b : ℕ) → released ≤ i → get_elem? (sent ++ staged) i ≡ some b → (lane (slice_index words (i % size / 8 + 2)) (i % size % 8) ≡ b) × (b < 256)

-- what holds between any two steps, of the words and of what the two ends know. Numbers of bytes are since the ring was made
pub record Facts (size : ℕ) (words : List ℕ) (u : UpView) (d : DownView) : Type 0 where
  pub sizes : (u.size ≡ size) × (d.size ≡ size) × (1 < size)
  pub order : InOrder size u.freed d.released (length d.got) d.found (length u.sent) (length u.staged)
  pub front : StartsWith u.sent d.got
  pub stored : AreStored size words u.sent u.staged d.released
  -- the word that the upper end holds has the value that it read
  pub held : (k v : ℕ) → u.held ≡ Some (k, v) → slice_index words (k + 2) ≡ v
  -- the histories of the two offsets
  pub rd_told : IsTold d.rd_off u.rd_off d.released
  pub wr_told : IsTold u.wr_off d.wr_off (length u.sent)

-- how the two ends of one ring stand to each other
abbrev pub IsWhole : UpView → DownView → Type 0
IsWhole u d = (u.freed ≤ length d.got) × StartsWith u.sent d.got × (length u.sent + 1 ≤ length d.got + u.size)

-- what a seat's view says of the two ends: the upper end is the seat `upper`, and the lower end the seat `lower`
module _ (upper lower : ℕ) (u : UpView) (d : DownView) (seat : ℕ) where
  abbrev pub Knows : View → Type 0
  Knows Spent = Unit {0}
  Knows (Up v) = (seat ≡ upper) × (v ≡ u)
  Knows (Down e) = (seat ≡ lower) × (e ≡ d)
  Knows (Both v e) = (seat ≡ upper) × (seat ≡ lower) × (v ≡ u) × (e ≡ d) × (v.held ≡ None)

-- either one view Both stands, or one Up and one Down. All others are spent
pub record Stand (views : List View) (u : UpView) (d : DownView) : Type 0 where
  pub upper : ℕ
  pub lower : ℕ
  pub there : ((upper ≡ lower) × (get_elem? views upper ≡ some (Both u d))) ⊎ ((upper ≢ lower) × (get_elem? views upper ≡ some (Up u)) × (get_elem? views lower ≡ some (Down d)))
  pub each : (seat : ℕ) (v : View) → get_elem? views seat ≡ some v → Knows upper lower u d seat v

-- the rule of the table
pub record Kept {S : Type 0} (size : ℕ) (s : State S View) : Type 0 where
  pub up : UpView
  pub down : DownView
  pub facts : Facts size s.words up down
  pub stand : Stand s.views up down

abbrev pub new_up : ℕ → UpView
new_up size = record { size = size; sent = []; staged = []; freed = 0; held = None; looks = 0; rd_off = []; wr_off = [] }

abbrev pub new_down : ℕ → DownView
new_down size = record { size = size; got = []; found = 0; released = 0; looks = 0; wr_off = []; rd_off = [] }

-- the view of the first seat
abbrev pub fresh : ℕ → View
fresh size = Both (new_up size) (new_down size)

-- the two ends' parts of a view
abbrev pub upper_of : View → UpView
upper_of (Up u) = u
upper_of (Both u d) = u
upper_of (Down d) = new_up 0
upper_of Spent = new_up 0

abbrev pub lower_of : View → DownView
lower_of (Down d) = d
lower_of (Both u d) = d
lower_of (Up u) = new_down 0
lower_of Spent = new_down 0

-- a split parts what a seat knows of both ends, and nothing of it is lost. A seat that doesn't know both gives nothing
abbrev pub up_part : View → View
up_part (Both u d) = Up u
up_part (Up u) = Spent
up_part (Down d) = Spent
up_part Spent = Spent

abbrev pub down_part : View → View
down_part (Both u d) = Down d
down_part (Up u) = Spent
down_part (Down d) = Spent
down_part Spent = Spent

-- a join brings together what the two ends know, and no word is held then
abbrev pub both : View → View → View
both v w = Both (record (upper_of v) { held = None }) (lower_of w)

-- a seat that knows both ends, and holds no slot
abbrev pub IsJoined : {S : Type 0} → Me S View → Type 0
IsJoined m = m ≡ (Both (upper_of m.0) (lower_of m.0), [])

-- the views after a step
abbrev pub up_looked : UpView → ℕ → List Access → UpView
up_looked u r h = record u { freed = r; looks = u.looks + 1; rd_off = h }

abbrev pub holds_word : UpView → ℕ → ℕ → UpView
holds_word u k v = record u { held = Some (k, v) }

abbrev pub put_bytes : UpView → List ℕ → UpView
put_bytes u bs = record u { staged = u.staged ++ bs; held = None }

abbrev pub published : UpView → List Access → UpView
published u h = record u { sent = u.sent ++ u.staged; staged = []; wr_off = h }

abbrev pub down_looked : DownView → ℕ → List Access → DownView
down_looked d n h = record d { found = n; looks = d.looks + 1; wr_off = h }

-- the next bytes, as many as `count`, from the word w
abbrev pub next_bytes : DownView → ℕ → ℕ → List ℕ
next_bytes d count w = take count (drop (length d.got % d.size % 8) (lanes w))

abbrev pub took_bytes : DownView → List ℕ → DownView
took_bytes d bs = record d { got = d.got ++ bs }

abbrev pub gave_back : DownView → List Access → DownView
gave_back d h = record d { released = length d.got; rd_off = h }

-- what a step tells: of the step, the seat before, the number found or stored, and the seat after
module _ {S : Type 0} where
  -- the number found is the residue of r, the number of bytes released
  abbrev pub loads_rd_off : Step S → Me S View → ℕ → Me S View → Type 0
  loads_rd_off st m n m' = let u = upper_of m.0 in (r : ℕ) × (h : List Access) × (m' ≡ (Up (up_looked u r h), m.1)) × (n ≡ r % u.size) × (u.freed ≤ r) × (r ≤ length u.sent) × IsLoaded u.rd_off r h

  abbrev pub loads_word : Step S → Me S View → ℕ → Me S View → Type 0
  loads_word st m n m' = m' ≡ (Up (holds_word (upper_of m.0) (st.word - 2) n), m.1)

  abbrev pub stores_bytes : List ℕ → Step S → Me S View → ℕ → Me S View → Type 0
  stores_bytes bs st m n m' = m' ≡ (Up (put_bytes (upper_of m.0) bs), m.1)

  abbrev pub stores_wr_off : Step S → Me S View → ℕ → Me S View → Type 0
  stores_wr_off st m n m' = let u = upper_of m.0 in (h : List Access) × (m' ≡ (Up (published u h), m.1)) × IsStored u.wr_off (length u.sent + length u.staged) h

  -- the number found is the residue of f, the number of bytes published
  abbrev pub loads_wr_off : Step S → Me S View → ℕ → Me S View → Type 0
  loads_wr_off st m n m' = let d = lower_of m.0 in (f : ℕ) × (h : List Access) × (m' ≡ (Down (down_looked d f h), m.1)) × (n ≡ f % d.size) × (d.found ≤ f) × (f + 1 ≤ length d.got + d.size) × IsLoaded d.wr_off f h

  abbrev pub loads_bytes : ℕ → Step S → Me S View → ℕ → Me S View → Type 0
  loads_bytes count st m n m' = m' ≡ (Down (took_bytes (lower_of m.0) (next_bytes (lower_of m.0) count n)), m.1)

  abbrev pub stores_rd_off : Step S → Me S View → ℕ → Me S View → Type 0
  stores_rd_off st m n m' = let d = lower_of m.0 in (h : List Access) × (m' ≡ (Down (gave_back d h), m.1)) × IsStored d.rd_off (length d.got) h

  -- what holds of both ends, the word's byte of what was sent and not released, and how the histories fit
  abbrev pub loads_rest : Step S → Me S View → ℕ → Me S View → Type 0
  loads_rest st m n m' = let u = upper_of m.0 in let d = lower_of m.0 in (m' ≡ m) × IsWhole u d
      × ((i b : ℕ) → length d.got ≤ i → get_elem? u.sent i ≡ some b → i % u.size / 8 + 2 ≡ st.word → lane n (i % u.size % 8) ≡ b)
      × IsTold d.rd_off u.rd_off d.released × IsTold u.wr_off d.wr_off (length u.sent)

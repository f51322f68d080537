-- One turn more.
use Rattle.std.proofs.Common.{◌≡◌, ℕ, zero, suc, ◌+◌, ◌<◌, ◌≤◌, List, [], ◌∷◌, ◌++◌, Bool, true, false, ◌==◌, length, length-append, refl, sym, ap, ◌∙◌, subst, inl, inr, append_assoc, append-nil, arith}
use Rattle.std.specs.Prelude.{if◌then◌else◌, slice_index_or, slice_set, slice_get, ◌⊎◌, Option, Some, None}
use Rattle.std.specs.Option.{option_to_list}
use Rattle.std.proofs.lemmas.Bool.{eqb-true}
use Rattle.std.proofs.lemmas.List.{length-set}
use Rattle.defmt_frames.specs.Frames.{count, stamp_number}
use Rattle.defmt_hooks.specs.declared.level.Level.{Level}
use Rattle.defmt_script.specs.Script.{Script}
use Rattle.rtt_down.proofs.Cutting.{orders-append}
use Rattle.rtt_down.specs.Kept.{Counts, Steers}
use Rattle.rtt_down.specs.Levels.{is_sent, level_at}
use Rattle.rtt_down.specs.Listening.{FloorIs, Heard}
use Rattle.rtt_down.specs.Orders.{lines_from, open_line, ordered_by, orders, orders_in, whole_lines}
use Rattle.rtt_down.specs.Reel.{Reel}
use Rattle.rtt_down.specs.Steered.{IsSteered, IsTurn, Rises, last_seen, places, stream_from, stream_of, turn_part, turns_of}
use Rattle.rtt_down.specs.declared.turn.Turn.{Turn}
use Rattle.shared_work.proofs.Counted.{consecutive-snoc, raised}
use Rattle.shared_work.specs.Places.{AreConsecutive}

-- ---- streams by number

pub stream_from-append : (s : Script) (n : ℕ) (xs ys : List Turn) → stream_from s n (xs ++ ys) ≡ stream_from s n xs ++ stream_from s (n + length xs) ys
stream_from-append s n [] ys =
    let z : n ≡ n + 0 = omega arith in
    ap (λ (k : ℕ). stream_from s k ys) z
stream_from-append s n (x ∷ xs) ys =
    let z : (n + 1) + length xs ≡ n + length (x ∷ xs) = omega arith in
    ap (λ l. turn_part s n x ++ l) (stream_from-append s (n + 1) xs ys)
    ∙ sym (append_assoc (turn_part s n x) (stream_from s (n + 1) xs) (stream_from s ((n + 1) + length xs) ys))
    ∙ ap (λ (k : ℕ). (turn_part s n x ++ stream_from s (n + 1) xs) ++ stream_from s k ys) z

pub stream-snoc : (s : Script) (xs : List Turn) (t : Turn) → stream_of s (xs ++ t ∷ []) ≡ stream_of s xs ++ turn_part s (length xs) t
stream-snoc s xs t =
    let z : 0 + length xs ≡ length xs = omega arith in
    stream_from-append s 0 xs (t ∷ [])
    ∙ ap (λ (k : ℕ). stream_of s xs ++ (turn_part s k t ++ [])) z
    ∙ ap (λ l. stream_of s xs ++ l) (append-nil (turn_part s (length xs) t))

-- ---- places

places-snoc : (w : ℕ) (xs : List Turn) (m : Turn) → places w (xs ++ m ∷ []) ≡ places w xs ++ (if m.writer == w then m.place ∷ [] else [])
places-snoc w [] m = refl
places-snoc w (x ∷ xs) m =
    let t : List ℕ = (if m.writer == w then m.place ∷ [] else []) in
    elim (x.writer == w) as (λ (b : Bool). (if b then x.place ∷ places w (xs ++ m ∷ []) else places w (xs ++ m ∷ [])) ≡ (if b then x.place ∷ places w xs else places w xs) ++ t) [
      | true ↦ ap (λ l. x.place ∷ l) (places-snoc w xs m)
      | false ↦ places-snoc w xs m
    ]

pub turns_of-snoc : (w : ℕ) (xs : List Turn) (m : Turn) → turns_of w (xs ++ m ∷ []) ≡ turns_of w xs + (if m.writer == w then 1 else 0)
turns_of-snoc w [] m = elim (m.writer == w) as (λ (b : Bool). (if b then 0 + 1 else 0) ≡ 0 + (if b then 1 else 0)) [ true ↦ refl | false ↦ refl ]
turns_of-snoc w (x ∷ xs) m =
    let t : ℕ = (if m.writer == w then 1 else 0) in
    let h : turns_of w (xs ++ m ∷ []) ≡ turns_of w xs + t = turns_of-snoc w xs m in
    elim (x.writer == w) as (λ (b : Bool). (if b then turns_of w (xs ++ m ∷ []) + 1 else turns_of w (xs ++ m ∷ [])) ≡ (if b then turns_of w xs + 1 else turns_of w xs) + t) [
      | true ↦ omega (arith, h)
      | false ↦ h
    ]

length-places : (w : ℕ) (xs : List Turn) → length (places w xs) ≡ turns_of w xs
length-places w [] = refl
length-places w (x ∷ xs) =
    let h : length (places w xs) ≡ turns_of w xs = length-places w xs in
    elim (x.writer == w) as (λ (b : Bool). length (if b then x.place ∷ places w xs else places w xs) ≡ (if b then turns_of w xs + 1 else turns_of w xs)) [
      | true ↦ omega (arith, h)
      | false ↦ h
    ]

order_case : (w : ℕ) (tape : List Turn) (m : Turn) → AreConsecutive 0 (places w tape) → m.place ≡ turns_of m.writer tape → (b : Bool) → (m.writer == w) ≡ b → AreConsecutive 0 (places w tape ++ (if b then m.place ∷ [] else []))
order_case w tape m h e true is =
    let same : m.writer ≡ w = eqb-true _ _ is in
    let here : m.place ≡ turns_of w tape = e ∙ ap (λ (v : ℕ). turns_of v tape) same in
    consecutive-snoc 0 (places w tape) m.place h (omega (arith, here, length-places w tape))
order_case w tape m h e false is = subst (AreConsecutive 0) (sym (append-nil (places w tape))) h

within_case : (s : Script) (w : ℕ) (tape : List Turn) (m : Turn) → turns_of w tape ≤ count s w → turns_of m.writer tape < count s m.writer → (b : Bool) → (m.writer == w) ≡ b → turns_of w tape + (if b then 1 else 0) ≤ count s w
within_case s w tape m h more true is =
    let same : m.writer ≡ w = eqb-true _ _ is in
    let P : ℕ → Type 0 = λ v. turns_of v tape < count s v in
    let here : turns_of w tape < count s w = subst P same more in
    omega (arith, here)
within_case s w tape m h more false is = omega (arith, h)

pub within_snoc : (s : Script) (tape : List Turn) (m : Turn) → ((w : ℕ) → turns_of w tape ≤ count s w) → turns_of m.writer tape < count s m.writer → (w : ℕ) → turns_of w (tape ++ m ∷ []) ≤ count s w
within_snoc s tape m h more w =
    subst (λ (n : ℕ). n ≤ count s w) (sym (turns_of-snoc w tape m)) (within_case s w tape m (h w) more (m.writer == w) refl)

-- ---- a turn of the longer list is the new one, or was there before

none_before : (before : List Turn) (x : Turn) (after : List Turn) → [] ≡ before ++ x ∷ after → ⊥
none_before [] x after e = cc
none_before (b ∷ before) x after e = cc

snoc_split : (tape before after : List Turn) (m x : Turn) → tape ++ m ∷ [] ≡ before ++ x ∷ after → ((x ≡ m) × (before ≡ tape)) ⊎ ((rest : List Turn) × (tape ≡ before ++ x ∷ rest))
snoc_split [] [] after m x e = inl (sym (cc), refl)
snoc_split [] (b ∷ before) after m x e = absurd (none_before before x after (cc))
snoc_split (t ∷ tape) [] after m x e = inr (tape, cc)
snoc_split (t ∷ tape) (b ∷ before) after m x e =
    let head : t ≡ b = cc in
    elim (snoc_split tape before after m x (cc)) [
      | inl s ↦ inl (s.0, ap (λ l. b ∷ l) s.1 ∙ ap (λ (y : Turn). y ∷ tape) (sym head))
      | inr r ↦ inr (r.0, ap (λ l. t ∷ l) r.1 ∙ ap (λ (y : Turn). y ∷ before ++ x ∷ r.0) head)
    ]

each_snoc : (P : List Turn → Turn → Type 0) (tape : List Turn) (m : Turn)
    → ((before after : List Turn) (x : Turn) → tape ≡ before ++ x ∷ after → P before x)
    → P tape m
    → (before after : List Turn) (x : Turn) → tape ++ m ∷ [] ≡ before ++ x ∷ after → P before x
each_snoc P tape m each here before after x e = elim (snoc_split tape before after m x e) [
  | inl s ↦ subst (λ (l : List Turn). P l x) (sym s.1) (subst (λ (y : Turn). P tape y) (sym s.0) here)
  | inr r ↦ each before r.0 x r.1
]

-- ---- what was heard

rises-snoc : (from : ℕ) (ts : List Turn) (t : Turn) → Rises from ts → last_seen from ts ≤ t.seen → Rises from (ts ++ t ∷ [])
rises-snoc from [] t h le = (le, tt)
rises-snoc from (x ∷ xs) t h le = (h.0, rises-snoc x.seen xs t h.1 le)

last_seen-snoc : (from : ℕ) (ts : List Turn) (t : Turn) → last_seen from (ts ++ t ∷ []) ≡ t.seen
last_seen-snoc from [] t = refl
last_seen-snoc from (x ∷ xs) t = last_seen-snoc x.seen xs t

get_more : (xs ys : List Level) (n : ℕ) (x : Level) → slice_get xs n ≡ Some x → slice_get (xs ++ ys) n ≡ Some x
get_more [] ys n x e = absurd (cc)
get_more (y ∷ xs) ys zero x e = e
get_more (y ∷ xs) ys (suc n) x e = get_more xs ys n x e

floor_more : (xs ys : List Level) (n : ℕ) (floor : Level) → FloorIs xs n floor → FloorIs (xs ++ ys) n floor
floor_more xs ys zero floor h = h
floor_more xs ys (suc n) floor h = get_more xs ys n floor h

turn_more : (s : Script) (before : List Turn) (xs ys : List Level) (t : Turn) → IsTurn s before xs t → IsTurn s before (xs ++ ys) t
turn_more s before xs ys t h = record { stamp_is = h.stamp_is; floor_is = floor_more xs ys t.seen t.floor h.floor_is; sent_is = h.sent_is }

-- there are no more orders than bytes
lines_few : (line bytes : List ℕ) → length (lines_from line bytes) ≤ length bytes
lines_few line [] = omega arith
lines_few line (b ∷ bs) =
    let a : length (lines_from [] bs) ≤ length bs = lines_few [] bs in
    let c : length (lines_from (line ++ b ∷ []) bs) ≤ length bs = lines_few (line ++ b ∷ []) bs in
    elim (b == 10) as (λ (x : Bool). length (if x then line ∷ lines_from [] bs else lines_from (line ++ b ∷ []) bs) ≤ length (b ∷ bs)) [
      | true ↦ omega (arith, a)
      | false ↦ omega (arith, c)
    ]

option_few : (o : Option Level) → length (option_to_list o) ≤ 1
option_few None = omega arith
option_few (Some l) = omega arith

orders_in_few : (lines : List (List ℕ)) → length (orders_in lines) ≤ length lines
orders_in_few [] = omega arith
orders_in_few (l ∷ ls) = omega (arith, length-append (option_to_list (ordered_by l)) (orders_in ls), option_few (ordered_by l), orders_in_few ls)

pub orders_few : (bytes : List ℕ) → length (orders bytes) ≤ length bytes
orders_few bytes = omega (arith, orders_in_few (whole_lines bytes), lines_few [] bytes)

pub steered_next : (s : Script) (turns : List Turn) (got taken : List ℕ) (t : Turn)
    → IsSteered s turns got
    → t.place ≡ turns_of t.writer turns
    → turns_of t.writer turns < count s t.writer
    → t.seen ≡ length (orders (got ++ taken))
    → IsTurn s turns (orders (got ++ taken)) t
    → IsSteered s (turns ++ t ∷ []) (got ++ taken)
steered_next s turns got taken t k place more seen is =
    let extra : List Level = orders_in (lines_from (open_line got) taken) in
    let joined : orders (got ++ taken) ≡ orders got ++ extra = orders-append got taken in
    let longer : length (orders (got ++ taken)) ≡ length (orders got) + length extra = ap length joined ∙ length-append (orders got) extra in
    record {
      order = λ w. subst (AreConsecutive 0) (sym (places-snoc w turns t)) (order_case w turns t (k.order w) place (t.writer == w) refl);
      within = within_snoc s turns t k.within more;
      rises = rises-snoc 0 turns t k.rises (omega (arith, k.all_seen, seen, longer));
      all_seen = last_seen-snoc 0 turns t ∙ seen;
      each = each_snoc (λ before x. IsTurn s before (orders (got ++ taken)) x) turns t
          (λ before after x e. subst (λ (l : List Level). IsTurn s before l x) (sym joined) (turn_more s before (orders got) extra x (k.each before after x e)))
          is;
    }

-- ---- the writers' next places

counts_append : (xs : List ℕ) (turns now : List Turn) (t : Turn) → Counts xs turns → now ≡ turns ++ t ∷ [] → t.writer < 8 → Counts (slice_set xs t.writer (slice_index_or xs t.writer 0 + 1)) now
counts_append xs turns now t c is below = (
  length-set xs t.writer (slice_index_or xs t.writer 0 + 1) ∙ c.0,
  λ w lt. raised xs t.writer w (λ _. omega (arith, c.0, below)) ∙ ap (λ (k : ℕ). k + (if t.writer == w then 1 else 0)) (c.1 w lt) ∙ sym (turns_of-snoc w turns t) ∙ ap (turns_of w) (sym is),
)

pub steers_next : (s : Script) (got taken : List ℕ) (reel now : Reel) (places places' : List ℕ) (line line' : Option (List ℕ)) (seen seen' : ℕ) (floor floor' : Level) (w stamp : ℕ) (level : Option Level) (t : Turn)
    → Steers s got reel places line seen floor
    → Heard (got ++ taken) line' seen' floor'
    → w < 8
    → t ≡ (record { writer = w; place = slice_index_or places w 0; stamp = stamp; floor = floor'; seen = seen'; sent = is_sent level floor' })
    → now.turns ≡ reel.turns ++ t ∷ []
    → now.room + 1 ≡ reel.room
    → places' ≡ slice_set places w (slice_index_or places w 0 + 1)
    → slice_index_or places w 0 < count s w
    → level ≡ level_at s w (slice_index_or places w 0)
    → stamp ≡ stamp_number s (length reel.turns)
    → length taken ≤ 192
    → Steers s (got ++ taken) now places' line' seen' floor'
steers_next s got taken reel now places places' line line' seen seen' floor floor' w stamp level t k heard lt t_is turns room set more level_is stamp_is few =
    let u : Turn = record { writer = w; place = slice_index_or places w 0; stamp = stamp; floor = floor'; seen = seen'; sent = is_sent level floor' } in
    let here : slice_index_or places w 0 ≡ turns_of w reel.turns = k.counts.1 w lt in
    let is : now.turns ≡ reel.turns ++ u ∷ [] = turns ∙ ap (λ (x : Turn). reel.turns ++ x ∷ []) t_is in
    let len : length now.turns ≡ length reel.turns + 1 = ap length is ∙ length-append reel.turns (u ∷ []) in
    let one : IsTurn s reel.turns (orders (got ++ taken)) u = record { stamp_is = stamp_is; floor_is = heard.floor_is; sent_is = ap (λ (l : Option Level). is_sent l floor') level_is } in
    record {
      steered = subst (λ (l : List Turn). IsSteered s l (got ++ taken)) (sym is) (steered_next s reel.turns got taken u k.steered here (omega (arith, here, more)) heard.seen_is one);
      counts = subst (λ (xs : List ℕ). Counts xs now.turns) (sym set) (counts_append places reel.turns now.turns u k.counts is lt);
      heard = heard;
      room = omega (arith, len, room, k.room);
      few = omega (arith, len, few, k.few, length-append got taken);
    }

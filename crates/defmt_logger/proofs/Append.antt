-- One mark more.
use Rattle.std.proofs.Common.{◌≡◌, ℕ, ◌+◌, ◌<◌, ◌≤◌, List, [], ◌∷◌, ◌++◌, Bool, true, false, ◌==◌, length, length-append, refl, sym, ap, ◌∙◌, subst, inl, inr, append_assoc, append-nil, arith, if◌then◌else◌, slice_index_or, slice_set, length-set, zero-add}
use Rattle.std.proofs.lemmas.Bool.Decides.{eqb_tells, nat_tests}
use Rattle.std.proofs.lemmas.List.{get_or_append_left}
use Rattle.std.proofs.Math.Seq.{get_or-append_seam}
use Rattle.defmt_frames.specs.Frames.{count, stamp_number}
use Rattle.rtt_ring.specs.Views.{Up, UpKept, new_up}
use Rattle.rtt_modes.specs.Fates.{SkippedBy, TrimmedBy, part_of}
use Rattle.rtt_modes.specs.declared.fate.Fate.{Fate}
use Rattle.rtt_modes.specs.declared.fate.Fate.TheVariants.{Whole, Dropped, Cut}
use Rattle.defmt_lines.specs.declared.settings.RingMode.{RingMode}
use Rattle.defmt_lines.specs.declared.settings.RingMode.TheVariants.{Block, Skip, Trim}
use Rattle.defmt_script.specs.Script.{Script}
use Rattle.defmt_logger.specs.declared.mark.Mark.{Mark}
use Rattle.defmt_logger.specs.Tape.{FateLaw, IsLawful, IsLooked, Leaves, LeftBy, Lost, Released, RoomsIn, mark_frame, mark_part, marks_of, places, stream_from, stream_of}
use Rattle.defmt_logger.specs.Kept.{Behind, Counts, IsKept, LooksIn, Reel, SendsIn, Sheet, TellsIn, last_from, next_mark}
use Rattle.shared_work.proofs.Counted.{raised}
use Rattle.shared_work.specs.Places.{AreConsecutive}

-- ---- what a mark more makes of a tape

stream-snoc : (s : Script) (n : ℕ) (xs : List Mark) (m : Mark) → stream_from s n (xs ++ m ∷ []) ≡ stream_from s n xs ++ mark_part s (n + length xs) m
stream-snoc s n [] m =
    let here : n ≡ n + 0 = omega arith in
    append-nil (mark_part s n m) ∙ ap (λ (k : ℕ). mark_part s k m) here
stream-snoc s n (x ∷ xs) m =
    let next : (n + 1) + length xs ≡ n + length (x ∷ xs) = omega arith in
    ap (λ l. mark_part s n x ++ l) (stream-snoc s (n + 1) xs m ∙ ap (λ (k : ℕ). stream_from s (n + 1) xs ++ mark_part s k m) next)
    ∙ sym (append_assoc (mark_part s n x) (stream_from s (n + 1) xs) (mark_part s (n + length (x ∷ xs)) m))

pub marks_of-snoc : (w : ℕ) (xs : List Mark) (m : Mark) → marks_of w (xs ++ m ∷ []) ≡ marks_of w xs + (if m.writer == w then 1 else 0)
marks_of-snoc w [] m = elim (m.writer == w) as (λ (b : Bool). (if b then 0 + 1 else 0) ≡ 0 + (if b then 1 else 0)) [ true ↦ refl | false ↦ refl ]
marks_of-snoc w (x ∷ xs) m =
    let h : marks_of w (xs ++ m ∷ []) ≡ marks_of w xs + (if m.writer == w then 1 else 0) = marks_of-snoc w xs m in
    grind (arith, nat_tests)

-- the places of a writer go on by one
order_snoc : (w a : ℕ) (xs : List Mark) (m : Mark) → AreConsecutive a (places w xs) → (m.writer ≡ w → m.place ≡ a + marks_of w xs) → AreConsecutive a (places w (xs ++ m ∷ []))
order_snoc w a [] m h e =
    let P : Bool → Type 0 = λ b. AreConsecutive a (if b then m.place ∷ [] else []) in
    elim (eqb_tells m.writer w) [
      | inl t ↦ subst P (sym t.0) (omega (arith, e t.1), tt)
      | inr t ↦ subst P (sym t.0) tt
    ]
order_snoc w a (x ∷ xs) m h e =
    (elim (x.writer == w) as (λ (b : Bool). AreConsecutive a (if b then x.place ∷ places w xs else places w xs) → (m.writer ≡ w → m.place ≡ a + (if b then marks_of w xs + 1 else marks_of w xs))
    → AreConsecutive a (if b then x.place ∷ places w (xs ++ m ∷ []) else places w (xs ++ m ∷ []))) [
      | true ↦ λ g f. (g.0, order_snoc w (a + 1) xs m g.1 (λ t. omega (arith, f t)))
      | false ↦ λ g f. order_snoc w a xs m g f
    ]) h e

pub within_snoc : (s : Script) (tape : List Mark) (m : Mark) → ((w : ℕ) → marks_of w tape ≤ count s w) → marks_of m.writer tape < count s m.writer → (w : ℕ) → marks_of w (tape ++ m ∷ []) ≤ count s w
within_snoc s tape m h more w = grind (arith, nat_tests, marks_of-snoc w tape m, h w, more)

-- ---- what holds of each mark by those in front of it holds of each mark of the longer tape

none_before : (before : List Mark) (x : Mark) (after : List Mark) → [] ≡ before ++ x ∷ after → ⊥
none_before [] x after e = cc
none_before (b ∷ before) x after e = cc

each_snoc : (P : List Mark → Mark → Type 0) (tape : List Mark) (m : Mark)
    → ((before after : List Mark) (x : Mark) → tape ≡ before ++ x ∷ after → P before x)
    → P tape m
    → (before after : List Mark) (x : Mark) → tape ++ m ∷ [] ≡ before ++ x ∷ after → P before x
each_snoc P [] m each here [] after x e = let same : m ≡ x = cc in subst (P []) same here
each_snoc P [] m each here (b ∷ before) after x e = absurd (none_before before x after (cc))
each_snoc P (t ∷ tape) m each here [] after x e = each [] tape x (cc)
each_snoc P (t ∷ tape) m each here (b ∷ before) after x e =
    let head : t ≡ b = cc in
    let others : (front behind : List Mark) (y : Mark) → tape ≡ front ++ y ∷ behind → P (t ∷ front) y = λ front behind y is. each (t ∷ front) behind y (ap (λ l. t ∷ l) is) in
    subst (λ (y : Mark). P (y ∷ before) x) head (each_snoc (λ front y. P (t ∷ front) y) tape m others here before after x (cc))

-- ---- what a look found released

record Seen (s : Script) (tape : List Mark) (found left : ℕ) : Type 0 where
  sum : found + s.settings.ring ≡ left + length (stream_of s tape) + 1
  within : found ≤ length (stream_of s tape)
  released : Released s tape found

leaves_more : (s : Script) (before : List Mark) (frame : List ℕ) (fate : Fate) (f g : ℕ) → f ≤ g → Leaves s before frame fate f → Leaves s before frame fate g
leaves_more s before frame Whole f g h l = omega (arith, h, l)
leaves_more s before frame (Dropped need room) f g h l = omega (arith, h, l)
leaves_more s before frame (Cut need room) f g h l = omega (arith, h, l)

pub released_more : (s : Script) (tape : List Mark) (f g : ℕ) → f ≤ g → Released s tape f → Released s tape g
released_more s tape f g h r = λ before after m e. leaves_more s before (mark_frame s (length before) m) m.fate f g h (r before after m e)

seen_by : (s : Script) (tape : List Mark) (u v : Up) (left : ℕ) → u.sent ≡ stream_of s tape → u.size ≡ s.settings.ring → Released s tape u.freed → u.freed ≤ v.freed
    → left + length u.sent + 1 ≡ v.freed + u.size → v.freed ≤ length u.sent → Seen s tape v.freed left
seen_by s tape u v left sent size released later told within =
    let len : length u.sent ≡ length (stream_of s tape) = ap length sent in
    record {
      sum = omega (arith, len, size, told);
      within = omega (arith, len, within);
      released = released_more s tape u.freed v.freed later released;
    }

lost_by : (s : Script) (tape : List Mark) (frame : List ℕ) (need room left found : ℕ) → Seen s tape found left → need ≡ length frame → room ≡ left → room < need → Lost s tape frame need room
lost_by s tape frame need room left found seen e same less = record {
  need_is = e;
  less = less;
  found = found;
  found_is = seen.sum ∙ ap (λ (k : ℕ). k + length (stream_of s tape) + 1) (sym same);
  within = seen.within;
  released = seen.released;
}

skipped : (s : Script) (tape : List Mark) (frame : List ℕ) (left found : ℕ) (fate : Fate) → Seen s tape found left → SkippedBy left frame fate → FateLaw Skip s tape frame fate × LeftBy s tape frame fate found
skipped s tape frame left found Whole seen b = (tt, omega (arith, seen.sum, b))
skipped s tape frame left found (Dropped need room) seen b = ((refl, lost_by s tape frame need room left found seen b.0 b.1 b.2), omega (arith, seen.sum, b.1))
skipped s tape frame left found (Cut need room) seen b = absurd b

trimmed : (s : Script) (tape : List Mark) (frame : List ℕ) (left found : ℕ) (fate : Fate) → Seen s tape found left → TrimmedBy left frame fate → FateLaw Trim s tape frame fate × LeftBy s tape frame fate found
trimmed s tape frame left found Whole seen b = (tt, omega (arith, seen.sum, b))
trimmed s tape frame left found (Dropped need room) seen b = absurd b
trimmed s tape frame left found (Cut need room) seen b = ((refl, lost_by s tape frame need room left found seen b.0 b.1 b.2), omega (arith, seen.sum, b.1))

released_snoc : (s : Script) (tape : List Mark) (m : Mark) (f : ℕ) → Released s tape f → Leaves s tape (mark_frame s (length tape) m) m.fate f → Released s (tape ++ m ∷ []) f
released_snoc s tape m f each here = each_snoc (λ before x. Leaves s before (mark_frame s (length before) x) x.fate f) tape m each here

leaves_left : (s : Script) (tape : List Mark) (frame : List ℕ) (fate : Fate) (f : ℕ) → LeftBy s tape frame fate f → Leaves s tape frame fate f
leaves_left s tape frame Whole f l = l
leaves_left s tape frame (Dropped need room) f l = omega (arith, l)
leaves_left s tape frame (Cut need room) f l = omega (arith, l)

-- ---- what each mark's look found

last_from-snoc : (a : ℕ) (xs : List ℕ) (n : ℕ) → last_from a (xs ++ n ∷ []) ≡ n
last_from-snoc a [] n = refl
last_from-snoc a (x ∷ xs) n = last_from-snoc x xs n

looked_snoc : (s : Script) (tape : List Mark) (m : Mark) (found : List ℕ) (n : ℕ) → IsLooked s tape found → LeftBy s tape (mark_frame s (length tape) m) m.fate n → IsLooked s (tape ++ m ∷ []) (found ++ n ∷ [])
looked_snoc s tape m found n h here =
    let at : List Mark → ℕ → Mark → Type 0 = λ before k x. LeftBy s before (mark_frame s (length before) x) x.fate k in
    let last : n ≡ slice_index_or (found ++ n ∷ []) (length tape) 0 = sym (ap (λ (k : ℕ). slice_index_or (found ++ n ∷ []) k 0) (sym h.each) ∙ get_or-append_seam found n [] 0) in
    record {
      each = length-append found (n ∷ []) ∙ ap (λ (k : ℕ). k + 1) h.each ∙ sym (length-append tape (m ∷ []));
      left = each_snoc (λ before x. at before (slice_index_or (found ++ n ∷ []) (length before) 0) x) tape m
          (λ before after x is.
          let inside : length before < length found = omega (arith, h.each, ap length is, length-append before (x ∷ after)) in
          subst (λ (k : ℕ). at before k x) (sym (get_or_append_left found (n ∷ []) 0 (length before) inside)) (h.left before after x is))
          (subst (λ (k : ℕ). at tape k m) last here);
    }

-- ---- one mark more, in each mode

record Step (mode : RingMode) (s : Script) (tape : List Mark) (m : Mark) (u v : Up) : Type 0 where
  fate : FateLaw mode s tape (mark_frame s (length tape) m) m.fate
  behind : Behind mode s (tape ++ m ∷ []) v
  sent : v.sent ≡ u.sent ++ mark_part s (length tape) m
  kept : UpKept u v
  looks : (n : ℕ) → LooksIn mode n u.looks → LooksIn mode (n + 1) v.looks
  rooms : (found : List ℕ) → RoomsIn mode s tape found → RoomsIn mode s (tape ++ m ∷ []) (found ++ v.freed ∷ [])

step : (s : Script) (tape : List Mark) (m : Mark) (u v : Up) → u.sent ≡ stream_of s tape → u.size ≡ s.settings.ring
    → (mode : RingMode) → Behind mode s tape u → SendsIn mode u v (mark_frame s (length tape) m) m.fate → Step mode s tape m u v
step s tape m u v sent size Block b f = record {
  fate = subst (λ (x : Fate). FateLaw Block s tape (mark_frame s (length tape) m) x) (sym f.whole) tt;
  behind = tt;
  sent = f.sent ∙ ap (λ (x : Fate). u.sent ++ part_of (mark_frame s (length tape) m) x) (sym f.whole);
  kept = f.kept;
  looks = λ n h. omega (arith, h, f.looks);
  rooms = λ found h. tt;
}
step s tape m u v sent size Skip b f =
    let seen : Seen s tape v.freed f.left = seen_by s tape u v f.left sent size b.1 f.kept.later (f.told b.0) f.within in
    let law = skipped s tape (mark_frame s (length tape) m) f.left v.freed m.fate seen f.fate_is in
    record {
      fate = law.0;
      behind = (f.kept.tells ∙ b.0, released_snoc s tape m v.freed seen.released (leaves_left s tape (mark_frame s (length tape) m) m.fate v.freed law.1));
      sent = f.sent;
      kept = f.kept;
      looks = λ n h. f.looks ∙ ap (λ (k : ℕ). k + 1) h;
      rooms = λ found h. looked_snoc s tape m found v.freed h law.1;
    }
step s tape m u v sent size Trim b f =
    let seen : Seen s tape v.freed f.left = seen_by s tape u v f.left sent size b.1 f.kept.later (f.told b.0) f.within in
    let law = trimmed s tape (mark_frame s (length tape) m) f.left v.freed m.fate seen f.fate_is in
    record {
      fate = law.0;
      behind = (f.kept.tells ∙ b.0, released_snoc s tape m v.freed seen.released (leaves_left s tape (mark_frame s (length tape) m) m.fate v.freed law.1));
      sent = f.sent;
      kept = f.kept;
      looks = λ n h. f.looks ∙ ap (λ (k : ℕ). k + 1) h;
      rooms = λ found h. looked_snoc s tape m found v.freed h law.1;
    }

pub kept_append : (d : Sheet) (now : Reel) (w : ℕ) (fate : Fate) (v : Up)
    → IsKept d
    → now.marks ≡ d.tape.marks ++ next_mark d.script d.tape.marks w fate ∷ []
    → now.room + 1 ≡ d.tape.room
    → now.split ≡ d.tape.split
    → now.looks ≡ v.looks
    → now.found ≡ d.tape.found ++ v.freed ∷ []
    → marks_of w d.tape.marks < count d.script w
    → SendsIn d.script.settings.mode d.up v (mark_frame d.script (length d.tape.marks) (next_mark d.script d.tape.marks w fate)) fate
    → IsKept (record { script = d.script; tape = now; up = v })
kept_append d now w fate v k is room split looks found more sends =
    let s = d.script in
    let tape : List Mark = d.tape.marks in
    let m : Mark = next_mark s tape w fate in
    let one : Step s.settings.mode s tape m d.up v = step s tape m d.up v k.sent k.size s.settings.mode k.behind sends in
    let len : length now.marks ≡ length tape + 1 = ap length is ∙ length-append tape (m ∷ []) in
    let at : 0 + length tape ≡ length tape = omega arith in
    record {
      lawful = subst (IsLawful s) (sym is) (record {
        order = λ n. order_snoc n 0 tape m (k.lawful.order n) (λ same. ap (λ (x : ℕ). marks_of x tape) same ∙ sym (zero-add (marks_of n tape)));
        within = within_snoc s tape m k.lawful.within more;
        stamps = each_snoc (λ before x. x.stamp ≡ stamp_number s (length before)) tape m k.lawful.stamps refl;
        fates = each_snoc (λ before x. FateLaw s.settings.mode s before (mark_frame s (length before) x) x.fate) tape m k.lawful.fates one.fate;
      });
      sent = one.sent ∙ ap (λ l. l ++ mark_part s (length tape) m) k.sent ∙ ap (λ (n : ℕ). stream_of s tape ++ mark_part s n m) (sym at) ∙ sym (stream-snoc s 0 tape m) ∙ ap (stream_of s) (sym is);
      staged = one.kept.staged;
      size = one.kept.size ∙ k.size;
      behind = subst (λ (l : List Mark). Behind s.settings.mode s l v) (sym is) one.behind;
      looks = subst (λ (n : ℕ). LooksIn s.settings.mode n v.looks) (sym len) (one.looks (length tape) k.looks);
      room = omega (arith, len, room, k.room);
      tape = record {
        split = split ∙ k.tape.split ∙ sym one.kept.split;
        looks = looks;
        latest = ap (last_from 0) found ∙ last_from-snoc 0 d.tape.found v.freed;
      };
      rooms = subst (λ (l : List Mark). RoomsIn s.settings.mode s l now.found) (sym is)
          (subst (RoomsIn s.settings.mode s (tape ++ m ∷ [])) (sym found) (one.rooms d.tape.found k.rooms));
    }

-- ---- the writers' next places

pub counts_append : (xs : List ℕ) (tape now : List Mark) (m : Mark) → Counts xs tape → now ≡ tape ++ m ∷ [] → m.writer < 8 → Counts (slice_set xs m.writer (slice_index_or xs m.writer 0 + 1)) now
counts_append xs tape now m c is below = (
  length-set xs m.writer (slice_index_or xs m.writer 0 + 1) ∙ c.0,
  λ w lt. raised xs m.writer w (λ _. omega (arith, c.0, below)) ∙ ap (λ (k : ℕ). k + (if m.writer == w then 1 else 0)) (c.1 w lt) ∙ sym (marks_of-snoc w tape m) ∙ ap (marks_of w) (sym is),
)

-- ---- no mark yet

behind_first : (mode : RingMode) (s : Script) (u : Up) → TellsIn mode u → Behind mode s [] u
behind_first Block s u h = tt
behind_first Skip s u h = (h, λ before after m e. absurd (none_before before m after e))
behind_first Trim s u h = (h, λ before after m e. absurd (none_before before m after e))

looks_first : (mode : RingMode) (looks : ℕ) → looks ≡ 0 → LooksIn mode 0 looks
looks_first Block looks e = omega (arith, e)
looks_first Skip looks e = e
looks_first Trim looks e = e

rooms_first : (mode : RingMode) (s : Script) → RoomsIn mode s [] []
rooms_first Block s = tt
rooms_first Skip s = record { each = refl; left = λ before after m e. absurd (none_before before m after e) }
rooms_first Trim s = record { each = refl; left = λ before after m e. absurd (none_before before m after e) }

pub kept_first : (s : Script) (tape : Reel) (u : Up) → tape.marks ≡ [] → tape.room ≡ 4096 → (tape.split ≡ u.split) × (tape.looks ≡ u.looks) × (tape.found ≡ []) → u ≡ new_up u.split s.settings.ring u.tells → TellsIn s.settings.mode u
    → IsKept (record { script = s; tape = tape; up = u })
kept_first s tape u none room end fresh tells =
    let len : length tape.marks ≡ 0 = ap length none in
    record {
      lawful = subst (IsLawful s) (sym none) (record {
        order = λ w. tt;
        within = λ w. omega arith;
        stamps = λ before after m e. absurd (none_before before m after e);
        fates = λ before after m e. absurd (none_before before m after e);
      });
      sent = ap (λ (x : Up). x.sent) fresh ∙ ap (stream_of s) (sym none);
      staged = ap (λ (x : Up). x.staged) fresh;
      size = ap (λ (x : Up). x.size) fresh;
      behind = subst (λ (l : List Mark). Behind s.settings.mode s l u) (sym none) (behind_first s.settings.mode s u tells);
      looks = subst (λ (n : ℕ). LooksIn s.settings.mode n u.looks) (sym len) (looks_first s.settings.mode u.looks (ap (λ (x : Up). x.looks) fresh));
      room = omega (arith, len, room);
      tape = record {
        split = end.0;
        looks = end.1;
        latest = ap (last_from 0) end.2 ∙ sym (ap (λ (x : Up). x.freed) fresh);
      };
      rooms = subst (λ (l : List Mark). RoomsIn s.settings.mode s l tape.found) (sym none) (subst (RoomsIn s.settings.mode s []) (sym end.2) (rooms_first s.settings.mode s));
    }

-- Messages in parts, and values that fit the slots of a site.
use Rattle.std.proofs.Common.{◌≡◌, ℕ, ◌+◌, List, [], ◌∷◌, ◌++◌, length, take, drop, Option, Some, None, Ok, refl, sym, ap, ◌∙◌, subst, arith, append_assoc, length-append}
use Rattle.std.proofs.lemmas.List.{append-nil}
use Rattle.byteorder.specs.Endian.{little_bytes}
use Rattle.defmt_encode.proofs.Chain.{later}
use Rattle.defmt_encode.proofs.Entries.{slots_from}
use Rattle.defmt_encode.specs.Carry.{bytes_val, bytes_vals, message_of, own_slots, slots_at, slots_in, stamp_args, stamp_slots}
use Rattle.defmt_encode.specs.Placed.{place_bytes}
use Rattle.defmt_intern.specs.Stamp.{stamp_of}
use Rattle.defmt_grammar.specs.Slots.{slots_of}
use Rattle.defmt_grammar.specs.declared.slot.Slot.{Slot}
use Rattle.defmt_intern.specs.Table.{Map}
use Rattle.defmt_intern.specs.declared.entry.Tag.{Tag}
use Rattle.defmt_values.specs.Entries.{Place, look, places_of}
use Rattle.defmt_values.specs.Fits.{Fits, FitsVals}
use Rattle.defmt_values.specs.Plain.{Val, Vals, no_vals, val, snoc, vals_len}
use Rattle.defmt_values.specs.Scan.{own_form, own_in}
use Rattle.defmt_macros.specs.Frames.{FitSlots, Grows, GrowsByAll, Holds, buffer_of, bytes_put, count_put, slots_left, head_of, stamp_bytes, whole_of}
use Rattle.defmt_macros.specs.Sites.{IsSite}
use Rattle.defmt_macros.specs.Spot.{Spot}
use Rattle.defmt_macros.specs.Stamps.{StampSuits, slots_for}
use Rattle.defmt_macros.specs.declared.frame.Frame.{Frame}
use Rattle.defmt_macros.proofs.Places.{own}

-- ---- messages

stamped : (t : Map) (slots : List Slot) (stamp : Option ℕ) → slots ≡ slots_for stamp → bytes_vals t slots (stamp_args stamp) ≡ stamp_bytes stamp
unfolding bytes_vals bytes_val
stamped t slots None p = refl
stamped t slots (Some n) p = rw p (append-nil (little_bytes 8 n))

-- a message is its head and the bytes of its arguments
pub parts : (t : Map) (index : ℕ) (tag : Tag) (slots : List Slot) (place stamp : Option ℕ) (vs : Vals) → IsSite t index tag slots → StampSuits t stamp
    → message_of t place (stamp_args stamp) index vs ≡ head_of index place stamp ++ bytes_vals t slots vs
parts t index tag slots place stamp vs site suits =
    ap (λ (b : List ℕ). (little_bytes 2 index ++ (place_bytes place ++ b)) ++ bytes_vals t (own_slots t index) vs) (stamped t (stamp_slots t (stamp_of t)) stamp suits)
    ∙ ap (λ (ss : List Slot). head_of index place stamp ++ bytes_vals t ss vs) (own t index tag slots site)

-- ---- what lies behind

-- where nothing behind the head was changed, nothing behind the message is
pub behind_all : (old new : Frame) (more before : List ℕ) (n : ℕ) (out : List ℕ) → drop (count_put old) (buffer_of old) ≡ drop (count_put old) before → GrowsByAll old new more → n ≡ count_put new → out ≡ buffer_of new → drop n out ≡ drop n before
behind_all old new more before n out head g count same =
    ap (λ (k : ℕ). drop k out) count ∙ ap (drop (count_put new)) same ∙ g.behind_is ∙ later (count_put old) (length more) (count_put new) (buffer_of old) before g.count_is head ∙ ap (λ (k : ℕ). drop k before) (sym count)

-- ---- one argument after another

-- nothing is put where no slot is to come
pub grows_by_none : (t : Map) (frame : Frame) → slots_left frame ≡ [] → GrowsByAll frame frame (bytes_vals t (slots_left frame) no_vals)
unfolding bytes_vals
grows_by_none t frame none =
    let same : GrowsByAll frame frame [] = record { bytes_are = sym (append-nil (bytes_put frame)); behind_is = refl; count_is = omega arith; slots_are = none } in
    subst (λ (ss : List Slot). GrowsByAll frame frame (bytes_vals t ss no_vals)) (sym none) same

-- the first value is put, and then all others
pub grows_by_value : (t : Map) (old mid new : Frame) (slot : Slot) (v : Val) (vs : Vals) → Grows old mid slot (bytes_val t slot v) → GrowsByAll mid new (bytes_vals t (slots_left mid) vs) → GrowsByAll old new (bytes_vals t (slots_left old) (val v vs))
unfolding bytes_vals
grows_by_value t old mid new slot v vs g h =
    let first : List ℕ = bytes_val t slot v in
    let others : List ℕ = bytes_vals t (slots_left mid) vs in
    let all : GrowsByAll old new (first ++ others) = record {
      bytes_are = h.bytes_are ∙ ap (λ (b : List ℕ). b ++ others) g.bytes_are ∙ append_assoc (bytes_put old) first others;
      behind_is = h.behind_is ∙ later (count_put mid) (length others) (count_put new) (buffer_of mid) (buffer_of old) h.count_is g.behind_is;
      count_is = omega (arith, g.count_is, h.count_is, length-append first others);
      slots_are = h.slots_are;
    } in
    subst (λ (ss : List Slot). GrowsByAll old new (bytes_vals t ss (val v vs))) (sym g.slots_are) all

-- ---- what a frame holds

one_more : (t : Map) (front : List Slot) (slot : Slot) (vs : Vals) (v : Val) → vals_len vs ≡ length front → bytes_vals t (front ++ slot ∷ []) (snoc vs v) ≡ bytes_vals t front vs ++ bytes_val t slot v
unfolding bytes_vals
one_more t [] slot no_vals v e = append-nil (bytes_val t slot v)
one_more t [] slot (val w ws) v e = absurd (omega arith)
one_more t (s ∷ ss) slot no_vals v e = absurd (omega arith)
one_more t (s ∷ ss) slot (val w ws) v e =
    ap (λ (b : List ℕ). bytes_val t s w ++ b) (one_more t ss slot ws v (omega arith)) ∙ sym (append_assoc (bytes_val t s w) (bytes_vals t ss ws) (bytes_val t slot v))

snoc_len : (vs : Vals) (v : Val) → vals_len (snoc vs v) ≡ vals_len vs + 1
snoc_len no_vals v = refl
snoc_len (val w ws) v = ap (λ n. n + 1) (snoc_len ws v)

module _ (t : Map) (index : ℕ) (slots : List Slot) (place stamp : Option ℕ) where
  -- a frame that begins holds no values
  pub begun : (frame : Frame) → bytes_put frame ≡ head_of index place stamp → frame.left.now ≡ slots → Holds t index slots place stamp no_vals frame
  unfolding bytes_vals
  begun frame b e = record { front = []; slots_are = sym e; size = refl; bytes_are = b ∙ sym (append-nil (head_of index place stamp)) }

  -- a value more is held where its bytes are put
  pub held : (vs : Vals) (v : Val) (old new : Frame) (slot : Slot) → Holds t index slots place stamp vs old → Grows old new slot (bytes_val t slot v) → Holds t index slots place stamp (snoc vs v) new
  held vs v old new slot h g = record {
    front = h.front ++ slot ∷ [];
    slots_are = h.slots_are ∙ ap (λ (ss : List Slot). h.front ++ ss) g.slots_are ∙ sym (append_assoc h.front (slot ∷ []) new.left.now);
    size = omega (arith, h.size, snoc_len vs v, length-append h.front (slot ∷ []));
    bytes_are = g.bytes_are ∙ ap (λ (b : List ℕ). b ++ bytes_val t slot v) h.bytes_are ∙ append_assoc (head_of index place stamp) (bytes_vals t h.front vs) (bytes_val t slot v)
        ∙ ap (λ (b : List ℕ). head_of index place stamp ++ b) (sym (one_more t h.front slot vs v h.size));
  }

  -- a frame to which no slot is to come holds the message of its values
  pub ended : (tag : Tag) (vs : Vals) (frame : Frame) (n : ℕ) (out : List ℕ) → IsSite t index tag slots → StampSuits t stamp → Holds t index slots place stamp vs frame → frame.left.now ≡ [] → n ≡ frame.at → out ≡ frame.buf.now
      → take n out ≡ message_of t place (stamp_args stamp) index vs
  ended tag vs frame n out site suits h none count same =
      let all : slots ≡ h.front = h.slots_are ∙ ap (λ (ss : List Slot). h.front ++ ss) none ∙ append-nil h.front in
      let taken : take n out ≡ bytes_put frame = ap (λ (k : ℕ). take k out) count ∙ ap (λ (b : List ℕ). take frame.at b) same in
      taken ∙ h.bytes_are ∙ ap (λ (ss : List Slot). head_of index place stamp ++ bytes_vals t ss vs) (sym all) ∙ sym (parts t index tag slots place stamp vs site suits)

-- ---- values

each_fits : (t : Map) (vs : Vals) (places : List Place) → FitsVals t 16 places vs → FitSlots t (slots_at places) vs
each_fits t no_vals [] h = tt
each_fits t no_vals (p ∷ ps) h = absurd (cc)
each_fits t (val v vs) places (p, ps, e, h, hs) =
    let P : List Place → Type 0 = λ xs. FitSlots t (slots_at xs) (val v vs) in
    subst P (sym e) (h, each_fits t vs ps hs)

-- the values of a fitting statement fit the slots of its site
pub fitting : (t : Map) (index : ℕ) (tag : Tag) (slots : List Slot) (vs : Vals) → Fits t index vs → IsSite t index tag slots → FitSlots t slots vs
fitting t index tag slots vs f site =
    let there : own_form t.language (look t index) ≡ Ok f.pieces = rw f.there (ap own_in f.body) in
    let same : slots_at (places_of f.pieces) ≡ slots = slots_from f.pieces 0 (slots_of f.pieces) ∙ ap slots_in (sym there) ∙ own t index tag slots site in
    let P : List Slot → Type 0 = λ ss. FitSlots t ss vs in
    subst P same (each_fits t vs (places_of f.pieces) f.values)

-- ---- all values at once

module _ (t : Map) (site : Spot) (place stamp : Option ℕ) (vs : Vals) (left : List Slot) (e : left ≡ site.slots) where
  pub all_fit : FitSlots t site.slots vs → FitSlots t left vs
  all_fit f =
      let P : List Slot → Type 0 = λ ss. FitSlots t ss vs in
      subst P (sym e) f

  in_parts : whole_of t site place stamp vs ≡ head_of site.index place stamp ++ bytes_vals t left vs
  in_parts = ap (λ (ss : List Slot). head_of site.index place stamp ++ bytes_vals t ss vs) (sym e)

  pub whole_length : (at : ℕ) → at ≡ length (head_of site.index place stamp) → at + length (bytes_vals t left vs) ≡ length (whole_of t site place stamp vs)
  whole_length at c = ap (λ (k : ℕ). k + length (bytes_vals t left vs)) c ∙ sym (length-append (head_of site.index place stamp) (bytes_vals t left vs)) ∙ ap length (sym in_parts)

  pub whole_message : (old new : Frame) (n : ℕ) (out : List ℕ) → bytes_put old ≡ head_of site.index place stamp → GrowsByAll old new (bytes_vals t left vs) → n ≡ new.at → out ≡ new.buf.now → take n out ≡ whole_of t site place stamp vs
  whole_message old new n out b g count same =
      let taken : take n out ≡ bytes_put new = ap (λ (k : ℕ). take k out) count ∙ ap (λ (x : List ℕ). take new.at x) same in
      taken ∙ g.bytes_are ∙ ap (λ (x : List ℕ). x ++ bytes_vals t left vs) b ∙ sym in_parts

-- What is heard is what is read.
use Rattle.std.proofs.Common.{◌≡◌, ◌≤◌, ◌+◌, ℕ, true, nat_le, List, [], ◌++◌, length, Option, Some, None, Ok, refl, sym, ap, ◌∙◌, subst, arith, append_assoc}
use Rattle.std.proofs.lemmas.Bool.{le-leb, leb-true, and_parts}
use Rattle.byteorder.specs.Endian.{little_bytes}
use Rattle.defmt_grammar.specs.declared.piece.Piece.{Piece}
use Rattle.defmt_grammar.specs.declared.slot.Slot.{Slot}
use Rattle.defmt_intern.specs.Catalog.{Catalog}
use Rattle.defmt_intern.specs.Table.{Map}
use Rattle.defmt_intern.specs.declared.entry.Entry.{Entry}
use Rattle.defmt_values.specs.Entries.{look, is_logged, places_of}
use Rattle.defmt_values.specs.Fits.{Fits, FitsStamp, IsLogged, weigh_vals}
use Rattle.defmt_values.specs.Plain.{Vals, no_vals}
use Rattle.defmt_values.proofs.Forms.{index_small}
use Rattle.defmt_encode.specs.Carry.{own_slots, stamp_slots, slots_at, bytes_vals}
use Rattle.defmt_encode.specs.Fields.{IsOwn, FoundStamp}
use Rattle.defmt_encode.specs.Heard.{IsHeard}
use Rattle.defmt_encode.specs.Lengths.{LengthsFit}
use Rattle.defmt_encode.specs.Placed.{place_bytes}
use Rattle.defmt_encode.specs.Read.{Read, ◌⇒◌, number_at, value_at, each_at, logged_of, stamp_form, stamp_at, place_at, all_zero, is_padding, padded, message_at}
use Rattle.defmt_values.specs.Sound.{AreSound}
use Rattle.defmt_intern.specs.Stamp.{stamp_of}
use Rattle.defmt_encode.specs.declared.cause.Cause.TheVariants as causes
use Rattle.defmt_encode.proofs.Back.{vals_back}
use Rattle.defmt_encode.proofs.Chains.{done, same, bound, chosen}
use Rattle.defmt_encode.proofs.Entries.{own_slots_are, own_found, own_back, stamp_found}
use Rattle.defmt_encode.proofs.FindsAll.{Args3, value_found, each_found}
use Rattle.defmt_encode.proofs.Numbers.{AreBytes, bytes_rest, number_back, number_found}
use Rattle.defmt_encode.proofs.Placing.{Place2, place_back, place_found}
use Rattle.defmt_encode.proofs.Stamps.{stamp_entry}
use Rattle.defmt_encode.proofs.Uses.{own_used}

-- ---- what is heard is read

-- the values of an entry's own arguments, in front of whatever follows
own_vals : (t : Map) (index : ℕ) (vs : Vals) (rest : List ℕ) (f : Fits t index vs) → AreSound vs → LengthsFit t (own_slots t index) vs
    → each_at (value_at t 16) (places_of f.pieces) 1 0 (bytes_vals t (own_slots t index) vs ++ rest) ≡ done (vs, 0 + weigh_vals t (places_of f.pieces) 1 vs, rest)
own_vals t index vs rest f g short =
    let own : own_slots t index ≡ slots_at (places_of f.pieces) = own_slots_are t index f.entry f.pieces f.there f.body in
    let size : LengthsFit t (slots_at (places_of f.pieces)) vs = subst (λ (q : List Slot). LengthsFit t q vs) own short in
    ap (λ (q : List Slot). each_at (value_at t 16) (places_of f.pieces) 1 0 (bytes_vals t q vs ++ rest)) own
    ∙ vals_back t 16 (places_of f.pieces) 1 0 rest vs f.values g (omega arith) (own_used t.language f.entry f.pieces f.body) size (omega (arith, f.light))

abbrev pub stamp_rest : Map → List ℕ → List Piece → Read (Vals × List ℕ)
stamp_rest t from ps = each_at (value_at t 16) (places_of ps) 1 0 from ⇒ λ r. Ok (r.0, r.2)

stamp_by : (t : Map) (o : Option ℕ) (stamp : Vals) (rest : List ℕ) → FitsStamp t o stamp → AreSound stamp → LengthsFit t (stamp_slots t o) stamp → stamp_at t o (bytes_vals t (stamp_slots t o) stamp ++ rest) ≡ done (stamp, rest)
unfolding bytes_vals
stamp_by t None stamp rest f g short = rw f refl
stamp_by t (Some index) stamp rest f g short =
    let form : stamp_form t.language (look t index) ≡ done f.pieces = rw (f.there, f.body) refl in
    ap (λ (q : Read (List Piece)). q ⇒ stamp_rest t (bytes_vals t (own_slots t index) stamp ++ rest)) form
    ∙ ap (λ (q : Read Args3). q ⇒ λ r. Ok (r.0, r.2)) (own_vals t index stamp rest f g short)

pub stamp_back : (t : Map) (stamp : Vals) (from rest : List ℕ) → FoundStamp t stamp from rest → stamp_at t (stamp_of t) from ≡ done (stamp, rest)
stamp_back t stamp from rest f = ap (λ (x : List ℕ). stamp_at t (stamp_of t) x) f.carries ∙ stamp_by t (stamp_of t) stamp rest f.fits f.sound f.lengths

pads : (padding : List ℕ) → length padding ≤ 6 → all_zero padding ≡ true → padded padding ≡ done tt
pads padding h z = rw (le-leb (length padding) 6 h, z) refl

pub one_entry : (t : Map) (index : ℕ) (e d : Entry) → look t index ≡ Some e → look t index ≡ Some d → e ≡ d
one_entry t index e d a b = let k : Some e ≡ Some d = sym a ∙ b in cc

own_of : (t : Map) (index : ℕ) (vs : Vals) (f : Fits t index vs) → IsLogged t index → IsOwn t index f.pieces
own_of t index vs f l =
    let same_entry = one_entry t index l.entry f.entry l.there f.there in
    record { entry = f.entry; there = f.there; tag = subst (λ (e : Entry). is_logged e.tag ≡ true) same_entry l.tag; body = f.body }

pub heard_again : (t : Catalog) (bytes : List ℕ) (place : Option ℕ) (stamp : Vals) (index : ℕ) (vs : Vals) → IsHeard t bytes place stamp index vs → message_at t bytes ≡ done (place, stamp, index, vs)
heard_again t bytes place stamp index vs h =
    let f = h.fits in
    let own = own_of t.entries index vs f h.logged in
    let head : List ℕ = little_bytes 2 index in
    let at : List ℕ = place_bytes place in
    let first : List ℕ = bytes_vals t.entries (stamp_slots t.entries (stamp_of t.entries)) stamp in
    let body : List ℕ = bytes_vals t.entries (own_slots t.entries index) vs in
    let rest : List ℕ = body ++ h.padding in
    let is : bytes ≡ head ++ (at ++ (first ++ rest)) =
    h.message ∙ append_assoc (head ++ (at ++ first)) body h.padding ∙ append_assoc head (at ++ first) rest ∙ ap (λ (x : List ℕ). head ++ x) (append_assoc at first rest) in
    let a = number_back 2 index (at ++ (first ++ rest)) (index_small t.entries index f.entry f.there) in
    let q = place_back t.profile place (at ++ (first ++ rest)) (first ++ rest) (record { has = h.placed; carries = refl }) in
    let b = stamp_by t.entries (stamp_of t.entries) stamp rest h.stamp_fits h.stamp_sound h.lengths.0 in
    let d = own_vals t.entries index vs h.padding f h.sound h.lengths.1 in
    rw (is, a, own_back t.entries index f.pieces own, q, b, d, pads h.padding h.few h.zeros) refl

-- ---- what is read is heard

abbrev Stamp2 : Type 0
Stamp2 = Vals × List ℕ

-- the stamp's index, with what is known of it
stamp_found_by : (t : Map) (o : Option ℕ) (from : List ℕ) (y : Stamp2) → stamp_of t ≡ o → AreBytes from → stamp_at t o from ≡ done y → FitsStamp t o y.0 × AreSound y.0 × LengthsFit t (stamp_slots t o) y.0 × (from ≡ bytes_vals t (stamp_slots t o) y.0 ++ y.1)
unfolding bytes_vals
stamp_found_by t None from y s h e = subst (λ (p : Stamp2). FitsStamp t None p.0 × AreSound p.0 × LengthsFit t [] p.0 × (from ≡ bytes_vals t [] p.0 ++ p.1)) (same (no_vals, from) y e) (refl, tt, tt, refl)
stamp_found_by t (Some index) from y s h e =
    let entry = stamp_entry t index s in
    let e' : (stamp_form t.language (Some entry.0) ⇒ stamp_rest t from) ≡ done y = ap (λ (o : Option Entry). stamp_form t.language o ⇒ stamp_rest t from) (sym entry.1) ∙ e in
    let b0 = bound (stamp_form t.language (Some entry.0)) (stamp_rest t from) y e' in
    let ps : List Piece = b0.0 in
    let body = stamp_found t.language entry.0 ps b0.1 in
    let b1 = bound (each_at (value_at t 16) (places_of ps) 1 0 from) (λ r. Ok (r.0, r.2)) y b0.2 in
    let f = each_found t 16 (value_at t 16) (value_found t 16) (places_of ps) 1 0 from b1.0 h b1.1 in
    let m : b1.0.1 ≤ 8192 = f.sums.kept (omega arith) in
    let fits : Fits t index b1.0.0 = record { entry = entry.0; pieces = ps; there = entry.1; body = body; values = f.fits; light = omega (arith, m, f.sums.sum) } in
    let own : own_slots t index ≡ slots_at (places_of ps) = own_slots_are t index entry.0 ps entry.1 body in
    subst (λ (p : Stamp2). FitsStamp t (Some index) p.0 × AreSound p.0 × LengthsFit t (own_slots t index) p.0 × (from ≡ bytes_vals t (own_slots t index) p.0 ++ p.1)) (same (b1.0.0, b1.0.2) y b1.2)
    (fits, f.sound, subst (λ (q : List Slot). LengthsFit t q b1.0.0) (sym own) f.lengths, f.carries ∙ ap (λ (q : List Slot). bytes_vals t q b1.0.0 ++ b1.0.2) (sym own))

pub found_stamp : (t : Map) (from : List ℕ) (y : Stamp2) → AreBytes from → stamp_at t (stamp_of t) from ≡ done y → FoundStamp t y.0 from y.1
found_stamp t from y h e = let p = stamp_found_by t (stamp_of t) from y refl h e in record { fits = p.0; sound = p.1; lengths = p.2; carries = p.3 }

abbrev pub Message4 : Type 0
Message4 = Option ℕ × Vals × ℕ × Vals

abbrev pub rest_end : ℕ → Option ℕ → Vals → Args3 → Read Message4
rest_end i place stamp r = padded r.2 ⇒ λ _. Ok (place, stamp, i, r.0)

abbrev pub rest_args : Map → ℕ → List Piece → Option ℕ → Stamp2 → Read Message4
rest_args t i ps place s = each_at (value_at t 16) (places_of ps) 1 0 s.1 ⇒ rest_end i place s.0

abbrev pub rest_stamp : Map → ℕ → List Piece → Place2 → Read Message4
rest_stamp t i ps q = stamp_at t (stamp_of t) q.1 ⇒ rest_args t i ps q.0

abbrev pub rest_place : Catalog → ℕ × List ℕ → List Piece → Read Message4
rest_place t i ps = place_at t.profile i.1 ⇒ rest_stamp t.entries i.0 ps

abbrev pub rest_own : Catalog → ℕ × List ℕ → Read Message4
rest_own t i = logged_of t.entries.language (look t.entries i.0) ⇒ rest_place t i

pub heard_found : (t : Catalog) (bytes : List ℕ) (y : Message4) → AreBytes bytes → message_at t bytes ≡ done y → IsHeard t bytes y.0 y.1 y.2 y.3
heard_found t bytes y h e =
    let b0 = bound (number_at 2 bytes) (rest_own t) y e in
    let i : ℕ = b0.0.0 in
    let b1 = bound (logged_of t.entries.language (look t.entries i)) (rest_place t b0.0) y b0.2 in
    let ps : List Piece = b1.0 in
    let b2 = bound (place_at t.profile b0.0.1) (rest_stamp t.entries i ps) y b1.2 in
    let place : Option ℕ = b2.0.0 in
    let b3 = bound (stamp_at t.entries (stamp_of t.entries) b2.0.1) (rest_args t.entries i ps place) y b2.2 in
    let stamp : Vals = b3.0.0 in
    let b4 = bound (each_at (value_at t.entries 16) (places_of ps) 1 0 b3.0.1) (rest_end i place stamp) y b3.2 in
    let vs : Vals = b4.0.0 in
    let rest : List ℕ = b4.0.2 in
    let b5 = bound (padded rest) (λ _. Ok (place, stamp, i, vs)) y b4.2 in
    let n = number_found 2 bytes b0.0 h b0.1 in
    let h1 = bytes_rest bytes (little_bytes 2 i) b0.0.1 h n.carries in
    let own = own_found t.entries i ps b1.1 in
    let q = place_found t.profile b0.0.1 b2.0 h1 b2.1 in
    let at : List ℕ = place_bytes place in
    let h2 = bytes_rest b0.0.1 at b2.0.1 h1 q.carries in
    let s = found_stamp t.entries b2.0.1 b3.0 h2 b3.1 in
    let first : List ℕ = bytes_vals t.entries (stamp_slots t.entries (stamp_of t.entries)) stamp in
    let h3 = bytes_rest b2.0.1 first b3.0.1 h2 s.carries in
    let f = each_found t.entries 16 (value_at t.entries 16) (value_found t.entries 16) (places_of ps) 1 0 b3.0.1 b4.0 h3 b4.1 in
    let p = (chosen (is_padding rest) tt causes.Trailing tt b5.1).0 in
    let own_is : own_slots t.entries i ≡ slots_at (places_of ps) = own_slots_are t.entries i own.entry ps own.there own.body in
    let m : b4.0.1 ≤ 8192 = f.sums.kept (omega arith) in
    let body : List ℕ = bytes_vals t.entries (own_slots t.entries i) vs in
    let args : b3.0.1 ≡ body ++ rest = f.carries ∙ ap (λ (x : List Slot). bytes_vals t.entries x vs ++ rest) (sym own_is) in
    let behind : b0.0.1 ≡ (at ++ first) ++ (body ++ rest) =
    q.carries ∙ ap (λ (x : List ℕ). at ++ x) (s.carries ∙ ap (λ (x : List ℕ). first ++ x) args) ∙ sym (append_assoc at first (body ++ rest)) in
    let carries : bytes ≡ ((little_bytes 2 i ++ (at ++ first)) ++ body) ++ rest =
    n.carries ∙ ap (λ (x : List ℕ). little_bytes 2 i ++ x) behind
    ∙ sym (append_assoc (little_bytes 2 i) (at ++ first) (body ++ rest)) ∙ sym (append_assoc (little_bytes 2 i ++ (at ++ first)) body rest) in
    let all : IsHeard t bytes place stamp i vs = record {
      placed = q.has;
      stamp_fits = s.fits;
      fits = record { entry = own.entry; pieces = ps; there = own.there; body = own.body; values = f.fits; light = omega (arith, m, f.sums.sum) };
      logged = record { entry = own.entry; there = own.there; tag = own.tag };
      stamp_sound = s.sound;
      sound = f.sound;
      lengths = (s.lengths, subst (λ (x : List Slot). LengthsFit t.entries x vs) (sym own_is) f.lengths);
      padding = rest;
      few = leb-true (length rest) 6 (and_parts (nat_le (length rest) 6) (all_zero rest) p).0;
      zeros = (and_parts (nat_le (length rest) 6) (all_zero rest) p).1;
      message = carries;
    } in
    subst (λ (z : Message4). IsHeard t bytes z.0 z.1 z.2 z.3) (same (place, stamp, i, vs) y b5.2) all

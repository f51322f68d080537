-- What is read is heard or met, and what is heard or met is read.
use Rattle.std.proofs.Common.{◌≡◌, ◌+◌, ℕ, zero, suc, true, List, [], ◌∷◌, ◌++◌, length, length-append, get_or, replicate, Option, Some, Result, Ok, Err, refl, sym, ap, ◌∙◌, subst, arith, Fits as IsWithin}
use Rattle.std.specs.Int.{w8}
use Rattle.std.proofs.lemmas.List.{length-replicate}
use Rattle.rzcobs_core.specs.Blocks.{Blocks}
use Rattle.rzcobs_core.specs.Canon.{canon}
use Rattle.defmt_intern.specs.Catalog.{Catalog}
use Rattle.defmt_intern.specs.Table.{Map}
use Rattle.defmt_intern.specs.declared.table.Profile.{Profile}
use Rattle.defmt_values.specs.Fits.{Fits, FitsStamp, IsLogged}
use Rattle.byteorder.specs.Endian.{little_bytes}
use Rattle.defmt_grammar.specs.declared.slot.Slot.{Slot}
use Rattle.defmt_values.specs.Plain.{Vals, no_vals, val, uint}
use Rattle.defmt_encode.specs.Carry.{uint_width, own_slots, stamp_slots, stamp_args, bytes_vals, message_head, message_of}
use Rattle.defmt_encode.specs.Cause.{cause_number}
use Rattle.defmt_encode.specs.Heard.{IsHeard, SameStatement}
use Rattle.defmt_encode.specs.Lengths.{MessageLengthsFit}
use Rattle.defmt_encode.specs.Met.{Meets, IsMet}
use Rattle.defmt_encode.specs.Placed.{HasPlace, place_in, place_bytes}
use Rattle.defmt_encode.specs.Read.{all_zero, message_at}
use Rattle.defmt_encode.specs.Reads.{ReadsMessage, Answers, GivesOnly, RefusesOnly, answered}
use Rattle.defmt_values.specs.Sound.{AreSound}
use Rattle.defmt_intern.specs.Stamp.{stamp_of}
use Rattle.defmt_encode.specs.declared.cause.Cause.{Cause}
use Rattle.defmt_encode.specs.declared.cause.Fault.{Fault}
use Rattle.defmt_encode.specs.declared.cause.Fault.TheVariants.{Bad, Memory}
use Rattle.defmt_encode.specs.declared.heard.Heard.{Heard}
use Rattle.defmt_encode.specs.declared.heard.ReadCause.{ReadCause}
use Rattle.defmt_encode.proofs.Chains.{done, refused, same, same_cause}
use Rattle.defmt_encode.proofs.Hears as hears
use Rattle.defmt_encode.proofs.Hears.{Message4}
use Rattle.defmt_encode.proofs.MetBack as back
use Rattle.defmt_encode.proofs.MetFound as found
use Rattle.defmt_encode.proofs.Numbers.{AreBytes, length_little}
use Rattle.defmt_encode.proofs.Placing.{place_alike}
use Rattle.rzcobs_core.proofs.OneReading.{one_reading}
use Rattle.rzcobs_core.proofs.Greedy.{canon_stands}

-- ---- both ways, of bytes

pub heard_found : (t : Catalog) (bytes : List ℕ) (place : Option ℕ) (stamp : Vals) (index : ℕ) (vs : Vals) → AreBytes bytes → message_at t bytes ≡ Ok (place, stamp, index, vs) → IsHeard t bytes place stamp index vs
heard_found t bytes place stamp index vs h e = hears.heard_found t bytes (place, stamp, index, vs) h e

pub heard_again : (t : Catalog) (bytes : List ℕ) (place : Option ℕ) (stamp : Vals) (index : ℕ) (vs : Vals) → IsHeard t bytes place stamp index vs → message_at t bytes ≡ Ok (place, stamp, index, vs)
heard_again t bytes place stamp index vs h = hears.heard_again t bytes place stamp index vs h

pub met_found : (t : Catalog) (bytes : List ℕ) (c : Cause) → AreBytes bytes → message_at t bytes ≡ Err c → Meets t bytes c
met_found t bytes c h e = found.met_found t bytes c h e

pub met_again : (t : Catalog) (bytes : List ℕ) (c : Cause) → Meets t bytes c → message_at t bytes ≡ Err c
met_again t bytes c m = back.met_again t bytes c m

pub bytes_fit : (bytes : List ℕ) → ((i : ℕ) → IsWithin w8 (get_or bytes i 0)) → AreBytes bytes
bytes_fit [] h = tt
bytes_fit (b ∷ bytes) h = let k : IsWithin w8 b = h 0 in (omega arith, bytes_fit bytes (λ i. h (suc i)))

-- ---- one answer

apart : (y : Message4) (c : Cause) → done y ≡ refused Message4 c → ⊥
apart y c h = absurd (cc)

pub one_heard : (t : Catalog) (bytes : List ℕ) (k l : Option ℕ) (a b : Vals) (i j : ℕ) (vs ws : Vals) → IsHeard t bytes k a i vs → IsHeard t bytes l b j ws → SameStatement k l a b i j vs ws
one_heard t bytes k l a b i j vs ws h g =
    let e = same (k, a, i, vs) (l, b, j, ws) (sym (heard_again t bytes k a i vs h) ∙ heard_again t bytes l b j ws g) in
    record { same_place = ap (λ (p : Message4). p.0) e; same_stamp = ap (λ (p : Message4). p.1) e; same_index = ap (λ (p : Message4). p.2) e; same_args = ap (λ (p : Message4). p.3) e }

pub one_met : (t : Catalog) (bytes : List ℕ) (m n : ℕ) → IsMet t bytes m → IsMet t bytes n → m ≡ n
one_met t bytes m n h k =
    let e : h.0 ≡ k.0 = same_cause {A = Message4} h.0 k.0 (sym (met_again t bytes h.0 h.2) ∙ met_again t bytes k.0 k.2) in
    h.1 ∙ ap cause_number e ∙ sym k.1

pub never_both : (t : Catalog) (bytes : List ℕ) (place : Option ℕ) (stamp : Vals) (index : ℕ) (vs : Vals) (number : ℕ) → IsHeard t bytes place stamp index vs → IsMet t bytes number → ⊥
never_both t bytes place stamp index vs number h m = apart (place, stamp, index, vs) m.0 (sym (heard_again t bytes place stamp index vs h) ∙ met_again t bytes m.0 m.2)

-- ---- the answers of the reader

abbrev told : Heard → Message4
told heard = (heard.place, heard.stamp, heard.stm.index, heard.stm.args)

module _ (t : Catalog) (bytes : List ℕ) where
  answers_by : (r : Result Heard Fault) → AreBytes bytes → ReadsMessage r (message_at t bytes) → Answers t bytes (answered r)
  answers_by (Ok heard) h e = hears.heard_found t bytes (told heard) h (sym e)
  answers_by (Err (Bad c)) h e = (c, refl, met_found t bytes c h (sym e))
  answers_by (Err Memory) h e = tt

  pub answers : (r : Result Heard Fault) (q : Result Heard ReadCause) → q ≡ answered r → AreBytes bytes → ReadsMessage r (message_at t bytes) → Answers t bytes q
  answers r q is h e = subst (λ (x : Result Heard ReadCause). Answers t bytes x) (sym is) (answers_by r h e)

  module _ (place : Option ℕ) (stamp : Vals) (index : ℕ) (vs : Vals) (h : IsHeard t bytes place stamp index vs) where
    gives_by : (r : Result Heard Fault) → ReadsMessage r (message_at t bytes) → GivesOnly (answered r) place stamp index vs
    gives_by (Ok heard) e =
        let k = same (told heard) (place, stamp, index, vs) (e ∙ heard_again t bytes place stamp index vs h) in
        (ap (λ (p : Message4). p.0) k, ap (λ (p : Message4). p.1) k, ap (λ (p : Message4). p.2) k, ap (λ (p : Message4). p.3) k)
    gives_by (Err (Bad c)) e = apart (place, stamp, index, vs) c (sym (e ∙ heard_again t bytes place stamp index vs h))
    gives_by (Err Memory) e = tt

    pub gives : (r : Result Heard Fault) (q : Result Heard ReadCause) → q ≡ answered r → ReadsMessage r (message_at t bytes) → GivesOnly q place stamp index vs
    gives r q is e = subst (λ (x : Result Heard ReadCause). GivesOnly x place stamp index vs) (sym is) (gives_by r e)

  module _ (number : ℕ) (m : IsMet t bytes number) where
    refuses_by : (r : Result Heard Fault) → ReadsMessage r (message_at t bytes) → RefusesOnly (answered r) number
    refuses_by (Ok heard) e = apart (told heard) m.0 (e ∙ met_again t bytes m.0 m.2)
    refuses_by (Err (Bad c)) e = ap cause_number (same_cause {A = Message4} c m.0 (e ∙ met_again t bytes m.0 m.2)) ∙ sym m.1
    refuses_by (Err Memory) e = tt

    pub refuses : (r : Result Heard Fault) (q : Result Heard ReadCause) → q ≡ answered r → ReadsMessage r (message_at t bytes) → RefusesOnly q number
    refuses r q is e = subst (λ (x : Result Heard ReadCause). RefusesOnly x number) (sym is) (refuses_by r e)

-- ---- a message read back

zeros_are : (n : ℕ) → all_zero (replicate n 0) ≡ true
zeros_are zero = refl
zeros_are (suc n) = zeros_are n

pub reads_back : (t : Catalog) (place : Option ℕ) (stamp : Vals) (index : ℕ) (vs : Vals) (bytes : List ℕ) → HasPlace t.profile place → FitsStamp t.entries (stamp_of t.entries) stamp → Fits t.entries index vs → IsLogged t.entries index → AreSound stamp → AreSound vs → MessageLengthsFit t.entries stamp index vs → Blocks (canon (message_of t.entries place stamp index vs)) bytes → IsHeard t bytes place stamp index vs
reads_back t place stamp index vs bytes k f g l s u fit b =
    let message : List ℕ = message_of t.entries place stamp index vs in
    let p = canon_stands message in
    record {
      placed = k;
      stamp_fits = f;
      fits = g;
      logged = l;
      stamp_sound = s;
      sound = u;
      lengths = fit;
      padding = replicate p.0 0;
      few = omega (arith, p.1, length-replicate {A = ℕ} p.0 0);
      zeros = zeros_are p.0;
      message = one_reading (canon message) bytes (message ++ replicate p.0 0) b p.2;
    }

-- ---- lengths

one_length : (t : Map) (slots : List Slot) (m n : ℕ) → length (bytes_vals t slots (val (uint m) no_vals)) ≡ length (bytes_vals t slots (val (uint n) no_vals))
unfolding bytes_vals
one_length t [] m n = refl
one_length t (s ∷ ss) m n =
    let k : ℕ = uint_width s in
    length-append (little_bytes k m) [] ∙ ap (λ (x : ℕ). x + 0) (length_little k m ∙ sym (length_little k n)) ∙ sym (length-append (little_bytes k n) [])

-- the lengths of a message's parts
parts_length : (t : Map) (place : Option ℕ) (stamp : Vals) (index : ℕ) (vs : Vals)
    → length (message_of t place stamp index vs) ≡ 2 + (length (place_bytes place) + length (bytes_vals t (stamp_slots t (stamp_of t)) stamp)) + length (bytes_vals t (own_slots t index) vs)
parts_length t place stamp index vs =
    let first : List ℕ = bytes_vals t (stamp_slots t (stamp_of t)) stamp in
    let body : List ℕ = bytes_vals t (own_slots t index) vs in
    let a = length-append (message_head index place first) body in
    let b = length-append (little_bytes 2 index) (place_bytes place ++ first) in
    let c = length-append (place_bytes place) first in
    let d = length_little 2 index in
    omega (arith, a, b, c, d)

pub stamp_length : (t : Map) (place : Option ℕ) (m n index : ℕ) (vs : Vals) → length (message_of t place (stamp_args (Some m)) index vs) ≡ length (message_of t place (stamp_args (Some n)) index vs)
stamp_length t place m n index vs =
    let slots : List Slot = stamp_slots t (stamp_of t) in
    parts_length t place (val (uint m) no_vals) index vs
    ∙ ap (λ (x : ℕ). 2 + (length (place_bytes place) + x) + length (bytes_vals t (own_slots t index) vs)) (one_length t slots m n)
    ∙ sym (parts_length t place (val (uint n) no_vals) index vs)

pub place_length : (t : Map) (p : Profile) (m n : ℕ) (stamp : Vals) (index : ℕ) (vs : Vals) → length (message_of t (place_in p m) stamp index vs) ≡ length (message_of t (place_in p n) stamp index vs)
place_length t p m n stamp index vs =
    let first : List ℕ = bytes_vals t (stamp_slots t (stamp_of t)) stamp in
    parts_length t (place_in p m) stamp index vs
    ∙ ap (λ (x : ℕ). 2 + (x + length first) + length (bytes_vals t (own_slots t index) vs)) (place_alike p m n)
    ∙ sym (parts_length t (place_in p n) stamp index vs)

-- A text that is placed part by part.
use Rattle.std.proofs.Common.{◌≡◌, ◌≤◌, ◌+◌, ℕ, List, [], ◌++◌, length, Option, None, Some, sym, arith, inl, inr}
use Rattle.std.proofs.lemmas.Str.{IsUtf8-append}
use Rattle.std.specs.Str.{IsUtf8}
use Rattle.defmt_eager.specs.Answers.{Placed, PlacedNarrow, Puts, PutsNarrow, Unplaced}
use Rattle.defmt_hints.proofs.Chains.{full_behind, full_front, kept_written, written_end, written_none, written_two}
use Rattle.defmt_hints.proofs.Utf8Laws.{utf8_ascii}
use Rattle.defmt_hints.specs.Written.{Full, Written, Writes}

pub placed : {old : List ℕ} {at : ℕ} {new : List ℕ} {end : ℕ} {text : List ℕ} → IsUtf8 text → Written old at new end text → Placed old at new end text
placed u w = record { written = w; utf8 = u }

pub puts_of : (r : Option ℕ) (old : List ℕ) (at : ℕ) (new text : List ℕ) → IsUtf8 text → Writes r old at new text → Puts r old at new text
puts_of None old at new text u h = h
puts_of (Some end) old at new text u h = placed u h

pub placed_none : (old : List ℕ) (at : ℕ) → at ≤ length old → Placed old at old at []
placed_none old at le = record { written = written_none old at le; utf8 = utf8_ascii [] tt }

pub puts_two : (r : Option ℕ) (new : List ℕ) {old mid : List ℕ} {at m : ℕ} (a b : List ℕ) → at ≤ length old → Placed old at mid m a → Puts r mid m new b → Puts r old at new (a ++ b)
puts_two None new {old} {mid} {at} {m} a b le p f = full_behind old mid new at m a b le p.written f
puts_two (Some end) new {old} {mid} {at} {m} a b le p q = record {
  written = written_two old mid new at m end a b p.written q.written;
  utf8 = IsUtf8-append a b p.utf8 q.utf8;
}

-- ---- any number of parts

-- whatever is made of the rest at this place is made of the whole at the first place
pub record Pending (old : List ℕ) (at : ℕ) (whole now : List ℕ) (place : ℕ) (rest : List ℕ) : Type 0 where
  pub within : place ≤ length now
  pub goes : (r : Option ℕ) (new : List ℕ) → Puts r now place new rest → Puts r old at new whole

pub pending_none : (old : List ℕ) (at : ℕ) (whole : List ℕ) → at ≤ length old → Pending old at whole old at whole
pending_none old at whole le = record { within = le; goes = λ r new h. h }

pub pending_step : {old : List ℕ} {at : ℕ} {whole now next : List ℕ} {place m : ℕ} {rest : List ℕ} (a b : List ℕ) → rest ≡ a ++ b → Pending old at whole now place rest → Placed now place next m a → Pending old at whole next m b
pending_step {old} {at} {whole} {now} {next} {place} {m} {rest} a b e p w = record {
  within = omega (arith, w.written.within, w.written.long);
  goes = λ r new h. p.goes r new (rw e (puts_two r new a b p.within w h));
}

pub pending_full : {old : List ℕ} {at : ℕ} {whole now new : List ℕ} {place : ℕ} {rest : List ℕ} (a b : List ℕ) → rest ≡ a ++ b → Pending old at whole now place rest → Full now place new a → Full old at new whole
pending_full {old} {at} {whole} {now} {new} {place} {rest} a b e p f = p.goes None new (rw e (full_front now place new a b f))

pub pending_end : {old : List ℕ} {at : ℕ} {whole now : List ℕ} {place : ℕ} {rest : List ℕ} → rest ≡ [] → Pending old at whole now place rest → Placed old at now place whole
pending_end {old} {at} {whole} {now} {place} {rest} e p = p.goes (Some place) now (rw e (placed_none now place p.within))

-- ---- where something may be wide

-- where a text begins and ends
pub placed_length : {old new : List ℕ} {at end : ℕ} {text : List ℕ} → at ≤ length old → Placed old at new end text → (at + length text ≡ end) × (end ≤ length new)
placed_length {old} {new} {at} {end} {text} le p =
    (sym (written_end old new at end text le p.written), omega (arith, p.written.within, p.written.long))

pub unplaced_wide : {wide : Type 0} {old new : List ℕ} {at end : ℕ} {a : List ℕ} (text : List ℕ) → wide → at ≤ length old → Placed old at new end a → Unplaced wide old at new text
unplaced_wide {wide} {old} {new} {at} {end} {a} text w le p = record { kept = kept_written old new at end a le p.written; cause = inl w }

pub unplaced_behind : {wide : Type 0} {old mid new : List ℕ} {at m : ℕ} (a b : List ℕ) → at ≤ length old → Placed old at mid m a → Full mid m new b → Unplaced wide old at new (a ++ b)
unplaced_behind {wide} {old} {mid} {new} {at} {m} a b le p f =
    let g : Full old at new (a ++ b) = full_behind old mid new at m a b le p.written f in
    record { kept = g.kept; cause = inr g.over }

pub narrow_two : (wide : Type 0) (r : Option ℕ) (new : List ℕ) {old mid : List ℕ} {at m : ℕ} (a b : List ℕ) → at ≤ length old → PlacedNarrow wide old at mid m a → Puts r mid m new b → PutsNarrow wide r old at new (a ++ b)
narrow_two wide None new a b le p f = unplaced_behind a b le p.placed f
narrow_two wide (Some end) new a b le p q = record { placed = puts_two (Some end) new a b le p.placed q; narrow = p.narrow }

-- One text behind another.
use Rattle.std.proofs.Common.{Option, Some, None, ◌≡◌, ◌≤◌, ◌+◌, ◌-◌, ℕ, List, [], ◌++◌, length, take, drop, refl, sym, ap, ◌∙◌, arith, append_assoc, length-append}
use Rattle.std.proofs.lemmas.Grind.{common_steps}
use Rattle.std.proofs.lemmas.List.{append-nil, length-take-le, take_at, drop-drop}
use Rattle.defmt_hints.specs.Written.{Full, Kept, Written, Writes}

pub written_none : (old : List ℕ) (at : ℕ) → at ≤ length old → Written old at old at []
written_none old at le = record { long = refl; within = le; written = sym (append-nil (take at old)); behind = refl }

-- where a text ends
pub written_end : (old new : List ℕ) (at end : ℕ) (a : List ℕ) → at ≤ length old → Written old at new end a → end ≡ at + length a
written_end old new at end a le w =
    let le_new : end ≤ length new = omega (arith, w.within, w.long) in
    sym (length-take-le end new le_new) ∙ ap length w.written ∙ length-append (take at old) a ∙ ap (λ (n : ℕ). n + length a) (length-take-le at old le)

behind_more : (m end : ℕ) (xs ys : List ℕ) → m ≤ end → drop m xs ≡ drop m ys → drop end xs ≡ drop end ys
behind_more m end xs ys le e =
    let back : m + (end - m) ≡ end = omega arith in
    ap (λ (n : ℕ). drop n xs) (sym back) ∙ sym (drop-drop (end - m) m xs) ∙ ap (drop (end - m)) e ∙ drop-drop (end - m) m ys ∙ ap (λ (n : ℕ). drop n ys) back

pub written_two : (old mid new : List ℕ) (at m end : ℕ) (a b : List ℕ) → Written old at mid m a → Written mid m new end b → Written old at new end (a ++ b)
written_two old mid new at m end a b v w =
    let far : m ≤ end = omega (arith, written_end mid new m end b (omega (arith, v.within, v.long)) w) in
    record {
      long = w.long ∙ v.long;
      within = omega (arith, w.within, v.long);
      written = w.written ∙ ap (λ (t : List ℕ). t ++ b) v.written ∙ append_assoc (take at old) a b;
      behind = w.behind ∙ behind_more m end mid old far v.behind;
    }

pub take_less : (k n : ℕ) (xs : List ℕ) → k ≤ n → take k (take n xs) ≡ take k xs
take_less k n xs le = grind (arith, common_steps)

pub kept_written : (old new : List ℕ) (at end : ℕ) (a : List ℕ) → at ≤ length old → Written old at new end a → Kept old at new
kept_written old new at end a le w =
    let far : at ≤ end = omega (arith, written_end old new at end a le w) in
    record {
      long = w.long;
      front = sym (take_less at end new far) ∙ ap (λ (t : List ℕ). take at t) w.written ∙ take_at (take at old) a at (length-take-le at old le);
    }

pub kept_two : (old mid new : List ℕ) (at m : ℕ) → at ≤ m → Kept old at mid → Kept mid m new → Kept old at new
kept_two old mid new at m le k n = record {
  long = n.long ∙ k.long;
  front = sym (take_less at m new le) ∙ ap (λ (t : List ℕ). take at t) n.front ∙ take_less at m mid le ∙ k.front;
}

pub kept_behind : (old mid new : List ℕ) (at m : ℕ) (a : List ℕ) → at ≤ length old → Written old at mid m a → Kept mid m new → Kept old at new
kept_behind old mid new at m a le v k = kept_two old mid new at m (omega (arith, written_end old mid at m a le v)) (kept_written old mid at m a le v) k

-- ---- where a text doesn't fit

-- where the first of two texts doesn't, both don't
pub full_front : (old : List ℕ) (at : ℕ) (new a b : List ℕ) → Full old at new a → Full old at new (a ++ b)
full_front old at new a b f = record { kept = f.kept; over = omega (arith, f.over, length-append a b) }

-- nor where the second doesn't behind the first
pub full_behind : (old mid new : List ℕ) (at m : ℕ) (a b : List ℕ) → at ≤ length old → Written old at mid m a → Full mid m new b → Full old at new (a ++ b)
full_behind old mid new at m a b le v f = record {
  kept = kept_behind old mid new at m a le v f.kept;
  over = omega (arith, f.over, v.long, written_end old mid at m a le v, length-append a b);
}

pub writes_two : (r : Option ℕ) (old mid new : List ℕ) (at m : ℕ) (a b : List ℕ) → at ≤ length old → Written old at mid m a → Writes r mid m new b → Writes r old at new (a ++ b)
writes_two None old mid new at m a b le v k = full_behind old mid new at m a b le v k
writes_two (Some end) old mid new at m a b le v w = written_two old mid new at m end a b v w

-- ---- a text that is written part by part

-- whatever is made of the rest at this place is made of the whole at the first place
pub record Pending (old : List ℕ) (at : ℕ) (whole now : List ℕ) (place : ℕ) (rest : List ℕ) : Type 0 where
  pub within : place ≤ length now
  pub goes : (r : Option ℕ) (new : List ℕ) → Writes r now place new rest → Writes r old at new whole

pub pending_none : (old : List ℕ) (at : ℕ) (whole : List ℕ) → at ≤ length old → Pending old at whole old at whole
pending_none old at whole le = record { within = le; goes = λ r new h. h }

pub pending_step : {old : List ℕ} {at : ℕ} {whole now next : List ℕ} {place m : ℕ} {rest : List ℕ} (a b : List ℕ) → rest ≡ a ++ b → Pending old at whole now place rest → Written now place next m a → Pending old at whole next m b
pending_step {old} {at} {whole} {now} {next} {place} {m} {rest} a b e p w = record {
  within = omega (arith, w.within, w.long);
  goes = λ r new h. p.goes r new (rw e (writes_two r now next new place m a b p.within w h));
}

pub pending_full : {old : List ℕ} {at : ℕ} {whole now new : List ℕ} {place : ℕ} {rest : List ℕ} (a b : List ℕ) → rest ≡ a ++ b → Pending old at whole now place rest → Full now place new a → Full old at new whole
pending_full {old} {at} {whole} {now} {new} {place} {rest} a b e p f = p.goes None new (rw e (full_front now place new a b f))

pub pending_end : {old : List ℕ} {at : ℕ} {whole now : List ℕ} {place : ℕ} {rest : List ℕ} → rest ≡ [] → Pending old at whole now place rest → Written old at now place whole
pending_end {old} {at} {whole} {now} {place} {rest} e p = p.goes (Some place) now (rw e (written_none now place p.within))

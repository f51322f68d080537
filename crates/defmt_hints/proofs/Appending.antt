-- A text that is written into a room and appended.
use Rattle.std.proofs.Common.{◌≡◌, ℕ, List, [], ◌++◌, take, Result, Ok, Err, refl, sym, subst, ◌∙◌}
use Rattle.std.proofs.lemmas.List.{append-nil}
use Rattle.std.specs.Prelude.{OnOk, OnErr}
use Rattle.std.specs.Str.{IsUtf8}
use Rattle.defmt_hints.specs.Appends.{Appends}
use Rattle.defmt_hints.specs.Written.{Written}

-- what a push says, in one
pub Appends-pushed : {E : Type 0} (r : Result (Unit {0}) E) (old new text : List ℕ) → OnOk r (new ≡ old ++ text) → OnErr r (new ≡ old) → Appends r old new text
Appends-pushed (Ok u) old new text ok err = ok
Appends-pushed (Err e) old new text ok err = record { front = []; back = text; parts = refl; appended = err ∙ sym (append-nil old) }

pub ruleset pushes = (Appends-pushed)

-- nothing is appended where memory runs out
pub appends_none : {E : Type 0} (r : Result (Unit {0}) E) (x : E) (old text : List ℕ) → r ≡ Err x → Appends r old old text
appends_none r x old text e = rw e (record { front = []; back = text; parts = refl; appended = sym (append-nil old) })

-- the room holds the text
pub room_utf8 : {old new text : List ℕ} {end : ℕ} → Written old 0 new end text → IsUtf8 text → IsUtf8 (take end new)
room_utf8 w u = subst IsUtf8 (sym w.written) u

pub room_appended : {E : Type 0} (r : Result (Unit {0}) E) (out after : List ℕ) {old new text : List ℕ} {end : ℕ} → Written old 0 new end text → Appends r out after (take end new) → Appends r out after text
room_appended r out after w a = subst (λ (t : List ℕ). Appends r out after t) w.written a

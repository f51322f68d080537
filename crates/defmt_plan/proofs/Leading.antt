-- Pieces that begin with a literal.
use Rattle.std.proofs.Common.{◌≡◌, ◌≤◌, ◌+◌, ℕ, List, ◌++◌, length, take, drop, refl, sym, ap, subst, ◌∙◌, arith, Option, Some, None}
use Rattle.std.proofs.lemmas.List.{take-append-drop}
use Rattle.defmt_grammar.specs.Slots.{slots_of}
use Rattle.defmt_grammar.specs.declared.hint.Hint.TheVariants as hints
use Rattle.defmt_grammar.specs.declared.piece.Piece.{Piece}
use Rattle.defmt_grammar.specs.declared.slot.Slot.{Slot}
use Rattle.defmt_intern.specs.Table.{Map}
use Rattle.defmt_values.specs.Entries.{places_of}
use Rattle.defmt_values.specs.Fits.{FitsVals, weigh_vals}
use Rattle.defmt_values.specs.Plain.{Vals}
use Rattle.defmt_values.specs.Sound.{AreSound}
use Rattle.defmt_encode.specs.Carry.{bytes_vals, slots_at}
use Rattle.defmt_encode.specs.Read.{value_at}
use Rattle.defmt_encode.proofs.Entries.{slots_at_places}
use Rattle.defmt_encode.proofs.FindsAll.{each_found, value_found}
use Rattle.defmt_encode.proofs.Numbers.{AreBytes, bytes_rest}
use Rattle.defmt_encode.specs.Lengths.{LengthsFit}
use Rattle.defmt_eager.specs.Show.{Shown, pieces_text, shows}
use Rattle.defmt_plan.specs.Carried.{Carried}
use Rattle.defmt_plan.specs.Plans.{led, lead_text}
use Rattle.defmt_plan.specs.Readers.{PassesPieces}
use Rattle.defmt_plan.specs.Told.{ArgumentsPassed}
use Rattle.defmt_plan.specs.declared.reach.Reach.{Reach}
use Rattle.defmt_eager.specs.Answers.{Placed}

-- arguments that the bytes between two places carry for the pieces' slots, with what the text of the pieces has behind the literal
pub record PassedLed (t : Map) (lead : Option (List ℕ)) (qs : List Piece) (bytes : List ℕ) (from to : ℕ) (old : List ℕ) (at : ℕ) (new : List ℕ) (end : ℕ) : Type 0 where
  pub args : Vals
  pub fits : FitsVals t 16 (places_of qs) args
  pub light : weigh_vals t (places_of qs) 1 args ≤ 8192
  pub sound : AreSound args
  pub lengths : LengthsFit t (slots_of qs) args
  pub carried : Carried bytes from to (bytes_vals t (slots_of qs) args)
  pub rest : List ℕ
  pub text_is : pieces_text hints.Plain qs (shows t args) ≡ lead_text lead ++ rest
  pub written : Placed old at new end rest

text_led : (lead : Option (List ℕ)) (ps : List Piece) (all : List Shown) → pieces_text hints.Plain (led lead ps) all ≡ lead_text lead ++ pieces_text hints.Plain ps all
unfolding pieces_text
text_led None ps all = refl
text_led (Some text) ps all = refl

-- the arguments that steps pass
pub arguments_by : (t : Map) (all ps : List Piece) (bytes : List ℕ) (from at : ℕ) (after : Reach) (old new : List ℕ) → AreBytes bytes → from ≤ length bytes
    → PassesPieces (Some after) t 16 hints.Plain all ps bytes (record { read = from; written = at; opened = 0 }) old new → ArgumentsPassed t all ps bytes from after.read old at new after.written
arguments_by t all ps bytes from at after old new small le p =
    let behind : AreBytes (drop from bytes) = bytes_rest bytes (take from bytes) (drop from bytes) small (sym (take-append-drop from bytes)) in
    let f = each_found t 16 (value_at t 16) (value_found t 16) (places_of all) 1 0 (drop from bytes) (p.value, after.opened, drop after.read bytes) behind p.reads in
    let slots : slots_at (places_of all) ≡ slots_of all = slots_at_places all in
    let sum : 0 + weigh_vals t (places_of all) 1 p.value ≡ after.opened = f.sums.sum in
    record {
      args = p.value;
      fits = f.fits;
      light = omega (arith, sum, p.few);
      sound = f.sound;
      lengths = subst (λ (some : List Slot). LengthsFit t some p.value) slots f.lengths;
      carried = record { within = p.within; parts = f.carries ∙ ap (λ (some : List Slot). bytes_vals t some p.value ++ drop after.read bytes) slots };
      written = p.written;
    }

pub passed_led : (t : Map) (lead : Option (List ℕ)) (qs ps : List Piece) (bytes : List ℕ) (from to : ℕ) (old : List ℕ) (at : ℕ) (new : List ℕ) (end : ℕ)
    → qs ≡ led lead ps → ArgumentsPassed t qs ps bytes from to old at new end → PassedLed t lead qs bytes from to old at new end
passed_led t lead qs ps bytes from to old at new end same p = record {
  args = p.args;
  fits = p.fits;
  light = p.light;
  sound = p.sound;
  lengths = p.lengths;
  carried = p.carried;
  rest = pieces_text hints.Plain ps (shows t p.args);
  text_is = ap (λ (rs : List Piece). pieces_text hints.Plain rs (shows t p.args)) same ∙ text_led lead ps (shows t p.args);
  written = p.written;
}

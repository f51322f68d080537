-- What is answered is the one answer.
use Rattle.std.proofs.Common.{◌≡◌, ℕ, List, [], length, map, Option, Result, Ok, Err, refl, sym, ap, subst, ◌∙◌, inl, inr}
use Rattle.defmt_grammar.specs.declared.fault.Cause.TheVariants as causes
use Rattle.defmt_grammar.specs.declared.fault.Mode.{Mode}
use Rattle.defmt_grammar.specs.declared.fault.GrammarFault.{GrammarFault}
use Rattle.defmt_grammar.specs.declared.fault.GrammarFault.TheVariants.{Memory, Refused}
use Rattle.defmt_grammar.specs.declared.piece.Piece.{Piece}
use Rattle.defmt_grammar.specs.declared.piece.Use.{Use}
use Rattle.defmt_grammar.specs.declared.pieces.Pieces.{Pieces}
use Rattle.defmt_grammar.specs.Grammar.{Spells, HasFault, IsRefused, NoClash, FirstClash, NoGap, HasGap}
use Rattle.defmt_grammar.specs.Fault.{cause_number}
use Rattle.defmt_grammar.specs.Reading.{IsRead}
use Rattle.defmt_grammar.specs.Pieces.{Parses, GivesOnly, RefusesOnly}
use Rattle.std.proofs.lemmas.List.{length-map}
use Rattle.std.specs.List.{range_with_len}
use Rattle.defmt_grammar.specs.declared.param.Param.{Param}
use Rattle.defmt_grammar.specs.declared.positions.Held.{Held}
use Rattle.defmt_grammar.specs.declared.slot.Slot.{Slot}
use Rattle.defmt_grammar.specs.Slots.{params_of, kinds_at, positions, slot_of, slots_of}
use Rattle.defmt_grammar.specs.Positions.{AllFit, params_in, front, held_slot, IsTableOf, IsFront, UsedFrom, UnusedFrom}
use Rattle.defmt_grammar.specs.Whole.{IsWhole}
use Rattle.defmt_grammar.proofs.FitLaws.{uses_fit, uses_params}
use Rattle.defmt_grammar.proofs.Fronts.{gap_found, no_gap, front_slots, front_counts}
use Rattle.defmt_grammar.proofs.Unique.{spells_one, spells_no_fault, fault_one}

pub gives_only : (text : List ℕ) (mode : Mode) (r : Result Pieces GrammarFault) (ps : List Piece) → Parses text mode r → Spells text mode ps → GivesOnly r ps
gives_only text mode (Ok qs) ps h s = spells_one text mode qs ps h s
gives_only text mode (Err Memory) ps h s = tt
gives_only text mode (Err (Refused number at)) ps h s = spells_no_fault text mode ps h.0 at s h.1

pub refuses_only : (text : List ℕ) (mode : Mode) (r : Result Pieces GrammarFault) (number at : ℕ) → Parses text mode r → IsRefused text mode number at → RefusesOnly r number at
refuses_only text mode (Ok qs) number at h f = spells_no_fault text mode qs f.0 at h f.1
refuses_only text mode (Err Memory) number at h f = tt
refuses_only text mode (Err (Refused n a)) number at h f = let k = fault_one text mode h.0 f.0 a at h.1 f.1 in (h.2 ∙ ap cause_number k.cause ∙ sym f.2, k.place)

pub fit_read : (text : List ℕ) (mode : Mode) (ps : List Piece) (uses : List Use) → IsRead text mode ps uses → AllFit uses
fit_read text mode ps uses r = subst AllFit r.uses_are (uses_fit mode (length text) 0 text r.tokens r.after [] r.spelled)

pub clash_read : (text : List ℕ) (mode : Mode) (ps : List Piece) (uses : List Use) (at : ℕ) → IsRead text mode ps uses → FirstClash uses at → HasFault text mode causes.Conflict at
clash_read text mode ps uses at r c = inr (inl (record { tokens = r.tokens; after = r.after; spelled = r.spelled; clash = subst (λ (us : List Use). FirstClash us at) (sym r.uses_are) c; cause_is = refl }))

pub gap_read : (text : List ℕ) (mode : Mode) (ps : List Piece) (uses : List Use) (table : List (Option Held)) → IsRead text mode ps uses → IsTableOf table uses → UsedFrom table (length (front table)) → HasFault text mode causes.Gap (length text)
gap_read text mode ps uses table r t g =
    inr (inr (record { tokens = r.tokens; after = r.after; spelled = r.spelled; no_clash = subst NoClash (sym r.uses_are) t.no_clash; gap = subst HasGap (sym r.uses_are) (gap_found table uses t.entries g); cause_is = refl; place = refl }))

pub spells_read : (text : List ℕ) (mode : Mode) (ps : List Piece) (uses : List Use) (table : List (Option Held)) → IsRead text mode ps uses → IsTableOf table uses → UnusedFrom table (length (front table)) → Spells text mode ps
spells_read text mode ps uses table r t n = record { tokens = r.tokens; after = r.after; spelled = r.spelled; joins = r.joins; no_clash = subst NoClash (sym r.uses_are) t.no_clash; no_gap = subst NoGap (sym r.uses_are) (no_gap table uses t (fit_read text mode ps uses r) n) }

-- the parameters that were read are those of the pieces
params_read : (text : List ℕ) (mode : Mode) (ps : List Piece) (uses : List Use) → IsRead text mode ps uses → params_in uses ≡ params_of ps
params_read text mode ps uses r = ap params_in (sym r.uses_are) ∙ uses_params r.tokens ∙ ap params_of r.joins

abbrev slots_from : List Param → List Slot
slots_from params = map (λ position. slot_of (kinds_at position params)) (range_with_len 0 (positions params))

abbrev counts_from : List Param → List ℕ
counts_from params = map (λ position. length (kinds_at position params)) (range_with_len 0 (positions params))

slots_from_is : (ps : List Piece) → slots_from (params_of ps) ≡ slots_of ps
unfolding slots_of
slots_from_is ps = refl

pub whole_read : (text : List ℕ) (mode : Mode) (ps : List Piece) (uses : List Use) (table : List (Option Held)) (ss : List Slot) (ns : List ℕ) → IsRead text mode ps uses → IsTableOf table uses → UnusedFrom table (length (front table)) → IsFront table ss ns → IsWhole ps ss ns
whole_read text mode ps uses table ss ns r t n f =
    let fit = fit_read text mode ps uses r in
    let same = params_read text mode ps uses r in
    record {
      spelled = (text, mode, spells_read text mode ps uses table r t n);
      slots = f.slots ∙ front_slots table uses t fit n ∙ ap slots_from same ∙ slots_from_is ps;
      counts = f.counts ∙ front_counts table uses t fit n ∙ ap counts_from same;
    }

-- ---- as many slots as entries in front

front_size : (table : List (Option Held)) (ss : List Slot) (ns : List ℕ) → IsFront table ss ns → length ss ≡ length (front table)
front_size table ss ns f = ap length f.slots ∙ length-map (front table) held_slot

pub used_front : (table : List (Option Held)) (ss : List Slot) (ns : List ℕ) (size : ℕ) → IsFront table ss ns → size ≡ length ss → UsedFrom table size → UsedFrom table (length (front table))
used_front table ss ns size f e u = subst (UsedFrom table) (e ∙ front_size table ss ns f) u

pub unused_front : (table : List (Option Held)) (ss : List Slot) (ns : List ℕ) (size : ℕ) → IsFront table ss ns → size ≡ length ss → UnusedFrom table size → UnusedFrom table (length (front table))
unused_front table ss ns size f e u = subst (UnusedFrom table) (e ∙ front_size table ss ns f) u

use Rattle.std.proofs.Common.{◌≡◌, ◌≤◌, ◌∙◌, ℕ, List, ap, arith, length, length-take, subst, sym, take}
use Rattle.std.specs.Prelude.{Option}
use Rattle.defmt_encode.specs.Carry.{message_of, stamp_args}
use Rattle.defmt_encode.specs.Placed.{place_in}
use Rattle.defmt_frames.proofs.Frames.{has_place}
use Rattle.defmt_intern.specs.Table.{Map}
use Rattle.defmt_script.specs.Lawful.{stamp_in}
use Rattle.rzcobs_core.specs.Canon.{canon}
use Rattle.defmt_print.proofs.Sizes.{never_long}
use Rattle.defmt_print.proofs.mark_lines.piece_size.Goals as goal

pub message-requires-clause-place : goal.message-requires-clause-place
message-requires-clause-place c =
    has_place c.table-table.result.now.profile c.args.script.now.settings.profile c.args.number c.place_of-place.result c.table-table.ensures.profile c.place_of-place.ensures

-- the message under the names of the call
abbrev same : (table told : Map) (place placed : Option ℕ) (stamp carried : Option ℕ) (index : ℕ) (args : _) → told ≡ table → placed ≡ place → carried ≡ stamp
    → message_of told placed (stamp_args carried) index args ≡ message_of table place (stamp_args stamp) index args
same table told place placed stamp carried index args t p s =
    ap (λ (m : Map). message_of m placed (stamp_args carried) index args) t
    ∙ ap (λ (o : Option ℕ). message_of table o (stamp_args carried) index args) p
    ∙ ap (λ (o : Option ℕ). message_of table place (stamp_args o) index args) s

pub unreachable-requires : goal.unreachable-requires
unreachable-requires c =
    let s = c.args.script.now in
    let stm = c.args.statement.now in
    let is = same s.table c.table-table.result.now.entries (place_in s.settings.profile c.args.number) c.place_of-place.result (stamp_in s.settings.stamp c.args.stamp) c.stamp_in-carried.result stm.index stm.args
    c.table-table.ensures.entries c.place_of-place.ensures c.stamp_in-carried.ensures.carried in
    let there = subst (λ (l : List ℕ). length l ≤ 2000) (sym is) (c.requires.short c.args.number c.args.stamp) in
    never_long _ c.message.new.out (message_of c.table-table.result.now.entries c.place_of-place.result (stamp_args c.stamp_in-carried.result) stm.index stm.args) c.message.result c.in-Err.field-0 c.in-Err.is c.message.ensures there

pub returns : goal.returns
returns c =
    let s = c.args.script.now in
    let stm = c.args.statement.now in
    let is = same s.table c.table-table.result.now.entries (place_in s.settings.profile c.args.number) c.place_of-place.result (stamp_in s.settings.stamp c.args.stamp) c.stamp_in-carried.result stm.index stm.args
    c.table-table.ensures.entries c.place_of-place.ensures c.stamp_in-carried.ensures.carried in
    let size : length (take c.encode.result c.encode.new.out) ≡ c.encode.result = length-take c.encode.result c.encode.new.out ∙ omega (arith, c.encode.ensures.within) in
    sym size ∙ ap length c.encode.ensures.code ∙ ap (λ (l : List ℕ). length (canon l)) (c.in-Ok.ensures.message_is ∙ is)

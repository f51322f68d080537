use Rattle.std.proofs.Common.{◌≡◌, ◌∙◌, Some, ap, arith, subst, sym}
use Rattle.defmt_intern.specs.Entries as map
use Rattle.defmt_intern.specs.Body.{body_of}
use Rattle.defmt_intern.specs.Table.{Map, IsKept, map_of}
use Rattle.defmt_intern.proofs.Slots.{few_kept, put_is, whole_kept, whole_put}
use Rattle.defmt_intern.proofs.TableLaws.{kept_stamp, kept_other}
use Rattle.defmt_intern.proofs.map.EntryMap.put.Goals as goal

pub keep-requires : goal.keep-requires
keep-requires c = c.self.invariant.few

pub overflow_add-self : goal.overflow_add-self
overflow_add-self c = omega (arith, c.self.invariant.counted, few_kept c.self.inside.slots.items c.self.invariant.few)

pub invariant_of-self : goal.invariant_of-self
invariant_of-self c = whole_kept c.self.inside.language c.self.inside.slots.items c.keep.new.slots.items c.self.inside.count c.self.inside.stamp c.self.invariant c.in_err-keep.ensures.err c.keep.ensures.few (c.keep.ensures.read c.self.inside.language c.self.invariant.read (c.requires.read ∙ sym (ap (λ (t : Map). body_of t.language c.args.kept.entry) c.self.view_is)))

pub invariant_of-self-then-is_stamp : goal.invariant_of-self-then-is_stamp
invariant_of-self-then-is_stamp c =
    let new : map_of c.self.inside.language c.keep.new.slots.items ≡ map.insert c.args.self.now c.args.index c.args.kept.entry = put_is c.self.inside.language c.self.inside.slots.items c.keep.new.slots.items c.args.index c.args.kept.entry c.in_ok-keep.ensures.ok c.self.view_is in
    let read = c.keep.ensures.read c.self.inside.language c.self.invariant.read (c.requires.read ∙ sym (ap (λ (t : Map). body_of t.language c.args.kept.entry) c.self.view_is)) in
    let kept : IsKept c.args.self.now c.self.inside.stamp = subst (λ (t : Map). IsKept t c.self.inside.stamp) c.self.view_is c.self.invariant.kept in
    whole_put c.self.inside.language c.self.inside.slots.items c.keep.new.slots.items c.args.self.now c.self.inside.count c.args.index c.args.kept.entry c.self.inside.stamp (Some c.args.index) c.self.invariant c.self.view_is new c.requires.free c.keep.ensures.few read
    (kept_stamp c.args.self.now c.self.inside.stamp c.args.index c.args.kept.entry kept (omega arith) c.requires.admitted c.if-is_stamp.ensures)

pub invariant_of-self-else-is_stamp : goal.invariant_of-self-else-is_stamp
invariant_of-self-else-is_stamp c =
    let new : map_of c.self.inside.language c.keep.new.slots.items ≡ map.insert c.args.self.now c.args.index c.args.kept.entry = put_is c.self.inside.language c.self.inside.slots.items c.keep.new.slots.items c.args.index c.args.kept.entry c.in_ok-keep.ensures.ok c.self.view_is in
    let read = c.keep.ensures.read c.self.inside.language c.self.invariant.read (c.requires.read ∙ sym (ap (λ (t : Map). body_of t.language c.args.kept.entry) c.self.view_is)) in
    let kept : IsKept c.args.self.now c.self.inside.stamp = subst (λ (t : Map). IsKept t c.self.inside.stamp) c.self.view_is c.self.invariant.kept in
    whole_put c.self.inside.language c.self.inside.slots.items c.keep.new.slots.items c.args.self.now c.self.inside.count c.args.index c.args.kept.entry c.self.inside.stamp c.self.inside.stamp c.self.invariant c.self.view_is new c.requires.free c.keep.ensures.few read
    (kept_other c.args.self.now c.self.inside.stamp c.args.index c.args.kept.entry kept (omega arith) c.requires.free c.requires.admitted c.if-is_stamp.ensures)

pub returns-then-is_stamp : goal.returns-then-is_stamp
returns-then-is_stamp c = put_is c.self.inside.language c.self.inside.slots.items c.keep.new.slots.items c.args.index c.args.kept.entry c.in_ok-keep.ensures.ok c.self.view_is

pub returns-else-is_stamp : goal.returns-else-is_stamp
returns-else-is_stamp c = put_is c.self.inside.language c.self.inside.slots.items c.keep.new.slots.items c.args.index c.args.kept.entry c.in_ok-keep.ensures.ok c.self.view_is

use Rattle.std.proofs.Common.{ap, arith, lit≤, length, not, subst, sym, ◌≤◌, ◌∙◌}
use Rattle.defmt_intern.specs.Entries as map
use Rattle.defmt_intern.specs.declared.entry.Entry.{Entry}
use Rattle.defmt_script.proofs.Steadiness.{state}
use Rattle.defmt_script.proofs.StringSteadiness.{is_free, kept_steady, stamp_added, stamped_steady, unstamped_steady}
use Rattle.defmt_script.specs.Script.{next_index}
use Rattle.defmt_script.specs.State.{State}
use Rattle.defmt_script.proofs.reading.Reading.close.Goals as goal

pub put_entry-requires : goal.put_entry-requires
put_entry-requires c =
    let inside = state c.self.inside.first c.self.inside.settings c.self.inside.table.entries c.self.inside.names c.self.inside.writers.items c.self.inside.said in
    let may = sym c.is_in_order.ensures ∙ c.if-not-is_in_order.false in
    let next = c.next_index-index.ensures ∙ ap (λ (v : State). next_index v.script) (sym c.self.view_is) in
    is_free inside c.next_index-index.result c.in_ok-entry.entry (c.self.invariant.steady.opened may) next
    (subst (λ (e : Entry). length e.text ≤ 4096) (sym c.in_ok-entry.ensures) (lit≤ tt))

pub invariant_of-self : goal.invariant_of-self
invariant_of-self c =
    let may = sym c.is_in_order.ensures ∙ c.if-not-is_in_order.false in record {
      steady = unstamped_steady _ _ _ _ _ _ c.self.invariant.steady may (c.is_none.ensures ∙ ap not c.if-is_none.true);
      strings_are = c.self.invariant.strings_are;
      statements_are = c.self.invariant.statements_are;
      told = c.self.invariant.told;
      sound = c.self.invariant.sound;
    }

pub invariant_of-self-in_err-put_entry : goal.invariant_of-self-in_err-put_entry
invariant_of-self-in_err-put_entry c = record {
  steady = kept_steady _ _ _ _ _ _ _ _ c.self.invariant.steady c.in_err-put_entry.ensures.err (omega arith) c.self.invariant.steady.strings_fit;
  strings_are = c.self.invariant.strings_are;
  statements_are = c.self.invariant.statements_are;
  told = c.self.invariant.told;
  sound = c.self.invariant.sound;
}

pub invariant_of-self-2 : goal.invariant_of-self-2
invariant_of-self-2 c =
    let may = sym c.is_in_order.ensures ∙ c.if-not-is_in_order.false in record {
      steady = stamped_steady _ _ _ c.self.inside.table.entries _ _ _ _ c.self.invariant.steady may (c.is_none.ensures ∙ ap not c.if-is_none.false)
          (c.in_ok-put_entry.ensures.ok ∙ ap (map.insert c.self.inside.table.entries _) c.in_ok-entry.ensures);
      strings_are = c.self.invariant.strings_are;
      statements_are = c.self.invariant.statements_are;
      told = c.self.invariant.told;
      sound = c.self.invariant.sound;
    }

pub returns : goal.returns
returns c =
    let inside = state c.self.inside.first c.self.inside.settings c.self.inside.table.entries c.self.inside.names c.self.inside.writers.items c.self.inside.said in
    let next = c.next_index-index.ensures ∙ ap (λ (v : State). next_index v.script) (sym c.self.view_is) in
    stamp_added c.args.self.now inside c.next_index-index.result c.in_ok-entry.entry _ c.self.view_is next (sym c.is_in_order.ensures ∙ c.if-not-is_in_order.false)
    (c.is_none.ensures ∙ ap not c.if-is_none.false) c.in_ok-entry.ensures c.in_ok-put_entry.ensures.ok

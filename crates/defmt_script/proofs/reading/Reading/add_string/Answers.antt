use Rattle.std.proofs.Common.{None, ap, arith, length, subst, sym, ◌+◌, ◌<◌, ◌≡◌, ◌≤◌, ◌∙◌}
use Rattle.std.specs.FinMap as map
use Rattle.defmt_intern.specs.Body.{body_in, body_of}
use Rattle.defmt_intern.specs.declared.entry.Entry.{Entry}
use Rattle.defmt_lines.specs.Form.{StringsMayCome}
use Rattle.defmt_lines.specs.Line.{is_string_tag}
use Rattle.defmt_script.proofs.Counts.{len-added}
use Rattle.defmt_script.proofs.Steadiness.{state}
use Rattle.defmt_script.proofs.StringSteadiness.{is_free, kept_steady, string_added, string_steady}
use Rattle.defmt_script.specs.Script.{count_strings, next_index}
use Rattle.defmt_script.specs.State.{State, strings_limit}
use Rattle.defmt_spelling.specs.Names.{NameMap}
use Rattle.defmt_script.proofs.reading.Reading.add_string.Goals as goal

pub put_parsed-requires-clause-free : goal.put_parsed-requires-clause-free
put_parsed-requires-clause-free c =
    let inside = state c.self.inside.first c.self.inside.settings c.self.inside.table.entries c.self.inside.names c.self.inside.writers.items c.self.inside.said in
    let may = subst (λ (v : State). StringsMayCome v.first) (sym c.self.view_is) c.requires.open in
    let next = c.next_index-index.ensures ∙ ap (λ (v : State). next_index v.script) (sym c.self.view_is) in
    is_free inside c.next_index-index.result c.in_ok-entry.entry (c.self.invariant.steady.opened may) next
    (subst (λ (e : Entry). length e.text ≤ 4096) (sym c.in_ok-entry.ensures) c.requires.short)

pub put_parsed-requires-clause-parsed : goal.put_parsed-requires-clause-parsed
put_parsed-requires-clause-parsed c =
    let parsed = subst (λ (v : State). c.args.parsed ≡ body_in v.script.table.language c.args.tag c.args.text.now) (sym c.self.view_is) c.requires.parsed in
    parsed ∙ ap (body_of c.self.inside.table.entries.language) (sym c.in_ok-entry.ensures)

pub invariant_of-self-in_err-put_parsed : goal.invariant_of-self-in_err-put_parsed
invariant_of-self-in_err-put_parsed c =
    let new = subst (λ (v : State). map.get v.script.names c.args.name.now ≡ None) (sym c.self.view_is) c.requires.new in
    let room = subst (λ (v : State). count_strings v.script < strings_limit) (sym c.self.view_is) c.requires.room in
    let next = c.next_index-index.ensures ∙ ap (λ (v : State). next_index v.script) (sym c.self.view_is) in
    let more : map.len c.put.new.self ≡ map.len c.self.inside.names + 1 =
    ap (λ (names : NameMap). map.len names) c.in_ok-put.ensures.ok ∙ len-added c.self.inside.names c.args.name.now c.next_index-index.result new in record {
      steady = kept_steady _ _ _ _ _ c.put.new.self _ _ c.self.invariant.steady c.in_err-put_parsed.ensures.err (omega (arith, more)) (omega (arith, more, room));
      strings_are = next ∙ sym more;
      statements_are = c.self.invariant.statements_are;
      told = c.self.invariant.told;
      sound = c.self.invariant.sound;
    }

pub invariant_of-self-2 : goal.invariant_of-self-2
invariant_of-self-2 c =
    let may = subst (λ (v : State). StringsMayCome v.first) (sym c.self.view_is) c.requires.open in
    let new = subst (λ (v : State). map.get v.script.names c.args.name.now ≡ None) (sym c.self.view_is) c.requires.new in
    let room = subst (λ (v : State). count_strings v.script < strings_limit) (sym c.self.view_is) c.requires.room in
    let next = c.next_index-index.ensures ∙ ap (λ (v : State). next_index v.script) (sym c.self.view_is) in
    let more : map.len c.put.new.self ≡ map.len c.self.inside.names + 1 =
    ap (λ (names : NameMap). map.len names) c.in_ok-put.ensures.ok ∙ len-added c.self.inside.names c.args.name.now c.next_index-index.result new in
    let steady = string_steady _ c.next_index-index.result _ _ _ c.self.inside.names _ _ c.args.name.now c.in_ok-entry.entry c.self.invariant.steady may new next
    (omega (arith, next, room)) (ap (λ (e : Entry). is_string_tag e.tag) c.in_ok-entry.ensures ∙ c.requires.string_tag) c.in_ok-put_parsed.ensures.ok in record {
      steady = rw c.in_ok-put.ensures.ok steady;
      strings_are = next ∙ sym more;
      statements_are = c.self.invariant.statements_are;
      told = c.self.invariant.told;
      sound = c.self.invariant.sound;
    }

pub returns : goal.returns
returns c =
    let inside = state c.self.inside.first c.self.inside.settings c.self.inside.table.entries c.self.inside.names c.self.inside.writers.items c.self.inside.said in
    let next = c.next_index-index.ensures ∙ ap (λ (v : State). next_index v.script) (sym c.self.view_is) in
    string_added c.args.self.now inside c.next_index-index.result c.args.name.now c.args.tag c.args.text.now c.in_ok-entry.entry _ c.put.new.self c.self.view_is next c.in_ok-entry.ensures
    c.in_ok-put_parsed.ensures.ok c.in_ok-put.ensures.ok

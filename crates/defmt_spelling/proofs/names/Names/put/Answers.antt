use Rattle.std.proofs.Common.{◌≡◌, ◌∙◌, None, ap, refl, subst, sym, rules, string_bytes}
use Rattle.std.specs.FinMap as map
use Rattle.std.proofs.lemmas.Map.Text.{hash_map_updates_text}
use Rattle.defmt_spelling.proofs.NameLaws.{at, got_is, inserted, near_put}
use Rattle.defmt_spelling.specs.Names.{NameMap, AreNear, names_of}
use Rattle.defmt_spelling.proofs.names.Names.put.Goals as goal

pub invariant_of-self-else-known : goal.invariant_of-self-else-known
invariant_of-self-else-known c =
    let names : NameMap = names_of c.self.inside.names.entries in
    let put : names_of c.insert.new.self.entries ≡ map.insert names c.args.name.now c.args.index =
    inserted c.self.inside.names.entries c.insert.new.self.entries names (string_bytes c.in_ok-key.key) c.args.index refl
    (hash_map_updates_text (string_bytes c.in_ok-key.key) c.self.inside.names c.insert.new.self _ c.in_ok-insert.ensures.updates)
    ∙ ap (λ k. map.insert names k c.args.index) c.in_ok-key.ensures.ok in
    let none : c.in_ok-insert.field-0 ≡ None = search rules in
    let old : c.in_ok-insert.field-0 ≡ at (string_bytes c.in_ok-key.key) c.self.inside.names.entries = c.in_ok-insert.ensures.old in
    let absent : map.get names c.args.name.now ≡ None = sym (got_is c.self.inside.names.entries names c.args.name.now None refl (sym none ∙ old ∙ ap (λ q. at q c.self.inside.names.entries) c.in_ok-key.ensures.ok)) in
    subst (λ (m : NameMap). AreNear m c.keep_near.new.near.items) (sym put)
    (near_put names c.args.name.now c.args.index (record { name = c.in_ok-from_str.field-0; index = c.args.index }) c.self.inside.near.items c.keep_near.new.near.items c.in_ok-from_str.ensures.ok refl absent c.self.invariant c.keep_near.ensures)

pub returns-then-known-clause-ok : goal.returns-then-known-clause-ok
returns-then-known-clause-ok c =
    inserted c.self.inside.names.entries c.insert.new.self.entries c.args.self.now (string_bytes c.in_ok-key.key) c.args.index c.self.view_is
    (hash_map_updates_text (string_bytes c.in_ok-key.key) c.self.inside.names c.insert.new.self _ c.in_ok-insert.ensures.updates)
    ∙ ap (λ k. map.insert c.args.self.now k c.args.index) c.in_ok-key.ensures.ok

pub returns-else-known-clause-ok : goal.returns-else-known-clause-ok
returns-else-known-clause-ok c =
    inserted c.self.inside.names.entries c.insert.new.self.entries c.args.self.now (string_bytes c.in_ok-key.key) c.args.index c.self.view_is
    (hash_map_updates_text (string_bytes c.in_ok-key.key) c.self.inside.names c.insert.new.self _ c.in_ok-insert.ensures.updates)
    ∙ ap (λ k. map.insert c.args.self.now k c.args.index) c.in_ok-key.ensures.ok

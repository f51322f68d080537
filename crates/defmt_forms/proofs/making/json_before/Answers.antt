use Rattle.std.proofs.Common.{◌≡◌, ◌++◌, ◌∙◌, [], List, ap, codes, ℕ}
use Rattle.std.specs.Prelude.{option_map, if◌then◌else◌}
use Rattle.defmt_forms.specs.Json.{optional_member}
use Rattle.defmt_forms.specs.Names.{level_name}
use Rattle.json.specs.Print.{escape}
use Rattle.defmt_forms.proofs.making.json_before.Goals as goal

pub returns : goal.returns
returns c =
    let quote : List ℕ = if c.args.stamped then codes "\"" else [] in
    let level : List ℕ = optional_member (codes "level") (option_map level_name c.args.level) in
    let owner : List ℕ = codes ",\"package\":\"" ++ (escape c.args.owner.now ++ codes "\"") in
    let owned : c.add_text.new.out.items ≡ c.add_level.new.out.items ++ owner = rw c.as_bytes.ensures.value at c.in_ok-add_text.ensures in
    c.in_ok-extend_from_slice.ensures.ok
    ∙ ap (λ (l : List ℕ). l ++ codes ",\"data\":\"") (owned
    ∙ ap (λ (l : List ℕ). l ++ owner) (c.in_ok-add_level.ensures
    ∙ ap (λ (l : List ℕ). l ++ level) (c.in_ok-add_if.ensures
    ∙ ap (λ (l : List ℕ). l ++ quote) c.new-bytes.ensures.items)))

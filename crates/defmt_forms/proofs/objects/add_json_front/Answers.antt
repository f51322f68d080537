use Rattle.std.proofs.Common.{◌≡◌, ◌++◌, ◌∙◌, List, ap, codes, ℕ}
use Rattle.std.proofs.lemmas.Result.{on_ok_weaker}
use Rattle.std.specs.Fmt.{decimal}
use Rattle.defmt_forms.proofs.Literals.{front_is, then}
use Rattle.defmt_forms.proofs.objects.add_json_front.Goals as goal

pub returns : goal.returns
returns c =
    let old : List ℕ = c.args.out.now.items in
    on_ok_weaker c.extend_from_slice.result
    (λ (e : c.extend_from_slice.new.self.items ≡ c.add_number.new.out.items ++ codes "}\n").
    then old c.add_number.new.out.items c.extend_from_slice.new.self.items (codes "{\"event\":\"front\",\"bytes\":" ++ decimal c.args.bytes) (codes "}\n") c.in_ok-add_number.ensures e
    ∙ ap (λ (l : List ℕ). old ++ l) (front_is c.args.bytes))
    c.extend_from_slice.ensures.ok

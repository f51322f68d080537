use Rattle.std.proofs.Common.{◌≡◌, ◌++◌, ◌∙◌, List, ap, codes, ℕ}
use Rattle.std.proofs.lemmas.Result.{on_ok_weaker}
use Rattle.std.specs.Fmt.{decimal}
use Rattle.defmt_forms.proofs.Literals.{fault_is, then}
use Rattle.json.specs.Print.{quoted}
use Rattle.defmt_forms.proofs.objects.add_json_fault.Goals as goal

pub returns : goal.returns
returns c =
    let old : List ℕ = c.args.out.now.items in
    let one : List ℕ = codes "{\"event\":\"fault\",\"cause\":" ++ decimal c.args.cause in
    let two : List ℕ = codes ",\"name\":" ++ quoted c.args.name.now in
    let named : c.add_text.new.out.items ≡ c.add_number.new.out.items ++ two = rw c.as_bytes.ensures.value at c.in_ok-add_text.ensures in
    on_ok_weaker c.extend_from_slice.result
    (λ (e : c.extend_from_slice.new.self.items ≡ c.add_text.new.out.items ++ codes "}\n").
    then old c.add_text.new.out.items c.extend_from_slice.new.self.items (one ++ two) (codes "}\n")
    (then old c.add_number.new.out.items c.add_text.new.out.items one two (cc c.in_ok-add_number.ensures) named) e
    ∙ ap (λ (l : List ℕ). old ++ l) (fault_is c.args.cause c.args.name.now))
    c.extend_from_slice.ensures.ok

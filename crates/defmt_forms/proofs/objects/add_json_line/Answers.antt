use Rattle.std.proofs.Common.{◌≡◌, ◌++◌, ◌∙◌, List, ap, codes, ℕ}
use Rattle.std.proofs.lemmas.Result.{on_ok_weaker}
use Rattle.std.specs.Fmt.{decimal}
use Rattle.std.specs.Option.{option_copied}
use Rattle.std.specs.Prelude.{Option, option_map}
use Rattle.defmt_forms.proofs.Literals.{line_is, then}
use Rattle.defmt_forms.specs.Json.{optional_member}
use Rattle.defmt_forms.specs.Names.{level_name}
use Rattle.json.specs.Print.{quoted}
use Rattle.defmt_forms.proofs.objects.add_json_line.Goals as goal

pub returns : goal.returns
returns c =
    let old : List ℕ = c.args.out.now.items in
    let stamp : Option (List ℕ) = option_copied c.args.stamp in
    let place : Option (List ℕ) = option_copied c.args.place in
    let one : List ℕ = codes "{\"event\":\"line\",\"index\":" ++ decimal c.args.index in
    let two : List ℕ = codes ",\"bytes\":" ++ decimal c.args.bytes in
    let three : List ℕ = optional_member (codes "target_timestamp") stamp in
    let four : List ℕ = optional_member (codes "level") (option_map level_name c.args.level) in
    let five : List ℕ = codes ",\"package\":" ++ quoted c.args.owner.now in
    let six : List ℕ = codes ",\"data\":" ++ quoted c.args.own.now in
    let seven : List ℕ = optional_member (codes "place") place in
    let owned : c.add_text.new.out.items ≡ c.add_level.new.out.items ++ five = rw c.as_bytes.ensures.value at c.in_ok-add_text.ensures in
    let to_two = then old c.add_number.new.out.items c.add_number-2.new.out.items one two (cc c.in_ok-add_number.ensures) (cc c.in_ok-add_number-2.ensures) in
    let to_three = then old c.add_number-2.new.out.items c.add_stamp.new.out.items (one ++ two) three to_two c.in_ok-add_stamp.ensures in
    let to_four = then old c.add_stamp.new.out.items c.add_level.new.out.items ((one ++ two) ++ three) four to_three c.in_ok-add_level.ensures in
    let to_five = then old c.add_level.new.out.items c.add_text.new.out.items (((one ++ two) ++ three) ++ four) five to_four owned in
    let to_six = then old c.add_text.new.out.items c.add_text-2.new.out.items ((((one ++ two) ++ three) ++ four) ++ five) six to_five c.in_ok-add_text-2.ensures in
    let to_seven = then old c.add_text-2.new.out.items c.add_place.new.out.items (((((one ++ two) ++ three) ++ four) ++ five) ++ six) seven to_six c.in_ok-add_place.ensures in
    on_ok_weaker c.extend_from_slice.result
    (λ (e : c.extend_from_slice.new.self.items ≡ c.add_place.new.out.items ++ codes "}\n").
    then old c.add_place.new.out.items c.extend_from_slice.new.self.items ((((((one ++ two) ++ three) ++ four) ++ five) ++ six) ++ seven) (codes "}\n") to_seven e
    ∙ ap (λ (l : List ℕ). old ++ l) (line_is c.args.index c.args.bytes stamp c.args.level c.args.owner.now c.args.own.now place))
    c.extend_from_slice.ensures.ok

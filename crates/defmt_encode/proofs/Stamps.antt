-- The entry at the timestamp's index.
use Rattle.std.proofs.Common.{◌≡◌, ℕ, Bool, true, nat_lt, Option, Some, None, refl, ap, ◌∙◌, cond}
use Rattle.std.proofs.lemmas.Bool.{and_parts}
use Rattle.defmt_intern.specs.Stamp.{has_stamp, stamp_of}
use Rattle.defmt_intern.specs.Entries as map
use Rattle.defmt_intern.specs.Entries.{Map}
use Rattle.defmt_intern.specs.declared.entry.Entry.{Entry}
use Rattle.defmt_intern.proofs.Stamps.{stamp_found}
use Rattle.defmt_values.specs.Entries.{look}

there : (o : Option Entry) → has_stamp o ≡ true → (e : Entry) × (o ≡ Some e)
there None h = absurd (cc)
there (Some e) h = (e, refl)

pub stamp_entry : (t : Map) (i : ℕ) → stamp_of t ≡ Some i → (e : Entry) × (look t i ≡ Some e)
stamp_entry t i h =
    let p = and_parts (nat_lt i 65536) (has_stamp (map.get t i)) (stamp_found t i h) in
    let k = there (map.get t i) p.1 in
    (k.0, ap (λ (b : Bool). cond {A = Option Entry} b (map.get t i) None) p.0 ∙ k.1)

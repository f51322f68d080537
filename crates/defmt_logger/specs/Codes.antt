-- How the logic stores what contracts see of a desk: as the tuple of its parts.
use Rattle.std.specs.Prelude.{ℕ, List, refl}
use Rattle.std.specs.Coded.{Coded, code_by, coded×, coded_list, coded_ℕ}
use Rattle.defmt_logger.specs.Kept.{Reel, Sheet}
use Rattle.defmt_logger.specs.contracts.mark.Mark.{the_row as mark_row}
use Rattle.defmt_logger.specs.declared.mark.Mark.{Mark}
use Rattle.defmt_script.specs.Codes.{coded_script}
use Rattle.defmt_script.specs.Script.{Script}
use Rattle.rtt_ring.specs.Codes.{coded_up}
use Rattle.rtt_ring.specs.Views.{Up}

abbrev pub coded_reel : Coded Reel
coded_reel = code_by (List Mark × (ℕ × (List ℕ × (ℕ × List ℕ))))
    (coded× (coded_list mark_row.coded) (coded× coded_ℕ (coded× (coded_list coded_ℕ) (coded× coded_ℕ (coded_list coded_ℕ)))))
    (λ r. (r.marks, (r.room, (r.split, (r.looks, r.found)))))
    (λ p. record { marks = p.0; room = p.1.0; split = p.1.1.0; looks = p.1.1.1.0; found = p.1.1.1.1 })
    (λ _. refl)

abbrev pub coded_sheet : Coded Sheet
coded_sheet = code_by (Script × (Reel × Up))
    (coded× coded_script (coded× coded_reel coded_up))
    (λ s. (s.script, (s.tape, s.up)))
    (λ p. record { script = p.0; tape = p.1.0; up = p.1.1 })
    (λ _. refl)

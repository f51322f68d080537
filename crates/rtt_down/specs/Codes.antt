-- How the logic stores what contracts see of a bridge: as the tuple of its parts.
use Rattle.std.specs.Prelude.{refl}
use Rattle.std.specs.Coded.{Coded, code_by, coded×}
use Rattle.defmt_script.specs.Codes.{coded_script}
use Rattle.defmt_script.specs.Script.{Script}
use Rattle.rtt_down.specs.Kept.{Sheet}
use Rattle.rtt_down.specs.Reel.{Reel, coded_reel}
use Rattle.rtt_ring.specs.Codes.{coded_down, coded_up}
use Rattle.rtt_ring.specs.Views.{Down, Up}

abbrev pub coded_sheet : Coded Sheet
coded_sheet = code_by (Script × (Reel × (Up × Down)))
    (coded× coded_script (coded× coded_reel (coded× coded_up coded_down)))
    (λ s. (s.script, (s.turns, (s.up, s.down))))
    (λ p. record { script = p.0; turns = p.1.0; up = p.1.1.0; down = p.1.1.1 })
    (λ _. refl)

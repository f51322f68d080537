-- How the logic stores what contracts see of a stand: as the tuple of its parts.
use Rattle.std.specs.Prelude.{ℕ, List, refl}
use Rattle.std.specs.Coded.{Coded, code_by, coded×, coded_list, coded_ℕ}
use Rattle.rtt_booth.specs.Kept.{Reel, Sheet}
use Rattle.rtt_booth.specs.contracts.said.Word.{the_row as word_row}
use Rattle.rtt_booth.specs.declared.said.Word.{Word}
use Rattle.rtt_ring.specs.Codes.{coded_up}
use Rattle.rtt_ring.specs.Views.{Up}
use Rattle.rtt_terminal.specs.Codes.{coded_speech}
use Rattle.rtt_terminal.specs.Speech.{Speech}

abbrev pub coded_reel : Coded Reel
coded_reel = code_by (List Word × (ℕ × List ℕ))
    (coded× (coded_list word_row.coded) (coded× coded_ℕ (coded_list coded_ℕ)))
    (λ r. (r.words, (r.room, r.split)))
    (λ p. record { words = p.0; room = p.1.0; split = p.1.1 })
    (λ _. refl)

abbrev pub coded_sheet : Coded Sheet
coded_sheet = code_by (Speech × (Reel × Up))
    (coded× coded_speech (coded× coded_reel coded_up))
    (λ s. (s.speech, (s.said, s.up)))
    (λ p. record { speech = p.0; said = p.1.0; up = p.1.1 })
    (λ _. refl)

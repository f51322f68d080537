-- How the logic stores what writers have to say: as the tuple of its parts.
use Rattle.std.specs.Prelude.{ℕ, List, refl}
use Rattle.std.specs.Coded.{Coded, code_by, coded×, coded_list, coded_ℕ}
use Rattle.rtt_terminal.specs.Speech.{Saying, Speech}

abbrev pub coded_saying : Coded Saying
coded_saying = code_by (ℕ × (ℕ × List ℕ))
    (coded× coded_ℕ (coded× coded_ℕ (coded_list coded_ℕ)))
    (λ s. (s.behind, (s.terminal, s.text)))
    (λ p. record { behind = p.0; terminal = p.1.0; text = p.1.1 })
    (λ _. refl)

abbrev pub coded_sayings : Coded (List Saying)
coded_sayings = coded_list coded_saying

abbrev pub coded_speech : Coded Speech
coded_speech = coded_list coded_sayings

-- How the logic stores what contracts see of the ends of a ring: as the tuple of its parts.
use Rattle.std.specs.Prelude.{◌≡◌, ℕ, Bool, true, false, List, refl}
use Rattle.std.specs.Coded.{Coded, code_by, coded×, coded_list, coded_ℕ, coded_bool}
use Rattle.rtt_words.specs.declared.view.Access.{Access}
use Rattle.rtt_words.specs.declared.view.Access.TheVariants.{Stored, Loaded}
use Rattle.rtt_ring.specs.Views.{Down, Up}

abbrev coded_bytes : Coded (List ℕ)
coded_bytes = coded_list coded_ℕ

-- an access, as whether it is a store, and its number
abbrev parts : Access → Bool × ℕ
parts (Stored n) = (true, n)
parts (Loaded n) = (false, n)

abbrev access : Bool → ℕ → Access
access true n = Stored n
access false n = Loaded n

abbrev same_access : (a : Access) → access (parts a).0 (parts a).1 ≡ a
same_access (Stored n) = refl
same_access (Loaded n) = refl

abbrev coded_access : Coded Access
coded_access = code_by (Bool × ℕ) (coded× coded_bool coded_ℕ) parts (λ p. access p.0 p.1) same_access

abbrev pub coded_up : Coded Up
coded_up = code_by (List ℕ × (ℕ × (List ℕ × (List ℕ × (ℕ × (ℕ × (ℕ × (Bool × List Access))))))))
    (coded× coded_bytes (coded× coded_ℕ (coded× coded_bytes (coded× coded_bytes (coded× coded_ℕ
    (coded× coded_ℕ (coded× coded_ℕ (coded× coded_bool (coded_list coded_access)))))))))
    (λ u. (u.split, (u.size, (u.sent, (u.staged, (u.room, (u.looks, (u.freed, (u.tells, u.seen)))))))))
    (λ p. record {
      split = p.0;
      size = p.1.0;
      sent = p.1.1.0;
      staged = p.1.1.1.0;
      room = p.1.1.1.1.0;
      looks = p.1.1.1.1.1.0;
      freed = p.1.1.1.1.1.1.0;
      tells = p.1.1.1.1.1.1.1.0;
      seen = p.1.1.1.1.1.1.1.1;
    })
    (λ _. refl)

abbrev pub coded_down : Coded Down
coded_down = code_by (List ℕ × (ℕ × (List ℕ × (ℕ × ℕ))))
    (coded× coded_bytes (coded× coded_ℕ (coded× coded_bytes (coded× coded_ℕ coded_ℕ))))
    (λ d. (d.split, (d.size, (d.got, (d.found, d.looks)))))
    (λ p. record {
      split = p.0;
      size = p.1.0;
      got = p.1.1.0;
      found = p.1.1.1.0;
      looks = p.1.1.1.1;
    })
    (λ _. refl)

-- The files of a shelf in memory.
use Rattle.std.specs.Prelude.{ℕ, List, refl}
use Rattle.std.specs.Coded.{Coded, code_by, coded×, coded_ℕ, coded_list}
use Rattle.std.specs.Cmp.Lexicographic.{slice_cmp}
use Rattle.std.specs.Ordering.{nat_cmp}
use Rattle.std.specs.FinMap.{FinMap, code}
use Rattle.dl_io.specs.Outside.{Plan}

-- a finite map from the bytes of a name to the bytes of its file
abbrev pub Files : Type 0
Files = FinMap (slice_cmp nat_cmp) (List ℕ)

-- a shelf in memory
pub record Cabinet : Type 0 where
  pub files : Files
  pub plan : Plan

-- a cabinet is stored as its files and the three parts of its plan
abbrev pub cabinet_code : Coded Cabinet
cabinet_code =
    code_by (Files × (List ℕ × (ℕ × ℕ)))
    (coded× (code (coded_list coded_ℕ) (coded_list coded_ℕ)) (coded× (coded_list coded_ℕ) (coded× coded_ℕ coded_ℕ)))
    (λ c. (c.files, (c.plan.fails, (c.plan.calls, c.plan.faults))))
    (λ p. record { files = p.0; plan = record { fails = p.1.0; calls = p.1.1.0; faults = p.1.1.1 } })
    (λ _. refl)

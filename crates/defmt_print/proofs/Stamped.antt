-- A script's statements have lines, whatever their stamps.
use Rattle.std.proofs.Common.{◌≡◌, ◌<◌, ◌^◌, ℕ, sym, subst}
use Rattle.std.specs.Prelude.{Option}
use Rattle.defmt_eager.specs.Line.{IsWide}
use Rattle.defmt_encode.specs.Carry.{stamp_args}
use Rattle.defmt_intern.specs.Stamp.{stamp_of}
use Rattle.defmt_intern.specs.Table.{Map}
use Rattle.defmt_print.specs.Printed.{Prints}
use Rattle.defmt_script.specs.Lawful.{IsLawful, IsSound, stamp_in}
use Rattle.defmt_script.specs.Script.{Script}
use Rattle.defmt_values.specs.Fits.{FitsStamp}
use Rattle.defmt_values.specs.declared.value.Statement.{Statement}

-- what the laws of scripts say of stamps
pub record Fit : Type 0 where
  pub fits : (s : Script) (n : ℕ) → IsLawful s → n < 2 ^ 64 → FitsStamp s.table (stamp_of s.table) (stamp_args (stamp_in s.settings.stamp n))
  pub narrow : (s : Script) (n : ℕ) (stm : Statement) → IsLawful s → n < 2 ^ 64 → IsSound s.table s.settings stm
      → IsWide s.table (stamp_args (stamp_in s.settings.stamp n)) stm.index stm.args → ⊥

-- the table and the stamp may have other names
pub prints : Fit → (s : Script) → IsLawful s → (table : Map) (n : ℕ) (stamp : Option ℕ) (stm : Statement) → table ≡ s.table → stamp ≡ stamp_in s.settings.stamp n
    → n < 2 ^ 64 → IsSound s.table s.settings stm → Prints table stamp stm
prints fit s lawful table n stamp stm table_is stamp_is small sound =
    subst (λ (m : Map). Prints m stamp stm) (sym table_is) (subst (λ (o : Option ℕ). Prints s.table o stm) (sym stamp_is) (record {
      stamp_fits = fit.fits s n lawful small;
      fits = sound.fits;
      logged = sound.logged;
      narrow = fit.narrow s n stm lawful small sound;
    }))

-- What stands where no message was heard.
use Rattle.std.specs.Prelude.{◌≡◌, None}
use Rattle.defmt_values.specs.Plain.{no_vals}
use Rattle.defmt_encode.specs.declared.heard.Heard.{Heard}

-- no place, no stamp, and the index 0 without arguments
pub record IsUnheard (heard : Heard) : Type 0 where
  pub place : heard.place ≡ None
  pub stamp : heard.stamp ≡ no_vals
  pub index : heard.stm.index ≡ 0
  pub args : heard.stm.args ≡ no_vals

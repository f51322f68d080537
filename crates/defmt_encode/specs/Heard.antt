-- Messages that are heard.
use Rattle.std.specs.Prelude.{◌≡◌, ◌≤◌, ℕ, true, List, ◌++◌, length, Option}
use Rattle.defmt_intern.specs.Catalog.{Catalog}
use Rattle.defmt_values.specs.Fits.{Fits, FitsStamp, IsLogged}
use Rattle.defmt_values.specs.Plain.{Vals}
use Rattle.defmt_encode.specs.Carry.{message_of}
use Rattle.defmt_encode.specs.Lengths.{MessageLengthsFit}
use Rattle.defmt_encode.specs.Placed.{HasPlace}
use Rattle.defmt_encode.specs.Read.{all_zero}
use Rattle.defmt_values.specs.Sound.{AreSound}
use Rattle.defmt_intern.specs.Stamp.{stamp_of}

-- There is a place exactly in the second profile, the stamp and the statement fit, the statement is logged, the lengths of
-- texts and bytes fit in the four bytes that tell them, and the bytes are their message and at most six zeros, those that a
-- code's last block may add.
pub record IsHeard (t : Catalog) (bytes : List ℕ) (place : Option ℕ) (stamp : Vals) (index : ℕ)
    (vs : Vals) : Type 0 where
  pub placed : HasPlace t.profile place
  pub stamp_fits : FitsStamp t.entries (stamp_of t.entries) stamp
  pub fits : Fits t.entries index vs
  pub logged : IsLogged t.entries index
  pub stamp_sound : AreSound stamp
  pub sound : AreSound vs
  pub lengths : MessageLengthsFit t.entries stamp index vs
  pub padding : List ℕ
  pub few : length padding ≤ 6
  pub zeros : all_zero padding ≡ true
  pub message : bytes ≡ message_of t.entries place stamp index vs ++ padding

-- the same place, the same stamp and the same statement
pub record SameStatement (place there : Option ℕ) (stamp other : Vals) (i j : ℕ)
    (vs ws : Vals) : Type 0 where
  pub same_place : place ≡ there
  pub same_stamp : stamp ≡ other
  pub same_index : i ≡ j
  pub same_args : vs ≡ ws

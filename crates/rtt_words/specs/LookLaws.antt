-- The laws of the look. `Facts` is what the rule says of the words and of what the two ends know.
use Rattle.std.specs.Prelude.{◌≡◌, ℕ, List, length, slice_index}
use Rattle.rtt_words.specs.declared.view.Access.{Access}
use Rattle.rtt_words.specs.declared.view.UpView.{UpView}
use Rattle.rtt_words.specs.declared.view.DownView.{DownView}
use Rattle.rtt_words.specs.History.{IsLoaded}
use Rattle.rtt_words.specs.Told.{FoundReleased, FoundPublished}
use Rattle.rtt_words.specs.WordRule.{Facts}

-- a load that reads RdOff finds the number of bytes released
abbrev pub ResidueTellsReleased : Type 0
ResidueTellsReleased = (size : ℕ) (words : List ℕ) (u v : UpView) (d : DownView) → Facts size words u d → FoundReleased u (slice_index words 1) v → v.freed ≡ d.released

-- a load that reads WrOff finds the number of bytes published
abbrev pub ResidueTellsPublished : Type 0
ResidueTellsPublished = (size : ℕ) (words : List ℕ) (u : UpView) (d e : DownView) → Facts size words u d → FoundPublished d (slice_index words 0) e → e.found ≡ length u.sent

-- whatever a step of the upper end is: if the rule holds before it and after it, the lower end is as before, and the upper
-- end's history has one load of RdOff more, then that load found the number of bytes released
abbrev pub LookFindsReleased : Type 0
LookFindsReleased = (size : ℕ) (words words' : List ℕ) (u v : UpView) (d : DownView) (n : ℕ) → Facts size words u d → Facts size words' v d → IsLoaded u.rd_off n v.rd_off → n ≡ d.released

-- and likewise a load of WrOff found the number of bytes published
abbrev pub LookFindsPublished : Type 0
LookFindsPublished = (size : ℕ) (words words' : List ℕ) (u : UpView) (d e : DownView) (n : ℕ) → Facts size words u d → Facts size words' u e → IsLoaded d.wr_off n e.wr_off → n ≡ length u.sent

-- a step that could find what the upper end's look before it found, in each state of the rule: there is none
abbrev pub NoBlindUpperLook : Type 0
NoBlindUpperLook = ((size : ℕ) (words : List ℕ) (u : UpView) (d : DownView) → Facts size words u d → (words' : List ℕ) × (v : UpView) × Facts size words' v d × IsLoaded u.rd_off u.freed v.rd_off) → ⊥

-- and none that could find what the lower end's look before it found
abbrev pub NoBlindLowerLook : Type 0
NoBlindLowerLook = ((size : ℕ) (words : List ℕ) (u : UpView) (d : DownView) → Facts size words u d → (words' : List ℕ) × (e : DownView) × Facts size words' u e × IsLoaded d.wr_off d.found e.wr_off) → ⊥

-- a load can't find another number than the one that was stored last: from one history there is one such load
abbrev pub OneLoad : Type 0
OneLoad = (known now : List Access) (m n : ℕ) → IsLoaded known m now → IsLoaded known n now → m ≡ n

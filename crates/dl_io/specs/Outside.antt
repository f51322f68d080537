-- What a call on the outside does to its count of faults, and what it takes.
use Rattle.std.specs.Prelude.{◌≡◌, ◌+◌, ◌-◌, ◌^◌, ◌<◌, ◌≤◌, ◌==◌, if◌then◌else◌, ℕ, min, Bool, IsTrue, List, length, take, drop, Result, OnErr, IfOk, IsErr, Some, None}
use Rattle.std.specs.declared.option.Option.{Option}
use Rattle.std.specs.List.{list_any}
use Rattle.std.specs.Io.KnownBytes.{Consumes}

-- the greatest number that a count can tell, at which it stands still
abbrev pub last_count : ℕ
last_count = 2 ^ 64 - 1

-- one more, or the last value
abbrev pub raised : ℕ → ℕ
raised count = min (count + 1) last_count

-- the count went up, or stands at its last value
abbrev pub Rose : ℕ → ℕ → Type 0
Rose before now = raised before ≤ now

-- the count didn't fall, and rose where the call failed
pub record HasCause {T E : Type 0} (before now : ℕ) (result : Result T E) : Type 0 where
  pub later : before ≤ now
  pub failed : OnErr result (Rose before now)

-- some bytes were taken, of which this holds
abbrev pub Took : Option (List ℕ) → Option (List ℕ) → (List ℕ → Type 0) → Type 0
Took old new P = (taken : List ℕ) × P taken × Consumes old new taken

-- what a fetch from this file gives; one of no file fails
abbrev pub FetchesFrom : {E : Type 0} → Option (List ℕ) → ℕ → Result ℕ E → List ℕ → Type 0
FetchesFrom None at r buf = IsErr r
FetchesFrom (Some file) at r buf = IfOk r (λ n. (take n buf ≡ take n (drop at file)) × (n ≡ 0 → 0 < length buf → length file ≤ at))

-- what a fetch gives, where the files are told
abbrev pub Fetches : {E : Type 0} → Option (List ℕ → Option (List ℕ)) → List ℕ → ℕ → Result ℕ E → List ℕ → Type 0
Fetches None name at r buf = Unit {0}
Fetches (Some files) name at r buf = FetchesFrom (files name) at r buf

-- the files are told, and none has the name
abbrev pub Lacks : Option (List ℕ → Option (List ℕ)) → List ℕ → Type 0
Lacks None name = ⊥
Lacks (Some files) name = files name ≡ None

-- where the files are told, one has the name, and this holds of its bytes
abbrev pub HasFile : Option (List ℕ → Option (List ℕ)) → List ℕ → (List ℕ → Type 0) → Type 0
HasFile None name P = Unit {0}
HasFile (Some files) name P = (file : List ℕ) × (files name ≡ Some file) × P file

-- the calls of a source, sink or shelf in memory so far, the numbers of those that are to fail, and how many faults it counted
pub record Plan : Type 0 where
  pub fails : List ℕ
  pub calls : ℕ
  pub faults : ℕ

-- whether the call that comes is to fail; the first call has the number 0
abbrev pub is_listed : Plan → Bool
is_listed plan = list_any (λ call. call == plan.calls) plan.fails

abbrev pub IsListed : Plan → Type 0
IsListed plan = IsTrue (is_listed plan)

-- after one more call, with one more fault or none
abbrev pub counted : Plan → Bool → Plan
counted plan fault = record { fails = plan.fails; calls = raised plan.calls; faults = (if fault then raised plan.faults else plan.faults) }

-- before the first call
abbrev pub fresh : List ℕ → Plan
fresh fails = record { fails = fails; calls = 0; faults = 0 }

-- a source in memory
pub record Feed : Type 0 where
  pub left : List ℕ
  pub plan : Plan

-- a sink in memory
pub record Tray : Type 0 where
  pub held : List ℕ
  pub room : ℕ
  pub plan : Plan

-- a source of one byte
pub record Supply : Type 0 where
  pub byte : ℕ
  pub count : ℕ

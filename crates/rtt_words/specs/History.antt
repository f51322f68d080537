-- The history of an offset: all accesses of it, in the order in which they were made.
use Rattle.std.specs.Prelude.{◌≡◌, ℕ, ◌+◌, Bool, true, false, ◌&&◌, List, [], ◌∷◌, ◌++◌}
use Rattle.rtt_words.specs.declared.view.Access.{Access}
use Rattle.rtt_words.specs.declared.view.Access.TheVariants.{Stored, Loaded}

abbrev pub is_store : Access → Bool
is_store (Stored n) = true
is_store (Loaded n) = false

abbrev pub is_load : Access → Bool
is_load (Stored n) = false
is_load (Loaded n) = true

abbrev pub are_stores : List Access → Bool
are_stores [] = true
are_stores (a ∷ more) = is_store a && are_stores more

abbrev pub are_loads : List Access → Bool
are_loads [] = true
are_loads (a ∷ more) = is_load a && are_loads more

-- the number of the store that came last, where n came before them all
abbrev pub after : ℕ → Access → ℕ
after n (Stored m) = m
after n (Loaded m) = n

abbrev pub last_stored : ℕ → List Access → ℕ
last_stored n [] = n
last_stored n (a ∷ more) = last_stored (after n a) more

-- how many loads there are
abbrev pub one_load : Access → ℕ
one_load (Stored m) = 0
one_load (Loaded m) = 1

abbrev pub loads_in : List Access → ℕ
loads_in [] = 0
loads_in (a ∷ more) = one_load a + loads_in more

-- the number that the last load found, where n was found before them all
abbrev pub found_after : ℕ → Access → ℕ
found_after n (Stored m) = n
found_after n (Loaded m) = m

abbrev pub last_loaded : ℕ → List Access → ℕ
last_loaded n [] = n
last_loaded n (a ∷ more) = last_loaded (found_after n a) more

-- one load more: behind what this end knew come the other's stores so far, and then the load, which finds the number that
-- was stored last
pub record IsLoaded (known : List Access) (n : ℕ) (now : List Access) : Type 0 where
  pub between : List Access
  pub others : are_stores between ≡ true
  pub latest : last_stored 0 (known ++ between) ≡ n
  pub is : now ≡ (known ++ between) ++ Loaded n ∷ []

-- one store more
pub record IsStored (known : List Access) (n : ℕ) (now : List Access) : Type 0 where
  pub between : List Access
  pub others : are_loads between ≡ true
  pub is : now ≡ (known ++ between) ++ Stored n ∷ []

-- how the histories fit that the two ends know, the storing end's and the loading end's, where n was stored last: behind
-- each come only accesses of the other end, and then both are the one history
pub record IsTold (stored loaded : List Access) (n : ℕ) : Type 0 where
  pub more_loads : List Access
  pub more_stores : List Access
  pub one : stored ++ more_loads ≡ loaded ++ more_stores
  pub loads : are_loads more_loads ≡ true
  pub stores : are_stores more_stores ≡ true
  pub latest : last_stored 0 (stored ++ more_loads) ≡ n

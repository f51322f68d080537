-- The histories of the offsets, and what a load and a store make of them.
use Rattle.std.proofs.Common.{Bool, ◌⊎◌, inl, inr, ◌≡◌, ℕ, ◌+◌, true, false, List, [], ◌∷◌, ◌++◌, refl, sym, ap, ◌∙◌, append_assoc, append-nil, arith}
use Rattle.std.proofs.lemmas.Bool.{both_ways}
use Rattle.std.proofs.lemmas.List.{append_cancel_left}
use Rattle.rtt_words.specs.declared.view.Access.{Access}
use Rattle.rtt_words.specs.declared.view.Access.TheVariants.{Stored, Loaded}
use Rattle.rtt_words.specs.History.{is_load, are_stores, are_loads, after, last_stored, loads_in, found_after, last_loaded, IsLoaded, IsStored, IsTold}

pub last_stored_append : (n : ℕ) (xs ys : List Access) → last_stored n (xs ++ ys) ≡ last_stored (last_stored n xs) ys
last_stored_append n [] ys = refl
last_stored_append n (x ∷ xs) ys = last_stored_append (after n x) xs ys

pub last_loaded_append : (n : ℕ) (xs ys : List Access) → last_loaded n (xs ++ ys) ≡ last_loaded (last_loaded n xs) ys
last_loaded_append n [] ys = refl
last_loaded_append n (x ∷ xs) ys = last_loaded_append (found_after n x) xs ys

loads_in_append : (xs ys : List Access) → loads_in (xs ++ ys) ≡ loads_in xs + loads_in ys
loads_in_append [] ys = omega arith
loads_in_append (x ∷ xs) ys = let e = loads_in_append xs ys in omega arith

no_loads : (xs : List Access) → are_stores xs ≡ true → loads_in xs ≡ 0
no_loads [] e = refl
no_loads (Stored n ∷ xs) e = let h = no_loads xs e in omega arith
no_loads (Loaded n ∷ xs) e = absurd (both_ways false refl e)

pub one_load_more : (xs : List Access) (n : ℕ) → are_loads xs ≡ true → are_loads (xs ++ Loaded n ∷ []) ≡ true
one_load_more [] n e = refl
one_load_more (Loaded m ∷ xs) n e = one_load_more xs n e
one_load_more (Stored m ∷ xs) n e = absurd (both_ways false refl e)

pub one_store_more : (xs : List Access) (n : ℕ) → are_stores xs ≡ true → are_stores (xs ++ Stored n ∷ []) ≡ true
one_store_more [] n e = refl
one_store_more (Stored m ∷ xs) n e = one_store_more xs n e
one_store_more (Loaded m ∷ xs) n e = absurd (both_ways false refl e)

pub fresh_told : IsTold [] [] 0
fresh_told = record { more_loads = []; more_stores = []; one = refl; loads = refl; stores = refl; latest = refl }

module _ (stored loaded : List Access) (n : ℕ) (t : IsTold stored loaded n) where
  -- the loading end loads
  abbrev pub loaded_now : List Access
  loaded_now = (loaded ++ t.more_stores) ++ Loaded n ∷ []

  pub load_tells : IsLoaded loaded n loaded_now
  load_tells = record { between = t.more_stores; others = t.stores; latest = ap (last_stored 0) (sym t.one) ∙ t.latest; is = refl }

  pub told_loaded : IsTold stored loaded_now n
  told_loaded =
      let now : List Access = t.more_loads ++ Loaded n ∷ [] in
      let one : stored ++ now ≡ loaded_now = sym (append_assoc stored t.more_loads (Loaded n ∷ [])) ∙ ap (λ (l : List Access). l ++ Loaded n ∷ []) t.one in record {
        more_loads = now;
        more_stores = [];
        one = one ∙ sym (append-nil loaded_now);
        loads = one_load_more t.more_loads n t.loads;
        stores = refl;
        latest = ap (last_stored 0) (sym (append_assoc stored t.more_loads (Loaded n ∷ []))) ∙ last_stored_append 0 (stored ++ t.more_loads) (Loaded n ∷ []) ∙ t.latest;
      }

  -- the storing end stores
  module _ (m : ℕ) where
    abbrev pub stored_now : List Access
    stored_now = (stored ++ t.more_loads) ++ Stored m ∷ []

    pub store_tells : IsStored stored m stored_now
    store_tells = record { between = t.more_loads; others = t.loads; is = refl }

    pub told_stored : IsTold stored_now loaded m
    told_stored =
        let now : List Access = t.more_stores ++ Stored m ∷ [] in record {
          more_loads = [];
          more_stores = now;
          one = append-nil stored_now ∙ ap (λ (l : List Access). l ++ Stored m ∷ []) t.one ∙ append_assoc loaded t.more_stores (Stored m ∷ []);
          loads = refl;
          stores = one_store_more t.more_stores m t.stores;
          latest = ap (last_stored 0) (append-nil stored_now) ∙ last_stored_append 0 (stored ++ t.more_loads) (Stored m ∷ []);
        }

-- after a load there is one load more, which found the number
module _ (known now : List Access) (n : ℕ) (l : IsLoaded known n now) where
  pub load_found : last_loaded 0 now ≡ n
  load_found = ap (last_loaded 0) l.is ∙ last_loaded_append 0 (known ++ l.between) (Loaded n ∷ [])

  pub load_counted : loads_in now ≡ loads_in known + 1
  load_counted =
      let a = loads_in_append (known ++ l.between) (Loaded n ∷ []) in
      let b = loads_in_append known l.between in
      let c = no_loads l.between l.others in
      let e : loads_in now ≡ loads_in ((known ++ l.between) ++ Loaded n ∷ []) = ap loads_in l.is in
      omega arith

-- A load can only find what was stored last. The storing end's history is the same before and after the step, so a load that was
-- put among its stores, or before them, would leave no one history
loads_keep : (n : ℕ) (xs : List Access) → are_loads xs ≡ true → last_stored n xs ≡ n
loads_keep n [] e = refl
loads_keep n (Loaded m ∷ xs) e = loads_keep n xs e
loads_keep n (Stored m ∷ xs) e = absurd (both_ways false refl e)

-- whether a list that isn't empty ends in a load
abbrev ends : Bool → List Access → Bool
ends b [] = b
ends b (a ∷ more) = ends (is_load a) more

ends_append : (b : Bool) (xs ys : List Access) → ends b (xs ++ ys) ≡ ends (ends b xs) ys
ends_append b [] ys = refl
ends_append b (x ∷ xs) ys = ends_append (is_load x) xs ys

loads_end : (xs : List Access) → are_loads xs ≡ true → ends true xs ≡ true
loads_end [] e = refl
loads_end (Loaded m ∷ xs) e = loads_end xs e
loads_end (Stored m ∷ xs) e = absurd (both_ways false refl e)

stores_end : (xs : List Access) → are_stores xs ≡ true → ends false xs ≡ false
stores_end [] e = refl
stores_end (Stored m ∷ xs) e = stores_end xs e
stores_end (Loaded m ∷ xs) e = absurd (both_ways false refl e)

one_empty : (xs ys loads stores : List Access) → xs ++ loads ≡ ys ++ stores → are_loads loads ≡ true → are_stores stores ≡ true → (loads ≡ []) ⊎ (stores ≡ [])
one_empty xs ys [] stores e l s = inl refl
one_empty xs ys (a ∷ loads) [] e l s = inr refl
one_empty xs ys (Stored m ∷ loads) (b ∷ stores) e l s = absurd (both_ways false refl l)
one_empty xs ys (a ∷ loads) (Loaded m ∷ stores) e l s = absurd (both_ways false refl s)
one_empty xs ys (Loaded k ∷ loads) (Stored m ∷ stores) e l s =
    let yes : ends true (xs ++ Loaded k ∷ loads) ≡ true = ends_append true xs (Loaded k ∷ loads) ∙ loads_end loads l in
    let no : ends true (ys ++ Stored m ∷ stores) ≡ false = ends_append true ys (Stored m ∷ stores) ∙ stores_end stores s in
    absurd (both_ways _ no (sym (ap (ends true) e) ∙ yes))

no_load_among : (xs ys : List Access) (n : ℕ) → are_stores (xs ++ Loaded n ∷ ys) ≡ true → ⊥
no_load_among [] ys n e = both_ways false refl e
no_load_among (Stored m ∷ xs) ys n e = no_load_among xs ys n e
no_load_among (Loaded m ∷ xs) ys n e = both_ways false refl e

pub load_finds_stored : (stored known now : List Access) (r r' n : ℕ) → IsTold stored known r → IsTold stored now r' → IsLoaded known n now → n ≡ r
load_finds_stored stored known now r r' n t t' l = by_one (one_empty stored now t'.more_loads t'.more_stores t'.one t'.loads t'.stores)
  where
    by_one : (t'.more_loads ≡ []) ⊎ (t'.more_stores ≡ []) → n ≡ r
    by_one (inr none) =
        let whole : stored ++ t'.more_loads ≡ now = t'.one ∙ ap (λ (x : List Access). now ++ x) none ∙ append-nil now in
        let last : last_stored 0 now ≡ n = ap (last_stored 0) l.is ∙ last_stored_append 0 (known ++ l.between) (Loaded n ∷ []) ∙ l.latest in
        let after : last_stored 0 (stored ++ t'.more_loads) ≡ last_stored 0 stored = last_stored_append 0 stored t'.more_loads ∙ loads_keep (last_stored 0 stored) t'.more_loads t'.loads in
        let before : last_stored 0 (stored ++ t.more_loads) ≡ last_stored 0 stored = last_stored_append 0 stored t.more_loads ∙ loads_keep (last_stored 0 stored) t.more_loads t.loads in
        sym last ∙ sym (ap (last_stored 0) whole) ∙ after ∙ sym before ∙ t.latest
    by_one (inl none) =
        let behind : List Access = l.between ++ Loaded n ∷ (t'.more_stores ++ t.more_loads) in
        let is : stored ≡ now ++ t'.more_stores = sym (append-nil stored) ∙ ap (λ (x : List Access). stored ++ x) (sym none) ∙ t'.one in
        let parts : stored ++ t.more_loads ≡ known ++ behind =
        ap (λ (x : List Access). x ++ t.more_loads) (is ∙ ap (λ (x : List Access). x ++ t'.more_stores) l.is)
        ∙ append_assoc ((known ++ l.between) ++ Loaded n ∷ []) t'.more_stores t.more_loads
        ∙ append_assoc (known ++ l.between) (Loaded n ∷ []) (t'.more_stores ++ t.more_loads)
        ∙ append_assoc known l.between (Loaded n ∷ (t'.more_stores ++ t.more_loads)) in
        let same : behind ≡ t.more_stores = append_cancel_left known behind t.more_stores (sym parts ∙ t.one) in
        absurd (no_load_among l.between (t'.more_stores ++ t.more_loads) n (ap are_stores same ∙ t.stores))

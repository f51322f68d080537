-- Lines and orders of joined bytes.
use Rattle.std.proofs.Common.{◌≡◌, ℕ, List, [], ◌∷◌, ◌++◌, Bool, true, false, ◌==◌, refl, sym, ap, ◌∙◌, subst, append_assoc, append-nil, inl, inr}
use Rattle.std.specs.Prelude.{Option, Some, None, ◌≢◌, ◌⊎◌, if◌then◌else◌}
use Rattle.std.specs.Option.{option_to_list}
use Rattle.std.proofs.lemmas.Bool.Decides.{eqb_tells}
use Rattle.std.proofs.lemmas.Bool.{ne_eqb}
use Rattle.rtt_down.specs.Orders.{orders_joined, ended_lines, has_no_newline, have_no_newline, kept_of, lengthened, ordered_at, ordered_by_kept, ordered_by, lines_from, open_after, open_from, open_line, orders, orders_in, order_of, whole_lines}
use Rattle.defmt_hooks.specs.declared.level.Level.{Level}
use Rattle.defmt_hooks.specs.declared.level.Level.TheVariants.{Trace, Debug, Info, Warn, Error}

-- ---- lines of joined bytes

pub lines-append : (line xs ys : List ℕ) → lines_from line (xs ++ ys) ≡ lines_from line xs ++ lines_from (open_from line xs) ys
lines-append line [] ys = refl
lines-append line (x ∷ xs) ys =
    elim (x == 10) as (λ (c : Bool). (if c then line ∷ lines_from [] (xs ++ ys) else lines_from (line ++ x ∷ []) (xs ++ ys))
    ≡ (if c then line ∷ lines_from [] xs else lines_from (line ++ x ∷ []) xs) ++ lines_from (if c then open_from [] xs else open_from (line ++ x ∷ []) xs) ys) [
      | true ↦ ap (λ l. line ∷ l) (lines-append [] xs ys)
      | false ↦ lines-append (line ++ x ∷ []) xs ys
    ]

pub open-append : (line xs ys : List ℕ) → open_from line (xs ++ ys) ≡ open_from (open_from line xs) ys
open-append line [] ys = refl
open-append line (x ∷ xs) ys =
    elim (x == 10) as (λ (c : Bool). (if c then open_from [] (xs ++ ys) else open_from (line ++ x ∷ []) (xs ++ ys)) ≡ open_from (if c then open_from [] xs else open_from (line ++ x ∷ []) xs) ys) [
      | true ↦ open-append [] xs ys
      | false ↦ open-append (line ++ x ∷ []) xs ys
    ]

pub orders_in-append : (xs ys : List (List ℕ)) → orders_in (xs ++ ys) ≡ orders_in xs ++ orders_in ys
orders_in-append [] ys = refl
orders_in-append (x ∷ xs) ys =
    ap (λ l. option_to_list (ordered_by x) ++ l) (orders_in-append xs ys) ∙ sym (append_assoc (option_to_list (ordered_by x)) (orders_in xs) (orders_in ys))

pub orders-append : (xs ys : List ℕ) → orders (xs ++ ys) ≡ orders xs ++ orders_in (lines_from (open_line xs) ys)
orders-append xs ys = ap orders_in (lines-append [] xs ys) ∙ orders_in-append (whole_lines xs) (lines_from (open_line xs) ys)

-- ---- no line has a newline

no_newline-append : (xs ys : List ℕ) → has_no_newline xs → has_no_newline ys → has_no_newline (xs ++ ys)
no_newline-append [] ys g h = h
no_newline-append (x ∷ xs) ys g h = (g.0, no_newline-append xs ys g.1 h)

record Clean (lines : List (List ℕ)) (last : List ℕ) : Type 0 where
  whole : have_no_newline lines
  open_too : has_no_newline last

clean_from : (line bytes : List ℕ) → has_no_newline line → Clean (lines_from line bytes) (open_from line bytes)
clean_from line [] h = record { whole = tt; open_too = h }
clean_from line (b ∷ bs) h =
    let goes : ((b == 10) ≡ true) × (b ≡ 10) ⊎ ((b == 10) ≡ false) × (b ≢ 10) → Clean (lines_from line (b ∷ bs)) (open_from line (b ∷ bs)) =
    λ cases. elim cases [
      | inl s ↦
          let k : Clean (lines_from [] bs) (open_from [] bs) = clean_from [] bs tt in
          subst (λ (c : Bool). Clean (if c then line ∷ lines_from [] bs else lines_from (line ++ b ∷ []) bs) (if c then open_from [] bs else open_from (line ++ b ∷ []) bs)) (sym s.0)
          (record { whole = (h, k.whole); open_too = k.open_too })
      | inr s ↦
          subst (λ (c : Bool). Clean (if c then line ∷ lines_from [] bs else lines_from (line ++ b ∷ []) bs) (if c then open_from [] bs else open_from (line ++ b ∷ []) bs)) (sym s.0)
          (clean_from (line ++ b ∷ []) bs (no_newline-append line (b ∷ []) h (s.1, tt)))
    ] in
    goes (eqb_tells b 10)

have_no_newline-snoc : (lines : List (List ℕ)) (last : List ℕ) → have_no_newline lines → has_no_newline last → have_no_newline (lines ++ last ∷ [])
have_no_newline-snoc [] last g h = (h, tt)
have_no_newline-snoc (x ∷ xs) last g h = (g.0, have_no_newline-snoc xs last g.1 h)

pub clean : (bytes : List ℕ) → have_no_newline (whole_lines bytes ++ open_line bytes ∷ [])
clean bytes = let k : Clean (whole_lines bytes) (open_line bytes) = clean_from [] bytes tt in have_no_newline-snoc (whole_lines bytes) (open_line bytes) k.whole k.open_too

-- ---- the bytes are the lines and the open line

ended-from : (line bytes : List ℕ) → line ++ bytes ≡ ended_lines (lines_from line bytes) ++ open_from line bytes
ended-from line [] = append-nil line
ended-from line (b ∷ bs) =
    let goes : ((b == 10) ≡ true) × (b ≡ 10) ⊎ ((b == 10) ≡ false) × (b ≢ 10) → line ++ b ∷ bs ≡ ended_lines (lines_from line (b ∷ bs)) ++ open_from line (b ∷ bs) =
    λ cases. elim cases [
      | inl s ↦
          subst (λ (c : Bool). line ++ b ∷ bs ≡ ended_lines (if c then line ∷ lines_from [] bs else lines_from (line ++ b ∷ []) bs) ++ (if c then open_from [] bs else open_from (line ++ b ∷ []) bs)) (sym s.0)
          (ap (λ (x : ℕ). line ++ x ∷ bs) s.1 ∙ ap (λ l. line ++ 10 ∷ l) (ended-from [] bs) ∙ sym (append_assoc line (10 ∷ ended_lines (lines_from [] bs)) (open_from [] bs)))
      | inr s ↦
          subst (λ (c : Bool). line ++ b ∷ bs ≡ ended_lines (if c then line ∷ lines_from [] bs else lines_from (line ++ b ∷ []) bs) ++ (if c then open_from [] bs else open_from (line ++ b ∷ []) bs)) (sym s.0)
          (sym (append_assoc line (b ∷ []) bs) ∙ ended-from (line ++ b ∷ []) bs)
    ] in
    goes (eqb_tells b 10)

pub cut_is : (bytes : List ℕ) → bytes ≡ ended_lines (whole_lines bytes) ++ open_line bytes
cut_is bytes = ended-from [] bytes

-- a line without a newline goes on the open line
lines-of_line : (line more : List ℕ) → has_no_newline more → (lines_from line more ≡ []) × (open_from line more ≡ line ++ more)
lines-of_line line [] h = (refl, sym (append-nil line))
lines-of_line line (b ∷ bs) h =
    let goes : ((b == 10) ≡ true) × (b ≡ 10) ⊎ ((b == 10) ≡ false) × (b ≢ 10) → (lines_from line (b ∷ bs) ≡ []) × (open_from line (b ∷ bs) ≡ line ++ b ∷ bs) =
    λ cases. elim cases [
      | inl s ↦ absurd (h.0 s.1)
      | inr s ↦
          let k : (lines_from (line ++ b ∷ []) bs ≡ []) × (open_from (line ++ b ∷ []) bs ≡ (line ++ b ∷ []) ++ bs) = lines-of_line (line ++ b ∷ []) bs h.1 in
          subst (λ (c : Bool). ((if c then line ∷ lines_from [] bs else lines_from (line ++ b ∷ []) bs) ≡ []) × ((if c then open_from [] bs else open_from (line ++ b ∷ []) bs) ≡ line ++ b ∷ bs)) (sym s.0)
          (k.0, k.1 ∙ append_assoc line (b ∷ []) bs)
    ] in
    goes (eqb_tells b 10)

pub orders_by_open : (xs ys : List ℕ) → orders (xs ++ ys) ≡ orders xs ++ orders (open_line xs ++ ys)
orders_by_open xs ys =
    let o : List ℕ = open_line xs in
    let k : Clean (whole_lines xs) o = clean_from [] xs tt in
    let l : (lines_from [] o ≡ []) × (open_from [] o ≡ o) = lines-of_line [] o k.open_too in
    let same : whole_lines (o ++ ys) ≡ lines_from o ys = lines-append [] o ys ∙ ap (λ x. x ++ lines_from (open_from [] o) ys) l.0 ∙ ap (λ x. lines_from x ys) l.1 in
    orders-append xs ys ∙ ap (λ x. orders xs ++ orders_in x) (sym same)

-- ---- one byte more

kept_lengthened : (line : List ℕ) (b : ℕ) → lengthened (kept_of line) b ≡ kept_of (line ++ b ∷ [])
kept_lengthened [] b = refl
kept_lengthened (x ∷ []) b = refl
kept_lengthened (x ∷ y ∷ []) b = refl
kept_lengthened (x ∷ y ∷ z ∷ more) b = refl

ordered_by_kept_is : (line : List ℕ) → ordered_by_kept (kept_of line) ≡ ordered_by line
ordered_by_kept_is [] = refl
ordered_by_kept_is (x ∷ []) = refl
ordered_by_kept_is (x ∷ y ∷ []) = refl
ordered_by_kept_is (x ∷ y ∷ z ∷ more) = refl

pub heard_one : (heard : List ℕ) (b : ℕ) (kept : Option (List ℕ)) → kept ≡ kept_of (open_line heard)
    → (open_after kept b ≡ kept_of (open_line (heard ++ b ∷ []))) × (orders (heard ++ b ∷ []) ≡ orders heard ++ option_to_list (ordered_at kept b))
heard_one heard b kept e =
    let o : List ℕ = open_line heard in
    let level : ordered_by_kept kept ≡ ordered_by o = ap ordered_by_kept e ∙ ordered_by_kept_is o in
    let line : lengthened kept b ≡ kept_of (o ++ b ∷ []) = ap (λ (k : Option (List ℕ)). lengthened k b) e ∙ kept_lengthened o b in
    let P : Bool → Type 0 = λ c. ((if c then Some [] else lengthened kept b) ≡ kept_of (if c then [] else o ++ b ∷ []))
    × (orders heard ++ orders_in (if c then o ∷ [] else []) ≡ orders heard ++ option_to_list (if c then ordered_by_kept kept else None)) in
    let both : P (b == 10) = elim (b == 10) as P [
      | true ↦ (refl, ap (λ l. orders heard ++ l) (append-nil (option_to_list (ordered_by o))) ∙ ap (λ (k : Option Level). orders heard ++ option_to_list k) (sym level))
      | false ↦ (line, refl)
    ] in
    (both.0 ∙ ap kept_of (sym (open-append [] heard (b ∷ []))), orders-append heard (b ∷ []) ∙ both.1)

pub heard_newline : (heard : List ℕ) (b : ℕ) (kept : Option (List ℕ)) (level : Option Level) → b ≡ 10 → kept ≡ kept_of (open_line heard) → level ≡ ordered_by_kept kept
    → (Some [] ≡ kept_of (open_line (heard ++ b ∷ []))) × (orders (heard ++ b ∷ []) ≡ orders heard ++ option_to_list level)
heard_newline heard b kept level is e k =
    let one : (Some [] ≡ kept_of (open_line (heard ++ 10 ∷ []))) × (orders (heard ++ 10 ∷ []) ≡ orders heard ++ option_to_list (ordered_by_kept kept)) = heard_one heard 10 kept e in
    let P : ℕ → Option Level → Type 0 = λ x l. (Some [] ≡ kept_of (open_line (heard ++ x ∷ []))) × (orders (heard ++ x ∷ []) ≡ orders heard ++ option_to_list l) in
    subst (λ (x : ℕ). P x level) (sym is) (subst (P 10) (sym k) one)

pub heard_other : (heard : List ℕ) (b : ℕ) (kept next : Option (List ℕ)) → (b ≡ 10 → ⊥) → kept ≡ kept_of (open_line heard) → next ≡ lengthened kept b
    → (next ≡ kept_of (open_line (heard ++ b ∷ []))) × (orders (heard ++ b ∷ []) ≡ orders heard ++ [])
heard_other heard b kept next not e k =
    let P : Bool → Type 0 = λ c. ((if c then Some [] else lengthened kept b) ≡ kept_of (open_line (heard ++ b ∷ []))) × (orders (heard ++ b ∷ []) ≡ orders heard ++ option_to_list (if c then ordered_by_kept kept else None)) in
    let one : P false = subst P (ne_eqb b 10 not) (heard_one heard b kept e) in
    (k ∙ one.0, one.1)

-- ---- orders read back

pub order_read : (level : Level) (bytes : List ℕ) → orders (order_of level ++ bytes) ≡ level ∷ orders bytes
order_read Trace bytes = refl
order_read Debug bytes = refl
order_read Info bytes = refl
order_read Warn bytes = refl
order_read Error bytes = refl

pub read_back : (levels : List Level) → orders (orders_joined levels) ≡ levels
read_back [] = refl
read_back (level ∷ levels) = order_read level (orders_joined levels) ∙ ap (λ l. level ∷ l) (read_back levels)

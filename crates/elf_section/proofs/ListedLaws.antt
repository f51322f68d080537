-- The list of symbols, one symbol after another.
use Rattle.std.proofs.Common.{inl, inr, ◌≡◌, ◌≤◌, ◌<◌, ◌+◌, ◌-◌, ℕ, zero, suc, Bool, true, false, cond, List, [], ◌∷◌, ◌++◌, map, length, take, get_or, refl, ap, sym, ◌∙◌, arith}
use Rattle.std.specs.List.{filter}
use Rattle.std.proofs.lemmas.Bool.{cases_eq}
use Rattle.std.proofs.lemmas.List.{append-nil, map-append, length-map, take_more}
use Rattle.elf_section.specs.Symbol.{plain, plain_all, plain_ref, plain_refs}
use Rattle.elf_section.specs.declared.symbols.Symbol.{Symbol}
use Rattle.elf_section.specs.declared.symbols.SymbolRef.{SymbolRef}
use Rattle.elf_section.specs.Listed.{numbers, is_listed, symbol_of, symbols_below}

pub refs : (list : List SymbolRef) → length (plain_refs list) ≡ length list
refs list = length-map list plain_ref

pub same_count : (list : List Symbol) (refs : List SymbolRef) → plain_all list ≡ plain_refs refs → length list ≡ length refs
same_count list refs e = sym (length-map list plain) ∙ ap length e ∙ length-map refs plain_ref

-- one more of them with a name of its own
pub owned_more : (all : List SymbolRef) (copies new : List Symbol) (i : ℕ) (r : SymbolRef) (s : Symbol) → i < length all → plain_all copies ≡ plain_refs (take i all)
    → s.name.items ≡ (get_or all i r).name.now → s.value ≡ (get_or all i r).value → new ≡ copies ++ s ∷ [] → plain_all new ≡ plain_refs (take (i + 1) all)
owned_more all copies new i r s l made name value e =
    ap plain_all e ∙ map-append plain copies (s ∷ [])
    ∙ rw (made, name, value) (sym (ap plain_refs (take_more all i r l) ∙ map-append plain_ref (take i all) (get_or all i r ∷ [])))

-- ---- the list

numbers_push : (from n : ℕ) → numbers from (n + 1) ≡ numbers from n ++ (from + n) ∷ []
unfolding numbers
numbers_push from zero = ap (λ (m : ℕ). m ∷ []) (let k : from ≡ from + 0 = omega arith in k)
numbers_push from (suc n) = ap (numbers from) (let s : suc n + 1 ≡ suc (n + 1) = omega arith in s) ∙ ap (λ (xs : List ℕ). from ∷ xs) (numbers_push (from + 1) n ∙ ap (λ (m : ℕ). numbers (from + 1) n ++ m ∷ []) (let k : from + 1 + n ≡ from + suc n = omega arith in k))

filter_step : (b : Bool) (p : ℕ → Bool) (y : ℕ) (xs : List ℕ) (x : ℕ) → filter p (xs ++ x ∷ []) ≡ filter p xs ++ filter p (x ∷ []) → cond {A = List ℕ} b (y ∷ filter p (xs ++ x ∷ [])) (filter p (xs ++ x ∷ [])) ≡ cond {A = List ℕ} b (y ∷ filter p xs) (filter p xs) ++ filter p (x ∷ [])
filter_step true p y xs x e = ap (λ (t : List ℕ). y ∷ t) e
filter_step false p y xs x e = e

filter_push : (p : ℕ → Bool) (xs : List ℕ) (x : ℕ) → filter p (xs ++ x ∷ []) ≡ filter p xs ++ filter p (x ∷ [])
filter_push p [] x = refl
filter_push p (y ∷ xs) x = filter_step (p y) p y xs x (filter_push p xs x)

below_next : (file : List ℕ) (d i k : ℕ) → 0 < k → symbols_below file d i (k + 1) ≡ symbols_below file d i k ++ map (symbol_of file i) (filter (is_listed file d i) (k ∷ []))
below_next file d i k above =
    let n : k + 1 - 1 ≡ (k - 1) + 1 = omega arith in
    let m : 1 + (k - 1) ≡ k = omega arith in
    ap (λ (x : ℕ). map (symbol_of file i) (filter (is_listed file d i) (numbers 1 x))) n
    ∙ ap (λ (xs : List ℕ). map (symbol_of file i) (filter (is_listed file d i) xs)) (numbers_push 1 (k - 1) ∙ ap (λ (x : ℕ). numbers 1 (k - 1) ++ x ∷ []) m)
    ∙ ap (map (symbol_of file i)) (filter_push (is_listed file d i) (numbers 1 (k - 1)) k)
    ∙ map-append (symbol_of file i) (filter (is_listed file d i) (numbers 1 (k - 1))) (filter (is_listed file d i) (k ∷ []))

pub below_none : (file : List ℕ) (d i : ℕ) → [] ≡ symbols_below file d i 1
unfolding numbers
below_none file d i = refl

pub below_listed : (file : List ℕ) (d i k : ℕ) → 0 < k → is_listed file d i k ≡ true → symbols_below file d i (k + 1) ≡ symbols_below file d i k ++ symbol_of file i k ∷ []
below_listed file d i k above e = below_next file d i k above ∙ ap (λ (b : Bool). symbols_below file d i k ++ map (symbol_of file i) (cond {A = List ℕ} b (k ∷ []) [])) e

pub below_other : (file : List ℕ) (d i k : ℕ) → 0 < k → is_listed file d i k ≡ false → symbols_below file d i (k + 1) ≡ symbols_below file d i k
below_other file d i k above e = below_next file d i k above ∙ ap (λ (b : Bool). symbols_below file d i k ++ map (symbol_of file i) (cond {A = List ℕ} b (k ∷ []) [])) e ∙ append-nil (symbols_below file d i k)

pub below_end : (file : List ℕ) (d i k n : ℕ) → n ≤ k → (1 ≤ n → k ≤ n) → (n ≡ 0 → k ≡ 1) → symbols_below file d i k ≡ symbols_below file d i n
below_end file d i k n le ge one = ap (λ (x : ℕ). map (symbol_of file i) (filter (is_listed file d i) (numbers 1 x))) (let e : k - 1 ≡ n - 1 = elim (cases_eq n 0) [ inl z ↦ (let o = one z in omega arith) | inr p ↦ (let g = ge (omega arith) in omega arith) ] in e)

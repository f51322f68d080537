-- Lists of short symbols, one symbol after another.
use Rattle.std.proofs.Common.{◌≡◌, ◌≢◌, ◌≤◌, ◌+◌, ◌*◌, ℕ, List, [], ◌∷◌, ◌++◌, length, refl, sym, ap, ◌∙◌, arith, length-append, subst}
use Rattle.std.specs.List.{All, sum_by}
use Rattle.std.proofs.lemmas.List.{map-append}
use Rattle.std.proofs.lemmas.List.Elements.{All-nil, All-push}
use Rattle.std.proofs.lemmas.List.Sums.{sum_by_push}
use Rattle.elf_section.specs.Symbol.{PlainSymbol, plain, plain_all}
use Rattle.elf_section.specs.Written.{IsWritable}
use Rattle.elf_section.specs.declared.symbols.Symbol.{Symbol}

-- n symbols whose names have at most 1000 bytes each
pub record IsShortList (symbols : List PlainSymbol) (n : ℕ) : Type 0 where
  pub count : length symbols ≡ n
  pub small : All (λ s. s.value ≤ 65535) symbols
  pub no_zero : All (λ s. All (λ b. b ≢ 0) s.name) symbols
  pub short : sum_by (λ s. length s.name) symbols ≤ 1000 * n

pub no_symbols : IsShortList [] 0
no_symbols = record {
  count = refl;
  small = All-nil (λ s. s.value ≤ 65535);
  no_zero = All-nil (λ s. All (λ b. b ≢ 0) s.name);
  short = omega arith;
}

one_more : (xs : List PlainSymbol) (s : PlainSymbol) (n : ℕ) → IsShortList xs n → s.value ≤ 65535 → length s.name ≤ 1000 → All (λ b. b ≢ 0) s.name → IsShortList (xs ++ s ∷ []) (n + 1)
one_more xs s n h v l z = record {
  count = (let a = length-append xs (s ∷ []) in let c = h.count in omega (arith, a, c));
  small = All-push (λ t. t.value ≤ 65535) xs s h.small v;
  no_zero = All-push (λ t. All (λ b. b ≢ 0) t.name) xs s h.no_zero z;
  short = (let a = sum_by_push (λ t. length t.name) xs s in let b = h.short in omega (arith, a, b, l));
}

pub pushed : (old new : List Symbol) (s : Symbol) (n : ℕ) → new ≡ old ++ s ∷ [] → IsShortList (plain_all old) n → s.value ≤ 65535 → length s.name.items ≤ 1000 → All (λ b. b ≢ 0) s.name.items → IsShortList (plain_all new) (n + 1)
pushed old new s n e h v l z = subst (λ (xs : List PlainSymbol). IsShortList xs (n + 1)) (sym (ap plain_all e ∙ map-append plain old (s ∷ []))) (one_more (plain_all old) (plain s) n h v l z)

pub writable : (xs : List PlainSymbol) (n : ℕ) → n ≤ 16 → IsShortList xs n → IsWritable xs
writable xs n few h = record { few = (let c = h.count in omega (arith, few, c)); small = h.small; no_zero = h.no_zero; short = (let s = h.short in omega (arith, few, s)) }

-- Answers that are told apart.
use Rattle.std.proofs.Common.{◌≡◌, ℕ, subst, sym}
use Rattle.std.specs.Prelude.{Result, Ok, Err, IsErrAnd}
use Rattle.dl_io.specs.declared.calls.ReadFault.TheVariants.{Failed, Long, Memory}

-- what is given is no refusal
pub given_refused : {T E : Type 0} {P : Type 0} {x : T} {y : E} → ◌≡◌ {A = Result T E} (Ok x) (Err y) → P
given_refused e = absurd (cc)

-- a refusal has one cause
pub cause_is : {T E : Type 0} {x y : E} → ◌≡◌ {A = Result T E} (Err x) (Err y) → x ≡ y
cause_is e = cc

-- the cause that a refusal is told to have
pub cause_told : {T E : Type 0} {cause y : E} (r : Result T E) → IsErrAnd r (λ e. e ≡ cause) → r ≡ Err y → cause ≡ y
cause_told {T} {E} {cause} r given is = sym (subst (λ (r : Result T E). IsErrAnd r (λ e. e ≡ cause)) is given)

pub failed_long : {P : Type 0} {n : ℕ} → Failed ≡ Long n → P
failed_long e = absurd (cc)

pub failed_memory : {P : Type 0} → Failed ≡ Memory → P
failed_memory e = absurd (cc)

pub long_memory : {P : Type 0} {n : ℕ} → Long n ≡ Memory → P
long_memory e = absurd (cc)

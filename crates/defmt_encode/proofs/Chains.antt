-- Chains of readers, and choices between a value and a cause.
use Rattle.std.proofs.Common.{◌≡◌, ◌≤◌, ◌<◌, ◌+◌, ◌⊎◌, inl, inr, ℕ, Bool, true, false, nat_le, Ok, Err, refl, ap, ◌∙◌, cond}
use Rattle.std.proofs.lemmas.Bool.{leb-true, leb-false}
use Rattle.defmt_encode.specs.Read.{Read, ◌⇒◌, add}
use Rattle.defmt_encode.specs.declared.cause.Cause.{Cause}
use Rattle.defmt_encode.specs.declared.cause.Cause.TheVariants as causes

abbrev pub done : {A : Type 0} → A → Read A
done x = Ok x

abbrev pub refused : (A : Type 0) → Cause → Read A
refused A c = Err c

pub same : {A : Type 0} (x y : A) → done x ≡ done y → x ≡ y
same x y h = cc

pub same_cause : {A : Type 0} (c d : Cause) → refused A c ≡ refused A d → c ≡ d
same_cause c d h = cc

-- a chain that gives something gives it at each link
pub bound : {A B : Type 0} (x : Read A) (f : A → Read B) (y : B) → (x ⇒ f) ≡ done y → (a : A) × (x ≡ done a) × (f a ≡ done y)
bound (Ok a) f y h = (a, refl, h)
bound (Err e) f y h = absurd (cc)

-- a chain that is refused is refused at one link
pub broken : {A B : Type 0} (x : Read A) (f : A → Read B) (c : Cause) → (x ⇒ f) ≡ refused B c → (x ≡ refused A c) ⊎ ((a : A) × (x ≡ done a) × (f a ≡ refused B c))
broken (Ok a) f c h = inr (a, refl, h)
broken {B = B} (Err d) f c h = inl (ap (λ e. Err e) (same_cause {A = B} d c h))

pub chosen : {A : Type 0} (b : Bool) (x : A) (c : Cause) (y : A) → cond {A = Read A} b (Ok x) (Err c) ≡ done y → (b ≡ true) × (x ≡ y)
chosen true x c y h = (refl, same x y h)
chosen false x c y h = absurd (cc)

pub not_chosen : {A : Type 0} (b : Bool) (x : A) (c d : Cause) → cond {A = Read A} b (Ok x) (Err c) ≡ refused A d → (b ≡ false) × (c ≡ d)
not_chosen true x c d h = absurd (cc)
not_chosen {A = A} false x c d h = (refl, same_cause {A = A} c d h)

pub add_found : (w s r : ℕ) → add w s ≡ done r → (s + w ≤ 8192) × (s + w ≡ r)
add_found w s r h = let p = chosen (nat_le (s + w) 8192) (s + w) causes.Many r h in (leb-true (s + w) 8192 p.0, p.1)

pub add_broken : (w s : ℕ) (c : Cause) → add w s ≡ refused ℕ c → (8192 < s + w) × (causes.Many ≡ c)
add_broken w s c h = let p = not_chosen (nat_le (s + w) 8192) (s + w) causes.Many c h in (leb-false (s + w) 8192 p.0, p.1)

-- ---- chains that are put together

pub passes : {A B : Type 0} (x : Read A) (f : A → Read B) (a : A) (r : Read B) → x ≡ done a → f a ≡ r → (x ⇒ f) ≡ r
passes x f a r e k = ap (λ q. q ⇒ f) e ∙ k

pub breaks : {A B : Type 0} (x : Read A) (f : A → Read B) (c : Cause) → x ≡ refused A c → (x ⇒ f) ≡ refused B c
breaks x f c e = ap (λ q. q ⇒ f) e

-- a chain whose last link never refuses is refused before it
pub before_last : {A B : Type 0} (x : Read A) (g : A → B) (c : Cause) → (x ⇒ λ a. Ok (g a)) ≡ refused B c → x ≡ refused A c
before_last (Ok a) g c h = absurd (cc)
before_last {B = B} (Err d) g c h = ap (λ e. Err e) (same_cause {A = B} d c h)

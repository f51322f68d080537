-- What is read as a parameter is spelled so, what is spelled so is read, and each fault is the first.
use Rattle.std.proofs.Common.{◌≡◌, ◌≢◌, ◌<◌, ◌≤◌, ◌+◌, ◌-◌, ◌^◌, ℕ, suc, Bool, true, false, cond, eqb, ltb, leb, min, List, [], ◌∷◌, ◌++◌, length, Option, Some, None, Result, Ok, Err, refl, sym, ap, subst, ◌∙◌, arith, option_map, length-append, unwrap_or, ◌⊎◌, inl, inr}
use Rattle.std.specs.Prelude.{is_some}
use Rattle.std.specs.Char.{is_ascii_digit}
use Rattle.std.specs.Str.{all_ascii_digits}
use Rattle.std.proofs.lemmas.Bool.{ltb-true, lt-ltb, and_parts, ne_eqb}
use Rattle.std.proofs.lemmas.Bool.Decides.{nat_tests}
use Rattle.std.proofs.lemmas.List.{append-nil}
use Rattle.std.specs.Str.Parse.{digits_value}
use Rattle.defmt_grammar.specs.declared.fault.Cause.{Cause}
use Rattle.defmt_grammar.specs.declared.fault.Cause.TheVariants as causes
use Rattle.defmt_grammar.specs.declared.fault.Fault.{Fault}
use Rattle.defmt_grammar.specs.declared.fault.Mode.{Mode}
use Rattle.defmt_grammar.specs.declared.language.Language.{Language}
use Rattle.defmt_grammar.specs.Language.{language_of, is_lenient}
use Rattle.defmt_grammar.specs.declared.kind.Kind.{Kind}
use Rattle.defmt_grammar.specs.declared.kind.Kind.TheVariants.{Format}
use Rattle.defmt_grammar.specs.declared.kind.KindFault.{KindFault}
use Rattle.defmt_grammar.specs.declared.hint.Hint.{Hint}
use Rattle.defmt_grammar.specs.declared.hint.Hint.TheVariants.{Plain}
use Rattle.defmt_grammar.specs.declared.param.Param.{Param}
use Rattle.defmt_grammar.specs.Cut.{cut, behind, lead, number_of, IsDecimal, Lacks}
use Rattle.defmt_grammar.specs.Kind.{kind_of, HasKindFault}
use Rattle.defmt_grammar.specs.Hint.{hint_of}
use Rattle.defmt_grammar.specs.Param.{Parts, kind_part, hint_part, KindLacksColon, HasLeadingZero, Writes, IsPosition, next_number, SpellsKindPart, SpellsNoHint, SpellsHintPart, SpellsParam, cause_of, HasZeroFault, HasCharFault, HasParamFault, ◌>>=◌, with_hint, with_no_kind, with_kind, has_leading_zero, parts_after, written_of, few_of, position_of, kind_at, kind_part_of, hint_at, hint_part_of, hint_len, param_of}
use Rattle.defmt_grammar.proofs.Cuts.{cut_again, cut_found, cut-lacks, behind_again, behind_found, number_again}
use Rattle.defmt_grammar.proofs.KindLaws.{kind_found, kind_again, fault_found, fault_again}
use Rattle.defmt_grammar.proofs.HintLaws.{hint_found, hint_again}
use Rattle.defmt_grammar.proofs.Leads.{StartsNoDigit, lead_found, lead_stops, lead_again}

pub bind_okay : {A B : Type 0} (r : Result A Fault) (f : A → Result B Fault) (y : B) → (r >>= f) ≡ Ok y → (x : A) × (r ≡ Ok x) × (f x ≡ Ok y)
bind_okay (Ok x) f y e = (x, refl, e)
bind_okay (Err d) f y e = absurd cc

pub bind_err : {A B : Type 0} (r : Result A Fault) (f : A → Result B Fault) (d : Fault) → (r >>= f) ≡ Err d → (r ≡ Err d) ⊎ ((x : A) × (r ≡ Ok x) × (f x ≡ Err d))
bind_err (Ok x) f d e = inr (x, refl, e)
bind_err (Err c) f d e = inl (let k : c ≡ d = cc in ap Err k)

abbrev done : {A : Type 0} → A → Result A Fault
done x = Ok x

pub okay_is : {A : Type 0} (x y : A) → done x ≡ done y → x ≡ y
okay_is x y e = cc

abbrev failed : {A : Type 0} → Fault → Result A Fault
failed d = Err d

pub err_is : {A : Type 0} (c d : Fault) → failed {A = A} c ≡ failed d → c ≡ d
err_is c d e = cc

-- ---- parts

none_more : (c x : ℕ) (xs : List ℕ) (b : Bool) (o : Option (List ℕ × List ℕ)) → eqb x c ≡ b → (o ≡ None → Lacks c xs) → cond {A = Option (List ℕ × List ℕ)} b (Some ([], xs)) (option_map (λ (r : List ℕ × List ℕ). (x ∷ r.0, r.1)) o) ≡ None → Lacks c (x ∷ xs)
none_more c x xs true o e k h = absurd cc
none_more c x xs false None e k h = (e, k refl)
none_more c x xs false (Some q) e k h = absurd cc

zero_from : (digits : List ℕ) (o : Option (List ℕ)) → behind 48 digits ≡ o → is_some o ≡ true → 1 < length digits → HasLeadingZero digits
zero_from digits None e h long = absurd cc
zero_from digits (Some []) e h long = absurd (let k = behind_found 48 digits [] e in omega (arith, ap length k))
zero_from digits (Some (d ∷ more)) e h long = (d, more, behind_found 48 digits (d ∷ more) e)

zero_is_leading : (d : ℕ) (more : List ℕ) → has_leading_zero (48 ∷ d ∷ more) ≡ true
zero_is_leading d more = let k : ltb 1 (suc (suc (length more))) ≡ true = lt-ltb 1 (suc (suc (length more))) (omega arith) in rw (k, behind_again 48 (d ∷ more)) refl

pub cut_none : (c : ℕ) (xs : List ℕ) → cut c xs ≡ None → Lacks c xs
unfolding cut
cut_none c [] h = tt
cut_none c (x ∷ xs) h = none_more c x xs (eqb x c) (cut c xs) refl (cut_none c xs) h

leading_zero : (digits : List ℕ) → has_leading_zero digits ≡ true → HasLeadingZero digits
leading_zero digits h =
    let k = and_parts (ltb 1 (length digits)) (is_some (behind 48 digits)) h in
    zero_from digits (behind 48 digits) refl k.1 (ltb-true 1 (length digits) k.0)

no_leading_zero : (digits : List ℕ) → has_leading_zero digits ≡ false → HasLeadingZero digits → ⊥
no_leading_zero digits h (d, more, e) = let k : has_leading_zero digits ≡ true = ap has_leading_zero e ∙ zero_is_leading d more in absurd cc

not_leading : (digits : List ℕ) (b : Bool) → has_leading_zero digits ≡ b → (HasLeadingZero digits → ⊥) → b ≡ false
not_leading digits true e h = absurd (h (leading_zero digits e))
not_leading digits false e h = refl

abbrev Parted : List ℕ → List ℕ → Parts → Type 0
Parted digits rest p = (p.digits ≡ digits) × KindLacksColon p.kind × (rest ≡ kind_part p.kind ++ hint_part p.hint)

abbrev StartsWrong : List ℕ → List ℕ → Fault → Type 0
StartsWrong digits rest fault = (c : ℕ) × (more : List ℕ) × (rest ≡ c ∷ more) × (c ≢ 61) × (c ≢ 58) × (fault ≡ record { cause = causes.Brace; at = 1 + length digits })

with_hint_parted : (digits more : List ℕ) (o : Option (List ℕ × List ℕ)) → cut 58 more ≡ o → Parted digits (61 ∷ more) (with_hint digits more o)
with_hint_parted digits more None e = (refl, cut_none 58 more e, simp append-nil)
with_hint_parted digits more (Some p) e = let k = cut_found 58 more p e in (refl, k.1, ap (λ (t : List ℕ). 61 ∷ t) k.0)

nonempty : (c : ℕ) (rest : List ℕ) → eqb (length (c ∷ rest)) 0 ≡ false
nonempty c rest = grind (arith, nat_tests)

nonempty_err : (c : ℕ) (rest digits : List ℕ) (p : Parts) → with_no_kind digits (c ∷ rest) None ≡ Ok p → ⊥
nonempty_err c rest digits p h = let k = rw (nonempty c rest) at h in cc

no_kind_found : (digits rest : List ℕ) (o : Option (List ℕ)) (p : Parts) → behind 58 rest ≡ o → with_no_kind digits rest o ≡ Ok p → Parted digits rest p
no_kind_found digits rest (Some hint) p e h = subst (Parted digits rest) (okay_is (record { digits = digits; kind = None; hint = Some hint }) p h) (refl, tt, behind_found 58 rest hint e)
no_kind_found digits [] None p e h = subst (Parted digits []) (okay_is (record { digits = digits; kind = None; hint = None }) p h) (refl, tt, refl)
no_kind_found digits (c ∷ rest) None p e h = absurd (nonempty_err c rest digits p h)

with_kind_found : (digits rest : List ℕ) (o : Option (List ℕ)) (p : Parts) → behind 61 rest ≡ o → with_kind digits rest o ≡ Ok p → Parted digits rest p
with_kind_found digits rest (Some more) p e h = subst (Parted digits rest) (okay_is (with_hint digits more (cut 58 more)) p h) (subst (λ (r : List ℕ). Parted digits r (with_hint digits more (cut 58 more))) (sym (behind_found 61 rest more e)) (with_hint_parted digits more (cut 58 more) refl))
with_kind_found digits rest None p e h = no_kind_found digits rest (behind 58 rest) p refl h

behind_test : (c x : ℕ) (xs : List ℕ) (b : Bool) → eqb x c ≡ b → cond b (Some xs) None ≡ None → x ≡ c → ⊥
behind_test c x xs true e h same = cc
behind_test c x xs false e h same = let k : eqb x c ≡ true = grind (arith, nat_tests) in cc

behind_not : (c x : ℕ) (xs : List ℕ) → behind c (x ∷ xs) ≡ None → x ≢ c
unfolding behind
behind_not c x xs h = behind_test c x xs (eqb x c) refl h

with_no_kind_err : (digits rest : List ℕ) (o : Option (List ℕ)) (f : Fault) → behind 61 rest ≡ None → behind 58 rest ≡ o → with_no_kind digits rest o ≡ Err f → StartsWrong digits rest f
with_no_kind_err digits rest (Some hint) f n e h = absurd cc
with_no_kind_err digits [] None f n e h = absurd cc
with_no_kind_err digits (c ∷ rest) None f n e h =
    let k : failed {A = Parts} (record { cause = causes.Brace; at = 1 + length digits }) ≡ failed f = rw (nonempty c rest) at h in
    (c, rest, refl, behind_not 61 c rest n, behind_not 58 c rest e, sym (err_is (record { cause = causes.Brace; at = 1 + length digits }) f k))

with_kind_err : (digits rest : List ℕ) (o : Option (List ℕ)) (f : Fault) → behind 61 rest ≡ o → with_kind digits rest o ≡ Err f → StartsWrong digits rest f
with_kind_err digits rest (Some more) f e h = absurd cc
with_kind_err digits rest None f e h = with_no_kind_err digits rest (behind 58 rest) f e refl h

-- what is read after the digits
after_found : (d : List ℕ × List ℕ) (b : Bool) (p : Parts) → has_leading_zero d.0 ≡ b → cond b (Err (record { cause = causes.Brace; at = 1 })) (with_kind d.0 d.1 (behind 61 d.1)) ≡ Ok p → (b ≡ false) × Parted d.0 d.1 p
after_found d true p e h = absurd cc
after_found d false p e h = (refl, with_kind_found d.0 d.1 (behind 61 d.1) p refl h)

pub written_found : (inside : List ℕ) (p : Parts) → written_of inside ≡ Ok p → Writes inside p
unfolding written_of parts_after
written_found inside p h =
    let l = lead_found inside in
    let a = after_found (lead inside) (has_leading_zero (lead inside).0) p refl h in
    record {
      digits = rw a.1.0 l.1;
      no_leading_zero = rw a.1.0 (no_leading_zero (lead inside).0 a.0);
      kind = a.1.1;
      text = l.0 ∙ ap (λ (t : List ℕ). t ++ (lead inside).1) (sym a.1.0) ∙ ap (λ (t : List ℕ). p.digits ++ t) a.1.2;
    }

abbrev after : Bool → List ℕ → List ℕ → Result Parts Fault
after b digits rest = cond b (Err (record { cause = causes.Brace; at = 1 })) (with_kind digits rest (behind 61 rest))

written_by : (inside digits rest : List ℕ) (b : Bool) → lead inside ≡ (digits, rest) → has_leading_zero digits ≡ b → written_of inside ≡ after b digits rest
unfolding written_of parts_after
written_by inside digits rest b e z = ap parts_after e ∙ ap (λ (c : Bool). after c digits rest) z

part_stops : (kind hint : Option (List ℕ)) → StartsNoDigit (kind_part kind ++ hint_part hint)
part_stops None None = tt
part_stops None (Some hint) = refl
part_stops (Some kind) hint = refl

with_kind_again : (digits : List ℕ) (kind hint : Option (List ℕ)) → KindLacksColon kind → with_kind digits (kind_part kind ++ hint_part hint) (behind 61 (kind_part kind ++ hint_part hint)) ≡ Ok (record { digits = digits; kind = kind; hint = hint })
unfolding behind
with_kind_again digits None None h = refl
with_kind_again digits None (Some hint) h = refl
with_kind_again digits (Some kind) None h = rw (append-nil kind, cut-lacks 58 kind h) refl
with_kind_again digits (Some kind) (Some hint) h = rw (cut_again 58 kind hint h) refl

pub written_again : (inside : List ℕ) (p : Parts) → Writes inside p → written_of inside ≡ Ok p
written_again inside p w =
    let rest = kind_part p.kind ++ hint_part p.hint in
    let l : lead inside ≡ (p.digits, rest) = ap lead w.text ∙ lead_again p.digits rest w.digits (part_stops p.kind p.hint) in
    let z : has_leading_zero p.digits ≡ false = not_leading p.digits (has_leading_zero p.digits) refl w.no_leading_zero in
    written_by inside p.digits rest false l z ∙ with_kind_again p.digits p.kind p.hint w.kind

written_test : (inside : List ℕ) (b : Bool) (f : Fault) → has_leading_zero (lead inside).0 ≡ b → after b (lead inside).0 (lead inside).1 ≡ Err f → HasZeroFault inside f ⊎ HasCharFault inside f
written_test inside true f e h =
    let l = lead_found inside in
    inl (record { digits = (lead inside).0; rest = (lead inside).1; are_digits = l.1; zero = leading_zero (lead inside).0 e; text = l.0; is = sym (err_is {A = Parts} (record { cause = causes.Brace; at = 1 }) f h) })
written_test inside false f e h =
    let l = lead_found inside in
    let k = with_kind_err (lead inside).0 (lead inside).1 (behind 61 (lead inside).1) f refl h in
    let stops : StartsNoDigit (k.0 ∷ k.1) = subst StartsNoDigit k.2 (lead_stops inside) in
    inr (record { digits = (lead inside).0; char = k.0; rest = k.1; are_digits = l.1; no_leading_zero = no_leading_zero (lead inside).0 e; no_digit = stops; no_kind = k.3; no_hint = k.4; text = l.0 ∙ ap (λ (t : List ℕ). (lead inside).0 ++ t) k.2; is = k.5 })

pub written_err : (inside : List ℕ) (f : Fault) → written_of inside ≡ Err f → HasZeroFault inside f ⊎ HasCharFault inside f
unfolding written_of parts_after
written_err inside f h = written_test inside (has_leading_zero (lead inside).0) f refl h

zero_leads : (d : ℕ) (more : List ℕ) → is_ascii_digit d ≡ true → has_leading_zero (lead (48 ∷ d ∷ more)).0 ≡ true
unfolding lead
zero_leads d more h = rw h (zero_is_leading d (lead more).0)

pub zero_again : (inside : List ℕ) (f : Fault) → HasZeroFault inside f → written_of inside ≡ Err f
zero_again inside f h =
    let d = h.zero.0 in
    let more = h.zero.1 in
    let e : inside ≡ 48 ∷ d ∷ (more ++ h.rest) = h.text ∙ ap (λ (t : List ℕ). t ++ h.rest) h.zero.2 in
    let digits : all_ascii_digits (48 ∷ d ∷ more) ≡ true = rw h.zero.2 at h.are_digits in
    let one : is_ascii_digit d ≡ true = (and_parts (is_ascii_digit d) (all_ascii_digits more) digits).0 in
    let z : has_leading_zero (lead inside).0 ≡ true = ap (λ (t : List ℕ). has_leading_zero (lead t).0) e ∙ zero_leads d (more ++ h.rest) one in
    written_by inside (lead inside).0 (lead inside).1 true refl z ∙ ap Err (sym h.is)

wrong_start : (digits : List ℕ) (c : ℕ) (rest : List ℕ) → c ≢ 61 → c ≢ 58 → with_kind digits (c ∷ rest) (behind 61 (c ∷ rest)) ≡ Err (record { cause = causes.Brace; at = 1 + length digits })
unfolding behind
wrong_start digits c rest a b = rw (ne_eqb c 61 a, ne_eqb c 58 b, nonempty c rest) refl

pub char_again : (inside : List ℕ) (f : Fault) → HasCharFault inside f → written_of inside ≡ Err f
char_again inside f h =
    let l : lead inside ≡ (h.digits, h.char ∷ h.rest) = ap lead h.text ∙ lead_again h.digits (h.char ∷ h.rest) h.are_digits h.no_digit in
    let z : has_leading_zero h.digits ≡ false = not_leading h.digits (has_leading_zero h.digits) refl h.no_leading_zero in
    written_by inside h.digits (h.char ∷ h.rest) false l z ∙ wrong_start h.digits h.char h.rest h.no_kind h.no_hint ∙ ap Err (sym h.is)

-- ---- positions

few_test : (n k : ℕ) (b : Bool) → leb n 15 ≡ b → cond b (Ok n) (Err (record { cause = causes.Many; at = 0 })) ≡ done k → (n ≡ k) × (n ≤ 15)
few_test n k true e h = (okay_is n k h, grind (arith, nat_tests))
few_test n k false e h = absurd cc

many_test : (n : ℕ) (f : Fault) (b : Bool) → leb n 15 ≡ b → cond b (done n) (Err (record { cause = causes.Many; at = 0 })) ≡ Err f → (15 < n) × (f ≡ record { cause = causes.Many; at = 0 })
many_test n f true e h = absurd cc
many_test n f false e h = (grind (arith, nat_tests), sym (err_is {A = ℕ} (record { cause = causes.Many; at = 0 }) f h))

few_found : (n k : ℕ) → few_of n ≡ Ok k → (n ≡ k) × (n ≤ 15)
few_found n k h = few_test n k (leb n 15) refl h

few_again : (n : ℕ) → n ≤ 15 → few_of n ≡ Ok n
few_again n le = let e : leb n 15 ≡ true = grind (arith, nat_tests) in rw e refl

few_err : (n : ℕ) (f : Fault) → few_of n ≡ Err f → (15 < n) × (f ≡ record { cause = causes.Many; at = 0 })
few_err n f h = many_test n f (leb n 15) refl h

many_again : (n : ℕ) → 15 < n → few_of n ≡ Err (record { cause = causes.Many; at = 0 })
many_again n lt = let e : leb n 15 ≡ false = grind (arith, nat_tests) in rw e refl

capped_value : (d : ℕ) (ds : List ℕ) → all_ascii_digits (d ∷ ds) ≡ true → (n : ℕ) × IsDecimal (d ∷ ds) n × (number_of (d ∷ ds) ≡ Some (min n (2 ^ 32 - 1)))
capped_value d ds h = let k : IsDecimal (d ∷ ds) (digits_value 10 (d ∷ ds)) = record { some = omega arith; digits = h; value = refl } in (digits_value 10 (d ∷ ds), k, number_again (d ∷ ds) (digits_value 10 (d ∷ ds)) k)

abbrev read_position : ℕ → List ℕ → ℕ
read_position next digits = cond (eqb (length digits) 0) next (unwrap_or (number_of digits) 0)

-- the position that is written, as it is read
read_is : (next : ℕ) (digits : List ℕ) → all_ascii_digits digits ≡ true → (n : ℕ) × IsPosition next digits n × ((n ≤ 15 → read_position next digits ≡ n) × (15 < n → 15 < read_position next digits) × (read_position next digits ≤ 15 → n ≡ read_position next digits) × (15 < read_position next digits → 15 < n))
read_is next [] h = (next, refl, (λ le. refl, λ lt. lt, λ le. refl, λ lt. lt))
read_is next (d ∷ ds) h =
    let k = capped_value d ds h in
    let r : read_position next (d ∷ ds) ≡ min k.0 (2 ^ 32 - 1) = rw (nonempty d ds, k.2) refl in
    (k.0, k.1, (λ le. omega (arith, r), λ lt. omega (arith, r), λ le. omega (arith, r), λ lt. omega (arith, r)))

one_position : (next : ℕ) (digits : List ℕ) (m n : ℕ) → IsPosition next digits m → IsPosition next digits n → m ≡ n
one_position next [] m n p q = p ∙ sym q
one_position next (d ∷ ds) m n p q = sym p.value ∙ q.value

pub position_found : (next : ℕ) (digits : List ℕ) (n : ℕ) → all_ascii_digits digits ≡ true → position_of next digits ≡ Ok n → IsPosition next digits n × (n ≤ 15)
unfolding position_of
position_found next digits n d h =
    let k = few_found (read_position next digits) n h in
    let r = read_is next digits d in
    let same : r.0 ≡ n = r.2.2 k.1 ∙ k.0 in
    (subst (IsPosition next digits) same r.1, omega (arith, k.0, k.1))

pub position_again : (next : ℕ) (digits : List ℕ) (n : ℕ) → all_ascii_digits digits ≡ true → IsPosition next digits n → n ≤ 15 → position_of next digits ≡ Ok n
unfolding position_of
position_again next digits n d p le =
    let r = read_is next digits d in
    let same : r.0 ≡ n = one_position next digits r.0 n r.1 p in
    let is : read_position next digits ≡ n = r.2.0 (omega (arith, same)) ∙ same in
    ap few_of is ∙ few_again n le

pub position_err : (next : ℕ) (digits : List ℕ) (f : Fault) → all_ascii_digits digits ≡ true → position_of next digits ≡ Err f → (n : ℕ) × IsPosition next digits n × (15 < n) × (f ≡ record { cause = causes.Many; at = 0 })
unfolding position_of
position_err next digits f d h =
    let k = few_err (read_position next digits) f h in
    let r = read_is next digits d in
    (r.0, r.1, r.2.3 k.0, k.1)

pub position_many : (next : ℕ) (digits : List ℕ) (n : ℕ) → all_ascii_digits digits ≡ true → IsPosition next digits n → 15 < n → position_of next digits ≡ Err (record { cause = causes.Many; at = 0 })
unfolding position_of
position_many next digits n d p lt =
    let r = read_is next digits d in
    let same : r.0 ≡ n = one_position next digits r.0 n r.1 p in
    many_again (read_position next digits) (r.2.1 (omega (arith, same)))

-- ---- kinds and hints of a parameter

abbrev fault_at : Cause → ℕ → Fault
fault_at cause at = record { cause = cause; at = at }

kind_at_ok : (at : ℕ) (r : Result Kind KindFault) (kind : Kind) → kind_at at r ≡ Ok kind → r ≡ Ok kind
kind_at_ok at (Ok k) kind h = ap Ok (okay_is k kind h)
kind_at_ok at (Err f) kind h = absurd cc

kind_at_err : (at : ℕ) (r : Result Kind KindFault) (f : Fault) → kind_at at r ≡ Err f → (k : KindFault) × (r ≡ Err k) × (f ≡ fault_at (cause_of k) at)
kind_at_err at (Ok k) f h = absurd cc
kind_at_err at (Err k) f h = (k, refl, sym (err_is {A = Kind} (fault_at (cause_of k) at) f h))

pub kind_part_found : (language : Language) (text : Option (List ℕ)) (at : ℕ) (kind : Kind) → kind_part_of language text at ≡ Ok kind → SpellsKindPart language text kind
kind_part_found language None at kind h = sym (okay_is Format kind h)
kind_part_found language (Some text) at kind h = kind_found language text kind (kind_at_ok at (kind_of language text) kind h)

pub kind_part_again : (language : Language) (text : Option (List ℕ)) (at : ℕ) (kind : Kind) → SpellsKindPart language text kind → kind_part_of language text at ≡ Ok kind
kind_part_again language None at kind h = ap Ok (sym h)
kind_part_again language (Some text) at kind h = ap (kind_at at) (kind_again language text kind h)

pub kind_part_err : (language : Language) (text : Option (List ℕ)) (at : ℕ) (f : Fault) → kind_part_of language text at ≡ Err f → (t : List ℕ) × (k : KindFault) × (text ≡ Some t) × HasKindFault language t k × (f ≡ fault_at (cause_of k) at)
kind_part_err language None at f h = absurd cc
kind_part_err language (Some text) at f h = let k = kind_at_err at (kind_of language text) f h in (text, k.0, refl, fault_found language text k.0 k.1, k.2)

spells_none : (language : Language) (text : List ℕ) → hint_of language text ≡ None → SpellsNoHint language text
spells_none language text e = λ hint spells. let k = hint_again language text hint spells in absurd cc

reads_none : (language : Language) (text : List ℕ) (o : Option Hint) → hint_of language text ≡ o → SpellsNoHint language text → o ≡ None
reads_none language text None e h = refl
reads_none language text (Some hint) e h = absurd (h hint (hint_found language text hint e))

-- where no hint is known, it is read as Plain, or refused
unknown_found : (b : Bool) (at : ℕ) (hint : Hint) → cond b (done Plain) (failed (fault_at causes.Hint at)) ≡ Ok hint → (b ≡ true) × (hint ≡ Plain)
unknown_found true at hint k = (refl, sym (okay_is Plain hint k))
unknown_found false at hint k = absurd cc

unknown_err : (b : Bool) (at : ℕ) (f : Fault) → cond b (done Plain) (failed (fault_at causes.Hint at)) ≡ Err f → (b ≡ false) × (f ≡ fault_at causes.Hint at)
unknown_err true at f k = absurd cc
unknown_err false at f k = (refl, sym (err_is {A = Hint} (fault_at causes.Hint at) f k))

hint_at_found : (mode : Mode) (at : ℕ) (text : List ℕ) (o : Option Hint) (hint : Hint) → hint_of (language_of mode) text ≡ o → hint_at mode at o ≡ Ok hint → SpellsHintPart mode (Some text) hint
hint_at_found mode at text (Some h) hint e k = inl (hint_found (language_of mode) text hint (e ∙ ap Some (okay_is h hint k)))
hint_at_found mode at text None hint e k = let u = unknown_found (is_lenient mode) at hint k in inr (u.0, spells_none (language_of mode) text e, u.1)

pub hint_part_found : (mode : Mode) (text : Option (List ℕ)) (at : ℕ) (hint : Hint) → hint_part_of mode text at ≡ Ok hint → SpellsHintPart mode text hint
hint_part_found mode None at hint h = sym (okay_is Plain hint h)
hint_part_found mode (Some text) at hint h = hint_at_found mode at text (hint_of (language_of mode) text) hint refl h

pub hint_part_again : (mode : Mode) (text : Option (List ℕ)) (at : ℕ) (hint : Hint) → SpellsHintPart mode text hint → hint_part_of mode text at ≡ Ok hint
hint_part_again mode None at hint h = ap Ok (sym h)
hint_part_again mode (Some text) at hint (inl h) = ap (hint_at mode at) (hint_again (language_of mode) text hint h)
hint_part_again mode (Some text) at hint (inr (lenient, none, plain)) = ap (hint_at mode at) (reads_none (language_of mode) text (hint_of (language_of mode) text) refl none) ∙ rw lenient (ap Ok (sym plain))

hint_at_err : (mode : Mode) (at : ℕ) (text : List ℕ) (o : Option Hint) (f : Fault) → hint_of (language_of mode) text ≡ o → hint_at mode at o ≡ Err f → SpellsNoHint (language_of mode) text × (is_lenient mode ≡ false) × (f ≡ fault_at causes.Hint at)
hint_at_err mode at text (Some h) f e k = absurd cc
hint_at_err mode at text None f e k = let u = unknown_err (is_lenient mode) at f k in (spells_none (language_of mode) text e, u.0, u.1)

pub hint_part_err : (mode : Mode) (text : Option (List ℕ)) (at : ℕ) (f : Fault) → hint_part_of mode text at ≡ Err f → (t : List ℕ) × (text ≡ Some t) × SpellsNoHint (language_of mode) t × (is_lenient mode ≡ false) × (f ≡ fault_at causes.Hint at)
hint_part_err mode None at f h = absurd cc
hint_part_err mode (Some text) at f h = let k = hint_at_err mode at text (hint_of (language_of mode) text) f refl h in (text, refl, k.0, k.1, k.2)

-- ---- parameters

pub hint_place : (inside : List ℕ) (p : Parts) (text : List ℕ) → Writes inside p → p.hint ≡ Some text → length inside + 1 - length text ≡ 2 + length p.digits + length (kind_part p.kind)
hint_place inside p text w e =
    let whole : inside ≡ p.digits ++ (kind_part p.kind ++ 58 ∷ text) = w.text ∙ ap (λ (h : Option (List ℕ)). p.digits ++ (kind_part p.kind ++ hint_part h)) e in
    let len : length inside ≡ length p.digits + (length (kind_part p.kind) + suc (length text)) = ap length whole ∙ length-append p.digits (kind_part p.kind ++ 58 ∷ text) ∙ ap (λ (n : ℕ). length p.digits + n) (length-append (kind_part p.kind) (58 ∷ text)) in
    omega (arith, len)

hint_cases : (inside : List ℕ) (p : Parts) (o : Option (List ℕ)) → Writes inside p → p.hint ≡ o → hint_len o ≤ length inside
hint_cases inside p None w e = omega arith
hint_cases inside p (Some text) w e =
    let whole : inside ≡ p.digits ++ (kind_part p.kind ++ 58 ∷ text) = w.text ∙ ap (λ (h : Option (List ℕ)). p.digits ++ (kind_part p.kind ++ hint_part h)) e in
    let len : length inside ≡ length p.digits + (length (kind_part p.kind) + suc (length text)) = ap length whole ∙ length-append p.digits (kind_part p.kind ++ 58 ∷ text) ∙ ap (λ (n : ℕ). length p.digits + n) (length-append (kind_part p.kind) (58 ∷ text)) in
    omega (arith, len)

pub hint_fits : (inside : List ℕ) (p : Parts) → Writes inside p → hint_len p.hint ≤ length inside
hint_fits inside p w = hint_cases inside p p.hint w refl

abbrev next_of : ℕ → List ℕ → ℕ
next_of next digits = cond (eqb (length digits) 0) (next + 1) next

next_is : (next : ℕ) (digits : List ℕ) → next_of next digits ≡ next_number next digits
next_is next [] = refl
next_is next (d ∷ ds) = rw (nonempty d ds) refl

abbrev made : ℕ → Kind → Hint → ℕ → Param × ℕ
made position kind hint next = (record { position = position; kind = kind; hint = hint }, next)

-- the steps of reading a parameter
abbrev after_hint : ℕ → List ℕ → ℕ → Kind → Hint → Result (Param × ℕ) Fault
after_hint next digits position kind hint = Ok (made position kind hint (next_of next digits))

abbrev after_kind : Mode → ℕ → List ℕ → Parts → ℕ → Kind → Result (Param × ℕ) Fault
after_kind mode next inside w position kind = hint_part_of mode w.hint (length inside + 1 - hint_len w.hint) >>= after_hint next w.digits position kind

abbrev after_position : Mode → ℕ → List ℕ → Parts → ℕ → Result (Param × ℕ) Fault
after_position mode next inside w position = kind_part_of (language_of mode) w.kind (length w.digits + 2) >>= after_kind mode next inside w position

abbrev after_parts : Mode → ℕ → List ℕ → Parts → Result (Param × ℕ) Fault
after_parts mode next inside w = position_of next w.digits >>= after_position mode next inside w

pub param_found : (mode : Mode) (next : ℕ) (inside : List ℕ) (p : Param × ℕ) → param_of mode next inside ≡ Ok p → SpellsParam mode next inside p.0 p.1
unfolding param_of
param_found mode next inside p h =
    let a = bind_okay (written_of inside) (after_parts mode next inside) p h in
    let w = written_found inside a.0 a.1 in
    let b = bind_okay (position_of next a.0.digits) (after_position mode next inside a.0) p a.2 in
    let n = position_found next a.0.digits b.0 w.digits b.1 in
    let c = bind_okay (kind_part_of (language_of mode) a.0.kind (length a.0.digits + 2)) (after_kind mode next inside a.0 b.0) p b.2 in
    let d = bind_okay (hint_part_of mode a.0.hint (length inside + 1 - hint_len a.0.hint)) (after_hint next a.0.digits b.0 c.0) p c.2 in
    subst (λ (q : Param × ℕ). SpellsParam mode next inside q.0 q.1) (okay_is (made b.0 c.0 d.0 (next_of next a.0.digits)) p d.2)
    (record {
      parts = a.0;
      writes = w;
      position = n.0;
      few = n.1;
      kind = kind_part_found (language_of mode) a.0.kind (length a.0.digits + 2) c.0 c.1;
      hint = hint_part_found mode a.0.hint (length inside + 1 - hint_len a.0.hint) d.0 d.1;
      after_is = next_is next a.0.digits;
    })

pub param_again : (mode : Mode) (next : ℕ) (inside : List ℕ) (p : Param) (n : ℕ) → SpellsParam mode next inside p n → param_of mode next inside ≡ Ok (p, n)
unfolding param_of
param_again mode next inside p n s =
    let w = s.parts in
    let a : param_of mode next inside ≡ after_parts mode next inside w = ap (λ (r : Result Parts Fault). r >>= after_parts mode next inside) (written_again inside w s.writes) in
    let b : after_parts mode next inside w ≡ after_position mode next inside w p.position = ap (λ (r : Result ℕ Fault). r >>= after_position mode next inside w) (position_again next w.digits p.position s.writes.digits s.position s.few) in
    let c : after_position mode next inside w p.position ≡ after_kind mode next inside w p.position p.kind = ap (λ (r : Result Kind Fault). r >>= after_kind mode next inside w p.position) (kind_part_again (language_of mode) w.kind (length w.digits + 2) p.kind s.kind) in
    let d : after_kind mode next inside w p.position p.kind ≡ after_hint next w.digits p.position p.kind p.hint = ap (λ (r : Result Hint Fault). r >>= after_hint next w.digits p.position p.kind) (hint_part_again mode w.hint (length inside + 1 - hint_len w.hint) p.hint s.hint) in
    a ∙ b ∙ c ∙ d ∙ ap (λ (k : ℕ). Ok (p, k)) (next_is next w.digits ∙ sym s.after_is)

kind_err : (mode : Mode) (next : ℕ) (inside : List ℕ) (w : Parts) (n : ℕ) (kind : Kind) (f : Fault) → Writes inside w → IsPosition next w.digits n → n ≤ 15 → SpellsKindPart (language_of mode) w.kind kind → after_kind mode next inside w n kind ≡ Err f → HasParamFault mode next inside f
kind_err mode next inside w n kind f writes position few spells h =
    elim (bind_err (hint_part_of mode w.hint (length inside + 1 - hint_len w.hint)) (after_hint next w.digits n kind) f h) [
      | inr a ↦ absurd (let k = a.2 in cc)
      | inl e ↦
          let k = hint_part_err mode w.hint (length inside + 1 - hint_len w.hint) f e in
          let there : length inside + 1 - hint_len w.hint ≡ 2 + length w.digits + length (kind_part w.kind) = ap (λ (t : Option (List ℕ)). length inside + 1 - hint_len t) k.1 ∙ hint_place inside w k.0 writes k.1 in
          inr (inr (inr (inr (record { parts = w; writes = writes; number = n; position = position; few = few; kind = kind; spells_kind = spells; text = k.0; hint = k.1; none = k.2; strict = k.3; is = k.4 ∙ ap (fault_at causes.Hint) there }))))
    ]

position_fault : (mode : Mode) (next : ℕ) (inside : List ℕ) (w : Parts) (n : ℕ) (f : Fault) → Writes inside w → IsPosition next w.digits n → n ≤ 15 → after_position mode next inside w n ≡ Err f → HasParamFault mode next inside f
position_fault mode next inside w n f writes position few h =
    elim (bind_err (kind_part_of (language_of mode) w.kind (length w.digits + 2)) (after_kind mode next inside w n) f h) [
      | inl e ↦
          let k = kind_part_err (language_of mode) w.kind (length w.digits + 2) f e in
          let n2 : length w.digits + 2 ≡ 2 + length w.digits = omega arith in
          inr (inr (inr (inl (record { parts = w; writes = writes; number = n; position = position; few = few; text = k.0; kind = k.2; kind_fault = k.1; has = k.3; is = k.4 ∙ ap (fault_at (cause_of k.1)) n2 }))))
      | inr a ↦ kind_err mode next inside w n a.0 f writes position few (kind_part_found (language_of mode) w.kind (length w.digits + 2) a.0 a.1) a.2
    ]

parts_err : (mode : Mode) (next : ℕ) (inside : List ℕ) (w : Parts) (f : Fault) → Writes inside w → after_parts mode next inside w ≡ Err f → HasParamFault mode next inside f
parts_err mode next inside w f writes h =
    elim (bind_err (position_of next w.digits) (after_position mode next inside w) f h) [
      | inl e ↦ let k = position_err next w.digits f writes.digits e in inr (inr (inl (record { parts = w; writes = writes; number = k.0; position = k.1; many = k.2; is = k.3 })))
      | inr a ↦ let k = position_found next w.digits a.0 writes.digits a.1 in position_fault mode next inside w a.0 f writes k.0 k.1 a.2
    ]

pub param_err : (mode : Mode) (next : ℕ) (inside : List ℕ) (f : Fault) → param_of mode next inside ≡ Err f → HasParamFault mode next inside f
unfolding param_of
param_err mode next inside f h =
    elim (bind_err (written_of inside) (after_parts mode next inside) f h) [
      | inl e ↦ elim (written_err inside f e) [ inl z ↦ inl z | inr c ↦ inr (inl c) ]
      | inr a ↦ parts_err mode next inside a.0 f (written_found inside a.0 a.1) a.2
    ]

pub param_err_again : (mode : Mode) (next : ℕ) (inside : List ℕ) (f : Fault) → HasParamFault mode next inside f → param_of mode next inside ≡ Err f
unfolding param_of
param_err_again mode next inside f (inl z) = ap (λ (r : Result Parts Fault). r >>= after_parts mode next inside) (zero_again inside f z)
param_err_again mode next inside f (inr (inl c)) = ap (λ (r : Result Parts Fault). r >>= after_parts mode next inside) (char_again inside f c)
param_err_again mode next inside f (inr (inr (inl m))) =
    let a = ap (λ (r : Result Parts Fault). r >>= after_parts mode next inside) (written_again inside m.parts m.writes) in
    a ∙ ap (λ (r : Result ℕ Fault). r >>= after_position mode next inside m.parts) (position_many next m.parts.digits m.number m.writes.digits m.position m.many) ∙ ap Err (sym m.is)
param_err_again mode next inside f (inr (inr (inr (inl k)))) =
    let a = ap (λ (r : Result Parts Fault). r >>= after_parts mode next inside) (written_again inside k.parts k.writes) in
    let b = ap (λ (r : Result ℕ Fault). r >>= after_position mode next inside k.parts) (position_again next k.parts.digits k.number k.writes.digits k.position k.few) in
    let e : kind_part_of (language_of mode) k.parts.kind (length k.parts.digits + 2) ≡ Err (fault_at (cause_of k.kind_fault) (length k.parts.digits + 2)) = ap (λ (t : Option (List ℕ)). kind_part_of (language_of mode) t (length k.parts.digits + 2)) k.kind ∙ ap (kind_at (length k.parts.digits + 2)) (fault_again (language_of mode) k.text k.kind_fault k.has) in
    let same : fault_at (cause_of k.kind_fault) (length k.parts.digits + 2) ≡ f = ap (fault_at (cause_of k.kind_fault)) (let n : length k.parts.digits + 2 ≡ 2 + length k.parts.digits = omega arith in n) ∙ sym k.is in
    a ∙ b ∙ ap (λ (r : Result Kind Fault). r >>= after_kind mode next inside k.parts k.number) e ∙ ap Err same
param_err_again mode next inside f (inr (inr (inr (inr k)))) =
    let a = ap (λ (r : Result Parts Fault). r >>= after_parts mode next inside) (written_again inside k.parts k.writes) in
    let b = ap (λ (r : Result ℕ Fault). r >>= after_position mode next inside k.parts) (position_again next k.parts.digits k.number k.writes.digits k.position k.few) in
    let c = ap (λ (r : Result Kind Fault). r >>= after_kind mode next inside k.parts k.number) (kind_part_again (language_of mode) k.parts.kind (length k.parts.digits + 2) k.kind k.spells_kind) in
    let place = length inside + 1 - hint_len k.parts.hint in
    let there : place ≡ 2 + length k.parts.digits + length (kind_part k.parts.kind) = ap (λ (t : Option (List ℕ)). length inside + 1 - hint_len t) k.hint ∙ hint_place inside k.parts k.text k.writes k.hint in
    let e : hint_part_of mode k.parts.hint place ≡ Err (fault_at causes.Hint place) = ap (λ (t : Option (List ℕ)). hint_part_of mode t place) k.hint ∙ ap (hint_at mode place) (reads_none (language_of mode) k.text (hint_of (language_of mode) k.text) refl k.none) ∙ rw k.strict refl in
    a ∙ b ∙ c ∙ ap (λ (r : Result Hint Fault). r >>= after_hint next k.parts.digits k.number k.kind) e ∙ ap Err (ap (fault_at causes.Hint) there ∙ sym k.is)

-- What words ask for, and that they ask for nothing else.
use Rattle.std.proofs.Common.{◌≡◌, ◌<◌, ◌≤◌, ℕ, Bool, true, false, List, [], ◌∷◌, ◌++◌, length, map, get_or, codes, Option, Some, None, Result, Ok, Err, refl, sym, ap, subst, ◌∙◌, arith, length-append}
use Rattle.std.specs.Str.Parse.{ParsesUnsigned}
use Rattle.std.proofs.lemmas.List.{append-nil, get_or-map}
use Rattle.ring_bench.specs.Plan.{Says, SayFour, ending, AsksFor, NumberOf, NumbersOf, PartsOf}

-- ---- one word

-- what std's `parse` answers, without the kind of its error
abbrev pub parsed : {E : Type 0} → Result ℕ E → Option ℕ
parsed (Ok n) = Some n
parsed (Err e) = None

pub number_of : {E : Type 0} (word : List ℕ) (r : Result ℕ E) → ParsesUnsigned 32 10 word r → NumberOf word (parsed r)
number_of word (Ok n) h = h
number_of word (Err e) h = λ n says. h says.0

one_number : (word : List ℕ) (m n : ℕ) → Says word m → Says word n → m ≡ n
one_number word m n a b = a.1 ∙ sym b.1

-- no letter is a decimal digit
timed_is_none : (n : ℕ) → Says (codes "timed") n → ⊥
timed_is_none n says = let few : 29 < 10 = says.0.0.1.0 in absurd (omega (arith, few))

-- ---- lists with the same ends

pub same_ends : (xs ys : List (List ℕ)) (x y : List ℕ) → xs ++ x ∷ [] ≡ ys ++ y ∷ [] → (xs ≡ ys) × (x ≡ y)
same_ends [] [] x y same = (refl, cc)
same_ends [] (b ∷ ys) x y same = absurd (omega (arith, ap length same, length-append ys (y ∷ [])))
same_ends (a ∷ xs) [] x y same = absurd (omega (arith, ap length same, length-append xs (x ∷ [])))
same_ends (a ∷ xs) (b ∷ ys) x y same =
    let more = same_ends xs ys x y (cc same) in
    (cc (more.0, same), more.1)

behind_name : (name other : List ℕ) (xs ys : List (List ℕ)) → name ∷ xs ≡ other ∷ ys → xs ≡ ys
behind_name name other xs ys same = cc same

-- ---- four words

same_four : (words : List (List ℕ)) (a b c d e f g h : ℕ) → SayFour words a b c d → SayFour words e f g h → (a ≡ e) × (b ≡ f) × (c ≡ g) × (d ≡ h)
same_four words a b c d e f g h s t =
    let same : s.first ∷ s.second ∷ s.third ∷ s.fourth ∷ [] ≡ t.first ∷ t.second ∷ t.third ∷ t.fourth ∷ [] = sym s.words_are ∙ t.words_are in
    let first : s.first ≡ t.first = cc same in
    let second : s.second ≡ t.second = cc same in
    let third : s.third ≡ t.third = cc same in
    let fourth : s.fourth ≡ t.fourth = cc same in (
      one_number t.first a e (subst (λ (w : List ℕ). Says w a) first s.says_a) t.says_a,
      one_number t.second b f (subst (λ (w : List ℕ). Says w b) second s.says_b) t.says_b,
      one_number t.third c g (subst (λ (w : List ℕ). Says w c) third s.says_c) t.says_c,
      one_number t.fourth d h (subst (λ (w : List ℕ). Says w d) fourth s.says_d) t.says_d,
    )

-- four numbers don't end with `timed`
no_timed : (numbers front : List (List ℕ)) (a b c d : ℕ) → SayFour numbers a b c d → numbers ≡ front ++ ending true → ⊥
no_timed numbers front a b c d s same =
    let ends = same_ends (s.first ∷ s.second ∷ s.third ∷ []) front s.fourth (codes "timed") (sym s.words_are ∙ same) in
    timed_is_none d (subst (λ (w : List ℕ). Says w d) ends.1 s.says_d)

-- ---- all words

-- what the words ask for is said between the name and `timed`
pub between : (words numbers : List (List ℕ)) (timed told : Bool) (a b c d : ℕ) → PartsOf words (Some (numbers, timed)) → AsksFor words a b c d told → (timed ≡ told) × SayFour numbers a b c d
between words numbers true true a b c d p asks =
    let same : numbers ≡ asks.numbers = (same_ends numbers asks.numbers (codes "timed") (codes "timed") (behind_name p.0 asks.name (numbers ++ ending true) (asks.numbers ++ ending true) (sym p.1 ∙ asks.words_are))).0 in
    (refl, subst (λ (l : List (List ℕ)). SayFour l a b c d) (sym same) asks.say)
between words numbers true false a b c d p asks =
    let same : asks.numbers ≡ numbers ++ ending true =
    sym (append-nil asks.numbers) ∙ sym (behind_name p.0 asks.name (numbers ++ ending true) (asks.numbers ++ ending false) (sym p.1 ∙ asks.words_are)) in
    absurd (no_timed asks.numbers numbers a b c d asks.say same)
between words numbers false true a b c d p asks =
    absurd (p.2 asks.numbers (behind_name p.0 asks.name numbers (asks.numbers ++ ending true) (sym p.1 ∙ asks.words_are)))
between words numbers false false a b c d p asks =
    let same : numbers ≡ asks.numbers = behind_name p.0 asks.name numbers (asks.numbers ++ ending false) (sym p.1 ∙ asks.words_are) ∙ append-nil asks.numbers in
    (refl, subst (λ (l : List (List ℕ)). SayFour l a b c d) (sym same) asks.say)

-- the plan that is answered
pub asks_for : (words numbers : List (List ℕ)) (timed : Bool) (a b c d : ℕ) → PartsOf words (Some (numbers, timed)) → SayFour numbers a b c d
    → 16 ≤ a → a ≤ 65536 → 0 < b → b ≤ 2000 → AsksFor words a b c d timed
asks_for words numbers true a b c d p say least most some few =
    record { name = p.0; numbers = numbers; words_are = p.1; say = say; size_least = least; size_most = most; frame_least = some; frame_most = few }
asks_for words numbers false a b c d p say least most some few =
    record {
      name = p.0;
      numbers = numbers;
      words_are = p.1 ∙ ap (λ (l : List (List ℕ)). p.0 ∷ l) (sym (append-nil numbers));
      say = say;
      size_least = least;
      size_most = most;
      frame_least = some;
      frame_most = few;
    }

-- why no plan is answered
pub no_name : (words : List (List ℕ)) (a b c d : ℕ) (told : Bool) → PartsOf words None → AsksFor words a b c d told → ⊥
no_name words a b c d told none asks = absurd (cc (sym none ∙ asks.words_are))

pub no_numbers : (words numbers : List (List ℕ)) (timed : Bool) (a b c d : ℕ) (told : Bool) → PartsOf words (Some (numbers, timed)) → NumbersOf numbers None → AsksFor words a b c d told → ⊥
no_numbers words numbers timed a b c d told p none asks = none a b c d (between words numbers timed told a b c d p asks).1

pub out_of_range : (words numbers : List (List ℕ)) (timed : Bool) (a b c d e f g h : ℕ) (told : Bool) → PartsOf words (Some (numbers, timed)) → SayFour numbers a b c d
    → (16 ≤ a → a ≤ 65536 → 0 < b → b ≤ 2000 → ⊥) → AsksFor words e f g h told → ⊥
out_of_range words numbers timed a b c d e f g h told p say outside asks =
    let same = same_four numbers a b c d e f g h say (between words numbers timed told e f g h p asks).1 in
    outside (omega (arith, same.0, asks.size_least)) (omega (arith, same.0, asks.size_most)) (omega (arith, same.1, asks.frame_least)) (omega (arith, same.1, asks.frame_most))

-- ---- words of a slice

-- the text of the word at a place
pub word_at : {X : Type 0} (f : X → List ℕ) (xs : List X) (k : ℕ) (x : X) → k < length xs → x ≡ get_or xs k x → f x ≡ get_or (map f xs) k []
word_at f xs k x within is = ap f is ∙ sym (get_or-map f xs k x [] within)

pub first_said : (words : List (List ℕ)) (a b c d : ℕ) → SayFour words a b c d → (n : ℕ) × Says (get_or words 0 []) n
first_said words a b c d s = (a, subst (λ (l : List (List ℕ)). Says (get_or l 0 []) a) (sym s.words_are) s.says_a)

pub second_said : (words : List (List ℕ)) (a b c d : ℕ) → SayFour words a b c d → (n : ℕ) × Says (get_or words 1 []) n
second_said words a b c d s = (b, subst (λ (l : List (List ℕ)). Says (get_or l 1 []) b) (sym s.words_are) s.says_b)

pub third_said : (words : List (List ℕ)) (a b c d : ℕ) → SayFour words a b c d → (n : ℕ) × Says (get_or words 2 []) n
third_said words a b c d s = (c, subst (λ (l : List (List ℕ)). Says (get_or l 2 []) c) (sym s.words_are) s.says_c)

pub fourth_said : (words : List (List ℕ)) (a b c d : ℕ) → SayFour words a b c d → (n : ℕ) × Says (get_or words 3 []) n
fourth_said words a b c d s = (d, subst (λ (l : List (List ℕ)). Says (get_or l 3 []) d) (sym s.words_are) s.says_d)

-- a word that says no number is none of the four
pub none_by : (words : List (List ℕ)) (word : List ℕ) (k : ℕ) (o : Option ℕ) (r : Option (ℕ × ℕ × ℕ × ℕ)) → word ≡ get_or words k [] → NumberOf word o → o ≡ None → r ≡ None
    → ((a b c d : ℕ) → SayFour words a b c d → (n : ℕ) × Says (get_or words k []) n) → NumbersOf words r
none_by words word k o r at number none is said =
    subst (λ (p : Option (ℕ × ℕ × ℕ × ℕ)). NumbersOf words p) (sym is)
    (λ a b c d s.
    let f = said a b c d s in
    let no : (n : ℕ) → Says word n → ⊥ = subst (λ (p : Option ℕ). NumberOf word p) none number in
    no f.0 (subst (λ (w : List ℕ). Says w f.0) (sym at) f.1))

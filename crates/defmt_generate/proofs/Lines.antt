-- The lines of a generated text.
use Rattle.std.proofs.Common.{◌≡◌, ◌<◌, ◌+◌, ◌-◌, ◌%◌, ℕ, zero, suc, Bool, true, false, List, [], ◌∷◌, ◌++◌, refl, sym, ap, ◌∙◌, arith, length, get_or, append_assoc, append-nil}
use Rattle.std.specs.Prelude.{◌&&◌, ◌==◌, codes, if◌then◌else◌, nat_lt}
use Rattle.std.specs.Fmt.{decimal}
use Rattle.std.specs.List.{All, AllByRecursion, slice_split}
use Rattle.std.specs.Str.Lines.{lines, lines_of_parts, strip_carriage_return}
use Rattle.std.proofs.lemmas.List.Elements.{All-from_recursion, All-get_or, All-weaker}
use Rattle.std.proofs.lemmas.List.Splits.{length-slice_split, slice_split_at}
use Rattle.std.proofs.lemmas.Bool.{ne_eqb}
use Rattle.std.proofs.lemmas.Bool.Decides.{nat_tests}
use Rattle.defmt_generate.specs.Generated.{call, drawn, generated, head, statement, statements}
use Rattle.defmt_generate.proofs.Texts.{ArePrintable, Printable, are_printable, both, printable-append, printable_call, printable_decimal, tested}
use Rattle.defmt_generate.specs.Lines.{head_lines, statement_line, statement_lines}

-- ---- one line

chosen : (b : Bool) (xs ys : List ℕ) → b ≡ false → (if b then xs else ys) ≡ ys
chosen true xs ys e = absurd (cc e)
chosen false xs ys e = refl

-- no carriage return is at the end
unstripped : (line : List ℕ) → ArePrintable line → 0 < length line → strip_carriage_return line ≡ line
unstripped line p some =
    let last : Printable (get_or line (length line - 1) 0) = All-get_or Printable line (length line - 1) 0 (omega arith) (All-from_recursion Printable line p) in
    chosen (get_or line (length line - 1) 0 == 13) _ line (ne_eqb (get_or line (length line - 1) 0) 13 (λ e. absurd (omega (arith, e, last.0))))

first_part : (line : List ℕ) (parts : List (List ℕ)) → 0 < length parts → strip_carriage_return line ≡ line → lines_of_parts (line ∷ parts) ≡ line ∷ lines_of_parts parts
first_part line [] some same = absurd (omega arith)
first_part line (part ∷ parts) some same = ap (λ (xs : List ℕ). xs ∷ lines_of_parts (part ∷ parts)) same

pub one_line : (line rest : List ℕ) → ArePrintable line → 0 < length line → lines (line ++ 10 ∷ rest) ≡ line ∷ lines rest
one_line line rest p some =
    let parts : List (List ℕ) = slice_split (λ b. b == 10) rest in
    let none : All (λ b. (b == 10) ≡ false) line = All-weaker Printable (λ b. (b == 10) ≡ false) (λ b h. ne_eqb b 10 (λ e. absurd (omega (arith, e, h.0)))) line (All-from_recursion Printable line p) in
    ap lines_of_parts (slice_split_at (λ b. b == 10) line 10 rest none refl)
    ∙ first_part line parts (omega (arith, length-slice_split (λ b. b == 10) rest)) (unstripped line p some)

-- ---- lines, one after another

-- each line with a newline behind it, in front of a rest
abbrev pub with_newlines : List (List ℕ) → List ℕ → List ℕ
with_newlines [] rest = rest
with_newlines (line ∷ more) rest = line ++ 10 ∷ with_newlines more rest

abbrev IsLine : List ℕ → Type 0
IsLine line = ArePrintable line × (0 < length line)

all_lines : (ls : List (List ℕ)) (rest : List ℕ) → AllByRecursion IsLine ls → lines (with_newlines ls rest) ≡ ls ++ lines rest
all_lines [] rest h = refl
all_lines (line ∷ ls) rest h = one_line line (with_newlines ls rest) h.0.0 h.0.1 ∙ ap (λ (more : List (List ℕ)). line ∷ more) (all_lines ls rest h.1)

-- ---- the lines of statements

lined : (i : ℕ) → statement i ≡ statement_line i ++ 10 ∷ []
unfolding statement
lined i = sym (
    append_assoc (codes "w ") (decimal (i % 4) ++ (codes " " ++ call (i % 5) (drawn i))) (10 ∷ [])
    ∙ ap (λ (xs : List ℕ). codes "w " ++ xs) (append_assoc (decimal (i % 4)) (codes " " ++ call (i % 5) (drawn i)) (10 ∷ [])))

all_lined : (count i : ℕ) → statements i ++ with_newlines (statement_lines i count) [] ≡ statements (i + count)
all_lined zero i =
    let same : i ≡ i + 0 = omega arith in
    append-nil (statements i) ∙ ap statements same
all_lined (suc count) i =
    let behind : List ℕ = with_newlines (statement_lines (i + 1) count) [] in
    let line : statement i ++ behind ≡ statement_line i ++ 10 ∷ behind =
    ap (λ (xs : List ℕ). xs ++ behind) (lined i) ∙ append_assoc (statement_line i) (10 ∷ []) behind in
    let next : suc i ≡ i + 1 = omega arith in
    let last : i + 1 + count ≡ i + suc count = omega arith in
    sym (append_assoc (statements i) (statement i) behind ∙ ap (λ (xs : List ℕ). statements i ++ xs) line)
    ∙ ap (λ (k : ℕ). statements k ++ behind) next ∙ all_lined count (i + 1) ∙ ap statements last

pub statement_printable : (i : ℕ) → ArePrintable (statement_line i)
statement_printable i =
    printable-append (codes "w ") (decimal (i % 4) ++ (codes " " ++ call (i % 5) (drawn i))) (tested (codes "w ") refl)
    (printable-append (decimal (i % 4)) (codes " " ++ call (i % 5) (drawn i)) (printable_decimal (i % 4) (omega arith))
    (printable-append (codes " ") (call (i % 5) (drawn i)) (tested (codes " ") refl) (printable_call (i % 5) (drawn i) (omega arith))))

are_statements : (count i : ℕ) → AllByRecursion IsLine (statement_lines i count)
are_statements zero i = tt
are_statements (suc count) i = ((statement_printable i, omega arith), are_statements count (i + 1))

-- ---- the head

abbrev are_lines : List (List ℕ) → Bool
are_lines [] = true
are_lines (line ∷ ls) = (are_printable line && nat_lt 0 (length line)) && are_lines ls

lines_tested : (ls : List (List ℕ)) → are_lines ls ≡ true → AllByRecursion IsLine ls
lines_tested [] e = tt
lines_tested (line ∷ ls) e =
    let tests = both (are_printable line && nat_lt 0 (length line)) (are_lines ls) e in
    let one = both (are_printable line) (nat_lt 0 (length line)) tests.0 in
    let some : nat_lt 0 (length line) ≡ true = one.1 in
    ((tested line one.0, grind (arith, nat_tests)), lines_tested ls tests.1)

pub generated_lines : (count : ℕ) → lines (generated count) ≡ head_lines ++ statement_lines 0 count
generated_lines count =
    let behind : List ℕ = with_newlines (statement_lines 0 count) [] in
    let same : 0 + count ≡ count = omega arith in
    let all : behind ≡ statements count = all_lined count 0 ∙ ap statements same in
    ap (λ (xs : List ℕ). lines (head ++ xs)) (sym all)
    ∙ all_lines head_lines behind (lines_tested head_lines refl)
    ∙ ap (λ (ls : List (List ℕ)). head_lines ++ ls) (all_lines (statement_lines 0 count) [] (are_statements count 0) ∙ append-nil (statement_lines 0 count))

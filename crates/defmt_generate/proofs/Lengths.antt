-- How long the text of a generated script is at most.
use Rattle.std.proofs.Common.{◌≤◌, ◌<◌, ◌+◌, ◌*◌, ◌-◌, ◌/◌, ◌%◌, ◌==◌, ℕ, zero, suc, Bool, true, false, List, ◌++◌, length, arith, length-append, lit≤}
use Rattle.std.specs.Prelude.{codes, if◌then◌else◌, nat_lt}
use Rattle.std.specs.Fmt.{decimal}
use Rattle.std.proofs.lemmas.Fmt.{length-decimal-le}
use Rattle.defmt_generate.specs.Generated.{head, drawn, hex, less_thousand, boot, temp, link, fail, tick, call, statement, statements, generated}

few : (n : ℕ) → n < 4294967296 → length (decimal n) ≤ 10
few n small = length-decimal-le 10 n (omega arith) (omega arith) (omega arith)

either : (b : Bool) (xs ys : List ℕ) (most : ℕ) → length xs ≤ most → length ys ≤ most → length (if b then xs else ys) ≤ most
either true xs ys most x y = x
either false xs ys most x y = y

joined : (xs ys : List ℕ) (m n most : ℕ) → length xs ≤ m → length ys ≤ n → m + n ≤ most → length (xs ++ ys) ≤ most
joined xs ys m n most x y fits = omega (arith, length-append xs ys)

signed : (n : ℕ) → n < 4294967296 → length (less_thousand n) ≤ 11
signed n small =
    let below : length (codes "-" ++ decimal (1000 - n)) ≤ 11 = joined (codes "-") (decimal (1000 - n)) 1 10 11 (lit≤ tt) (few (1000 - n) (omega arith)) (lit≤ tt) in
    let above : length (decimal (n - 1000)) ≤ 10 = few (n - 1000) (omega arith) in
    either (nat_lt n 1000) (codes "-" ++ decimal (1000 - n)) (decimal (n - 1000)) 11 below (omega (arith, above))

booted : (x : ℕ) → length (boot x) ≤ 40
unfolding boot
booted x = joined (codes "boot ") (decimal (x % 256)) 5 10 40 (lit≤ tt) (few (x % 256) (omega arith)) (lit≤ tt)

measured : (x : ℕ) → length (temp x) ≤ 40
unfolding temp
measured x =
    let tail : List ℕ = codes " #" ++ (hex (x % 256) ++ (hex (x / 256 % 256) ++ hex (x / 65536 % 256))) in
    let short : length tail ≤ 8 = lit≤ tt in
    joined (codes "temp ") (less_thousand (x % 2001) ++ tail) 5 19 40 (lit≤ tt) (joined (less_thousand (x % 2001)) tail 11 8 19 (signed (x % 2001) (omega arith)) short (lit≤ tt)) (lit≤ tt)

linked : (x : ℕ) → length (link x) ≤ 40
unfolding link
linked x =
    let digit : List ℕ = decimal (x % 10) ++ codes "\"" in
    let behind : List ℕ = codes " \"port" ++ digit in
    let even : List ℕ = if x % 2 == 0 then codes "true" else codes "false" in
    joined (codes "link ") (even ++ behind) 5 22 40 (lit≤ tt)
    (joined even behind 5 17 22 (either (x % 2 == 0) (codes "true") (codes "false") 5 (lit≤ tt) (lit≤ tt))
    (joined (codes " \"port") digit 6 11 17 (lit≤ tt) (joined (decimal (x % 10)) (codes "\"") 10 1 11 (few (x % 10) (omega arith)) (lit≤ tt) (lit≤ tt)) (lit≤ tt)) (lit≤ tt)) (lit≤ tt)

failed : (x : ℕ) → x < 4294967296 → length (fail x) ≤ 40
unfolding fail
failed x small = joined (codes "fail ") (decimal x) 5 10 40 (lit≤ tt) (few x small) (lit≤ tt)

ticked : (x : ℕ) → x < 4294967296 → length (tick x) ≤ 40
unfolding tick
ticked x small = joined (codes "tick ") (decimal x) 5 10 40 (lit≤ tt) (few x small) (lit≤ tt)

called : (turn x : ℕ) → x < 4294967296 → length (call turn x) ≤ 40
unfolding call
called turn x small =
    let last : List ℕ = if turn == 3 then fail x else tick x in
    let more : List ℕ = if turn == 2 then link x else last in
    let most : List ℕ = if turn == 1 then temp x else more in
    either (turn == 0) (boot x) most 40 (booted x)
    (either (turn == 1) (temp x) more 40 (measured x)
    (either (turn == 2) (link x) last 40 (linked x) (either (turn == 3) (fail x) (tick x) 40 (failed x small) (ticked x small))))

lined : (i : ℕ) → length (statement i) ≤ 60
unfolding statement
lined i =
    let made : List ℕ = call (i % 5) (drawn i) in
    let called_ : length made ≤ 40 = called (i % 5) (drawn i) (omega arith) in
    joined (codes "w ") (decimal (i % 4) ++ (codes " " ++ (made ++ codes "\n"))) 2 52 60 (lit≤ tt)
    (joined (decimal (i % 4)) (codes " " ++ (made ++ codes "\n")) 10 42 52 (few (i % 4) (omega arith))
    (joined (codes " ") (made ++ codes "\n") 1 41 42 (lit≤ tt) (joined made (codes "\n") 40 1 41 called_ (lit≤ tt) (lit≤ tt)) (lit≤ tt)) (lit≤ tt)) (lit≤ tt)

all_lined : (n : ℕ) → length (statements n) ≤ 60 * n
all_lined zero = lit≤ tt
all_lined (suc n) = omega (arith, all_lined n, lined n, length-append (statements n) (statement n))

-- nine lines of at most 300 bytes, and at most 60 bytes a statement
pub generated_short : (n : ℕ) → n ≤ 4096 → length (generated n) ≤ 4194304
generated_short n few_ =
    let short : length head ≤ 300 = lit≤ tt in
    omega (arith, short, few_, all_lined n, length-append head (statements n))

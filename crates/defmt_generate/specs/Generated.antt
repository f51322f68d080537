-- The generated script: nine lines that set it up, and then its statements, each by a formula of its number.
use Rattle.std.specs.Prelude.{◌+◌, ◌-◌, ◌*◌, ◌/◌, ◌%◌, ◌==◌, ℕ, zero, suc, List, [], ◌∷◌, ◌++◌, if◌then◌else◌, nat_lt, codes, false}
use Rattle.std.specs.Fmt.{decimal, digit_glyph}

-- the ring, the mode, the reader, the stamp and the five strings
abbrev pub head : List ℕ
head =
    codes "ring 1024\n" ++ (codes "mode block\n"
    ++ (codes "reader live\n" ++ (codes "stamp 1000 250\n"
    ++ (codes "s boot defmt_info boot {=u8}\n"
    ++ (codes "s temp defmt_debug temp {=i16} of {=[u8]:02x}\n"
    ++ (codes "s link defmt_warn link {=bool} {=str:?}\n"
    ++ (codes "s fail defmt_error fail {=u32:#010x}\n"
    ++ codes "s tick defmt_trace tick {=u64}\n")))))))

-- the number that statement `i` draws its arguments from
abbrev pub drawn : ℕ → ℕ
drawn i = (i * 1103515245 + 12345) % 4294967296

-- a byte in two hexadecimal digits
abbrev pub hex : ℕ → List ℕ
hex byte = digit_glyph false (byte / 16) ∷ digit_glyph false (byte % 16) ∷ []

-- `n` less 1,000, with a minus sign where it is below 0
abbrev pub less_thousand : ℕ → List ℕ
less_thousand n = if nat_lt n 1000 then codes "-" ++ decimal (1000 - n) else decimal (n - 1000)

-- the string's name and its arguments, for each of the five strings
unfoldable pub boot : ℕ → List ℕ
boot x = codes "boot " ++ decimal (x % 256)

unfoldable pub temp : ℕ → List ℕ
temp x =
    codes "temp " ++ (less_thousand (x % 2001)
    ++ (codes " #" ++ (hex (x % 256) ++ (hex (x / 256 % 256) ++ hex (x / 65536 % 256)))))

unfoldable pub link : ℕ → List ℕ
link x =
    codes "link " ++ ((if x % 2 == 0 then codes "true" else codes "false")
    ++ (codes " \"port" ++ (decimal (x % 10) ++ codes "\"")))

unfoldable pub fail : ℕ → List ℕ
fail x = codes "fail " ++ decimal x

unfoldable pub tick : ℕ → List ℕ
tick x = codes "tick " ++ decimal x

-- the strings take turns
unfoldable pub call : ℕ → ℕ → List ℕ
call turn x =
    if turn == 0 then boot x else if turn == 1 then temp x else if turn == 2 then link x
    else if turn == 3 then fail x else tick x

-- statement `i`, of one of four writers, as a line
unfoldable pub statement : ℕ → List ℕ
statement i =
    codes "w " ++ (decimal (i % 4) ++ (codes " " ++ (call (i % 5) (drawn i) ++ codes "\n")))

-- the first so many statements
abbrev pub statements : ℕ → List ℕ
statements zero = []
statements (suc i) = statements i ++ statement i

-- the script of so many statements
abbrev pub generated : ℕ → List ℕ
generated count = head ++ statements count

-- Whether a text may be spoken, as the code tests it.
use Rattle.std.specs.Prelude.{◌==◌, ◌&&◌, not, nat_le, ℕ, Bool, List, length}
use Rattle.std.specs.List.{list_all}

abbrev pub is_plain : ℕ → Bool
is_plain b = nat_le 32 b && not (b == 127)

abbrev pub is_sayable : List ℕ → Bool
is_sayable text = nat_le (length text) 2000 && list_all is_plain text

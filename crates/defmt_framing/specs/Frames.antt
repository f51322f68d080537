-- A stream of frames, and which of them begin or end where.
use Rattle.std.specs.Prelude.{◌≡◌, ◌+◌, ◌<◌, ℕ, List, [], ◌∷◌, ◌++◌, length, nat_le, false, if◌then◌else◌}
use Rattle.defmt_framing.specs.Cut.{has_zero}

-- a code between its two delimiters
abbrev pub frame_of : List ℕ → List ℕ
frame_of code = 0 ∷ (code ++ 0 ∷ [])

-- the frames of these codes, joined
unfoldable pub frames : List (List ℕ) → List ℕ
frames [] = []
frames (c ∷ codes) = frame_of c ++ frames codes

-- the codes aren't empty, and have no zero
abbrev pub AreCodes : List (List ℕ) → Type 0
AreCodes [] = Unit {0}
AreCodes (c ∷ codes) = (has_zero c ≡ false) × (0 < length c) × AreCodes codes

-- none of the messages is empty
abbrev pub AreSome : List (List ℕ) → Type 0
AreSome [] = Unit {0}
AreSome (m ∷ messages) = (0 < length m) × AreSome messages

-- the codes whose frames begin at or after a place, where the first of all begins at another
unfoldable pub beginning_from : ℕ → ℕ → List (List ℕ) → List (List ℕ)
beginning_from place at [] = []
beginning_from place at (c ∷ codes) =
    (if nat_le place at then c ∷ [] else []) ++ beginning_from place (at + length (frame_of c)) codes

-- those whose frames end at or before it
unfoldable pub ending_by : ℕ → ℕ → List (List ℕ) → List (List ℕ)
ending_by place at [] = []
ending_by place at (c ∷ codes) =
    (if nat_le (at + length (frame_of c)) place then c ∷ [] else [])
    ++ ending_by place (at + length (frame_of c)) codes

-- The rooms that a text is tried in.
use Rattle.std.proofs.Common.{◌≡◌, ◌<◌, ◌≤◌, ◌*◌, ◌⊎◌, ℕ, arith, inl, inr}

-- five of them
abbrev pub IsRoom : ℕ → Type 0
IsRoom size = (size ≡ 256) ⊎ ((size ≡ 1024) ⊎ ((size ≡ 4096) ⊎ ((size ≡ 16384) ⊎ (size ≡ 65536))))

pub room_next : (size : ℕ) → IsRoom size → size < 65536 → IsRoom (size * 4)
room_next size (inl e) lt = inr (inl (omega (arith, e)))
room_next size (inr (inl e)) lt = inr (inr (inl (omega (arith, e))))
room_next size (inr (inr (inl e))) lt = inr (inr (inr (inl (omega (arith, e)))))
room_next size (inr (inr (inr (inl e)))) lt = inr (inr (inr (inr (omega (arith, e)))))
room_next size (inr (inr (inr (inr e)))) lt = absurd (omega (arith, e, lt))

pub room_most : (size : ℕ) → IsRoom size → (0 < size) × (size ≤ 65536)
room_most size (inl e) = (omega (arith, e), omega (arith, e))
room_most size (inr (inl e)) = (omega (arith, e), omega (arith, e))
room_most size (inr (inr (inl e))) = (omega (arith, e), omega (arith, e))
room_most size (inr (inr (inr (inl e)))) = (omega (arith, e), omega (arith, e))
room_most size (inr (inr (inr (inr e)))) = (omega (arith, e), omega (arith, e))

-- What a framer keeps, and for which stream it stands.
use Rattle.std.specs.Prelude.{◌≡◌, ℕ, ◌+◌, ◌-◌, ◌==◌, List, [], ◌∷◌, ◌++◌, Bool, true, false, ◌||◌, ◌&&◌, nat_lt, length, take, Option, Some, None, option_to_list, if◌then◌else◌}
use Rattle.defmt_framing.specs.Cut.{has_zero, tail, since_zero}
use Rattle.defmt_framing.specs.Told.{Tells, told_size, begun}

-- how many bytes were heard, whether a zero was among them, how many came after the last zero (of
-- all where there was none), and, after a zero, the first 65,537 of these
pub record Framing : Type 0 where
  pub heard : ℕ
  pub zeros : Bool
  pub since : ℕ
  pub kept : List ℕ

-- The framer has heard this stream.
pub record Stands (framer : Framing) (stream : List ℕ) : Type 0 where
  pub heard : framer.heard ≡ told_size (length stream)
  pub zeros : framer.zeros ≡ has_zero stream
  pub since : framer.since ≡ told_size (length (since_zero stream))
  pub kept : framer.kept ≡ (if has_zero stream then take 65537 (tail stream) else [])

-- a zero was heard, and nothing behind it
abbrev pub is_between : Framing → Bool
is_between framer = framer.zeros && framer.since == 0

-- What is told comes by the last byte that was taken, a zero, and nothing comes before it.
abbrev pub ComesLast : {E : Type 0} → Tells E → List ℕ → List ℕ → Option E → Type 0
ComesLast tells stream taken None = Unit {0}
ComesLast tells stream taken (Some told) =
    (front : List ℕ) × (taken ≡ front ++ 0 ∷ []) × (begun tells (stream ++ front) ≡ begun tells stream)

-- From the stream on these bytes were taken, and this was told.
pub record Hears {E : Type 0} (tells : Tells E) (after : Framing) (stream taken : List ℕ) (told : Option E) : Type 0 where
  pub stands : Stands after (stream ++ taken)
  pub tells_it : begun tells (stream ++ taken) ≡ begun tells stream ++ option_to_list told
  pub last : ComesLast tells stream taken told

-- These zeros, behind which nothing was open, and then bytes without a zero were taken, and
-- nothing was told.
pub record GoesOn (before after : Framing) (skipped : ℕ) (run : List ℕ) : Type 0 where
  pub heard : after.heard ≡ told_size (before.heard + (skipped + length run))
  pub zeros : after.zeros ≡ (before.zeros || nat_lt 0 skipped)
  pub since : after.since ≡ told_size (before.since + length run)
  pub more : after.zeros ≡ true → after.kept ≡ before.kept ++ take (65537 - length before.kept) run
  pub same : after.zeros ≡ false → after.kept ≡ before.kept

use Rattle.std.proofs.Common.{◌≡◌, length, map}
use Rattle.defmt_words.specs.Parameters.{is_among}
use Rattle.defmt_words.proofs.parameters.is_among.Given as goal

abbrev pub invariant-words : goal.invariant-words
invariant-words l = record { same : is_among l.word (map (λ w. w.now) l.rest) ≡ is_among l.word (map (λ w. w.now) l.words) }

abbrev pub decreases-words : goal.decreases-words
decreases-words l = length l.rest

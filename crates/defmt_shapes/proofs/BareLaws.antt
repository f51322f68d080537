-- A text that begins with no mark.
use Rattle.std.proofs.Common.{◌≡◌, ◌≢◌, ℕ, eqb, false, List, [], ◌∷◌, Option, arith}
use Rattle.std.proofs.lemmas.Bool.Decides.{nat_tests}
use Rattle.defmt_grammar.specs.Cut.{behind, strip}
use Rattle.defmt_shapes.specs.Leads.{Lead, IsBare, IsLead, decimal_lead, marked_lead, or_word, plain_lead}

other : (c k : ℕ) → c ≢ k → eqb c k ≡ false
other c k n = grind (arith, nat_tests)

pub bare_lead : (text : List ℕ) (o : Option (Lead × List ℕ)) → IsBare text → o ≡ or_word text (decimal_lead text) → IsLead text o
unfolding behind strip marked_lead plain_lead
bare_lead [] o b e = absurd b
bare_lead (c ∷ cs) o b e =
    rw (other c 34 b.0, other c 39 b.1.0, other c 45 b.1.1.0, other c 64 b.1.1.1.0, other c 35 b.1.1.1.1.0, other c 91 b.1.1.1.1.1.0, other c 48 b.1.1.1.1.1.1.0) e

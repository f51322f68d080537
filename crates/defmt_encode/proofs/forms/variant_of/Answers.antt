use Rattle.std.proofs.Common.{◌≡◌, ℕ, List, Err, refl}
use Rattle.defmt_grammar.specs.declared.piece.Piece.{Piece}
use Rattle.defmt_intern.specs.declared.parsed.Parsed.{Parsed}
use Rattle.defmt_intern.specs.declared.parsed.Parsed.TheVariants.{Unsupported, Raw, One, Variants}
use Rattle.defmt_encode.specs.Read.{variant_of}
use Rattle.defmt_encode.specs.declared.cause.Cause.TheVariants as causes
use Rattle.defmt_encode.proofs.forms.variant_of.Goals as goal

no_variants : (form : Parsed) (bytes : List ℕ) → ((ps : List Piece) → form ≡ One ps → ⊥) → ((forms : List (List Piece)) → form ≡ Variants forms → ⊥) → Err causes.BadVariant ≡ variant_of form bytes
no_variants Unsupported bytes f g = refl
no_variants Raw bytes f g = refl
no_variants (One ps) bytes f g = absurd (f ps refl)
no_variants (Variants forms) bytes f g = absurd (g forms refl)

pub returns-in_default : goal.returns-in_default
returns-in_default c = no_variants c.args.form.now c.args.bytes.now c.in_default.not-One c.in_default.not-Variants

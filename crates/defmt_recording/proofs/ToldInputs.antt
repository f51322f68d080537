-- Inputs that are as a source and a shelf tell them.
use Rattle.std.proofs.Common.{◌≡◌, ◌∙◌, ◌<◌, ◌≤◌, ◌++◌, ℕ, zero, suc, List, [], ◌∷◌, Option, Some, None, refl, sym, ap, arith, length, length-append}
use Rattle.std.specs.Io.KnownBytes.{Consumes, IsAtEnd, Keeps}
use Rattle.std.proofs.lemmas.List.{append-nil}
use Rattle.dl_io.specs.Outside.{HasFile}
use Rattle.defmt_listen.specs.Streams.{IsRest}
use Rattle.defmt_recording.specs.Decoding.{IsFile}
use Rattle.defmt_recording.specs.Inputs.{AreAsTold, AreFiles, Inputs}

-- ---- nothing was taken or put

pub keeps : (o : Option (List ℕ)) → Keeps o o
keeps None = tt
keeps (Some xs) = refl

pub consumes : (o : Option (List ℕ)) → Consumes o o []
consumes None = tt
consumes (Some xs) = refl

-- ---- the text of the source

-- what was taken up to the end
pub all_taken : (left after : Option (List ℕ)) (taken : List ℕ) → Consumes left after taken → IsAtEnd after → IsRest left taken
all_taken None after taken c e = tt
all_taken (Some xs) None taken c e = absurd c
all_taken (Some xs) (Some ys) taken c e = sym (append-nil taken) ∙ ap (λ (l : List ℕ). taken ++ l) (sym e) ∙ sym c

-- a text that has at least what was taken
pub some_text : (left after : Option (List ℕ)) (taken : List ℕ) → Consumes left after taken
    → (text : List ℕ) × IsRest left text × (length taken ≤ length text)
some_text None after taken c = (taken, tt, omega arith)
some_text (Some xs) None taken c = absurd c
some_text (Some xs) (Some ys) taken c = (xs, refl, omega (arith, ap length c, length-append {A = ℕ}))

pub any_text : (left : Option (List ℕ)) → (text : List ℕ) × IsRest left text
any_text None = ([], tt)
any_text (Some xs) = (xs, refl)

-- ---- the files of the shelf

pub any_files : (told : Option (List ℕ → Option (List ℕ))) → (files : List ℕ → Option (List ℕ)) × AreFiles told files
any_files None = ((λ name. None), tt)
any_files (Some files) = (files, refl)

-- files of which one has this name
pub with_file : (told : Option (List ℕ → Option (List ℕ))) (name file : List ℕ) → IsFile told name file
    → (files : List ℕ → Option (List ℕ)) × AreFiles told files × (files name ≡ Some file)
with_file None name file found = ((λ any. Some file), tt, refl)
with_file (Some files) name file found = (files, refl, found)

longer : (n : ℕ) → (file : List ℕ) × (n < length file)
longer zero = (0 ∷ [], omega arith)
longer (suc n) = let file = longer n in (0 ∷ file.0, omega (arith, file.1))

-- a file of this name that is longer
pub long_file : (told : Option (List ℕ → Option (List ℕ))) (name : List ℕ) (n : ℕ) → HasFile told name (λ file. n < length file)
    → (file : List ℕ) × IsFile told name file × (n < length file)
long_file None name n has = let file = longer n in (file.0, tt, file.1)
long_file (Some files) name n has = has

-- ---- both

pub any_inputs : (left : Option (List ℕ)) (told : Option (List ℕ → Option (List ℕ))) → (inputs : Inputs) × AreAsTold left told inputs
any_inputs left told =
    let text = any_text left in let files = any_files told in
    (record { text = text.0; files = files.0; later = files.0 }, record { text = text.1; files = files.1; later = files.1 })

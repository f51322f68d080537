-- What `clap` tells of the words, folded into the crate's own definitions.
use Rattle.std.proofs.Common.{◌≡◌, true, false, List, [], ◌∷◌, refl, ap, subst, inl, inr, rules}
use Rattle.std.specs.Prelude.{Result, Ok, Err, Some, None}
use Rattle.clap.specs.Words.{App, Text, Kinds, FailsBy, HasKind, HasMatchesOf, fault_of, is_simple, is_simple_and_free, found_of, kind_of, rows_of}
use Rattle.clap.specs.Walk.{is_empty}
use Rattle.clap.specs.declared.error.Error.{Error}
use Rattle.clap.specs.declared.error.ErrorKind.TheVariants.{OutOfMemory}
use Rattle.clap.specs.declared.parser.matches.ArgMatches.{ArgMatches}
use Rattle.clap.proofs.OnLiterals.{clap_on_literals}
use Rattle.defmt_words.specs.Words.{command_line, found, refusals, rows}

is_free : is_simple_and_free command_line ≡ true
unfolding clap_on_literals
is_free = refl

is_simple_line : is_simple command_line ≡ true
unfolding clap_on_literals
is_simple_line = refl

-- the error has one of the kinds for which the words are refused, or memory ran out
refused_by : (app : App) (words : List Text) (r : Result ArgMatches Error) → app ≡ command_line
    → (is_simple_and_free app ≡ true → FailsBy (fault_of app words) r) → FailsBy (refusals words) r
unfolding refusals
refused_by app words r e h =
    subst (λ (a : App). (is_simple_and_free a ≡ true → FailsBy (fault_of a words) r)) e h is_free

-- and the matches are the rows of the words
rows_by : (app : App) (words : List Text) (m : ArgMatches) → app ≡ command_line
    → HasMatchesOf app words m → rows_of (found_of m) ≡ rows words
unfolding rows
rows_by app words m e h = (subst (λ (a : App). HasMatchesOf a words m) e h is_simple_line).0

-- an error of another kind than want of memory comes only where the words are refused
refused_of : (kinds : Kinds) (e : Error) → (kind_of e ≡ OutOfMemory → ⊥) → HasKind kinds e → kinds ≡ [] → ⊥
refused_of [] e other (inl h) none = other h
refused_of [] e other (inr h) none = h
refused_of (k ∷ ks) e other h none = cc

is_refused : (kinds : Kinds) → (kinds ≡ [] → ⊥) → is_empty kinds ≡ false
is_refused [] h = absurd (h refl)
is_refused (k ∷ ks) h = search rules

pub found_some : (app : App) (words : List Text) (m : ArgMatches) → app ≡ command_line
    → (is_simple_and_free app ≡ true → FailsBy (fault_of app words) (Ok m)) → HasMatchesOf app words m
    → Some (rows_of (found_of m)) ≡ found words
found_some app words m line kinds matches =
    let none : refusals words ≡ [] = refused_by app words (Ok m) line kinds in
    rw none (ap Some (rows_by app words m line matches))

pub found_none : (app : App) (words : List Text) (e : Error) → app ≡ command_line → (kind_of e ≡ OutOfMemory → ⊥)
    → (is_simple_and_free app ≡ true → FailsBy {T = ArgMatches} (fault_of app words) (Err e)) → None ≡ found words
found_none app words e line other kinds =
    rw (is_refused (refusals words) (refused_of (refusals words) e other (refused_by app words (Err e) line kinds))) refl

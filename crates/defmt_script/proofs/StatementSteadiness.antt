-- A script stays as it must be behind a statement, and what is found of one.
use Rattle.std.proofs.Common.{◌≡◌, ◌≤◌, ◌<◌, ◌+◌, ◌++◌, ℕ, zero, suc, true, false, List, [], ◌∷◌, Option, Some, None, refl, sym, ◌∙◌, ap, subst, arith, length, length-append, lit≤}
use Rattle.std.specs.Prelude.{Ok, nat_lt, slice_index_or, slice_set}
use Rattle.std.specs.List.{AllByRecursion}
use Rattle.std.proofs.lemmas.Bool.Decides.{nat_tests}
use Rattle.defmt_eager.specs.Line.{printed_limit}
use Rattle.defmt_eager.specs.Show.{eager_text}
use Rattle.defmt_encode.specs.Out.{message_limit}
use Rattle.defmt_intern.specs.Table.{Map}
use Rattle.defmt_intern.specs.declared.entry.Entry.{Entry}
use Rattle.defmt_lines.specs.Form.{StringsAreOver}
use Rattle.defmt_lines.specs.declared.form.Form.{Form}
use Rattle.defmt_lines.specs.declared.settings.Settings.{Settings}
use Rattle.defmt_script.proofs.Stamps.{short_with}
use Rattle.defmt_script.specs.Lawful.{IsSound, first_message}
use Rattle.defmt_script.specs.Reads.{is_message, is_message_of, takes_statement, with_statement}
use Rattle.defmt_script.specs.Script.{add_statement, count_all}
use Rattle.defmt_script.specs.State.{State}
use Rattle.defmt_script.specs.Steady.{IsSteady}
use Rattle.defmt_spelling.specs.Names.{NameMap}
use Rattle.defmt_values.specs.Entries.{look}
use Rattle.defmt_values.specs.Fits.{Fits, IsLogged}
use Rattle.defmt_values.specs.declared.value.Statement.{Statement}
use Rattle.rtt_terminal.specs.Speech.{Speech}
use Rattle.defmt_script.proofs.Steadiness.{over_or_not, state}

-- the writer's list, with the statement behind it
added : (writer : ℕ) (stm : Statement) (writers : List (List Statement)) (d : List Statement) → writer < length writers
    → slice_set writers writer (slice_index_or writers writer d ++ stm ∷ []) ≡ add_statement writer stm writers
added writer stm [] d lt = absurd (omega (arith, lt))
added zero stm (list ∷ more) d lt = refl
added (suc writer) stm (list ∷ more) d lt = ap (λ (ws : List (List Statement)). list ∷ ws) (added writer stm more d (omega (arith, lt)))

pub placed : (writers : List (List Statement)) (place writer : ℕ) (stm : Statement) (old new : List Statement) → place ≡ writer → old ≡ slice_index_or writers place old → new ≡ old ++ stm ∷ []
    → place < length writers → slice_set writers place new ≡ add_statement writer stm writers
placed writers place writer stm old new is value pushed lt =
    ap (slice_set writers place) (pushed ∙ ap (λ (l : List Statement). l ++ stm ∷ []) value) ∙ added place stm writers old lt
    ∙ ap (λ (w : ℕ). add_statement w stm writers) is

length-added : (writer : ℕ) (stm : Statement) (writers : List (List Statement)) → length (add_statement writer stm writers) ≡ length writers
length-added writer stm [] = refl
length-added zero stm (list ∷ more) = refl
length-added (suc writer) stm (list ∷ more) = ap suc (length-added writer stm more)

pub count-added : (writer : ℕ) (stm : Statement) (writers : List (List Statement)) → writer < length writers → count_all (add_statement writer stm writers) ≡ count_all writers + 1
count-added writer stm [] lt = absurd (omega (arith, lt))
count-added zero stm (list ∷ more) lt = omega (arith, length-append list (stm ∷ []))
count-added (suc writer) stm (list ∷ more) lt = omega (arith, count-added writer stm more (omega (arith, lt)))

all_behind : (P : Statement → Type 0) (list : List Statement) (stm : Statement) → AllByRecursion P list → P stm → AllByRecursion P (list ++ stm ∷ [])
all_behind P [] stm h new = (new, tt)
all_behind P (first ∷ list) stm h new = (h.0, all_behind P list stm h.1 new)

pub all_added : (P : Statement → Type 0) (writer : ℕ) (stm : Statement) (writers : List (List Statement))
    → AllByRecursion (λ list. AllByRecursion P list) writers → P stm
    → AllByRecursion (λ list. AllByRecursion P list) (add_statement writer stm writers)
all_added P writer stm [] h new = tt
all_added P zero stm (list ∷ more) h new = (all_behind P list stm h.0 new, h.1)
all_added P (suc writer) stm (list ∷ more) h new = (h.0, all_added P writer stm more h.1 new)

pub statement_steady : (first : Form) (s : Settings) (table : Map) (names : NameMap) (writers more : List (List Statement)) (said : Speech) (writer : ℕ) (stm : Statement)
    → IsSteady (state first s table names writers said) → StringsAreOver first → writer < 8 → count_all writers < 4096 → IsSound table s stm → more ≡ add_statement writer stm writers
    → IsSteady (state first s table names more said)
statement_steady first s table names writers more said writer stm h over lt room new more_is =
    let added : count_all (add_statement writer stm writers) ≡ count_all writers + 1 = count-added writer stm writers (omega (arith, lt, h.eight)) in
    subst (λ (ws : List (List Statement)). IsSteady (state first s table names ws said)) (sym more_is) (record {
      settings = h.settings;
      language = h.language;
      not_late = h.not_late;
      strings_fit = h.strings_fit;
      opened = λ may. absurd (over_or_not first may over);
      whole = h.whole;
      eight = length-added writer stm writers ∙ h.eight;
      few = omega (arith, added, room);
      sound = all_added (IsSound table s) writer stm writers h.sound new;
    })

-- one statement more, as it is counted
pub statement_counted : (writers more : List (List Statement)) (writer m : ℕ) (stm : Statement) → m ≡ count_all writers → length writers ≡ 8 → writer < 8 → more ≡ add_statement writer stm writers
    → m + 1 ≡ count_all more
statement_counted writers more writer m stm is eight lt more_is =
    ap (λ (n : ℕ). n + 1) is ∙ sym (count-added writer stm writers (omega (arith, lt, eight))) ∙ sym (ap count_all more_is)

-- ---- counts

pub count_within : (writers : List (List Statement)) (writer : ℕ) → length (slice_index_or writers writer []) ≤ count_all writers
count_within [] writer = lit≤ tt
count_within (list ∷ more) zero = omega arith
count_within (list ∷ more) (suc writer) = omega (arith, count_within more writer)

-- ---- what is found of a statement

below : (limit n : ℕ) → nat_lt limit n ≡ false → n ≤ limit
below limit n is = grind (arith, nat_tests)

logged_by : (table : Map) (index : ℕ) (o : Option Entry) → look table index ≡ o → is_message_of o ≡ true → IsLogged table index
logged_by table index None is logged = absurd (cc logged)
logged_by table index (Some entry) is logged = record { entry = entry; there = is; tag = logged }

pub sound_of : (table : Map) (s : Settings) (stm : Statement) → Fits table stm.index stm.args → is_message table stm.index ≡ true
    → nat_lt message_limit (length (first_message table s stm)) ≡ false → nat_lt printed_limit (length (eager_text table stm.index stm.args)) ≡ false → IsSound table s stm
sound_of table s stm fits logged short narrow = record {
  fits = fits;
  logged = logged_by table stm.index (look table stm.index) refl logged;
  short = short_with table s stm (below message_limit (length (first_message table s stm)) short);
  narrow = below printed_limit (length (eager_text table stm.index stm.args)) narrow;
}

pub taken : (before : State) (writer : ℕ) (stm : Statement) → nat_lt message_limit (length (first_message before.script.table before.script.settings stm)) ≡ false
    → nat_lt printed_limit (length (eager_text before.script.table stm.index stm.args)) ≡ false → takes_statement before writer stm ≡ Ok (with_statement before writer stm)
taken before writer stm short narrow = rw (short, narrow) refl

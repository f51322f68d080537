-- What a session answers is what inputs as told come to.
use Rattle.std.proofs.Common.{◌≡◌, inl, inr, ◌+◌, ℕ, zero, suc, List, [], ◌∷◌, Option, Some, None, Ok, Err, refl, sym, subst, ap, ◌∙◌, arith, length, lit≤}
use Rattle.std.specs.Prelude.{Result, ◌⊎◌}
use Rattle.std.specs.Io.KnownBytes.{Consumes}
use Rattle.std.specs.Str.Lines.{lines}
use Rattle.std.proofs.lemmas.Bool.{true≢false}
use Rattle.std.proofs.lemmas.Option.{same_Some}
use Rattle.defmt_listen.specs.Streams.{Input, IsRest, Output, Wrote, input_of, output_of}
use Rattle.defmt_recording.specs.Calls.{Files, IsUnread, IsUntouched, IsUnwritten, files_of}
use Rattle.defmt_hooks.specs.declared.level.Level.{Level as AnyLevel}
use Rattle.defmt_print.specs.RunLines.{run_failing}
use Rattle.defmt_recording.specs.Decoding.{fault_by, fault_of_named, fault_of_recording}
use Rattle.defmt_recording.specs.Dumping.{fault_of_image}
use Rattle.defmt_run.specs.Making.{Makes}
use Rattle.defmt_run.specs.Running.{BlockingComesTo, Comes, ComesNot, GaveWhole, IsFaultOf, Made, MayNotSteer, ReadingComesTo, RefusesMode, Runs, RunningComesTo, SteeringComesTo, TookShort, Withholds, Writes, fault_of_read, script_limit}
use Rattle.defmt_run.specs.Session.{Answers, ComesTo, MayComeTo, MustComeTo, OrFails, ReadsSource}
use Rattle.defmt_recording.specs.Inputs.{AreAsTold, Inputs}
use Rattle.defmt_recording.specs.Status.{status_of}
use Rattle.defmt_run.specs.Told.{IsUntold, Told}
use Rattle.defmt_recording.specs.declared.fault.Fault.{Fault}
use Rattle.defmt_recording.specs.declared.fault.Fault.TheVariants.{Fine, Memory, Words, Source, Sink, Script, Shelf, Long, Level}
use Rattle.defmt_recording.proofs.Images.{dump_may, dump_words}
use Rattle.defmt_recording.proofs.Loading.{load_one}
use Rattle.defmt_recording.proofs.Recordings.{decode_may, decode_words}
use Rattle.defmt_recording.proofs.ToldInputs.{all_taken, any_files, any_inputs, consumes, keeps, some_text}
use Rattle.defmt_script.specs.Reads.{Reads}
use Rattle.defmt_script.specs.Script.{Refusal, Script as Read}
use Rattle.defmt_words.specs.declared.job.Job.{Job}
use Rattle.defmt_words.specs.declared.job.Job.TheVariants as jobs
use Rattle.defmt_words.specs.declared.job.ScriptJob.{ScriptJob}
use Rattle.defmt_words.specs.declared.job.ScriptJob.TheVariants.{Run, Record, Terminals, Steer, Table, Print, Generate}
use Rattle.rtt_down.specs.Modes.{FirstMode}

-- a text is read in one way
abbrev pub OneReading : Type 0
OneReading = (text : List ℕ) (read other : Result Read Refusal) → Reads text read → Reads text other → read ≡ other

-- ---- what was made was written, or the sink failed

-- all was done, or a run fails on a level
IsDone : Fault → Type 0
IsDone fault = (fault ≡ Fine) ⊎ ((level : AnyLevel) × (count : ℕ) × (fault ≡ Level level count))

run_done : (on : Option AnyLevel) (failing : ℕ) → IsDone (fault_by on failing 0)
unfolding IsDone
run_done None failing = inl refl
run_done (Some level) zero = inl refl
run_done (Some level) (suc n) = inr (level, suc n, refl)

made_done : (job : ScriptJob) (s : Read) (told : Told) (text : List ℕ) (due : Fault) → Makes job s told text due → IsDone due
unfolding IsDone
made_done (Run options) s told text due makes = subst IsDone (sym makes.2) (run_done options.style.fail_on (run_failing options s told.tape told.events))
made_done Record s told text due makes = inl makes.2
made_done Terminals s told text due makes = inl makes.2
made_done Steer s told text due makes = inl makes.2
made_done Table s told text due makes = inl makes.2
made_done Print s told text due makes = inl makes.2
made_done (Generate count) s told text due makes = inl makes.2

ran_done : (job : ScriptJob) (input : Input) (output : Output) (due : Fault) (told : Told) (text : List ℕ) → IsDone due → Made job input told text due → Wrote output text
    → Runs job input output due told
unfolding IsDone
ran_done job input output due told text (inl fine) made wrote =
    subst (λ (f : Fault). Runs job input output f told) (sym fine) (text, subst (λ (f : Fault). Made job input told text f) fine made, wrote)
ran_done job input output due told text (inr at) made wrote =
    subst (λ (f : Fault). Runs job input output f told) (sym at.2) (text, subst (λ (f : Fault). Made job input told text f) at.2 made, wrote)

pub ran : (job : ScriptJob) (input : Input) (output : Output) (due fault : Fault) (told : Told) (text : List ℕ) → Made job input told text due → Writes output text due fault
    → Runs job input output fault told
ran job input output due fault told text made (inl wrote) =
    subst (λ (f : Fault). Runs job input output f told) (sym wrote.0) (ran_done job input output due told text (made_done job made.script told text due made.makes) made wrote.1)
ran job input output due fault told text made (inr sunk) =
    subst (λ (f : Fault). Runs job input output f told) (sym sunk.0) (text, due, made, sunk.1, sunk.2)

never_fine : (job : ScriptJob) (input : Input) → ComesNot job input Fine → ⊥
never_fine (Generate count) input comes_not = absurd (cc comes_not.0)
never_fine Steer input (inl withholds) = withholds
never_fine Steer input (inr other) = other
never_fine job input comes_not = comes_not

never_level : (job : ScriptJob) (input : Input) (level : AnyLevel) (count : ℕ) → ComesNot job input (Level level count) → ⊥
never_level (Generate n) input level count comes_not = absurd (cc comes_not.0)
never_level Steer input level count (inl withholds) = withholds
never_level Steer input level count (inr other) = other
never_level job input level count comes_not = comes_not

never_sink : (job : ScriptJob) (input : Input) → ComesNot job input Sink → ⊥
never_sink (Generate count) input comes_not = absurd (cc comes_not.0)
never_sink Steer input (inl withholds) = withholds
never_sink Steer input (inr other) = other
never_sink job input comes_not = comes_not

-- no script came
pub ran_not : (job : ScriptJob) (input : Input) (output : Output) (fault : Fault) (told : Told) → ComesNot job input fault → IsUnwritten output → IsUntold told
    → Runs job input output fault told
ran_not job input output Fine told comes_not unwritten untold = absurd (never_fine job input comes_not)
ran_not job input output (Level level count) told comes_not unwritten untold = absurd (never_level job input level count comes_not)
ran_not job input output Sink told comes_not unwritten untold = absurd (never_sink job input comes_not)
ran_not job input output fault told comes_not unwritten untold = (comes_not, unwritten, untold)

-- ---- a fault is what some inputs as told come to

pub or_fails : (job : Job) (input : Input) (shelf : Files) (output : Output) (Is Other : Fault → Type 0) → ((fault : Fault) → Is fault → Other fault) → (fault : Fault)
    → OrFails job input shelf output Is fault → OrFails job input shelf output Other fault
or_fails (jobs.Script job) input shelf output Is Other so (Level level count) is = so Fine is
or_fails job input shelf output Is Other so Memory is = tt
or_fails job input shelf output Is Other so Source is = is
or_fails job input shelf output Is Other so Sink is = is
or_fails job input shelf output Is Other so Shelf is = elim is [ inl rose ↦ inl rose | inr is ↦ inr (so Shelf is) ]
or_fails job input shelf output Is Other so fault is = so fault is

module _ (input : Input) (shelf : Files) where
  -- a text that was taken whole
  read_so : (text : List ℕ) (read : Result Read Refusal) → GaveWhole input text → Reads text read
      → (inputs : Inputs) × AreAsTold input.left shelf.files inputs × RunningComesTo inputs.text (fault_of_read read)
  read_so text read whole reads =
      let files = any_files shelf.files in
      let rest : IsRest input.left text = all_taken input.left input.left_after text whole.taken whole.at_end in
      (record { text = text; files = files.0; later = files.0 }, record { text = rest; files = files.1; later = files.1 }, inr (whole.within, (read, reads, refl)))

  -- more than a script
  too_long : (bytes : List ℕ) → length bytes ≡ script_limit + 1 → Consumes input.left input.left_after bytes
      → (inputs : Inputs) × AreAsTold input.left shelf.files inputs × RunningComesTo inputs.text Long
  too_long bytes long consumes =
      let files = any_files shelf.files in
      let text = some_text input.left input.left_after bytes consumes in
      (record { text = text.0; files = files.0; later = files.0 }, record { text = text.1; files = files.1; later = files.1 }, inl (omega (arith, text.2, long), refl))

  withholds_may : (job : ScriptJob) (output : Output) (fault : Fault) → ReadsSource (jobs.Script job) → Withholds input fault
      → OrFails (jobs.Script job) input shelf output (λ f. (inputs : Inputs) × AreAsTold input.left shelf.files inputs × RunningComesTo inputs.text f) fault
  withholds_may job output Memory reads withholds = tt
  withholds_may job output Source reads withholds = (reads, withholds.0)
  withholds_may job output Long reads withholds = too_long withholds.0 withholds.1 withholds.2
  withholds_may job output (Script line cause inner) reads withholds =
      read_so withholds.text (Err (record { line = line; cause = cause; inner = inner })) withholds.whole withholds.refused
  withholds_may job output fault reads withholds = absurd withholds

  -- the same of a script that is steered
  steered_so : (text : List ℕ) (read : Result Read Refusal) (fault : Fault) → GaveWhole input text → Reads text read → IsFaultOf text read fault
      → (inputs : Inputs) × AreAsTold input.left shelf.files inputs × SteeringComesTo inputs.text fault
  steered_so text read fault whole reads is =
      let files = any_files shelf.files in
      let rest : IsRest input.left text = all_taken input.left input.left_after text whole.taken whole.at_end in
      (record { text = text; files = files.0; later = files.0 }, record { text = rest; files = files.1; later = files.1 }, inr (whole.within, (read, reads, is)))

  too_long_to_steer : (bytes : List ℕ) → length bytes ≡ script_limit + 1 → Consumes input.left input.left_after bytes
      → (inputs : Inputs) × AreAsTold input.left shelf.files inputs × SteeringComesTo inputs.text Long
  too_long_to_steer bytes long consumes =
      let files = any_files shelf.files in
      let text = some_text input.left input.left_after bytes consumes in
      (record { text = text.0; files = files.0; later = files.0 }, record { text = text.1; files = files.1; later = files.1 }, inl (omega (arith, text.2, long), refl))

  steers_may : (output : Output) (fault : Fault) → Withholds input fault
      → OrFails (jobs.Script Steer) input shelf output (MayComeTo (jobs.Script Steer) input.left shelf.files) fault
  steers_may output Memory withholds = tt
  steers_may output Source withholds = (tt, withholds.0)
  steers_may output Long withholds = too_long_to_steer withholds.0 withholds.1 withholds.2
  steers_may output (Script line cause inner) withholds =
      steered_so withholds.text (Err (record { line = line; cause = cause; inner = inner })) (Script line cause inner) withholds.whole withholds.refused refl
  steers_may output fault withholds = absurd withholds

  other_may : (output : Output) (fault : Fault) → MayNotSteer input fault
      → OrFails (jobs.Script Steer) input shelf output (MayComeTo (jobs.Script Steer) input.left shelf.files) fault
  other_may output (Script line cause inner) other =
      let r : RefusesMode input line = other.2 in
      let same : Script line 18 0 ≡ Script line cause inner =
      ap (λ (c : ℕ). let f : Fault = Script line c 0 in f) (sym other.0) ∙ ap (λ (n : ℕ). let f : Fault = Script line cause n in f) (sym other.1) in
      steered_so r.text (Ok r.other.0) (Script line cause inner) r.whole r.other.1 (inr (r.other.2, (line, r.other.3, sym same)))
  other_may output fault other = absurd other

  comes_may : (job : ScriptJob) (s : Read) → Comes job input s → MayComeTo (jobs.Script job) input.left shelf.files Fine
  comes_may (Generate count) s comes = let any = any_inputs input.left shelf.files in (any.0, any.1, refl)
  comes_may Steer s gave = steered_so gave.0.text (Ok s) Fine gave.0.whole gave.0.reads (inl (gave.1, refl))
  comes_may job s gave = read_so gave.text (Ok s) gave.whole gave.reads

  comes_not_may : (job : ScriptJob) (output : Output) (fault : Fault) → ComesNot job input fault
      → OrFails (jobs.Script job) input shelf output (MayComeTo (jobs.Script job) input.left shelf.files) fault
  comes_not_may (Generate count) output fault comes_not =
      subst (λ (f : Fault). OrFails (jobs.Script (Generate count)) input shelf output (MayComeTo (jobs.Script (Generate count)) input.left shelf.files) f) (sym comes_not.0) tt
  comes_not_may Steer output fault (inl withholds) = steers_may output fault withholds
  comes_not_may Steer output fault (inr other) = other_may output fault other
  comes_not_may job output fault withholds = withholds_may job output fault tt withholds

  script_may : (job : ScriptJob) (output : Output) (fault : Fault) (told : Told) → Runs job input output fault told
      → OrFails (jobs.Script job) input shelf output (MayComeTo (jobs.Script job) input.left shelf.files) fault
  script_may job output Fine told runs = comes_may job runs.1.script runs.1.comes
  script_may job output (Level level count) told runs = comes_may job runs.1.script runs.1.comes
  script_may job output Sink told runs = runs.4
  script_may job output fault told runs = comes_not_may job output fault runs.0

  pub may_come : (job : Job) (output : Output) (fault : Fault) (told : Told) → Answers (Some job) input shelf output fault told
      → OrFails job input shelf output (MayComeTo job input.left shelf.files) fault
  may_come (jobs.Script job) output fault told answers = script_may job output fault told answers.0
  may_come (jobs.Decode options) output fault told answers = decode_may options input shelf output fault answers.0
  may_come (jobs.Dump options) output fault told answers = dump_may options input shelf output fault answers.0

-- ---- inputs come to one fault

text_one : OneReading → (text : List ℕ) (fault other : Fault) → ReadingComesTo text other → ReadingComesTo text fault → fault ≡ other
text_one one text fault other a b = b.2 ∙ ap fault_of_read (one text b.0 a.0 b.1 a.1) ∙ sym a.2

run_one : OneReading → (text : List ℕ) (fault other : Fault) → RunningComesTo text other → RunningComesTo text fault → fault ≡ other
run_one one text fault other (inl a) (inl b) = b.1 ∙ sym a.1
run_one one text fault other (inl a) (inr b) = absurd (omega (arith, a.0, b.0))
run_one one text fault other (inr a) (inl b) = absurd (omega (arith, a.0, b.0))
run_one one text fault other (inr a) (inr b) = text_one one text fault other a.1 b.1

-- a text has one first line that sets a mode
one_mode : (number : ℕ) (ls : List (List ℕ)) (found other : Option ℕ) → FirstMode number ls found → FirstMode number ls other → found ≡ other
one_mode number [] found other p q = p ∙ sym q
one_mode number (l ∷ ls) found other (inl p) (inl q) = p.1 ∙ sym q.1
one_mode number (l ∷ ls) found other (inl p) (inr q) = absurd (q.0 p.0)
one_mode number (l ∷ ls) found other (inr p) (inl q) = absurd (p.0 q.0)
one_mode number (l ∷ ls) found other (inr p) (inr q) = one_mode (number + 1) ls found other p.1 q.1

fault_one : (text : List ℕ) (read : Result Read Refusal) (fault other : Fault) → IsFaultOf text read other → IsFaultOf text read fault → fault ≡ other
fault_one text (Err refusal) fault other a b = b ∙ sym a
fault_one text (Ok s) fault other (inl a) (inl b) = b.1 ∙ sym a.1
fault_one text (Ok s) fault other (inl a) (inr b) = absurd (true≢false (sym a.0 ∙ b.0))
fault_one text (Ok s) fault other (inr a) (inl b) = absurd (true≢false (sym b.0 ∙ a.0))
fault_one text (Ok s) fault other (inr a) (inr b) =
    let line : b.1.0 ≡ a.1.0 = same_Some b.1.0 a.1.0 (one_mode 1 (lines text) (Some b.1.0) (Some a.1.0) b.1.1 a.1.1) in
    b.1.2 ∙ ap (λ (n : ℕ). let f : Fault = Script n 18 0 in f) line ∙ sym a.1.2

blocking_one : OneReading → (text : List ℕ) (fault other : Fault) → BlockingComesTo text other → BlockingComesTo text fault → fault ≡ other
blocking_one one text fault other a b =
    fault_one text a.0 fault other a.2 (subst (λ (read : Result Read Refusal). IsFaultOf text read fault) (one text b.0 a.0 b.1 a.1) b.2)

steer_one : OneReading → (text : List ℕ) (fault other : Fault) → SteeringComesTo text other → SteeringComesTo text fault → fault ≡ other
steer_one one text fault other (inl a) (inl b) = b.1 ∙ sym a.1
steer_one one text fault other (inl a) (inr b) = absurd (omega (arith, a.0, b.0))
steer_one one text fault other (inr a) (inl b) = absurd (omega (arith, a.0, b.0))
steer_one one text fault other (inr a) (inr b) = blocking_one one text fault other a.1 b.1

one_fault : OneReading → (job : Job) (inputs : Inputs) (fault other : Fault) → ComesTo job inputs other → ComesTo job inputs fault → fault ≡ other
one_fault one (jobs.Script (Generate count)) inputs fault other a b = b ∙ sym a
one_fault one (jobs.Script Steer) inputs fault other a b = steer_one one inputs.text fault other a b
one_fault one (jobs.Script job) inputs fault other a b = run_one one inputs.text fault other a b
one_fault one (jobs.Decode options) inputs fault other a b =
    load_one options.language (λ table. fault_of_named (fault_of_recording options.style options.live inputs.text table) options.places inputs.later) (inputs.files options.table) fault other a b
one_fault one (jobs.Dump options) inputs fault other a b =
    load_one options.language (λ table. fault_of_named (fault_of_image options inputs.text table) options.places inputs.later) (inputs.files options.table) fault other a b

pub must_come : OneReading → (job : Job) (input : Input) (shelf : Files) (output : Output) (fault wanted : Fault)
    → MustComeTo job input.left shelf.files wanted → OrFails job input shelf output (MayComeTo job input.left shelf.files) fault
    → OrFails job input shelf output (λ other. other ≡ wanted) fault
must_come one job input shelf output fault wanted must may =
    or_fails job input shelf output (MayComeTo job input.left shelf.files) (λ (other : Fault). other ≡ wanted)
    (λ other comes. one_fault one job comes.0 other wanted (must comes.0 comes.1) comes.2) fault may

-- ---- words that ask for nothing

-- the status 2 is that of one fault
words_status : (fault : Fault) → status_of fault ≡ 2 → fault ≡ Words
words_status Words is = refl
words_status fault is = absurd (omega (arith, is))

never_words : (job : ScriptJob) (input : Input) → ComesNot job input Words → ⊥
never_words (Generate count) input comes_not = absurd (cc comes_not.0)
never_words Steer input (inl withholds) = withholds
never_words Steer input (inr other) = other
never_words job input comes_not = comes_not

none_asked : (asked : Option Job) (input : Input) (shelf : Files) (output : Output) (told : Told) → Answers asked input shelf output Words told → asked ≡ None
none_asked None input shelf output told answers = refl
none_asked (Some (jobs.Script job)) input shelf output told answers = absurd (never_words job input answers.0.0)
none_asked (Some (jobs.Decode options)) input shelf output told answers = absurd (decode_words options input shelf output answers.0)
none_asked (Some (jobs.Dump options)) input shelf output told answers = absurd (dump_words options input shelf output answers.0)

pub no_job : (asked : Option Job) (input : Input) (shelf : Files) (output : Output) (fault : Fault) (told : Told) → Answers asked input shelf output fault told
    → status_of fault ≡ 2 → asked ≡ None
no_job asked input shelf output fault told answers is =
    none_asked asked input shelf output told (subst (λ (f : Fault). Answers asked input shelf output f told) (words_status fault is) answers)

pub refused : (asked : Option Job) (input : Input) (shelf : Files) (output : Output) (fault : Fault) (told : Told) → Answers asked input shelf output fault told
    → asked ≡ None → (status_of fault ≡ 2) ⊎ (status_of fault ≡ 1)
refused asked input shelf output fault told answers is =
    let none = subst (λ (o : Option Job). Answers o input shelf output fault told) is answers in
    elim none.0 [ inl words ↦ inl (ap status_of words) | inr memory ↦ inr (ap status_of memory) ]

-- ---- want of memory before the words are known

no_memory : (job : ScriptJob) (input : Input) → TookShort input → IsUnread input → ComesNot job input Memory
no_memory (Generate count) input took unread = (refl, unread)
no_memory Steer input took unread = inl took
no_memory job input took unread = took

wanting_from : (asked : Option Job) (input : Input) (shelf : Files) (output : Output) (told : Told) → TookShort input → IsUnread input → IsUntouched shelf → IsUnwritten output → IsUntold told
    → Answers asked input shelf output Memory told
wanting_from None input shelf output told took unread untouched unwritten untold = (inr refl, unread, untouched, unwritten, untold)
wanting_from (Some (jobs.Script job)) input shelf output told took unread untouched unwritten untold = ((no_memory job input took unread, unwritten, untold), untouched)
wanting_from (Some (jobs.Decode options)) input shelf output told took unread untouched unwritten untold = (inl (inl (inl tt), unread, unwritten), untold)
wanting_from (Some (jobs.Dump options)) input shelf output told took unread untouched unwritten untold = (inl (inl (inl tt), unread, unwritten), untold)

-- nothing was touched
pub wanting_all : {S F K : Type 0} (asked : Option Job) (left : S → Option (List ℕ)) (source_faults : S → ℕ) (files : F → Option (List ℕ → Option (List ℕ))) (shelf_faults : F → ℕ)
    (held : K → Option (List ℕ)) (sink_faults : K → ℕ) (source : S) (shelf : F) (sink : K) (fault : Fault) (told : Told) → fault ≡ Memory → IsUntold told
    → Answers asked (input_of left source_faults source source) (files_of files shelf_faults shelf shelf) (output_of held sink_faults sink sink) fault told
wanting_all asked left source_faults files shelf_faults held sink_faults source shelf sink fault told is untold =
    let input : Input = input_of left source_faults source source in
    let shelf_files : Files = files_of files shelf_faults shelf shelf in
    let output : Output = output_of held sink_faults sink sink in
    subst (λ (f : Fault). Answers asked input shelf_files output f told) (sym is)
    (wanting_from asked input shelf_files output told ([], lit≤ tt, consumes (left source)) (record { left = keeps (left source); faults = refl }) refl (record { held = keeps (held sink); faults = refl }) untold)

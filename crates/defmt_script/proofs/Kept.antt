-- What holds of a script of which no line is read, and is kept by each line, holds of the script that a text reads as.
use Rattle.std.proofs.Common.{◌≡◌, ◌≤◌, ◌<◌, ◌+◌, inl, inr, ℕ, Bool, true, cond, List, [], ◌∷◌, Option, Some, None, Result, Ok, Err, refl, sym, subst, arith, length}
use Rattle.std.specs.Prelude.{nat_lt, unwrap_or}
use Rattle.std.specs.FinMap as map
use Rattle.std.specs.Str.{IsUtf8}
use Rattle.std.specs.Str.Lines.{lines}
use Rattle.defmt_eager.specs.Line.{printed_limit}
use Rattle.defmt_eager.specs.Show.{eager_text}
use Rattle.defmt_encode.specs.Out.{message_limit}
use Rattle.defmt_intern.specs.declared.entry.Tag.{Tag}
use Rattle.defmt_lines.specs.Form.{StringsAreOver, StringsMayCome, in_order}
use Rattle.defmt_lines.specs.Line.{Line, blank, head, entry, act, other, is_string_tag}
use Rattle.defmt_lines.specs.Settings.{Sets}
use Rattle.defmt_lines.specs.Verdict.{Judges}
use Rattle.defmt_lines.specs.declared.cause.Cause.{Cause}
use Rattle.defmt_lines.specs.declared.cause.Cause.TheVariants as causes
use Rattle.defmt_lines.specs.declared.form.Form.{Form}
use Rattle.defmt_lines.specs.declared.form.Form.TheVariants as forms
use Rattle.defmt_lines.specs.declared.settings.Settings.{Settings}
use Rattle.defmt_script.proofs.StringSteadiness.{judged_short, over_closed}
use Rattle.defmt_script.specs.Lawful.{first_message}
use Rattle.defmt_script.specs.Reads.{Reads, ReadsLines, Takes, TakesAction, TakesString, TakesStatement, admits_statement, admits_string, admits_text, sets, takes_arguments, takes_string, takes_text, with_settings, with_statement, with_string, with_text}
use Rattle.defmt_script.specs.Script.{Script, count_strings}
use Rattle.defmt_script.specs.State.{State, closed, no_lines, strings_limit}
use Rattle.defmt_spelling.specs.Spelling.{ReadsArguments}
use Rattle.defmt_values.specs.Plain.{Vals}
use Rattle.defmt_values.specs.declared.value.Statement.{Statement}
use Rattle.defmt_script.proofs.LineBounds.{Bounds, line_bounds}
use Rattle.defmt_script.proofs.Steps.{Answer, Ends, IsAdmitted, Keeps, admitted, below, if_not, if_so, said, set_to, string_may, string_new, total}

module _ (P : State → ℕ → Type 0) (keeps : Keeps P) where
  is_set : (before after : State) (form : Form) (words : List (List ℕ)) (set : Result Settings Cause) (b : ℕ) → in_order before.first form ≡ true
      → Sets form words before.script.settings set → Ok after ≡ with_settings before form set → P before b → P after b
  is_set before after form words (Err cause) b order given is h = absurd (cc is)
  is_set before after form words (Ok t) b order given is h =
      let same : after ≡ set_to before form t = cc is in
      subst (λ (a : State). P a b) (sym same) (keeps.settings before form words t b order given h)

  sets_kept : (before after : State) (form : Form) (words : List (List ℕ)) (set : Result Settings Cause) (b n : ℕ)
      → Sets form words before.script.settings set → Ok after ≡ sets before form set → P before b → P after (b + n)
  sets_kept before after form words set b n given is h =
      let taken = if_so (in_order before.first form) causes.Line (with_settings before form set) after is in
      keeps.more after b n (is_set before after form words set b taken.0 given taken.1 h)

  judged_kept : (before after : State) (name : List ℕ) (tag : Tag) (text : List ℕ) (v : Option ℕ) (b n : ℕ) → StringsMayCome before.first → map.get before.script.names name ≡ None → length text ≤ n → is_string_tag tag ≡ true
      → Judges before.script.table.language tag text v → Ok after ≡ takes_string before name tag text v → P before b → P after (b + n)
  judged_kept before after name tag text (Some inner) b n may new within string judges is h = absurd (cc is)
  judged_kept before after name tag text None b n may new within string judges is h =
      let taken = if_so (nat_lt (count_strings before.script) strings_limit) causes.Many (Ok (with_string before name tag text)) after is in
      let same : after ≡ with_string before name tag text = cc taken.1 in
      subst (λ (a : State). P a (b + n)) (sym same)
      (keeps.string before name tag text b n (record {
        may = may;
        new = new;
        room = below (count_strings before.script) strings_limit taken.0;
        within = within;
        short = judged_short before.script.table.language tag text None refl judges;
        string = string;
      }) h)

  entry_kept : (before after : State) (name : List ℕ) (tag : Tag) (text : List ℕ) (admits : Result (Unit {0}) Cause) (b n : ℕ) → admits_string before name ≡ admits
      → length text ≤ n → is_string_tag tag ≡ true → TakesString before name tag text admits (Ok after) → P before b → P after (b + n)
  entry_kept before after name tag text (Err cause) b n is within string taken h = absurd (cc taken)
  entry_kept before after name tag text (Ok done) b n is within string taken h =
      judged_kept before after name tag text taken.0 b n (string_may before name done is) (string_new before name done is) within string taken.1 taken.2 h

  arguments_kept : (before after : State) (text : List ℕ) (p : ℕ × ℕ) (args : Result Vals ℕ) (b : ℕ) → IsAdmitted before p → StringsAreOver before.first
      → ReadsArguments before.script.names before.script.table p.1 text args → Ok after ≡ takes_arguments before p args → P before b → P after b
  arguments_kept before after text p (Err inner) b a over reads is h = absurd (cc is)
  arguments_kept before after text p (Ok args) b a over reads is h =
      let stm : Statement = record { index = p.1; args = args } in
      let long : Bool = nat_lt message_limit (length (first_message before.script.table before.script.settings stm)) in
      let wide : Bool = nat_lt printed_limit (length (eager_text before.script.table stm.index stm.args)) in
      let taken : Answer = Ok (with_statement before p.0 stm) in
      let short = if_not long causes.Long (cond wide (Err causes.Wide) taken) after is in
      let narrow = if_not wide causes.Wide taken after short.1 in
      let same : after ≡ with_statement before p.0 stm = cc narrow.1 in
      subst (λ (s : State). P s b) (sym same)
      (keeps.statement before p.0 stm b (record {
        over = over;
        eight = a.eight;
        room = a.room;
        message = a.message;
        fits = reads.fits;
        short = short.0;
        narrow = narrow.0;
      }) h)

  statement_kept : (before after : State) (writer : Option ℕ) (name text : List ℕ) (admits : Result (ℕ × ℕ) Cause) (b : ℕ) → admits_statement before writer name ≡ admits
      → unwrap_or writer 0 < 8 → StringsAreOver before.first → TakesStatement before text admits (Ok after) → P before b → P after b
  statement_kept before after writer name text (Err cause) b is small over taken h = absurd (cc taken)
  statement_kept before after writer name text (Ok p) b is small over taken h =
      arguments_kept before after text p taken.0 b (admitted before writer name p is small) over taken.1 taken.2 h

  text_kept : (before after : State) (writer : Option ℕ) (term text : List ℕ) (admits : Result (ℕ × ℕ) Cause) (b : ℕ) → admits_text before writer term text ≡ admits
      → unwrap_or writer 0 < 8 → IsUtf8 text → Ok after ≡ takes_text before text admits → P before b → P after b
  text_kept before after writer term text (Err cause) b is small utf8 taken h = absurd (cc taken)
  text_kept before after writer term text (Ok p) b is small utf8 taken h =
      let same : after ≡ with_text before p.0 p.1 text = cc taken in
      subst (λ (s : State). P s b) (sym same) (keeps.text before p.0 p.1 text b (said before writer term text p is small utf8) h)

  action_kept : (before after : State) (form : Form) (writer : Option ℕ) (field more : List ℕ) (b n : ℕ) → unwrap_or writer 0 < 8 → IsUtf8 more
      → TakesAction before form writer field more (Ok after) → P before b → P after (b + n)
  action_kept before after forms.Say writer term text b n small utf8 taken h =
      keeps.more after b n (text_kept (closed before) after writer term text (admits_text (closed before) writer term text) b refl small utf8 taken (keeps.closes before b h))
  action_kept before after forms.Statement writer name args b n small utf8 taken h =
      keeps.more after b n (statement_kept (closed before) after writer name args (admits_statement (closed before) writer name) b refl small (over_closed before) taken (keeps.closes before b h))
  action_kept before after form writer field more b n small utf8 taken h = absurd (cc taken)

  line_kept : (before after : State) (line : Line) (b n : ℕ) → Bounds n line → Takes before line (Ok after) → P before b → P after (b + n)
  line_kept before after blank b n bounds taken h =
      let same : after ≡ before = cc taken in
      subst (λ (a : State). P a (b + n)) (sym same) (keeps.more before b n h)
  line_kept before after (head form words) b n bounds taken h = sets_kept before after form words taken.0 b n taken.1 taken.2 h
  line_kept before after (entry name tag text) b n bounds taken h = entry_kept before after name tag text (admits_string before name) b n refl bounds.0 bounds.1 taken h
  line_kept before after (act form writer field more) b n bounds taken h = action_kept before after form writer field more b n bounds.0 bounds.1 taken h
  line_kept before after other b n bounds taken h = absurd (cc taken)

  lines_kept : (ls : List (List ℕ)) (before : State) (number : ℕ) (script : Script) (b : ℕ) → ReadsLines before number ls (Ok script) → P before b → Ends P script (b + total ls)
  lines_kept [] before number script b reads h =
      let same : script ≡ (closed before).script = cc reads in
      record { last = closed before; holds = keeps.more (closed before) b 0 (keeps.closes before b h); over = over_closed before; script_is = same }
  lines_kept (bytes ∷ ls) before number script b (inl p) h =
      let sum : (b + length bytes) + total ls ≡ b + total (bytes ∷ ls) = omega arith in
      subst (λ (n : ℕ). Ends P script n) sum (lines_kept ls p.1 (number + 1) script (b + length bytes) p.4 (line_kept before p.1 p.0 b (length bytes) (line_bounds bytes p.0 p.2) p.3 h))
  lines_kept (bytes ∷ ls) before number script b (inr p) h = absurd (cc p.4)

  pub reads_kept : (text : List ℕ) (script : Script) → Reads text (Ok script) → P no_lines 0 → Ends P script (0 + total (lines text))
  reads_kept text script reads h = lines_kept (lines text) no_lines 1 script 0 reads h

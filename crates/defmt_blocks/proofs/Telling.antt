-- What a side tells of its bytes is what whoever stands in front of them tells.
use Rattle.std.proofs.Common.{◌≡◌, ◌≤◌, ◌+◌, ℕ, min, List, [], ◌∷◌, ◌++◌, length, refl, sym, ◌∙◌, ap, subst, arith}
use Rattle.std.specs.Prelude.{Bool, IfSome, None, Option, Some, false}
use Rattle.std.specs.Io.KnownBytes.{Appends}
use Rattle.dl_io.specs.Outside.{last_count}
use Rattle.defmt_blocks.specs.Blocks.{Agrees, SaidBlock, Says, SaysAs, TellsOf, ToldBlock, bytes_of, side_says, told_says}
use Rattle.defmt_blocks.specs.declared.side.Block.{Block}
use Rattle.defmt_blocks.specs.declared.side.Side.{Side}
use Rattle.defmt_decode.specs.Event.{tells}
use Rattle.defmt_decode.specs.declared.event.Event.{Event}
use Rattle.defmt_framing.specs.Calls.{HeardAs}
use Rattle.defmt_framing.specs.Cut.{has_zero}
use Rattle.defmt_framing.specs.Framing.{Framing}
use Rattle.defmt_framing.specs.Told.{Tells, begun}
use Rattle.defmt_framing.proofs.Telling.{begun-open}
use Rattle.defmt_listen.specs.Heard.{HeardPart, HeardSome, faults_among, lines_from, state_behind}
use Rattle.defmt_listen.specs.Streams.{Output}
use Rattle.defmt_listen.proofs.Fronts.{Front}
use Rattle.defmt_listen.proofs.Parts.{front_written}
use Rattle.defmt_recording.specs.Styled.{Look, Reel, by_style, reel}
use Rattle.defmt_blocks.proofs.Counting.{goes_behind, lines_are, look_is}

-- bytes that are heard behind a zero
pub tells_from : (look : Look) (t t_now : Tells Event) (last : Option ℕ) (state : Reel) (side : Side) (held : List ℕ) (faults faults_after count : ℕ) (bytes : List ℕ)
    → t_now ≡ t → state ≡ reel look last 0 0 → held ≡ [] → count ≡ 0 → tells side.listener.host.table ≡ t_now
    → HeardPart t_now by_style side.listener.host.framing state side.reporter
    (record { held = Some held; held_after = Some side.lines.text.items; faults = faults; faults_after = faults_after }) (0 ∷ []) bytes count side.report.faults
    → side.report.faults ≤ count + length bytes → TellsOf look t bytes last side
unfolding has_zero
tells_from look t t_now last state side held faults faults_after count bytes t_is state_is held_is count_is tells_is heard few =
    let told_is : heard.told ≡ begun t (0 ∷ bytes) =
    sym (heard.as_told.tells_all ∙ ap (λ (l : List Event). l ++ heard.told) (begun-open t_now [] refl)) ∙ ap (λ (x : Tells Event). begun x (0 ∷ bytes)) t_is in
    let count_now : side.report.faults ≡ faults_among by_style heard.told = omega (arith, heard.counted, count_is) in
    record {
      stands = heard.as_told.stands;
      tells_is = tells_is ∙ t_is;
      lines = heard.written ∙ ap (λ (h : List ℕ). h ++ lines_from by_style state heard.told) held_is
          ∙ ap (λ (s : Reel). lines_from by_style s heard.told) state_is ∙ ap (lines_from by_style (reel look last 0 0)) told_is;
      moved = heard.moved ∙ ap (λ (s : Reel). state_behind by_style s heard.told) state_is ∙ ap (state_behind by_style (reel look last 0 0)) told_is;
      counted = count_now ∙ ap (faults_among by_style) told_is;
      few = omega (arith, few, count_is);
    }

pub look_told : {look : Look} {t : Tells Event} {bytes : List ℕ} {last : Option ℕ} {side : Side} → TellsOf look t bytes last side → side.reporter.look ≡ look
look_told {look} {t} {bytes} {last} {side} told = ap (λ (s : Reel). s.look) told.moved ∙ look_is (reel look last 0 0) (begun t (0 ∷ bytes))

-- ---- what a side says

pub agrees_then : {a b c : Says} → Agrees a b → Agrees b c → Agrees a c
agrees_then ab bc = (ab.0 ∙ bc.0, ab.1 ∙ bc.1, ab.2 ∙ bc.2, ab.3 ∙ bc.3, ab.4 ∙ bc.4)

agrees_back : {a b : Says} → Agrees a b → Agrees b a
agrees_back ab = (sym ab.0, sym ab.1, sym ab.2, sym ab.3, sym ab.4)

said_of : (look : Look) (t : Tells Event) (part : List ℕ) (side : Side) (block : Block) → ToldBlock look t part side block → SaidBlock (told_says look t) part side block
said_of look t part side block is = (
  (is.told.lines, ap (λ (s : Reel). s.last) is.told.moved, ap (λ (s : Reel). s.failing) is.told.moved, ap (λ (s : Reel). s.cuts) is.told.moved, is.told.counted),
  is.ordered,
  is.within,
  is.ended,
  is.told.few,
)

-- a side that was told says so
pub said_by : (says : Option ℕ → List ℕ → Says) (look : Look) (t : Tells Event) (part : List ℕ) (side : Side) (lost : Bool) (block : Option Block)
    → IfSome block (λ b. ToldBlock look t part side b) → IfSome block (λ b. lost ≡ false) → (lost ≡ false → SaysAs says look t)
    → IfSome block (λ b. SaidBlock says part side b)
said_by says look t part side lost None told still so = tt
said_by says look t part side lost (Some b) told still so =
    let said = said_of look t part side b told in
    (agrees_then said.0 (so still b.last (bytes_of part b)), said.1, said.2, said.3, said.4)

-- and what it says is what is told
pub said_here : (says : Option ℕ → List ℕ → Says) (look : Look) (t : Tells Event) (part : List ℕ) (side : Side) (block : Option Block)
    → SaysAs says look t → IfSome block (λ b. SaidBlock says part side b) → IfSome block (λ b. SaidBlock (told_says look t) part side b)
said_here says look t part side None so said = tt
said_here says look t part side (Some b) so said = (agrees_then said.0 (agrees_back (so b.last (bytes_of part b))), said.1, said.2, said.3, said.4)

-- who prints and tells as before says as before
pub says_on : (says : Option ℕ → List ℕ → Says) (look look_now : Look) (t t_now : Tells Event) → look_now ≡ look → t_now ≡ t → SaysAs says look t → SaysAs says look_now t_now
says_on says look look_now t t_now look_is t_is so =
    subst (λ (l : Look). SaysAs says l t_now) (sym look_is) (subst (λ (x : Tells Event). SaysAs says look x) (sym t_is) so)

module _ (t : Tells Event) (now : Framing) (s : Reel) (side : Side) (last : Option ℕ) (bytes : List ℕ) (output : Output) (stream : List ℕ)
    (last_is : s.last ≡ last) (said : Agrees (side_says side) (told_says s.look t last bytes)) (as_told : HeardAs t now stream bytes (begun t (0 ∷ bytes))) where
  -- they are taken over by whoever stands in front of them, behind the same line
  pub taken_over : (after : Reel) (count count_after : ℕ) → s.failing ≤ last_count → s.cuts ≤ last_count
      → after ≡ reel s.look side.reporter.last (min (s.failing + side.reporter.failing) last_count) (min (s.cuts + side.reporter.cuts) last_count)
      → count_after ≡ count + side.report.faults → Appends output.held output.held_after side.lines.text.items
      → HeardPart t by_style now s after output stream bytes count count_after
  taken_over after count count_after failing_fits cuts_fit after_is count_is written = record {
    told = begun t (0 ∷ bytes);
    as_told = as_told;
    moved = goes_behind s (begun t (0 ∷ bytes)) failing_fits cuts_fit last side.reporter.last side.reporter.failing side.reporter.cuts after last_is said.1 said.2 said.3 after_is;
    written = subst (Appends output.held output.held_after) (lines_are s (begun t (0 ∷ bytes)) failing_fits cuts_fit last side.lines.text.items last_is said.0) written;
    counted = omega (arith, count_is, said.4);
  }

  -- a front of their lines is written
  pub partly_taken : s.failing ≤ last_count → s.cuts ≤ last_count → Front output.held output.held_after side.lines.text.items → HeardSome t by_style s output stream bytes
  partly_taken failing_fits cuts_fit front_ =
      front_written t by_style stream now s output bytes (begun t (0 ∷ bytes)) as_told.tells_all
      (subst (Front output.held output.held_after) (lines_are s (begun t (0 ∷ bytes)) failing_fits cuts_fit last side.lines.text.items last_is said.0) front_)

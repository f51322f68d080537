-- A line that is written into a buffer is what the message tells.
use Rattle.std.proofs.Common.{◌≡◌, ◌≤◌, ℕ, List, Option, Some, None, IfSome, length, take, sym, ap, subst, ◌∙◌, arith}
use Rattle.std.specs.Str.{IsUtf8}
use Rattle.defmt_eager.specs.Answers.{PutsParted}
use Rattle.defmt_eager.specs.Line.{eager_line}
use Rattle.defmt_eager.specs.declared.front.Front.{Front}
use Rattle.defmt_framing.specs.Notices.{HasText, told_by}
use Rattle.defmt_framing.specs.declared.notice.Notice.TheVariants as notices
use Rattle.defmt_intern.specs.Catalog.{Catalog}
use Rattle.defmt_intern.specs.Table.{Map}
use Rattle.defmt_values.specs.Plain.{Vals}
use Rattle.defmt_plan.specs.Told.{IsTold, Tells}
use Rattle.defmt_plan.specs.declared.message.Origin.{Origin}
use Rattle.defmt_plan.specs.declared.message.Parts.{Parts}
use Rattle.defmt_decode.proofs.Deciding.{heard_read, heard_narrow}
use Rattle.defmt_decode.specs.Event.{IsNotice, line_with, of_heard, of_read, read_of}
use Rattle.defmt_decode.specs.declared.event.Event.{Event}
use Rattle.defmt_decode.specs.declared.event.Event.TheVariants.{Line}

-- a line that stands at the front and is UTF-8
line_there : (origin : Origin) (line new : List ℕ) (end : ℕ) (event : Event) → end ≤ length new → take end new ≡ line → IsUtf8 line → line_with origin line ≡ event → IsNotice new event (notices.Line origin end)
line_there origin line new end event le text utf8 is = record {
  told = ap (λ (x : List ℕ). Some (line_with origin x)) text ∙ ap (λ (e : Event). Some e) is;
  text = le;
  utf8 = subst (λ (x : List ℕ). IsUtf8 x) (sym text) utf8;
}

-- by a plan
pub plan_notice : (t : Catalog) (bytes : List ℕ) (size : ℕ) (origin : Origin) (old new : List ℕ) (end : ℕ) → IsTold t bytes size origin old 0 new end → IsNotice new (of_read t size (read_of t bytes)) (notices.Line origin end)
plan_notice t bytes size origin old new end h =
    let line : List ℕ = eager_line t.entries h.stamp origin.index h.args in
    line_there origin line new end (of_read t size (read_of t bytes)) (omega (arith, h.written.within, h.written.long)) h.written.written h.written.utf8
    (ap (λ (parts : Parts). Line origin.index origin.place parts line) h.parts
    ∙ sym (heard_read t bytes size origin.place h.stamp origin.index h.args h.heard ∙ heard_narrow t size origin.place h.stamp origin.index h.args h.narrow))

-- by the walk over what is heard
pub put_notice : (t : Catalog) (size : ℕ) (place : Option ℕ) (stamp : Vals) (index : ℕ) (vs : Vals) (old new : List ℕ) (front : Front) (end : ℕ) → PutsParted (Some (front, end)) t.entries stamp index vs old 0 new
    → IsNotice new (of_heard t size place stamp index vs) (notices.Line (record { index = index; place = place; parts = record { bytes = size; stamp = front.stamp; front = front.size } }) end)
put_notice t size place stamp index vs old new front end h =
    let w = h.1.placed.written in
    let line : List ℕ = eager_line t.entries stamp index vs in
    line_there _ line new end (of_heard t size place stamp index vs) (omega (arith, w.within, w.long)) w.written h.1.placed.utf8
    (ap (λ (f : Front). Line index place (record { bytes = size; stamp = f.stamp; front = f.size }) line) h.0 ∙ sym (heard_narrow t size place stamp index vs h.1.narrow))

-- where the stamp is the number that is written
pub put_is : (r : Option (Front × ℕ)) (t : Map) (stamp other : Vals) (index : ℕ) (vs : Vals) (old new : List ℕ) → stamp ≡ other → PutsParted r t other index vs old 0 new
    → IfSome r (λ told. PutsParted (Some told) t stamp index vs old 0 new)
put_is None t stamp other index vs old new same h = tt
put_is (Some told) t stamp other index vs old new same h = subst (λ (s : Vals). PutsParted (Some told) t s index vs old 0 new) (sym same) h

-- by a plan, where there is one
pub plan_line : (r : Option (Origin × ℕ)) (t : Catalog) (bytes : List ℕ) (size : ℕ) (old new : List ℕ) → Tells r t bytes size old 0 new → IfSome r (λ line. IsNotice new (of_read t size (read_of t bytes)) (notices.Line line.0 line.1))
plan_line None t bytes size old new h = tt
plan_line (Some line) t bytes size old new h = plan_notice t bytes size line.0 old new line.1 h

use Rattle.std.proofs.Common.{◌≡◌, ◌+◌, ℕ, List, take, drop, Option, Some, Result, Ok, Err, IfOk, sym, ◌∙◌, ap, subst, arith}
use Rattle.defmt_framing.specs.Cut.{has_zero}
use Rattle.defmt_framing.specs.Framing.{Framing, Stands, Hears}
use Rattle.defmt_framing.specs.Notices.{told_by}
use Rattle.defmt_framing.specs.Told.{Tells}
use Rattle.defmt_framing.specs.declared.notice.Notice.{Notice}
use Rattle.defmt_plan.specs.declared.message.Origin.{Origin}
use Rattle.defmt_decode.specs.Event.{IsNotice, line_with, tells}
use Rattle.defmt_decode.specs.Hearing.{Hearing}
use Rattle.defmt_decode.specs.declared.event.Event.{Event}
use Rattle.defmt_decode.proofs.Behind.{cut_piece}
use Rattle.defmt_decode.proofs.host.Host.hear_any.Goals as goal

pub returns-in_default-clause-text : goal.returns-in_default-clause-text
returns-in_default-clause-text c = c.notice_of.ensures.text (drop c.args.at c.args.text.now.items)

pub returns-in_default-clause-utf8 : goal.returns-in_default-clause-utf8
returns-in_default-clause-utf8 c = c.notice_of.ensures.utf8 (drop c.args.at c.args.text.now.items)

pub hear-requires-clause-none : goal.hear-requires-clause-none
hear-requires-clause-none c = ap has_zero (cut_piece c.args.bytes.now c.in-Some.start c.in-Some.size) ∙ c.in-Some.ensures.none

-- what is said of the notice and of the bytes that were taken, where there are some
module _ {E : Type 0} (start size : ℕ) (bytes buffer piece : List ℕ) (same : piece ≡ take size (drop start bytes)) where
  hears_by : (r : Result (ℕ × Notice Event Origin) E) (h : Hearing) (new : Framing) → IfOk r (λ x. x.0 ≡ start + size + 1) → IfOk r (λ x. IsNotice buffer ((tells h.table).piece piece) x.1)
      → IfOk r (λ x. (t : Tells Event) (stream : List ℕ) → Stands h.framing stream → Hears t new stream (take (start + size + 1) bytes) (Some (t.piece (take size (drop start bytes)))))
      → IfOk r (λ x. (stream : List ℕ) → Stands h.framing stream → Hears (tells h.table) new stream (take x.0 bytes) (told_by line_with buffer x.1))
  hears_by (Ok x) h new taken notice passed = λ stream st.
      let t : Tells Event = tells h.table in
      let told : told_by line_with buffer x.1 ≡ Some (t.piece (take size (drop start bytes))) = notice.told ∙ ap (λ (p : List ℕ). Some (t.piece p)) same in
      subst (λ (o : Option Event). Hears t new stream (take x.0 bytes) o) (sym told)
      (subst (λ (n : ℕ). Hears t new stream (take n bytes) (Some (t.piece (take size (drop start bytes))))) (sym taken) (passed t stream st))
  hears_by (Err e) h new taken notice passed = tt

ok_map : {A E : Type 0} (P Q : A → Type 0) (r : Result A E) → ((x : A) → P x → Q x) → IfOk r P → IfOk r Q
ok_map P Q (Ok x) f p = f x p
ok_map P Q (Err e) f p = tt

pub returns-clause-hears : goal.returns-clause-hears
returns-clause-hears c =
    subst (λ (h : Hearing). IfOk c.hear.result (λ x. (stream : List ℕ) → Stands h.framing stream → Hears (tells h.table) c.hear.new.framer stream (take x.0 c.args.bytes.now) (told_by line_with (drop c.args.at c.hear.new.text.items) x.1))) c.self.view_is
    (hears_by c.in-Some.start c.in-Some.size c.args.bytes.now (drop c.args.at c.hear.new.text.items) _ (cut_piece c.args.bytes.now c.in-Some.start c.in-Some.size) c.hear.result (record { table = c.self.inside.reader; framing = c.self.inside.framer }) c.hear.new.framer c.hear.ensures.taken c.hear.ensures.notice c.hear.ensures.passed)

pub returns-clause-within : goal.returns-clause-within
returns-clause-within c = ok_map _ _ c.hear.result (λ x e. omega (arith, e, c.in-Some.ensures.within)) c.hear.ensures.taken

pub returns-clause-some : goal.returns-clause-some
returns-clause-some c = ok_map _ _ c.hear.result (λ x e lt. omega (arith, e)) c.hear.ensures.taken

pub returns-clause-text : goal.returns-clause-text
returns-clause-text c = ok_map _ _ c.hear.result (λ x n. n.text) c.hear.ensures.notice

pub returns-clause-utf8 : goal.returns-clause-utf8
returns-clause-utf8 c = ok_map _ _ c.hear.result (λ x n. n.utf8) c.hear.ensures.notice

pub returns-clause-all : goal.returns-clause-all
returns-clause-all c = ok_map _ _ c.hear.result (λ x n e. absurd (cc (sym n.told ∙ e))) c.hear.ensures.notice

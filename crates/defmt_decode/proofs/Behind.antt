-- A part of a buffer that is written, and what stands in front of it and behind.
use Rattle.std.proofs.Common.{◌≡◌, ◌≤◌, ◌+◌, ◌-◌, ℕ, List, ◌++◌, length, length-append, take, drop, Option, Some, None, Result, Ok, Err, refl, sym, ap, subst, ◌∙◌, arith, IfOk, IfSome}
use Rattle.std.proofs.lemmas.List.{length-take, take-append-le}
use Rattle.std.specs.Str.{IsUtf8}
use lib.Seq.{drop_at, take_at, length-take-le}
use borrow.Rule.Slice.PartMut.{put_mid, post_of}
use Rattle.defmt_framing.specs.Notices.{HasText, told_by}
use Rattle.defmt_framing.specs.declared.notice.Notice.{Notice}
use Rattle.defmt_framing.specs.declared.notice.Notice.TheVariants as notices
use Rattle.defmt_decode.specs.Event.{IsNotice, IsPrinted, line_with}
use Rattle.defmt_decode.specs.declared.event.Event.{Event}
use Rattle.defmt_plan.specs.declared.message.Origin.{Origin}

-- ---- a buffer that goes on behind another

told_on : (buffer more : List ℕ) (notice : Notice Event Origin) → HasText buffer notice → told_by line_with (buffer ++ more) notice ≡ told_by line_with buffer notice
told_on buffer more notices.Nothing has = refl
told_on buffer more (notices.Event event) has = refl
told_on buffer more (notices.Line origin size) has = ap (λ (text : List ℕ). Some (line_with origin text)) (take-append-le size buffer more has)

text_on : (buffer more : List ℕ) (notice : Notice Event Origin) → HasText buffer notice → HasText (buffer ++ more) notice
text_on buffer more notices.Nothing has = tt
text_on buffer more (notices.Event event) has = tt
text_on buffer more (notices.Line origin size) has = omega (arith, has, length-append buffer more)

utf8_on : (buffer more : List ℕ) (notice : Notice Event Origin) → HasText buffer notice → IsPrinted buffer notice → IsPrinted (buffer ++ more) notice
utf8_on buffer more notices.Nothing has utf8 = tt
utf8_on buffer more (notices.Event event) has utf8 = tt
utf8_on buffer more (notices.Line origin size) has utf8 = subst (λ (text : List ℕ). IsUtf8 text) (sym (take-append-le size buffer more has)) utf8

notice_on : (buffer more : List ℕ) (event : Event) (notice : Notice Event Origin) → IsNotice buffer event notice → IsNotice (buffer ++ more) event notice
notice_on buffer more event notice h = record {
  told = told_on buffer more notice h.text ∙ h.told;
  text = text_on buffer more notice h.text;
  utf8 = utf8_on buffer more notice h.text h.utf8;
}

-- ---- a part that is written

module _ (xs mid : List ℕ) (at count : ℕ) (le : at ≤ length xs) where
  behind_put : drop at (put_mid at count xs mid) ≡ mid ++ post_of at count xs
  behind_put = drop_at (take at xs) (mid ++ post_of at count xs) at (length-take-le at xs le)

  pub front_put : take at (put_mid at count xs mid) ≡ take at xs
  front_put = take_at (take at xs) (mid ++ post_of at count xs) at (length-take-le at xs le)

  notice_there : (event : Event) (notice : Notice Event Origin) → IsNotice mid event notice → IsNotice (drop at (put_mid at count xs mid)) event notice
  notice_there event notice h = subst (λ (buffer : List ℕ). IsNotice buffer event notice) (sym behind_put) (notice_on mid (post_of at count xs) event notice h)

  pub notice_put : {E : Type 0} (r : Result (Notice Event Origin) E) (event : Event) → IfOk r (λ notice. IsNotice mid event notice) → IfOk r (λ notice. IsNotice (drop at (put_mid at count xs mid)) event notice)
  notice_put (Ok notice) event h = notice_there event notice h
  notice_put (Err e) event h = tt

  pub line_put : (r : Option (Origin × ℕ)) (event : Event) → IfSome r (λ line. IsNotice mid event (notices.Line line.0 line.1)) → IfSome r (λ line. IsNotice (drop at (put_mid at count xs mid)) event (notices.Line line.0 line.1))
  line_put None event h = tt
  line_put (Some line) event h = notice_there event (notices.Line line.0 line.1) h

-- a piece, as it is cut out of bytes
pub cut_piece : (bytes : List ℕ) (start size : ℕ) → take (start + size - start) (drop start bytes) ≡ take size (drop start bytes)
cut_piece bytes start size = ap (λ (n : ℕ). take n (drop start bytes)) (let e : start + size - start ≡ size = omega arith in e)

-- a buffer that keeps its front is as long as that
pub long_kept : (old new : List ℕ) (at : ℕ) → at ≤ length old → take at new ≡ take at old → at ≤ length new
long_kept old new at le e = omega (arith, le, ap length e, length-take at new, length-take at old)

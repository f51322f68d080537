use Rattle.std.proofs.Common.{Some, sym, ap}
use Rattle.defmt_decode.proofs.Deciding.{heard_read, met_read}
use Rattle.defmt_decode.specs.declared.event.Event.{Event}
use Rattle.defmt_decode.proofs.notices.notice_of_any.Goals as goal

pub returns-in-Err-Bad : goal.returns-in-Err-Bad
returns-in-Err-Bad c = record {
  told = ap (λ (e : Event). Some e)
      (rw c.in-Err-Bad.cause-is
      (sym (met_read c.args.table.now c.args.bytes.now c.args.size c.in-Err-Bad.cause (rw c.in-Err-Bad.field-0-is at c.in-Err-Bad.ensures.answer))));
  text = tt;
  utf8 = tt;
}

pub returns-in-Ok : goal.returns-in-Ok
returns-in-Ok c = rw (heard_read c.args.table.now c.args.bytes.now c.args.size _ _ _ _ c.in-Ok.ensures.answer) c.notice_of_heard.ensures

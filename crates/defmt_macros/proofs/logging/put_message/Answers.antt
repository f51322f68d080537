use Rattle.std.proofs.Common.{rules, ◌≤◌, ℕ, sym, subst, ◌∙◌}
use Rattle.defmt_encode.specs.Carry.{bytes_vals}
use Rattle.defmt_macros.proofs.Messages.{all_fit, behind_all, whole_length, whole_message}
use Rattle.defmt_macros.proofs.logging.put_message.Goals as goal

pub put_all-requires-clause-fits : goal.put_all-requires-clause-fits
put_all-requires-clause-fits c = all_fit c.args.table.now.entries c.args.site.now c.args.place c.args.stamp c.args.args.now c.begin-frame.result.left.now c.begin-frame.ensures.slots c.requires.fits

pub put_all-requires-clause-room : goal.put_all-requires-clause-room
put_all-requires-clause-room c = subst (λ (n : ℕ). n ≤ 2000) (sym (whole_length c.args.table.now.entries c.args.site.now c.args.place c.args.stamp c.args.args.now c.begin-frame.result.left.now c.begin-frame.ensures.slots c.begin-frame.result.at c.begin-frame.ensures.count)) c.requires.short

pub returns-clause-count : goal.returns-clause-count
returns-clause-count c = c.end.ensures.count ∙ c.put_all.ensures.grows.count_is ∙ whole_length c.args.table.now.entries c.args.site.now c.args.place c.args.stamp c.args.args.now c.begin-frame.result.left.now c.begin-frame.ensures.slots c.begin-frame.result.at c.begin-frame.ensures.count

pub returns-clause-message : goal.returns-clause-message
returns-clause-message c = let e = whole_message c.args.table.now.entries c.args.site.now c.args.place c.args.stamp c.args.args.now c.begin-frame.result.left.now c.begin-frame.ensures.slots c.begin-frame.result c.put_all.new.self c.end.result c.end.new.self.0 c.begin-frame.ensures.bytes c.put_all.ensures.grows c.end.ensures.count c.end.ensures.buffer in search rules

pub returns-clause-behind : goal.returns-clause-behind
returns-clause-behind c = let e = behind_all c.begin-frame.result c.put_all.new.self (bytes_vals c.args.table.now.entries c.begin-frame.result.left.now c.args.args.now) c.args.buf.now c.end.result c.end.new.self.0 c.begin-frame.ensures.behind c.put_all.ensures.grows c.end.ensures.count c.end.ensures.buffer in search rules

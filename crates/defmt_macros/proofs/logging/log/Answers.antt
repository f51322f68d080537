use Rattle.std.proofs.Common.{◌≤◌, ℕ, List, length, sym, ap, subst, ◌∙◌}
use Rattle.defmt_macros.proofs.Messages.{fitting, parts}
use Rattle.defmt_macros.proofs.logging.log.Goals as goal

pub put_message-requires-clause-fits : goal.put_message-requires-clause-fits
put_message-requires-clause-fits c = fitting c.args.table.now.entries c.args.site.now.index c.args.site.now.tag c.args.site.now.slots c.args.args.now c.requires.fits c.requires.site

pub put_message-requires-clause-short : goal.put_message-requires-clause-short
put_message-requires-clause-short c = subst (λ (b : List ℕ). length b ≤ 2000) (parts c.args.table.now.entries c.args.site.now.index c.args.site.now.tag c.args.site.now.slots c.args.place c.args.stamp c.args.args.now c.requires.site c.requires.stamp) c.requires.short

pub returns-clause-count : goal.returns-clause-count
returns-clause-count c = c.put_message.ensures.count ∙ ap length (sym (parts c.args.table.now.entries c.args.site.now.index c.args.site.now.tag c.args.site.now.slots c.args.place c.args.stamp c.args.args.now c.requires.site c.requires.stamp))

pub returns-clause-message : goal.returns-clause-message
returns-clause-message c = c.put_message.ensures.message ∙ sym (parts c.args.table.now.entries c.args.site.now.index c.args.site.now.tag c.args.site.now.slots c.args.place c.args.stamp c.args.args.now c.requires.site c.requires.stamp)

use Rattle.std.proofs.Common.{◌∙◌, ap, Option}
use Rattle.ub_base.specs.declared.names.Frame.{Frame}
use Rattle.ub_base.specs.declared.names.Item.{Item}
use Rattle.evaluation_log.specs.Remembered.{has_entry}
use Rattle.evaluation_log.proofs.known.Known.has.Goals as goal

pub returns : goal.returns
returns c = c.is_entry.ensures ∙ ap (λ (o : Option (Frame × Item)). has_entry o c.args.frame c.args.item) c.entry_at.ensures

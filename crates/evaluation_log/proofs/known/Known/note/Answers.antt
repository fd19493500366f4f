use Rattle.std.proofs.Common.{sym, ◌∙◌}
use Rattle.evaluation_log.proofs.RememberedLemmas.{entry_is, not_false, renewed}
use Rattle.evaluation_log.proofs.known.Known.note.Goals as goal

pub returns-clause-known : goal.returns-clause-known
returns-clause-known c = λ h.
    (c.in-Some.ensures, (c.in-Some.slot, entry_is _ c.args.frame c.args.item (sym c.has-known.ensures ∙ not_false c.has-known.result h)))

pub returns-clause-noted : goal.returns-clause-noted
returns-clause-noted c = renewed c.args.self.now c.renew.new.self c.in-Some.slot c.args.frame c.args.item c.renew.ensures

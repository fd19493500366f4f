use Rattle.std.proofs.Common.{sym, ◌∙◌}
use Rattle.std.proofs.lemmas.Result.{on_ok_weaker}
use Rattle.evaluation_log.proofs.KeepLemmas.{added}
use Rattle.evaluation_log.proofs.RememberedLemmas.{added_all}
use Rattle.evaluation_log.proofs.level.Level.take.Goals as goal

pub returns-clause-kept : goal.returns-clause-kept
returns-clause-kept c =
    on_ok_weaker c.add.result
    (λ is. (added c.args.self.now.foot c.add.new.self c.args.item is, added_all c.args.self.now.foot c.add.new.self c.args.item is)) c.add.ensures.added

pub returns-clause-only : goal.returns-clause-only
returns-clause-only c = on_ok_weaker c.add.result (λ is i h. sym (is i) ∙ h) c.add.ensures.added

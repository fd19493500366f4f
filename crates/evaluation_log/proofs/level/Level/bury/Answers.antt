use Rattle.std.proofs.Common.{sym, ◌∙◌}
use Rattle.ub_base.proofs.Tests.{and_left}
use Rattle.ub_base.specs.declared.names.Item.TheVariants.{Dies}
use Rattle.evaluation_log.proofs.KeepLemmas.{after, added, died, forgotten}
use Rattle.evaluation_log.proofs.level.Level.bury.Goals as goal

pub returns-then-has_born-clause-keeps : goal.returns-then-has_born-clause-keeps
returns-then-has_born-clause-keeps c =
    after c.args.self.now.foot c.add.new.self c.forget.new.self
    (added c.args.self.now.foot c.add.new.self (Dies c.args.object) c.in_ok-add.ensures.added)
    (forgotten c.add.new.self c.forget.new.self c.args.object c.forget.ensures (sym c.has_born.ensures ∙ c.if-has_born.true)
    (died c.args.self.now.foot c.add.new.self c.args.object c.in_ok-add.ensures.added))

pub returns-then-has_born-clause-only : goal.returns-then-has_born-clause-only
returns-then-has_born-clause-only c = λ i h. sym (c.in_ok-add.ensures.added i) ∙ and_left _ _ (sym (c.forget.ensures i) ∙ h)

pub returns-else-has_born-clause-only : goal.returns-else-has_born-clause-only
returns-else-has_born-clause-only c = λ i h. sym (c.in_ok-add.ensures.added i) ∙ h

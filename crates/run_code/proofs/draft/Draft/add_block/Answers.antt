use Rattle.run_code.proofs.Blocked.{block_added}
use Rattle.run_code.proofs.FittingLemmas.{always}
use Rattle.run_code.proofs.draft.Draft.add_block.Goals as goal

pub returns-clause-fit : goal.returns-clause-fit
returns-clause-fit c = λ p h. always c.add_block.result _ (c.add_block.ensures.fit p (c.in_ok-objects.ensures.fit p h))

pub returns-clause-block : goal.returns-clause-block
returns-clause-block c = λ row is.
    let told = c.in_ok-objects.ensures in
    block_added c.add_block.result c.args.tags.now c.args.arguments row _ c.args.self.now.expressions.tables c.objects_of.new.self.expressions.tables
    c.add_block.new.self.tables c.in_ok-objects.objects c.in_ok-objects.created c.objects_of.new.self.function c.args.self.now.function
    (record { objects = record { first = c.push.new.self }; count = c.in_ok-self.field-0 }) told.function is told.added told.blocks
    c.add_block.ensures.grown (c.in_ok-self.ensures.sum) (c.in_ok-self.ensures.few) c.in_ok-push.ensures.items c.add_block.ensures.added c.add_block.ensures.few

use Rattle.libc_arguments.proofs.Living.{alive_on}
use Rattle.libc_arguments.proofs.bytes.settle_each.Goals as goal

pub loop-item-preserved : goal.loop-item-preserved
loop-item-preserved c = alive_on c.args.m.now c.loop-item.m c.take_effect.new.m c.args.items.now c.loop-item.item-index _ c.loop-item-test.true
    c.loop-item.invariant c.take_effect.ensures.settled c.take_effect.ensures.lives c.take_effect.ensures.tagged c.take_effect.ensures.keeps

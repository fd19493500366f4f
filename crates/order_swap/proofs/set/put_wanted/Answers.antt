use Rattle.c_typed.specs.Tree.{tree_of}
use Rattle.seq_order.specs.Marked.{taken_in}
use Rattle.order_swap.proofs.Lists.{with_kept}
use Rattle.order_swap.proofs.set.put_wanted.Goals as goal

pub returns : goal.returns
returns c = λ small.
    with_kept (taken_in c.args.taken.now) (tree_of c.args.root.now) c.args.pair c.args.wanted.now.items c.put_first.new.wanted.items
    c.put_kept.new.wanted.items c.args.places.now (c.in_ok-put_first.ensures small) (c.in_ok-put_kept.ensures small)

use Rattle.std.proofs.Common.{◌++◌, arith, refl}
use Rattle.c_typed.specs.Tree.{tree_of}
use Rattle.seq_order.specs.Marked.{taken_in}
use Rattle.order_swap.specs.Sets.{put_of}
use Rattle.order_swap.proofs.Lists.{next_put, all_put}
use Rattle.order_swap.proofs.set.put_first.Goals as goal

pub loop-place-preserved : goal.loop-place-preserved
loop-place-preserved c = λ small.
    let taken = taken_in c.args.taken.now in
    let root = tree_of c.args.root.now in
    next_put taken root c.args.pair c.loop-place.wanted.items c.put_one.new.wanted.items
    (c.args.wanted.now.items ++ put_of taken root c.args.pair c.args.places.now) c.args.places.now c.loop-place.place-index _ _
    (omega arith) refl (c.loop-place.invariant small) (c.in_ok-put_one.ensures small)

pub returns : goal.returns
returns c = λ small.
    let taken = taken_in c.args.taken.now in
    let root = tree_of c.args.root.now in
    all_put taken root c.args.pair c.loop-place.wanted.items
    (c.args.wanted.now.items ++ put_of taken root c.args.pair c.args.places.now) c.args.places.now c.loop-place.place-index
    (omega arith) (c.loop-place.invariant small)

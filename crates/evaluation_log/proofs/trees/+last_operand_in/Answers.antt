use Rattle.std.proofs.Common.{◌∙◌, sym, ap, arith}
use Rattle.c_typed.specs.Tree.{tree_of}
use Rattle.evaluation_log.specs.Sides.{last_if}
use Rattle.evaluation_log.proofs.WayLemmas.{below_room, child_of}
use Rattle.evaluation_log.proofs.SideLemmas.{last_here, last_lost, last_found, last_below}
use Rattle.evaluation_log.proofs.trees.+last_operand_in.Goals as goal

pub returns-then-k-node : goal.returns-then-k-node
returns-then-k-node t c = λ h. sym (last_here c.args.k (tree_of c.args.tree.now) c.args.node (omega (arith, c.if-k-node.true)))

pub returns-in_default : goal.returns-in_default
returns-in_default t c = λ h.
    sym (last_lost c.args.k (tree_of c.args.tree.now) c.args.node (omega (arith, c.if-k-node.false)) h (sym c.in_default.ensures.value))

pub returns-then-spot-node : goal.returns-then-spot-node
returns-then-spot-node t c = λ h.
    c.if_none.ensures ∙ (ap (last_if c.args.k) c.first_behind.ensures
    ∙ sym (last_found c.args.k (tree_of c.args.tree.now) c.args.node c.in-Some.spot (omega (arith, c.if-k-node.false)) h (sym c.in-Some.ensures.value)
    c.if-spot-node.true))

pub returns : goal.returns
returns t c = λ h.
    let a = c.in-Some.spot in
    let s = sym c.in-Some.ensures.value in
    let x = tree_of c.index-as_slice-spot.result in
    let e = child_of c.args.tree.now c.index-as_slice-spot.result c.as_slice.result.now a.index
    c.in-Some.ensures.within c.as_slice.ensures c.index-as_slice-spot.is in
    let room = below_room c.args.k (tree_of c.args.tree.now) x c.args.node a h s e in
    c.last_operand_in.ensures room
    ∙ sym (last_below c.args.k (tree_of c.args.tree.now) x c.args.node a (omega (arith, c.if-k-node.false)) h s e c.if-spot-node.false)

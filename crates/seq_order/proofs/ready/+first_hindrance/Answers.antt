use Rattle.std.proofs.Common.{sym, ◌∙◌}
use Rattle.c_typed.specs.Tree.{tree_of}
use Rattle.seq_order.specs.Marked.{taken_in, done_in}
use Rattle.seq_order.specs.Walks.{hinders}
use Rattle.seq_order.proofs.Walks.{advance_at, halt_at, finish_some_at, finish_none_at}
use Rattle.seq_order.proofs.ready.+first_hindrance.Goals as goal

pub loop-i-preserved : goal.loop-i-preserved
loop-i-preserved t c = λ p h.
    advance_at (hinders (tree_of c.args.root.now) (taken_in c.args.taken.now) (done_in c.args.done.now) c.args.p) (taken_in c.args.taken.now) c.args.k
    (tree_of c.args.tree.now)
    c.as_slice-operand-items.result.now c.loop-i.i c.loop-i.number c.class_of-class.result h (c.loop-i.invariant p h) c.class_of-class.ensures
    c.operand-item.result c.chosen-choice.result c.chosen-choice.ensures c.loop-i-test.true c.operand-item.is c.first_hindrance.result
    c.goes.result c.goes.ensures (λ r. c.first_hindrance.ensures p r)
    c.in-Ok.next c.in-Ok.is

pub returns-in-Err : goal.returns-in-Err
returns-in-Err t c = λ p h.
    halt_at (hinders (tree_of c.args.root.now) (taken_in c.args.taken.now) (done_in c.args.done.now) c.args.p) (taken_in c.args.taken.now) c.args.k
    (tree_of c.args.tree.now)
    c.as_slice-operand-items.result.now c.loop-i.i c.loop-i.number c.class_of-class.result h (c.loop-i.invariant p h) c.class_of-class.ensures
    c.operand-item.result c.chosen-choice.result c.chosen-choice.ensures c.loop-i-test.true c.operand-item.is c.first_hindrance.result
    c.goes.result c.goes.ensures (λ r. c.first_hindrance.ensures p r)
    c.args.evaluated c.in-Err.event c.if-not-evaluated.false c.in-Err.is

pub returns-in-Some : goal.returns-in-Some
returns-in-Some t c = λ p h.
    finish_some_at (hinders (tree_of c.args.root.now) (taken_in c.args.taken.now) (done_in c.args.done.now) c.args.p) (taken_in c.args.taken.now) c.args.k
    (tree_of c.args.tree.now)
    c.as_slice-operand-items.result.now c.loop-i.i c.loop-i.number c.class_of-class.result h (c.loop-i.invariant p h) c.class_of-class.ensures
    c.args.evaluated c.in-Some.event c.if-not-evaluated.false c.loop-i-test.false (sym c.in-Some.is ∙ c.own_hindrance.ensures p)

pub returns-in-None : goal.returns-in-None
returns-in-None t c = λ p h.
    finish_none_at (hinders (tree_of c.args.root.now) (taken_in c.args.taken.now) (done_in c.args.done.now) c.args.p) (taken_in c.args.taken.now) c.args.k
    (tree_of c.args.tree.now)
    c.as_slice-operand-items.result.now c.loop-i.i c.loop-i.number c.class_of-class.result h (c.loop-i.invariant p h) c.class_of-class.ensures
    c.args.evaluated c.if-not-evaluated.false c.loop-i-test.false (sym c.in-None.is ∙ c.own_hindrance.ensures p)

use Rattle.std.proofs.Common.{◌≡◌, Some, sym, ap, ◌∙◌}
use Rattle.c_typed.specs.Tree.{tree_of, operands, class_of}
use Rattle.c_typed.specs.Order.{goes}
use Rattle.seq_order.specs.Marked.{taken_in}
use Rattle.seq_order.proofs.Located.{nth}
use Rattle.seq_order.proofs.Descend.{below_room, below_due, no_due}
use Rattle.seq_order.proofs.Children.{child_of, child_there}
use Rattle.seq_order.proofs.Halves.{both, first_fails}
use Rattle.seq_order.proofs.ready.+is_due.Goals as goal

pub returns-in_default : goal.returns-in_default
returns-in_default t c = λ h. sym (no_due c.args.k (taken_in c.args.taken.now) (tree_of c.args.tree.now) c.args.p h c.if-p-k.false
    (sym c.in_default.ensures.value))

pub returns-then-goes : goal.returns-then-goes
returns-then-goes t c = λ h.
    let a = c.in-Some.a in
    let e : nth (operands (tree_of c.args.tree.now)) a.index ≡ Some (tree_of c.index-as_slice-a.result) =
    child_of c.args.tree.now c.index-as_slice-a.result c.as_slice.result.now a.index c.in-Some.ensures.within c.as_slice.ensures c.index-as_slice-a.is in
    let s = sym c.in-Some.ensures.value in
    let g = c.goes.ensures ∙ (ap (λ z. goes z c.chosen.result a.index) c.class_of-2.ensures ∙ ap (λ z. goes (class_of (tree_of c.args.tree.now)) z a.index)
    c.chosen.ensures) in
    both _ _ _ (sym g ∙ c.if-goes.true) (c.is_due.ensures
    (below_room c.args.k (tree_of c.args.tree.now) (tree_of c.index-as_slice-a.result) c.args.p.node a h s e))
    ∙ sym (below_due c.args.k (taken_in c.args.taken.now) (tree_of c.args.tree.now) (tree_of c.index-as_slice-a.result) c.args.p a h c.if-p-k.false s e)

pub returns-else-goes : goal.returns-else-goes
returns-else-goes t c = λ h.
    let a = c.in-Some.a in
    let e = child_there c.args.tree.now a.index c.in-Some.ensures.within in
    let s = sym c.in-Some.ensures.value in
    let g = c.goes.ensures ∙ (ap (λ z. goes z c.chosen.result a.index) c.class_of-2.ensures ∙ ap (λ z. goes (class_of (tree_of c.args.tree.now)) z a.index)
    c.chosen.ensures) in
    first_fails _ _ _ (sym g ∙ c.if-goes.false) c.if-goes.false
    ∙ sym (below_due c.args.k (taken_in c.args.taken.now) (tree_of c.args.tree.now) e.0 c.args.p a h c.if-p-k.false s e.1)
